-- The valences that are listed for atoms of a table: none for a charge beyond one, and none is above the limit.
use Rattle.std.proofs.Common.{arith, ◌≡◌, ℕ, zero, suc, ◌<◌, List, [], ◌∷◌, false, refl}
use Rattle.std.specs.Prelude.{nat_le, ℤ, pos, negsuc, ◌≤ℤ◌}
use Rattle.std.proofs.lemmas.Bool.Decides.{nat_tests}
use Rattle.mc_elements.specs.declared.element.Element.{Element}
use Rattle.mc_elements.specs.declared.element.Element.TheVariants.{B, C, N, O, F, Si, P, S, Cl, Ge, As, Se, Br, I}
use Rattle.mc_elements.specs.Valences.{ct_valences, by_charge, implied}

by_high : (e : Element) (n : ℕ) → ct_valences e (pos (suc (suc n))) ≡ []
by_high B n = refl
by_high C n = refl
by_high N n = refl
by_high O n = refl
by_high F n = refl
by_high Si n = refl
by_high P n = refl
by_high S n = refl
by_high Cl n = refl
by_high Ge n = refl
by_high As n = refl
by_high Se n = refl
by_high Br n = refl
by_high I n = refl
by_high _ n = refl

by_low : (e : Element) (n : ℕ) → ct_valences e (negsuc (suc n)) ≡ []
by_low B n = refl
by_low C n = refl
by_low N n = refl
by_low O n = refl
by_low F n = refl
by_low Si n = refl
by_low P n = refl
by_low S n = refl
by_low Cl n = refl
by_low Ge n = refl
by_low As n = refl
by_low Se n = refl
by_low Br n = refl
by_low I n = refl
by_low _ n = refl

-- a charge that isn't from -1 to 1
pub above_one : (e : Element) (charge : ℤ) → (charge ≤ℤ pos 1 → ⊥) → ct_valences e charge ≡ []
above_one e (pos zero) more = absurd (more (omega arith))
above_one e (pos (suc zero)) more = absurd (more (omega arith))
above_one e (pos (suc (suc n))) more = by_high e n
above_one e (negsuc n) more = absurd (more (omega arith))

pub below_one : (e : Element) (charge : ℤ) → (negsuc 0 ≤ℤ charge → ⊥) → ct_valences e charge ≡ []
below_one e (pos n) less = absurd (less (omega arith))
below_one e (negsuc zero) less = absurd (less (omega arith))
below_one e (negsuc (suc n)) less = by_low e n

low : (v sum : ℕ) → v < sum → nat_le sum v ≡ false
low v sum less = grind (arith, nat_tests)

-- what holds of each of the three lists holds of the one that is taken
by_each : (charge : ℤ) (neutral cation anion : List ℕ) (sum : ℕ) → implied neutral sum ≡ 0 → implied cation sum ≡ 0 → implied anion sum ≡ 0 → implied (by_charge charge neutral cation anion) sum ≡ 0
by_each (pos zero) neutral cation anion sum a b c = a
by_each (pos (suc zero)) neutral cation anion sum a b c = b
by_each (pos (suc (suc n))) neutral cation anion sum a b c = refl
by_each (negsuc zero) neutral cation anion sum a b c = c
by_each (negsuc (suc n)) neutral cation anion sum a b c = refl

one : (v sum : ℕ) → v < sum → implied (v ∷ []) sum ≡ 0
one v sum less = rw (low v sum less) refl

two : (v w sum : ℕ) → v < sum → w < sum → implied (v ∷ w ∷ []) sum ≡ 0
two v w sum less more = rw (low v sum less) (one w sum more)

three : (u v w sum : ℕ) → u < sum → v < sum → w < sum → implied (u ∷ v ∷ w ∷ []) sum ≡ 0
three u v w sum least less more = rw (low u sum least) (two v w sum less more)

-- an atom whose bonds are above the limit has no implied hydrogens
pub none_above : (e : Element) (charge : ℤ) (sum : ℕ) → 14 < sum → implied (ct_valences e charge) sum ≡ 0
none_above B charge sum more = by_each charge _ _ _ sum (one 3 sum (omega arith)) refl (one 4 sum (omega arith))
none_above C charge sum more = by_each charge _ _ _ sum (one 4 sum (omega arith)) (one 3 sum (omega arith)) (one 3 sum (omega arith))
none_above N charge sum more = by_each charge _ _ _ sum (two 3 5 sum (omega arith) (omega arith)) (one 4 sum (omega arith)) (one 2 sum (omega arith))
none_above P charge sum more = by_each charge _ _ _ sum (two 3 5 sum (omega arith) (omega arith)) (one 4 sum (omega arith)) (one 2 sum (omega arith))
none_above As charge sum more = by_each charge _ _ _ sum (two 3 5 sum (omega arith) (omega arith)) (one 4 sum (omega arith)) (one 2 sum (omega arith))
none_above O charge sum more = by_each charge _ _ _ sum (one 2 sum (omega arith)) (one 3 sum (omega arith)) (one 1 sum (omega arith))
none_above S charge sum more = by_each charge _ _ _ sum (three 2 4 6 sum (omega arith) (omega arith) (omega arith)) (two 3 5 sum (omega arith) (omega arith)) (one 1 sum (omega arith))
none_above Se charge sum more = by_each charge _ _ _ sum (three 2 4 6 sum (omega arith) (omega arith) (omega arith)) (two 3 5 sum (omega arith) (omega arith)) (one 1 sum (omega arith))
none_above F charge sum more = by_each charge _ _ _ sum (one 1 sum (omega arith)) refl refl
none_above Cl charge sum more = by_each charge _ _ _ sum (one 1 sum (omega arith)) refl refl
none_above Br charge sum more = by_each charge _ _ _ sum (one 1 sum (omega arith)) refl refl
none_above I charge sum more = by_each charge _ _ _ sum (one 1 sum (omega arith)) refl refl
none_above Si charge sum more = by_each charge _ _ _ sum (one 4 sum (omega arith)) refl refl
none_above Ge charge sum more = by_each charge _ _ _ sum (one 4 sum (omega arith)) refl refl
none_above _ charge sum more = refl
