-- An atom whose bonds are above the limit has no implied hydrogens.
use Rattle.std.proofs.Common.{arith, ◌≡◌, ℕ, ◌<◌, false, refl}
use Rattle.std.specs.Prelude.{nat_le}
use Rattle.std.proofs.lemmas.Bool.Decides.{nat_tests}
use Rattle.mc_elements.specs.declared.element.Element.{Element}
use Rattle.mc_elements.specs.declared.element.Element.TheVariants.{B, C, N, O, F, P, S, Cl, Br, I}
use Rattle.mc_elements.specs.Valences.{implied, smiles_valences}

low : (v sum : ℕ) → v < sum → nat_le sum v ≡ false
low v sum less = grind (arith, nat_tests)

pub none_above : (e : Element) (sum : ℕ) → 14 < sum → implied (smiles_valences e) sum ≡ 0
none_above B sum more = rw (low 3 sum (omega arith)) refl
none_above C sum more = rw (low 4 sum (omega arith)) refl
none_above N sum more = rw (low 3 sum (omega arith), low 5 sum (omega arith)) refl
none_above O sum more = rw (low 2 sum (omega arith)) refl
none_above P sum more = rw (low 3 sum (omega arith), low 5 sum (omega arith)) refl
none_above S sum more = rw (low 2 sum (omega arith), low 4 sum (omega arith), low 6 sum (omega arith)) refl
none_above F sum more = rw (low 1 sum (omega arith)) refl
none_above Cl sum more = rw (low 1 sum (omega arith)) refl
none_above Br sum more = rw (low 1 sum (omega arith)) refl
none_above I sum more = rw (low 1 sum (omega arith)) refl
none_above _ sum more = refl
