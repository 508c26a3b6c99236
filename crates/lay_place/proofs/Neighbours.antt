-- Bonds and half-edges of an atom.
use Rattle.std.proofs.Common.{◌≡◌, ◌≢◌, ◌∙◌, ℕ, zero, suc, ◌+◌, ◌<◌, ◌≤◌, ◌⊎◌, true, arith, refl, sym, ap, subst, inl, inr, List, [], ◌∷◌, Some, length, get_or, slice_get}
use Rattle.std.proofs.lemmas.Option.{same_Some}
use Rattle.std.proofs.lemmas.Bool.{cases_eq, ne_eqb}
use Rattle.std.proofs.lemmas.Bool.Decides.{nat_tests}
use Rattle.std.proofs.lemmas.List.{reverse-reverse}
use Rattle.std.specs.Prelude.{All, reverse}
use Rattle.mc_base.specs.declared.ids.AtomId.{AtomId}
use Rattle.mc_mol.specs.declared.parts.Bond.{Bond}
use Rattle.mc_mol.specs.declared.parts.HalfEdge.{HalfEdge}
use Rattle.mc_mol.specs.Molecule.{Molecule, joins, are_joined, touches}
use Rattle.mc_mol.specs.HalfEdges.{half_edges, other_end}
use Rattle.mc_mol.specs.WellFormed.{IsMolecule, IsBond}
use Rattle.mc_mol.proofs.Lists.{All-head, All-tail}
use Rattle.mc_mol.proofs.Twins.{all_have_twins, half_of}
use Rattle.mc_mol.proofs.Halves.{same_test}
use Rattle.mc_mol.proofs.Apart.{joins_cases}
use Rattle.mc_mol.specs.ClosedPaths.{IsRingOf}
use Rattle.ct_geometry.specs.Drawn.{IsOther}
pub use Rattle.ct_geometry.proofs.Alone.{one_half}

pub bond_at : (n : ℕ) (bonds : List Bond) (k : ℕ) (bond : Bond) → All (IsBond n) bonds → slice_get bonds k ≡ Some bond → IsBond n bond
bond_at n [] k bond all e = cc
bond_at n (b ∷ bonds) zero bond all e = subst (IsBond n) (same_Some b bond e) (All-head (IsBond n) b bonds all)
bond_at n (b ∷ bonds) (suc k) bond all e = bond_at n bonds k bond (All-tail (IsBond n) b bonds all) e

pub joins_back : (bond : Bond) (u w : ℕ) → joins bond u w ≡ true → joins bond w u ≡ true
joins_back bond u w e = grind (arith, nat_tests)

pub joins_apart : (bond : Bond) (u w : ℕ) → bond.first.0 ≢ bond.second.0 → joins bond u w ≡ true → u ≢ w
joins_apart bond u w different e same = elim (joins_cases bond u w e) [
  | inl h ↦ different (h.0 ∙ same ∙ sym h.1)
  | inr h ↦ different (h.0 ∙ sym same ∙ sym h.1)
]

-- the bond of another neighbour
pub record Across (m : Molecule) (k a c : ℕ) : Type 0 where
  pub number : ℕ
  pub other : number ≢ k
  pub bond : Bond
  pub is_bond : slice_get m.bonds number ≡ Some bond
  pub joined : joins bond a c ≡ true
  pub different : c ≢ a
  pub within : c < length m.atoms

pub across : (m : Molecule) → IsMolecule m → (k a c : ℕ) → IsOther m k a c → Across m k a c
across m is k a c o =
    let t = all_have_twins m (record { 0 = a }) is o.place o.half o.is_half in
    record {
      number = o.half.bond.0;
      other = o.other;
      bond = t.bond;
      is_bond = t.is_bond;
      joined = subst (λ (x : ℕ). joins t.bond a x ≡ true) o.leads t.joined;
      different = subst (λ (x : ℕ). x ≢ a) o.leads t.different;
      within = subst (λ (x : ℕ). x < length m.atoms) o.leads t.to;
    }

-- the half-edge of a bond
pub record HalfAt (m : Molecule) (j a c : ℕ) : Type 0 where
  pub place : ℕ
  pub half : HalfEdge
  pub is_half : slice_get (half_edges m a) place ≡ Some half
  pub bond_is : half.bond.0 ≡ j
  pub leads : half.to.0 ≡ c

pub half_at : (m : Molecule) (a c j : ℕ) (bond : Bond) → slice_get m.bonds j ≡ Some bond → joins bond a c ≡ true → HalfAt m j a c
half_at m a c j bond at joined =
    let at_back = ap (λ (bs : List Bond). slice_get bs j) (reverse-reverse m.bonds) ∙ at in
    let h = half_of (reverse m.bonds) a j bond at_back (touching (joins_cases bond a c joined)) in
    record { place = h.place; half = h.half; is_half = h.at; bond_is = h.bond_is; leads = ap (λ (x : AtomId). x.0) h.to_is ∙ far (joins_cases bond a c joined) }
  where
    touching : ((bond.first.0 ≡ a) × (bond.second.0 ≡ c)) ⊎ ((bond.first.0 ≡ c) × (bond.second.0 ≡ a)) → touches bond a ≡ true
    touching (inl (p, q)) = rw (p, same_test a) refl
    touching (inr (p, q)) = grind (arith, nat_tests)

    far : ((bond.first.0 ≡ a) × (bond.second.0 ≡ c)) ⊎ ((bond.first.0 ≡ c) × (bond.second.0 ≡ a)) → (other_end bond a).0 ≡ c
    far (inl (p, q)) = rw (p, same_test a) q
    far (inr (p, q)) = elim (cases_eq bond.first.0 a) [
      | inl same ↦ rw (same, same_test a) (q ∙ sym same ∙ p)
      | inr different ↦ rw (ne_eqb bond.first.0 a different) p
    ]

-- and back
pub other_of : (m : Molecule) (k a c j : ℕ) (bond : Bond) → slice_get m.bonds j ≡ Some bond → joins bond a c ≡ true → j ≢ k → IsOther m k a c
other_of m k a c j bond at joined other =
    let h = half_at m a c j bond at joined in
    record { place = h.place; half = h.half; is_half = h.is_half; other = λ e. other (sym h.bond_is ∙ e); leads = h.leads }

-- different neighbours have half-edges at different places
pub places_apart : (m : Molecule) (a i j c d : ℕ) (g h : HalfEdge) → slice_get (half_edges m a) i ≡ Some g → slice_get (half_edges m a) j ≡ Some h → g.to.0 ≡ c → h.to.0 ≡ d → c ≢ d → i ≢ j
places_apart m a i j c d g h at_g at_h to_c to_d different same =
    different (sym to_c ∙ ap (λ (x : HalfEdge). x.to.0) (one_half (half_edges m a) i j g h same at_g at_h) ∙ to_d)

-- ---- three atoms, each joined to the others, are a closed path

three_differ : (x y z : ℕ) → x ≢ y → x ≢ z → y ≢ z → (i j : ℕ) → i < j → j < 3 → get_or (x ∷ y ∷ z ∷ []) i 0 ≢ get_or (x ∷ y ∷ z ∷ []) j 0
three_differ x y z p q r zero zero less within = absurd (omega arith)
three_differ x y z p q r zero (suc zero) less within = p
three_differ x y z p q r zero (suc (suc zero)) less within = q
three_differ x y z p q r zero (suc (suc (suc j))) less within = absurd (omega arith)
three_differ x y z p q r (suc zero) zero less within = absurd (omega arith)
three_differ x y z p q r (suc zero) (suc zero) less within = absurd (omega arith)
three_differ x y z p q r (suc zero) (suc (suc zero)) less within = r
three_differ x y z p q r (suc zero) (suc (suc (suc j))) less within = absurd (omega arith)
three_differ x y z p q r (suc (suc i)) j less within = absurd (omega arith)

three_joined : (bonds : List Bond) (x y z : ℕ) → are_joined bonds x y ≡ true → are_joined bonds y z ≡ true → (i : ℕ) → i + 1 < 3
    → are_joined bonds (get_or (x ∷ y ∷ z ∷ []) i 0) (get_or (x ∷ y ∷ z ∷ []) (i + 1) 0) ≡ true
three_joined bonds x y z p q zero within = p
three_joined bonds x y z p q (suc zero) within = q
three_joined bonds x y z p q (suc (suc i)) within = absurd (omega arith)

pub triangle : (bonds : List Bond) (bond : Bond) (z : ℕ) → bond.first.0 ≢ bond.second.0 → bond.first.0 ≢ z → bond.second.0 ≢ z
    → are_joined bonds bond.first.0 bond.second.0 ≡ true → are_joined bonds bond.second.0 z ≡ true → are_joined bonds z bond.first.0 ≡ true
    → IsRingOf bonds bond (bond.first.0 ∷ bond.second.0 ∷ z ∷ [])
triangle bonds bond z p q r xy yz zx = record {
  closed_path = record {
    long = let l : 3 ≤ 3 = omega arith in l;
    different = three_differ bond.first.0 bond.second.0 z p q r;
    joined = three_joined bonds bond.first.0 bond.second.0 z xy yz;
    closed = zx;
  };
  uses = inl (inl (0, omega arith, refl, refl));
}
