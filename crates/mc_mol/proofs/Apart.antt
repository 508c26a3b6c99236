-- The half-edges of an atom stand in the order of their bonds, and lead to different atoms.
use Rattle.std.proofs.Common.{◌≡◌, ◌≢◌, ◌∙◌, ◌⊎◌, ℕ, ◌<◌, ◌≤◌, true, false, List, [], ◌∷◌, ◌++◌, Some, length, reverse, get_or, slice_get, subst, sym, ap, arith, refl, inl, inr, ◌==◌, ◌&&◌, ◌||◌}
use Rattle.std.proofs.Math.Bool.{or_comm}
use Rattle.std.specs.Prelude.{AllPairs}
use Rattle.std.proofs.lemmas.Bool.{cases_Bool, cases_eq, cases_lt, or_cases, or_left, or_right, eqb-true, eq-eqb}
use Rattle.std.proofs.lemmas.Bool.Decides.{nat_tests}
use Rattle.std.proofs.lemmas.List.{append-nil}
use Rattle.std.proofs.lemmas.Option.{slice_get_within, get_or_from_slice_get}
use Rattle.mc_mol.specs.declared.parts.Bond.{Bond}
use Rattle.mc_mol.specs.declared.parts.HalfEdge.{HalfEdge}
use Rattle.mc_mol.specs.Molecule.{Molecule, joins, touches, are_joined}
use Rattle.mc_mol.specs.HalfEdges.{half_edges, half_edges_by, half_edge, degree, other_end, LeadApart}
use Rattle.mc_mol.specs.WellFormed.{IsMolecule}
use Rattle.mc_mol.proofs.Lists.{slice_get-append_left, slice_get-append_past}
use Rattle.mc_mol.proofs.Twins.{all_have_twins}

-- ---- the ends of a bond

pub touches_cases : (bond : Bond) (k : ℕ) → touches bond k ≡ true → (bond.first.0 ≡ k) ⊎ (bond.second.0 ≡ k)
touches_cases bond k e = elim (or_cases (bond.first.0 == k) (bond.second.0 == k) e) [ inl here ↦ inl (eqb-true bond.first.0 k here) | inr there ↦ inr (eqb-true bond.second.0 k there) ]

pub touches_first : (bond : Bond) (k : ℕ) → bond.first.0 ≡ k → touches bond k ≡ true
touches_first bond k e = or_left (bond.first.0 == k) (bond.second.0 == k) (eq-eqb bond.first.0 k e)

pub touches_second : (bond : Bond) (k : ℕ) → bond.second.0 ≡ k → touches bond k ≡ true
touches_second bond k e = or_right (bond.first.0 == k) (bond.second.0 == k) (eq-eqb bond.second.0 k e)

pub joins_touches : (bond : Bond) (u v : ℕ) → joins bond u v ≡ true → touches bond u ≡ true
joins_touches bond u v e = grind (arith, nat_tests)

-- ---- two bonds

pub joins_cases : (bond : Bond) (u v : ℕ) → joins bond u v ≡ true → ((bond.first.0 ≡ u) × (bond.second.0 ≡ v)) ⊎ ((bond.first.0 ≡ v) × (bond.second.0 ≡ u))
joins_cases bond u v e = grind (arith, nat_tests)

pub joins_from : (bond : Bond) (u v : ℕ) → ((bond.first.0 ≡ u) × (bond.second.0 ≡ v)) ⊎ ((bond.first.0 ≡ v) × (bond.second.0 ≡ u)) → joins bond u v ≡ true
joins_from bond u v (inl (e, f)) = grind (arith, nat_tests)
joins_from bond u v (inr (e, f)) = grind (arith, nat_tests)

-- the ends of two bonds may be named from either
pub turned_joins : (b c : Bond) → joins b c.first.0 c.second.0 ≡ true → joins c b.first.0 b.second.0 ≡ true
turned_joins b c e = elim (joins_cases b c.first.0 c.second.0 e) [
  | inl same ↦ joins_from c b.first.0 b.second.0 (inl (sym same.0, sym same.1))
  | inr turned ↦ joins_from c b.first.0 b.second.0 (inr (sym turned.1, sym turned.0))
]

-- a bond between the ends of another one
pub joins_ends : (b c : Bond) (u v : ℕ) → joins b u v ≡ true → joins c u v ≡ true → joins b c.first.0 c.second.0 ≡ true
joins_ends b c u v of_b of_c = joins_from b c.first.0 c.second.0 (both (joins_cases b u v of_b) (joins_cases c u v of_c))
  where
    both : ((b.first.0 ≡ u) × (b.second.0 ≡ v)) ⊎ ((b.first.0 ≡ v) × (b.second.0 ≡ u)) → ((c.first.0 ≡ u) × (c.second.0 ≡ v)) ⊎ ((c.first.0 ≡ v) × (c.second.0 ≡ u))
        → ((b.first.0 ≡ c.first.0) × (b.second.0 ≡ c.second.0)) ⊎ ((b.first.0 ≡ c.second.0) × (b.second.0 ≡ c.first.0))
    both (inl (p, q)) (inl (r, s)) = inl (p ∙ sym r, q ∙ sym s)
    both (inl (p, q)) (inr (r, s)) = inr (p ∙ sym s, q ∙ sym r)
    both (inr (p, q)) (inl (r, s)) = inr (p ∙ sym s, q ∙ sym r)
    both (inr (p, q)) (inr (r, s)) = inl (p ∙ sym r, q ∙ sym s)

-- whichever atom is named first
pub joins_turned : (bond : Bond) (u v : ℕ) → joins bond u v ≡ joins bond v u
joins_turned bond u v = or_comm (bond.first.0 == u && bond.second.0 == v) (bond.first.0 == v && bond.second.0 == u)

pub are_joined_turned : (bonds : List Bond) (u v : ℕ) → are_joined bonds u v ≡ are_joined bonds v u
are_joined_turned [] u v = refl
are_joined_turned (bond ∷ bonds) u v = ap (λ t. t || are_joined bonds u v) (joins_turned bond u v) ∙ ap (λ t. joins bond v u || t) (are_joined_turned bonds u v)

-- a molecule joins no pair twice
pub once_at : (bonds : List Bond) → AllPairs (λ (b c : Bond). joins b c.first.0 c.second.0 ≡ false) bonds → (i j : ℕ) (b c : Bond) → i < j → slice_get bonds i ≡ Some b → slice_get bonds j ≡ Some c
    → joins b c.first.0 c.second.0 ≡ false
once_at bonds once i j b c less at_b at_c =
    let h = once i j b less (slice_get_within bonds j c at_c) in
    subst (λ (x : Bond). joins x c.first.0 c.second.0 ≡ false) (get_or_from_slice_get bonds i b b at_b)
    (subst (λ (x : Bond). joins (get_or bonds i b) x.first.0 x.second.0 ≡ false) (get_or_from_slice_get bonds j c b at_c) h)

pub one_bond : (bonds : List Bond) → AllPairs (λ (b c : Bond). joins b c.first.0 c.second.0 ≡ false) bonds → (i j u v : ℕ) (b c : Bond) → slice_get bonds i ≡ Some b → slice_get bonds j ≡ Some c
    → joins b u v ≡ true → joins c u v ≡ true → i ≡ j
one_bond bonds once i j u v b c at_b at_c of_b of_c = elim (cases_eq i j) [
  | inl same ↦ same
  | inr other ↦ elim (cases_lt i j) [
    | inl less ↦ (let apart = once_at bonds once i j b c less at_b at_c in let joined = joins_ends b c u v of_b of_c in cc)
    | inr more ↦ (let apart = once_at bonds once j i c b (omega arith) at_c at_b in let joined = joins_ends c b u v of_c of_b in cc)
  ]
]

-- ---- the half-edges of an atom

abbrev latest : Bond → List Bond → ℕ → HalfEdge
latest bond earlier a = record { bond = record { 0 = length earlier }; to = other_end bond a; twin = degree earlier (other_end bond a).0 }

-- one that stands behind those of the earlier bonds is that of the latest bond
behind : (bond : Bond) (earlier : List Bond) (a i : ℕ) (half : HalfEdge) → length (half_edges_by earlier a) ≤ i → slice_get (half_edges_by (bond ∷ earlier) a) i ≡ Some half
    → (i ≡ length (half_edges_by earlier a)) × (half.bond.0 ≡ length earlier)
behind bond earlier a i half past at = elim (cases_Bool (touches bond a)) [
  | inl on ↦
      let list : half_edges_by (bond ∷ earlier) a ≡ half_edges_by earlier a ++ latest bond earlier a ∷ [] = rw on refl in
      let found = slice_get-append_past (half_edges_by earlier a) (latest bond earlier a) half i past (ap (λ (hs : List HalfEdge). slice_get hs i) (sym list) ∙ at) in
      (found.0, ap (λ (h : HalfEdge). h.bond.0) found.1)
  | inr off ↦
      let list : half_edges_by (bond ∷ earlier) a ≡ half_edges_by earlier a = rw off (append-nil (half_edges_by earlier a)) in
      let within = slice_get_within (half_edges_by earlier a) i half (ap (λ (hs : List HalfEdge). slice_get hs i) (sym list) ∙ at) in
      absurd (omega arith)
]

before : (bond : Bond) (earlier : List Bond) (a i : ℕ) (half : HalfEdge) → i < length (half_edges_by earlier a) → slice_get (half_edges_by (bond ∷ earlier) a) i ≡ Some half
    → slice_get (half_edges_by earlier a) i ≡ Some half
before bond earlier a i half within at = sym (slice_get-append_left (half_edges_by earlier a) (half_edge bond earlier a) i within) ∙ at

bonds_below : (bonds : List Bond) (a i : ℕ) (half : HalfEdge) → slice_get (half_edges_by bonds a) i ≡ Some half → half.bond.0 < length bonds
bonds_below [] a i half at = cc
bonds_below (bond ∷ earlier) a i half at = elim (cases_lt i (length (half_edges_by earlier a))) [
  | inl within ↦ (let below = bonds_below earlier a i half (before bond earlier a i half within at) in omega arith)
  | inr past ↦ (let number = (behind bond earlier a i half past at).1 in omega arith)
]

pub bonds_rise : (bonds : List Bond) (a i j : ℕ) (g h : HalfEdge) → i < j → slice_get (half_edges_by bonds a) i ≡ Some g → slice_get (half_edges_by bonds a) j ≡ Some h → g.bond.0 < h.bond.0
bonds_rise [] a i j g h less at_g at_h = cc
bonds_rise (bond ∷ earlier) a i j g h less at_g at_h = elim (cases_lt j (length (half_edges_by earlier a))) [
  | inl within ↦ bonds_rise earlier a i j g h less (before bond earlier a i g (omega arith) at_g) (before bond earlier a j h within at_h)
  | inr past ↦
      let last = behind bond earlier a j h past at_h in
      let place = last.0 in
      let number = last.1 in
      let below = bonds_below earlier a i g (before bond earlier a i g (omega arith) at_g) in
      omega arith
]

pub lead_apart : (m : Molecule) (a : ℕ) → IsMolecule m → LeadApart (half_edges m a)
lead_apart m a is i j g h other at_g at_h same =
    let to_g = all_have_twins m (record { 0 = a }) is i g at_g in
    let to_h = all_have_twins m (record { 0 = a }) is j h at_h in
    let number = one_bond m.bonds is.once g.bond.0 h.bond.0 a h.to.0 to_g.bond to_h.bond to_g.is_bond to_h.is_bond (subst (λ (x : ℕ). joins to_g.bond a x ≡ true) same to_g.joined) to_h.joined in
    elim (cases_lt i j) [
      | inl less ↦ (let rise = bonds_rise (reverse m.bonds) a i j g h less at_g at_h in omega arith)
      | inr more ↦ (let rise = bonds_rise (reverse m.bonds) a j i h g (omega arith) at_h at_g in omega arith)
    ]
