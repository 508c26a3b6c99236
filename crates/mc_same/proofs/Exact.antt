-- There is no difference exactly where some molecule of the text is the same as the one that is compared.
use Rattle.std.proofs.Common.{arith, ◌≡◌, ◌∙◌, ◌⊎◌, ℕ, zero, suc, ◌+◌, ◌<◌, ◌≤◌, ◌==◌, List, [], ◌∷◌, length, map, slice_get, Bool, true, false, Some, refl, ap, sym, subst, inl, inr}
use Rattle.std.specs.List.{list_any}
use Rattle.std.specs.Prelude.{◌&&◌, ◌||◌, if◌then◌else◌}
use Rattle.std.proofs.lemmas.Bool.{cases_Bool, cases_lt, false≢true, false_from_ne_true, and_parts, or_cases, or_left, or_right}
use Rattle.std.proofs.lemmas.Option.{slice_get_within, same_Some}
use Rattle.mc_base.specs.declared.ids.AtomId.{AtomId}
use Rattle.mc_base.specs.declared.verdict.Verdict.TheVariants.{True}
use Rattle.mc_mol.specs.declared.parts.Bond.{Bond as BondParts}
use Rattle.mc_mol.specs.Molecule.{Molecule, joins, touches}
use Rattle.mc_mol.specs.Same.{entry}
use Rattle.mc_mol.specs.WellFormed.{IsMolecule}
use Rattle.mc_mol.proofs.Apart.{joins_cases, touches_cases, touches_first, touches_second}
use Rattle.mc_mol.proofs.Neighbours.{joined_ends, bond_joined}
use Rattle.smi_graph.specs.Candidates.{marked}
use Rattle.smi_graph.specs.Links.{bond_of}
use Rattle.smi_graph.specs.Skeletons.{TextGraph, IsTextGraph}
use Rattle.smi_mean.specs.Needs.{needs}
use Rattle.smi_mean.specs.Meant.{molecule_under}
use Rattle.smi_mean.specs.Placements.{placed_at, LiesOnce, IsPlacement, raised_bond, raised}
use Rattle.smi_mean.proofs.MeantAtoms.{length_atoms}
use Rattle.smi_mean.specs.Barriers.{needs_of}
use Rattle.smi_mean.specs.Lying.{lying_of}
use Rattle.smi_mean.proofs.OnceEach.{lies_where_marked}
use Rattle.smi_mean.proofs.PlacedBonds.{bond_at, bonds_count, needs_of_is}
use Rattle.smi_mean.proofs.PlacementTest.{placement_by}
use Rattle.mc_same.specs.Differences.{SameMap}
use Rattle.mc_same.specs.Stands.{is_double, doubles_from, doubles, has_bond, FitsGraph, IsStandsVerdict, IsSomeMolecule}
use Rattle.mc_same.proofs.Fitting.{fits_same}
use Rattle.mc_same.proofs.Onto.{onto}
use Rattle.mc_same.proofs.Verdicts.{same_at_last}

-- ---- lists of bonds

pub found_in : (p : BondParts → Bool) (bonds : List BondParts) → list_any p bonds ≡ true → (k : ℕ) × (b : BondParts) × (slice_get bonds k ≡ Some b) × (p b ≡ true)
found_in p [] h = absurd (false≢true h)
found_in p (b ∷ bonds) h = elim (or_cases (p b) (list_any p bonds) h) [
  | inl here ↦ (0, b, refl, here)
  | inr there ↦ let rest = found_in p bonds there in (suc rest.0, rest.1, rest.2, rest.3)
]

pub in_any : (p : BondParts → Bool) (bonds : List BondParts) (k : ℕ) (b : BondParts) → slice_get bonds k ≡ Some b → p b ≡ true → list_any p bonds ≡ true
in_any p [] k b at h = cc
in_any p (c ∷ bonds) zero b at h = or_left (p c) (list_any p bonds) (subst (λ (x : BondParts). p x ≡ true) (sym (same_Some c b at)) h)
in_any p (c ∷ bonds) (suc k) b at h = or_right (p c) (list_any p bonds) (in_any p bonds k b at h)

-- the place of the first bond that passes
abbrev pub place : (BondParts → Bool) → List BondParts → ℕ
place p [] = 0
place p (b ∷ bonds) = if p b then 0 else suc (place p bonds)

pub place_found : (p : BondParts → Bool) (bonds : List BondParts) → list_any p bonds ≡ true → (b : BondParts) × (slice_get bonds (place p bonds) ≡ Some b) × (p b ≡ true)
place_found p [] h = absurd (false≢true h)
place_found p (b ∷ bonds) h = by_test (p b) refl (λ rest. place_found p bonds rest) h
  where
    by_test : (t : Bool) → p b ≡ t → (list_any p bonds ≡ true → (c : BondParts) × (slice_get bonds (place p bonds) ≡ Some c) × (p c ≡ true)) → (t || list_any p bonds) ≡ true
        → (c : BondParts) × (slice_get (b ∷ bonds) (if t then 0 else suc (place p bonds)) ≡ Some c) × (p c ≡ true)
    by_test true e more any = (b, refl, e)
    by_test false e more any = more any

pub doubles_at : (candidates : List Bool) (written : List BondParts) (f : List AtomId) (j : ℕ) (bonds : List BondParts) (k : ℕ) (b : BondParts) → slice_get bonds k ≡ Some b
    → marked (doubles_from candidates written f j bonds) k ≡ (marked candidates (j + k) && is_double written f b)
doubles_at candidates written f j [] k b at = cc
doubles_at candidates written f j (c ∷ bonds) zero b at =
    let e : j ≡ j + 0 = omega arith in
    ap (λ (x : BondParts). marked candidates j && is_double written f x) (same_Some c b at) ∙ ap (λ (n : ℕ). marked candidates n && is_double written f b) e
doubles_at candidates written f j (c ∷ bonds) (suc k) b at =
    let e : j + 1 + k ≡ j + suc k = omega arith in
    doubles_at candidates written f (j + 1) bonds k b at ∙ ap (λ (n : ℕ). marked candidates n && is_double written f b) e

pub length_doubles : (candidates : List Bool) (written : List BondParts) (f : List AtomId) (j : ℕ) (bonds : List BondParts) → length (doubles_from candidates written f j bonds) ≡ length bonds
length_doubles candidates written f j [] = refl
length_doubles candidates written f j (b ∷ bonds) = ap suc (length_doubles candidates written f (j + 1) bonds)

pub raised_get : (bonds : List BondParts) (placed : List Bool) (k : ℕ) (b : BondParts) → slice_get bonds k ≡ Some b → slice_get (raised placed bonds) k ≡ Some (raised_bond (marked placed k) b)
raised_get [] placed k b at = cc
raised_get (c ∷ bonds) [] k b at = at
raised_get (c ∷ bonds) (p ∷ placed) zero b at = ap (λ (x : BondParts). Some (raised_bond p x)) (same_Some c b at)
raised_get (c ∷ bonds) (p ∷ placed) (suc k) b at = raised_get bonds placed k b at

placed_zero : (bonds : List BondParts) (placed : List Bool) (a : ℕ) → ((k : ℕ) (b : BondParts) → slice_get bonds k ≡ Some b → marked placed k ≡ true → touches b a ≡ false) → placed_at bonds placed a ≡ 0
placed_zero [] placed a none = refl
placed_zero (b ∷ bonds) [] a none = refl
placed_zero (b ∷ bonds) (p ∷ placed) a none = by_mark p (touches b a) (none 0 b refl) (placed_zero bonds placed a (λ k c at h. none (suc k) c at h))
  where
    by_mark : (p t : Bool) → (p ≡ true → t ≡ false) → placed_at bonds placed a ≡ 0 → (if p && t then 1 else 0) + placed_at bonds placed a ≡ 0
    by_mark true true f rest = absurd (false≢true (sym (f refl)))
    by_mark true false f rest = omega arith
    by_mark false t f rest = omega arith

rest_some : (t : Bool) (n : ℕ) → t ≡ false → 1 ≤ (if t then 1 else 0) + n → 1 ≤ n
rest_some true n e h = absurd (false≢true (sym e))
rest_some false n e h = omega arith

pub placed_some : (bonds : List BondParts) (placed : List Bool) (a : ℕ) → 1 ≤ placed_at bonds placed a → (k : ℕ) × (b : BondParts) × (slice_get bonds k ≡ Some b) × (marked placed k ≡ true) × (touches b a ≡ true)
placed_some [] placed a some = absurd (omega arith)
placed_some (b ∷ bonds) [] a some = absurd (omega arith)
placed_some (b ∷ bonds) (p ∷ placed) a some = elim (cases_Bool (p && touches b a)) [
  | inl here ↦ let both = and_parts p (touches b a) here in (0, b, refl, both.0, both.1)
  | inr other ↦
      let rest = placed_some bonds placed a (rest_some (p && touches b a) (placed_at bonds placed a) other some) in (suc rest.0, rest.1, rest.2, rest.3, rest.4)
]

pub same_marks : (xs ys : List Bool) → length xs ≡ length ys → ((k : ℕ) → k < length xs → marked xs k ≡ marked ys k) → xs ≡ ys
same_marks [] [] size same = refl
same_marks [] (y ∷ ys) size same = absurd (omega arith)
same_marks (x ∷ xs) [] size same = absurd (omega arith)
same_marks (x ∷ xs) (y ∷ ys) size same = ap (λ (t : Bool). t ∷ xs) (same 0 (omega arith)) ∙ ap (λ (zs : List Bool). y ∷ zs) (same_marks xs ys (omega arith) (λ k less. same (suc k) (omega arith)))

-- ---- the map

pub one_entry : (f : List AtomId) → ((k : ℕ) → k < length f → (j : ℕ) → j < k → entry f j ≡ entry f k → ⊥) → (i j : ℕ) → i < length f → j < length f → entry f i ≡ entry f j → i ≡ j
one_entry f new i j i_less j_less e = elim (cases_lt i j) [
  | inl less ↦ absurd (new j j_less i less e)
  | inr le ↦ elim (cases_lt j i) [
    | inl more ↦ absurd (new i i_less j more (sym e))
    | inr ge ↦ omega arith
  ]
]

map_onto : (m n : Molecule) (f : List AtomId) → SameMap m n f → (a : ℕ) → a < length m.atoms → (k : ℕ) × (k < length f) × (entry f k ≡ a)
map_onto m n f is a less =
    let size = is.0.0 in
    let count = is.0.1 in
    onto (entry f) (length f) (λ k below. let low = is.1 k below in omega arith) (one_entry f is.2) a (omega arith)

-- a written bond whose ends the map carries to those of a bond at the atom of atom k is a bond of atom k
ends_touch : (n : Molecule) (f : List AtomId) (found b : BondParts) (i k : ℕ) → IsMolecule n → length f ≡ length n.atoms → ((k : ℕ) → k < length f → (j : ℕ) → j < k → entry f j ≡ entry f k → ⊥) → k < length f
    → slice_get n.bonds i ≡ Some found → joins b (entry f found.first.0) (entry f found.second.0) ≡ true → touches b (entry f k) ≡ true → has_bond n k ≡ true
ends_touch n f found b i k is size new less at joined here =
    in_any (λ (x : BondParts). touches x k) n.bonds i found at (by (joins_cases b (entry f found.first.0) (entry f found.second.0) joined) (touches_cases b (entry f k) here))
  where
    first : entry f found.first.0 ≡ entry f k → touches found k ≡ true
    first e = let low = (joined_ends (length n.atoms) n.bonds found.first.0 found.second.0 is.bonds (bond_joined n.bonds i found at)).first in touches_first found k (one_entry f new found.first.0 k (omega arith) less e)

    second : entry f found.second.0 ≡ entry f k → touches found k ≡ true
    second e = let low = (joined_ends (length n.atoms) n.bonds found.first.0 found.second.0 is.bonds (bond_joined n.bonds i found at)).second in touches_second found k (one_entry f new found.second.0 k (omega arith) less e)

    by : ((b.first.0 ≡ entry f found.first.0) × (b.second.0 ≡ entry f found.second.0)) ⊎ ((b.first.0 ≡ entry f found.second.0) × (b.second.0 ≡ entry f found.first.0))
        → (b.first.0 ≡ entry f k) ⊎ (b.second.0 ≡ entry f k) → touches found k ≡ true
    by (inl p) (inl q) = first (sym p.0 ∙ q)
    by (inl p) (inr q) = second (sym p.1 ∙ q)
    by (inr p) (inl q) = second (sym p.0 ∙ q)
    by (inr p) (inr q) = first (sym p.1 ∙ q)

pub double_touches : (n : Molecule) (f : List AtomId) (b : BondParts) (k : ℕ) → IsMolecule n → length f ≡ length n.atoms → ((k : ℕ) → k < length f → (j : ℕ) → j < k → entry f j ≡ entry f k → ⊥) → k < length f
    → is_double n.bonds f b ≡ true → touches b (entry f k) ≡ true → has_bond n k ≡ true
double_touches n f b k is size new less double here =
    let (i, found, at, both) = found_in (λ (found : BondParts). found.order == 2 && joins b (entry f found.first.0) (entry f found.second.0)) n.bonds double in
    ends_touch n f found b i k is size new less at (and_parts (found.order == 2) (joins b (entry f found.first.0) (entry f found.second.0)) both).1 here

-- ---- what fits is a placement

fits_once : (skeleton : TextGraph) (n : Molecule) (f : List AtomId) → IsMolecule n
    → FitsGraph (molecule_under skeleton (doubles skeleton n f)) (needs_of skeleton.atoms skeleton.bonds) (lying_of skeleton.atoms skeleton.bonds (doubles skeleton n f)) n f
    → (a : ℕ) → a < length skeleton.atoms → LiesOnce skeleton.atoms (map bond_of skeleton.bonds) (doubles skeleton n f) a
fits_once skeleton n f is fits a less = elim (cases_Bool (has_bond n k)) [
  | inl bonded ↦
      let (i, b, at, touched) = found_in (λ (b : BondParts). touches b k) n.bonds bonded in
      let fit = fits.3 i (slice_get_within n.bonds i b at) b at in
      elim (touches_cases b k touched) [
        | inl e ↦ (lies_where_marked skeleton.atoms skeleton.bonds marks a less).0 (subst (λ (x : ℕ). marked (lying_of skeleton.atoms skeleton.bonds marks) x ≡ true) (ap (entry f) e ∙ there.2) fit.1)
        | inr e ↦ (lies_where_marked skeleton.atoms skeleton.bonds marks a less).0 (subst (λ (x : ℕ). marked (lying_of skeleton.atoms skeleton.bonds marks) x ≡ true) (ap (entry f) e ∙ there.2) fit.2)
      ]
  | inr lone ↦
      let idle : needs skeleton.atoms bonds (entry f k) ≡ false = false_from_ne_true (needs skeleton.atoms bonds (entry f k)) (λ needed. false≢true (sym lone ∙ (fits.1 k there.1).1 (needs_of_is skeleton.atoms skeleton.bonds (entry f k) ∙ needed))) in
      placed_zero bonds marks a (λ j b at mark. false_from_ne_true (touches b a) (λ touched.
      let both = and_parts (marked skeleton.candidates (0 + j)) (is_double n.bonds f b) (sym (doubles_at skeleton.candidates n.bonds f 0 bonds j b at) ∙ mark) in
      false≢true (sym lone ∙ double_touches n f b k is fits.0.0.0 fits.0.2 there.1 both.1 (ap (touches b) there.2 ∙ touched))))
      ∙ sym (ap (λ (t : Bool). if t then 1 else 0) (ap (needs skeleton.atoms bonds) (sym there.2) ∙ idle))
]
  where
    bonds : List BondParts
    bonds = map bond_of skeleton.bonds

    marks : List Bool
    marks = doubles skeleton n f

    there : (i : ℕ) × (i < length f) × (entry f i ≡ a)
    there = map_onto (molecule_under skeleton (doubles skeleton n f)) n f fits.0 a
        (let size = length_atoms (map bond_of skeleton.bonds) 0 skeleton.atoms in omega arith)

    k : ℕ
    k = there.0

pub placement_of_fits : (skeleton : TextGraph) (n : Molecule) (f : List AtomId) → IsTextGraph skeleton → IsMolecule n
    → FitsGraph (molecule_under skeleton (doubles skeleton n f)) (needs_of skeleton.atoms skeleton.bonds) (lying_of skeleton.atoms skeleton.bonds (doubles skeleton n f)) n f
    → IsPlacement skeleton.atoms skeleton.bonds (doubles skeleton n f)
placement_of_fits skeleton n f is well fits =
    placement_by skeleton (doubles skeleton n f) is (length_doubles skeleton.candidates n.bonds f 0 (map bond_of skeleton.bonds) ∙ bonds_count skeleton.bonds) only (fits_once skeleton n f well fits)
  where
    only : (k : ℕ) → k < length skeleton.bonds → marked (doubles skeleton n f) k ≡ true → marked skeleton.candidates k ≡ true
    only k less mark =
        let size = bonds_count skeleton.bonds in
        let (b, at) = bond_at (map bond_of skeleton.bonds) k (omega arith) in
        let e : 0 + k ≡ k = omega arith in
        subst (λ (j : ℕ). marked skeleton.candidates j ≡ true) e
        (and_parts (marked skeleton.candidates (0 + k)) (is_double n.bonds f b) (sym (doubles_at skeleton.candidates n.bonds f 0 (map bond_of skeleton.bonds) k b at) ∙ mark)).0

pub some_of_fits : (skeleton : TextGraph) (n : Molecule) (f : List AtomId) → IsTextGraph skeleton → IsMolecule n → IsStandsVerdict skeleton n f True → IsSomeMolecule skeleton n f
some_of_fits skeleton n f is well h = record {
  molecule = molecule_under skeleton (doubles skeleton n f);
  under = record { placed = doubles skeleton n f; placement = placement_of_fits skeleton n f is well h.0; molecule = refl };
  same = same_at_last (molecule_under skeleton (doubles skeleton n f)) n f
      (fits_same (molecule_under skeleton (doubles skeleton n f)) (needs_of skeleton.atoms skeleton.bonds) (lying_of skeleton.atoms skeleton.bonds (doubles skeleton n f)) n f h.0) h.1 h.2;
}
