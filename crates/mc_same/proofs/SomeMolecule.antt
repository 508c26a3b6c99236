-- Where some molecule of the text is the same as the one that is compared, there is no difference: its double bonds are those
-- that it was placed with.
use Rattle.std.proofs.Common.{arith, ◌≡◌, ◌∙◌, ◌↔◌, ℕ, ◌+◌, ◌<◌, ◌==◌, List, length, map, slice_get, Bool, true, false, Some, ap, sym, subst, inl, inr}
use Rattle.std.specs.Prelude.{◌&&◌, AllPairs, if◌then◌else◌, option_map, Result, Ok, Err, IfOk}
use Rattle.std.proofs.lemmas.Bool.{cases_Bool, and_parts, and_from, eqb-true, eq-eqb}
use Rattle.std.proofs.lemmas.Option.{slice_get-map}
use Rattle.mc_base.specs.declared.ids.AtomId.{AtomId}
use Rattle.mc_base.specs.declared.verdict.Verdict.{Verdict}
use Rattle.mc_base.specs.declared.verdict.Verdict.TheVariants.{True}
use Rattle.mc_mol.specs.declared.parts.Bond.{Bond as BondParts}
use Rattle.mc_mol.specs.Molecule.{Molecule, joins}
use Rattle.mc_mol.specs.Same.{Same, entry}
use Rattle.mc_mol.specs.WellFormed.{IsMolecule}
use Rattle.match_barrier.proofs.Edges.{same_bools}
use Rattle.smi_graph.specs.declared.text_bond.TextBond.{TextBond}
use Rattle.smi_graph.specs.Candidates.{marked, is_unmarked_or_aromatic, joins_lower}
use Rattle.smi_graph.specs.Links.{bond_of, symbol, order_of}
use Rattle.smi_graph.specs.Skeletons.{TextGraph, IsTextGraph}
use Rattle.smi_mean.specs.Needs.{needs}
use Rattle.smi_mean.specs.Meant.{molecule_under}
use Rattle.smi_mean.specs.Placements.{placed_at, IsPlacement, raised_bond, raised}
use Rattle.mc_mol.proofs.Neighbours.{AreEnds, joined_ends, bond_joined}
use Rattle.smi_mean.specs.Barriers.{needs_of}
use Rattle.smi_mean.specs.Lying.{lying_of}
use Rattle.smi_mean.proofs.MeantAtoms.{length_atoms}
use Rattle.smi_mean.proofs.OnceEach.{lies_where_marked}
use Rattle.smi_mean.proofs.PlacedBonds.{bond_at, bonds_count, needs_of_is}
use Rattle.smi_mean.proofs.Placing.{raised_sound}
use Rattle.smi_mean.proofs.Raised.{candidate_order}
use Rattle.mc_same.specs.Stands.{is_double, doubles, has_bond, IsFitVerdict, IsStandsVerdict, IsSomeMolecule}
use Rattle.mc_same.proofs.Counterparts.{one_order, counterpart}
use Rattle.mc_same.proofs.Exact.{found_in, in_any, doubles_at, length_doubles, raised_get, placed_some, same_marks, double_touches, some_of_fits}
use Rattle.mc_same.proofs.OneVerdict.{stands_once}

-- what is double is what was placed
one_mark : (skeleton : TextGraph) (n : Molecule) (f : List AtomId) (placed : List Bool) (k : ℕ) (b : TextBond) → IsTextGraph skeleton → IsMolecule n → IsPlacement skeleton.atoms skeleton.bonds placed
    → Same (molecule_under skeleton placed) n f → slice_get skeleton.bonds k ≡ Some b → slice_get (map bond_of skeleton.bonds) k ≡ Some (bond_of b)
    → (marked skeleton.candidates k && is_double n.bonds f (bond_of b)) ≡ marked placed k
one_mark skeleton n f placed k b is well placement same at at_bond =
    same_bools (marked skeleton.candidates k && is_double n.bonds f (bond_of b)) (marked placed k) there back
  where
    once : AllPairs (λ (b c : BondParts). joins b c.first.0 c.second.0 ≡ false) (raised placed (map bond_of skeleton.bonds))
    once = (raised_sound (length skeleton.atoms) placed (map bond_of skeleton.bonds) is.sound).once

    raised_at : (t : Bool) → marked placed k ≡ t → slice_get (raised placed (map bond_of skeleton.bonds)) k ≡ Some (raised_bond t (bond_of b))
    raised_at t e = raised_get (map bond_of skeleton.bonds) placed k (bond_of b) at_bond ∙ ap (λ (x : Bool). Some (raised_bond x (bond_of b))) e

    there : (marked skeleton.candidates k && is_double n.bonds f (bond_of b)) ≡ true → marked placed k ≡ true
    there h =
        let both = and_parts (marked skeleton.candidates k) (is_double n.bonds f (bond_of b)) h in
        let (i, found, at_found, test) = found_in (λ (found : BondParts). found.order == 2 && joins (bond_of b) (entry f found.first.0) (entry f found.second.0)) n.bonds both.1 in
        let parts = and_parts (found.order == 2) (joins (bond_of b) (entry f found.first.0) (entry f found.second.0)) test in
        let double : found.order ≡ 2 = eqb-true found.order 2 parts.0 in
        let single : order_of (symbol b) ≡ 1 = candidate_order (symbol b) (and_parts (is_unmarked_or_aromatic (symbol b)) (joins_lower skeleton.atoms b) ((is.candidates k b at).0 both.0).lower).0 in
        elim (cases_Bool (marked placed k)) [
          | inl yes_it_is ↦ yes_it_is
          | inr other ↦
              let order : found.order ≡ order_of (symbol b) = one_order (raised placed (map bond_of skeleton.bonds)) k (entry f found.first.0) (entry f found.second.0) found.order (raised_bond false (bond_of b))
              once (raised_at false other) parts.1 (same.bonds i found at_found) in absurd (omega arith)
        ]

    back : marked placed k ≡ true → (marked skeleton.candidates k && is_double n.bonds f (bond_of b)) ≡ true
    back h =
        let found = counterpart (molecule_under skeleton placed) n f k (raised_bond true (bond_of b)) same well once (raised_at true h) in
        and_from (marked skeleton.candidates k) (is_double n.bonds f (bond_of b)) ((is.candidates k b at).1 (placement.candidates k b at h))
        (in_any (λ (found : BondParts). found.order == 2 && joins (bond_of b) (entry f found.first.0) (entry f found.second.0)) n.bonds found.number found.bond found.is_bond
        (and_from (found.bond.order == 2) (joins (bond_of b) (entry f found.bond.first.0) (entry f found.bond.second.0)) (eq-eqb found.bond.order 2 found.order) found.joined))

doubles_placed : (skeleton : TextGraph) (n : Molecule) (f : List AtomId) (placed : List Bool) → IsTextGraph skeleton → IsMolecule n → IsPlacement skeleton.atoms skeleton.bonds placed
    → Same (molecule_under skeleton placed) n f → doubles skeleton n f ≡ placed
doubles_placed skeleton n f placed is well placement same =
    let length_text : length (map bond_of skeleton.bonds) ≡ length skeleton.bonds = bonds_count skeleton.bonds in
    let length_found : length (doubles skeleton n f) ≡ length (map bond_of skeleton.bonds) = length_doubles skeleton.candidates n.bonds f 0 (map bond_of skeleton.bonds) in
    same_marks (doubles skeleton n f) placed (length_found ∙ length_text ∙ sym placement.count) (λ k less.
    let (b, at) = bond_at skeleton.bonds k (omega arith) in
    let at_bond : slice_get (map bond_of skeleton.bonds) k ≡ Some (bond_of b) = slice_get-map bond_of skeleton.bonds k ∙ ap (option_map bond_of) at in
    let e : 0 + k ≡ k = omega arith in
    doubles_at skeleton.candidates n.bonds f 0 (map bond_of skeleton.bonds) k (bond_of b) at_bond ∙ ap (λ (j : ℕ). marked skeleton.candidates j && is_double n.bonds f (bond_of b)) e
    ∙ one_mark skeleton n f placed k b is well placement same at at_bond)

-- so there is no difference
fits_placed : (skeleton : TextGraph) (n : Molecule) (f : List AtomId) (placed : List Bool) → IsMolecule n → IsPlacement skeleton.atoms skeleton.bonds placed
    → Same (molecule_under skeleton placed) n f → ((k : ℕ) (b : BondParts) → slice_get (map bond_of skeleton.bonds) k ≡ Some b → marked placed k ≡ true → is_double n.bonds f b ≡ true)
    → IsFitVerdict (molecule_under skeleton placed) (needs_of skeleton.atoms skeleton.bonds) (lying_of skeleton.atoms skeleton.bonds placed) n f True
fits_placed skeleton n f placed well placement same double = (
  (
    ((same.length_map, same.length_atoms), same.in_range, new),
    (λ k less. (same.atoms k less, λ needed. bonded k less (sym (needs_of_is skeleton.atoms skeleton.bonds (entry f k)) ∙ needed))),
    same.length_bonds,
    (λ k less bond at. (same.bonds k bond at, lies bond.first.0 (ends k bond at).first, lies bond.second.0 (ends k bond at).second)),
  ),
  (λ k less q p at_q at_p. same.centres k q p less at_q at_p),
  (λ k less l bond counterpart s t is_bond is_counterpart joined at_s at_t. same.sides k l bond counterpart s t is_bond is_counterpart joined at_s at_t),
)
  where
    new : (k : ℕ) → k < length f → (j : ℕ) → j < k → entry f j ≡ entry f k → ⊥
    new k less j below e = same.distinct j k below less e

    ends : (k : ℕ) (bond : BondParts) → slice_get n.bonds k ≡ Some bond → AreEnds (length n.atoms) bond.first.0 bond.second.0
    ends k bond at = joined_ends (length n.atoms) n.bonds bond.first.0 bond.second.0 well.bonds (bond_joined n.bonds k bond at)

    lies : (k : ℕ) → k < length n.atoms → marked (lying_of skeleton.atoms skeleton.bonds placed) (entry f k) ≡ true
    lies k less =
        let size = same.length_map in
        let within = same.in_range k (omega arith) in
        let count = length_atoms (map bond_of skeleton.bonds) 0 skeleton.atoms in
        (lies_where_marked skeleton.atoms skeleton.bonds placed (entry f k) (omega arith)).1 (placement.once (entry f k))

    bonded : (k : ℕ) → k < length f → needs skeleton.atoms (map bond_of skeleton.bonds) (entry f k) ≡ true → has_bond n k ≡ true
    bonded k less needed =
        let one : placed_at (map bond_of skeleton.bonds) placed (entry f k) ≡ 1 = placement.once (entry f k) ∙ ap (λ (t : Bool). if t then 1 else 0) needed in
        let (j, b, at, mark, touched) = placed_some (map bond_of skeleton.bonds) placed (entry f k) (omega arith) in
        double_touches n f b k well same.length_map new less (double j b at mark) touched

none_where_same : (skeleton : TextGraph) (n : Molecule) (f : List AtomId) (placed : List Bool) → IsTextGraph skeleton → IsMolecule n → IsPlacement skeleton.atoms skeleton.bonds placed
    → Same (molecule_under skeleton placed) n f → IsStandsVerdict skeleton n f True
none_where_same skeleton n f placed is well placement same =
    subst (λ (d : List Bool). IsFitVerdict (molecule_under skeleton d) (needs_of skeleton.atoms skeleton.bonds) (lying_of skeleton.atoms skeleton.bonds d) n f True) (sym are)
    (fits_placed skeleton n f placed well placement same double)
  where
    are : doubles skeleton n f ≡ placed
    are = doubles_placed skeleton n f placed is well placement same

    double : (k : ℕ) (b : BondParts) → slice_get (map bond_of skeleton.bonds) k ≡ Some b → marked placed k ≡ true → is_double n.bonds f b ≡ true
    double k b at mark =
        (and_parts (marked skeleton.candidates (0 + k)) (is_double n.bonds f b)
        (sym (doubles_at skeleton.candidates n.bonds f 0 (map bond_of skeleton.bonds) k b at) ∙ ap (λ (d : List Bool). marked d k) are ∙ mark)).1

none_where_some : (skeleton : TextGraph) (n : Molecule) (f : List AtomId) → IsTextGraph skeleton → IsMolecule n → IsSomeMolecule skeleton n f → IsStandsVerdict skeleton n f True
none_where_some skeleton n f is well some =
    none_where_same skeleton n f some.under.placed is well some.under.placement (subst (λ (m : Molecule). Same m n f) some.under.molecule some.same)

-- A verdict is True exactly where some molecule of the text is the same.
true_where_some : (skeleton : TextGraph) (n : Molecule) (f : List AtomId) (v : Verdict) → IsTextGraph skeleton → IsMolecule n → IsStandsVerdict skeleton n f v → (v ≡ True) ↔ IsSomeMolecule skeleton n f
true_where_some skeleton n f v is well verdict = (
  (λ e. some_of_fits skeleton n f is well (subst (λ (w : Verdict). IsStandsVerdict skeleton n f w) e verdict)),
  (λ some. stands_once skeleton n f v True verdict (none_where_some skeleton n f is well some)),
)

-- the same of an answer that isn't there where memory ends
pub answered_where_some : {E : Type 0} (skeleton : TextGraph) (n : Molecule) (f : List AtomId) (r : Result Verdict E) → IsTextGraph skeleton → IsMolecule n → IfOk r (IsStandsVerdict skeleton n f)
    → IfOk r (λ v. (v ≡ True) ↔ IsSomeMolecule skeleton n f)
answered_where_some skeleton n f (Ok v) is well verdict = true_where_some skeleton n f v is well verdict
answered_where_some skeleton n f (Err e) is well verdict = tt
