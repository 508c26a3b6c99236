-- What placed double bonds change: bond sums by one for each, and no ring.
use Rattle.std.proofs.Common.{arith, ◌≡◌, ◌∙◌, ℕ, zero, suc, ◌+◌, List, [], ◌∷◌, map, Bool, true, false, Option, Some, None, refl, ap}
use Rattle.std.specs.Prelude.{slice_get, not, ◌&&◌, ◌||◌, if◌then◌else◌}
use Rattle.std.proofs.lemmas.Bool.{false≢true}
use Rattle.std.proofs.lemmas.List.Sums.{sum_by-cons}
use Rattle.mc_mol.specs.declared.parts.Bond as bond
use Rattle.mc_mol.specs.Molecule.{bond_sum, touches}
use Rattle.mc_mol.specs.Limits.{is_over, overvalent_at}
use Rattle.mc_mol.specs.Parts.{are_connected, some_below, begins_part, part_count, independent_rings}
use Rattle.mc_mol.proofs.Labelled.{count_same}
use Rattle.smi_lex.specs.declared.token.BondMark.{BondMark}
use Rattle.smi_lex.specs.declared.token.BondMark.TheVariants.{Single, Double, Triple, Quadruple, Aromatic, Slash, Backslash}
use Rattle.smi_graph.specs.declared.skel_atom.SkelAtom.{SkelAtom}
use Rattle.smi_graph.specs.declared.text_bond.TextBond.{TextBond}
use Rattle.smi_graph.specs.Candidates.{marked, is_unmarked_or_aromatic, joins_lower}
use Rattle.smi_graph.specs.Links.{bond_of, symbol, order_of}
use Rattle.smi_mean.specs.Meaning.{atoms_with}
use Rattle.smi_mean.specs.Placements.{placed_at, IsPlacement, raised_bond, raised, meaning_under}
use Rattle.smi_mean.specs.Rules.{overvalent_in}
use Rattle.smi_mean.proofs.Placing.{length_raised}
use Rattle.std.proofs.lemmas.Bool.{and_parts}

-- a candidate counts 1
pub candidate_order : (o : Option BondMark) → is_unmarked_or_aromatic o ≡ true → order_of o ≡ 1
candidate_order None h = refl
candidate_order (Some Aromatic) h = refl
candidate_order (Some Single) h = absurd (false≢true h)
candidate_order (Some Double) h = absurd (false≢true h)
candidate_order (Some Triple) h = absurd (false≢true h)
candidate_order (Some Quadruple) h = absurd (false≢true h)
candidate_order (Some Slash) h = absurd (false≢true h)
candidate_order (Some Backslash) h = absurd (false≢true h)

pub placed_single : (atoms : List SkelAtom) (bonds : List TextBond) (placed : List Bool) → IsPlacement atoms bonds placed
    → (k : ℕ) (b : TextBond) → slice_get bonds k ≡ Some b → marked placed k ≡ true → order_of (symbol b) ≡ 1
placed_single atoms bonds placed is k b at h = candidate_order (symbol b) (and_parts (is_unmarked_or_aromatic (symbol b)) (joins_lower atoms b) (is.candidates k b at h).lower).0

-- the part of one bond in the sum of an atom
abbrev part : bond.Bond → ℕ → ℕ
part b a = if touches b a then b.order else 0

raised_part : (p : Bool) (b : bond.Bond) (a : ℕ) → (p ≡ true → b.order ≡ 1) → part (raised_bond p b) a ≡ part b a + (if p && touches b a then 1 else 0)
raised_part true b a single = by_touch (touches b a) b.order (single refl)
  where
    by_touch : (t : Bool) (order : ℕ) → order ≡ 1 → (if t then 2 else 0) ≡ (if t then order else 0) + (if t then 1 else 0)
    by_touch true order e = omega arith
    by_touch false order e = omega arith
raised_part false b a single = plus_zero (part b a)
  where
    plus_zero : (n : ℕ) → n ≡ n + 0
    plus_zero n = omega arith

-- The bond sum of an atom grows by its placed bonds.
pub sum_raised : (bonds : List TextBond) (placed : List Bool) (a : ℕ) → ((k : ℕ) (b : TextBond) → slice_get bonds k ≡ Some b → marked placed k ≡ true → order_of (symbol b) ≡ 1)
    → bond_sum (raised placed (map bond_of bonds)) a ≡ bond_sum (map bond_of bonds) a + placed_at (map bond_of bonds) placed a
sum_raised [] placed a single = refl
sum_raised (b ∷ bonds) [] a single = plus_zero (bond_sum (map bond_of (b ∷ bonds)) a)
  where
    plus_zero : (n : ℕ) → n ≡ n + 0
    plus_zero n = omega arith
sum_raised (b ∷ bonds) (p ∷ placed) a single =
    let first = raised_part p (bond_of b) a (single 0 b refl) in
    let rest = sum_raised bonds placed a (λ k c at h. single (suc k) c at h) in
    let new = sum_by-cons (λ c. part c a) (raised_bond p (bond_of b)) (raised placed (map bond_of bonds)) in
    let old = sum_by-cons (λ c. part c a) (bond_of b) (map bond_of bonds) in omega arith

-- Under a placement an atom is above the limit exactly where it is with 1 for a need.
pub overvalent_under : (atoms : List SkelAtom) (bonds : List TextBond) (placed : List Bool) → IsPlacement atoms bonds placed
    → (k : ℕ) → overvalent_at (meaning_under atoms (map bond_of bonds) placed) k ≡ overvalent_in atoms (map bond_of bonds) k
overvalent_under atoms bonds placed is k =
    ap (λ (n : ℕ). is_over (slice_get (atoms_with (map bond_of bonds) 0 atoms) k) n)
    (sum_raised bonds placed k (placed_single atoms bonds placed is) ∙ ap (λ (n : ℕ). bond_sum (map bond_of bonds) k + n) (is.once k))

-- Rings

connected_raised : (placed : List Bool) (bonds : List bond.Bond) (u v : ℕ) → are_connected (raised placed bonds) u v ≡ are_connected bonds u v
connected_raised placed [] u v = refl
connected_raised [] (b ∷ bonds) u v = refl
connected_raised (p ∷ placed) (b ∷ bonds) u v = rw (
  connected_raised placed bonds u v,
  connected_raised placed bonds u b.first.0,
  connected_raised placed bonds b.second.0 v,
  connected_raised placed bonds u b.second.0,
  connected_raised placed bonds b.first.0 v,
) refl

some_same : (p q : ℕ → Bool) (n : ℕ) → ((k : ℕ) → p k ≡ q k) → some_below p n ≡ some_below q n
some_same p q zero same = refl
some_same p q (suc n) same = ap (λ (t : Bool). t || p n) (some_same p q n same) ∙ ap (λ (t : Bool). some_below q n || t) (same n)

pub rings_raised : (placed : List Bool) (bonds : List bond.Bond) (n : ℕ) → independent_rings (raised placed bonds) n ≡ independent_rings bonds n
rings_raised placed bonds n =
    let size = length_raised placed bonds in
    let parts : part_count (raised placed bonds) n ≡ part_count bonds n = count_same (begins_part (raised placed bonds)) (begins_part bonds) n
    (λ u less. ap not (some_same (λ v. are_connected (raised placed bonds) v u) (λ v. are_connected bonds v u) u (λ v. connected_raised placed bonds v u))) in omega arith
