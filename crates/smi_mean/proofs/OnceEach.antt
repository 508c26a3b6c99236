-- Which atoms lie on the double bonds that they need, by the sums of the placed bonds.
use Rattle.std.proofs.Common.{◌≡◌, ◌∙◌, ℕ, zero, suc, ◌+◌, ◌≤◌, ◌<◌, List, [], ◌∷◌, length, get_or, drop, ◌++◌, map, Bool, true, false, Option, Some, refl, ap, sym, arith}
use Rattle.std.specs.List.{All}
use Rattle.std.specs.Prelude.{slice_get, ◌↔◌, if◌then◌else◌}
use Rattle.std.proofs.lemmas.Bool.{eqb-true, eq-eqb, cond-true, cond-false}
use Rattle.std.proofs.lemmas.List.{append_assoc, at_drop_more}
use Rattle.std.proofs.lemmas.List.Elements.{All-cons, All-nil, All-head, All-tail}
use Rattle.std.proofs.lemmas.List.Sums.{sum_by-cons}
use Rattle.std.proofs.lemmas.Option.{same_Some}
use Rattle.mc_mol.specs.declared.parts.Bond.{Bond}
use Rattle.mc_mol.specs.Molecule.{bond_sum, touches}
use Rattle.mc_mol.specs.WellFormed.{IsBond}
use Rattle.smi_graph.specs.declared.skel_atom.SkelAtom.{SkelAtom}
use Rattle.smi_graph.specs.declared.text_bond.TextBond.{TextBond}
use Rattle.smi_graph.specs.Candidates.{marked}
use Rattle.smi_graph.specs.Links.{bond_of}
use Rattle.smi_mean.specs.Needs.{needs_double, needs_in, needs}
use Rattle.smi_mean.specs.Placements.{placed_at, LiesOnce}
use Rattle.smi_mean.specs.Barriers.{needs_from, needs_of}
use Rattle.smi_mean.proofs.PlacedBonds.{bond_at}
use Rattle.smi_mean.specs.Lying.{is_right, lying_from, lying_of, counted_once, agree}

-- ---- the placed bonds with order 1

once_bond : (n : ℕ) (b : Bond) → IsBond n b → IsBond n (record b { order = 1 })
once_bond n b is = record { first = is.first; second = is.second; different = is.different; order_low = omega arith; order_high = omega arith }

pub sound_once : (n : ℕ) (placed : List Bool) (bonds : List Bond) → All (IsBond n) bonds → All (IsBond n) (counted_once placed bonds)
sound_once n [] bonds all = All-nil (IsBond n)
sound_once n (p ∷ placed) [] all = All-nil (IsBond n)
sound_once n (true ∷ placed) (b ∷ bonds) all =
    All-cons (IsBond n) (record b { order = 1 }) (counted_once placed bonds) (once_bond n b (All-head (IsBond n) b bonds all)) (sound_once n placed bonds (All-tail (IsBond n) b bonds all))
sound_once n (false ∷ placed) (b ∷ bonds) all = sound_once n placed bonds (All-tail (IsBond n) b bonds all)

pub few_once : (placed : List Bool) (bonds : List Bond) → length (counted_once placed bonds) ≤ length bonds
few_once [] bonds = omega arith
few_once (p ∷ placed) [] = omega arith
few_once (true ∷ placed) (b ∷ bonds) = let few = few_once placed bonds in omega arith
few_once (false ∷ placed) (b ∷ bonds) = let few = few_once placed bonds in omega arith

-- their sum at an atom is the number of those that touch it
sum_once : (placed : List Bool) (bonds : List Bond) (a : ℕ) → length placed ≡ length bonds → bond_sum (counted_once placed bonds) a ≡ placed_at bonds placed a
sum_once [] [] a size = refl
sum_once [] (b ∷ bonds) a size = absurd (omega arith)
sum_once (p ∷ placed) [] a size = absurd (omega arith)
sum_once (true ∷ placed) (b ∷ bonds) a size =
    let more = sum_by-cons (λ (c : Bond). if touches c a then c.order else 0) (record b { order = 1 }) (counted_once placed bonds) in
    let rest = sum_once placed bonds a (omega arith) in omega arith
sum_once (false ∷ placed) (b ∷ bonds) a size = let rest = sum_once placed bonds a (omega arith) in omega arith

-- ---- bond by bond

step_at : (placed : List Bool) (bonds : List Bond) (k : ℕ) (d : Bond) → k < length placed → k < length bonds
    → counted_once (drop k placed) (drop k bonds) ≡ counted_once (get_or placed k false ∷ drop (k + 1) placed) (get_or bonds k d ∷ drop (k + 1) bonds)
step_at placed bonds k d less below =
    at_drop_more (λ (ps : List Bool). counted_once ps (drop k bonds)) placed k false less
    ∙ at_drop_more (counted_once (get_or placed k false ∷ drop (k + 1) placed)) bonds k d below

-- a placed bond is found, and another one passed
pub once_found : (placed : List Bool) (bonds found : List Bond) (k : ℕ) (d : Bond) (whole : List Bond) → k < length placed → k < length bonds → get_or placed k false ≡ true
    → found ++ counted_once (drop k placed) (drop k bonds) ≡ whole → (found ++ record (get_or bonds k d) { order = 1 } ∷ []) ++ counted_once (drop (k + 1) placed) (drop (k + 1) bonds) ≡ whole
once_found placed bonds found k d whole less below holds is =
    append_assoc found (record (get_or bonds k d) { order = 1 } ∷ []) (counted_once (drop (k + 1) placed) (drop (k + 1) bonds))
    ∙ ap (λ (xs : List Bond). found ++ xs) (sym (step_at placed bonds k d less below
    ∙ cond-true (get_or placed k false) (record (get_or bonds k d) { order = 1 } ∷ counted_once (drop (k + 1) placed) (drop (k + 1) bonds)) (counted_once (drop (k + 1) placed) (drop (k + 1) bonds)) holds)) ∙ is

pub once_passed : (placed : List Bool) (bonds found : List Bond) (k : ℕ) (d : Bond) (whole : List Bond) → k < length placed → k < length bonds → get_or placed k false ≡ false
    → found ++ counted_once (drop k placed) (drop k bonds) ≡ whole → found ++ counted_once (drop (k + 1) placed) (drop (k + 1) bonds) ≡ whole
once_passed placed bonds found k d whole less below fails is =
    ap (λ (xs : List Bond). found ++ xs) (sym (step_at placed bonds k d less below
    ∙ cond-false (get_or placed k false) (record (get_or bonds k d) { order = 1 } ∷ counted_once (drop (k + 1) placed) (drop (k + 1) bonds)) (counted_once (drop (k + 1) placed) (drop (k + 1) bonds)) fails)) ∙ is

-- ---- the comparison

agrees_from : (bonds : List Bond) (placed : List Bool) (j : ℕ) (atoms : List SkelAtom) (counts : List ℕ) → length counts ≡ length atoms
    → ((k : ℕ) → get_or counts k 0 ≡ placed_at bonds placed (j + k)) → agree (needs_from bonds j atoms) counts ≡ lying_from bonds placed j atoms
agrees_from bonds placed j [] counts size are = refl
agrees_from bonds placed j (atom ∷ atoms) [] size are = absurd (omega arith)
agrees_from bonds placed j (atom ∷ atoms) (count ∷ counts) size are =
    let first : j + 0 ≡ j = omega arith in
    rw (are 0, first, agrees_from bonds placed (j + 1) atoms counts (omega arith) (λ k. let e : j + suc k ≡ j + 1 + k = omega arith in are (suc k) ∙ ap (placed_at bonds placed) e)) refl

pub lying_by : (atoms : List SkelAtom) (bonds : List TextBond) (placed : List Bool) (counts : List ℕ) → length placed ≡ length (map bond_of bonds) → length counts ≡ length atoms
    → ((k : ℕ) → get_or counts k 0 ≡ bond_sum (counted_once placed (map bond_of bonds)) k) → agree (needs_of atoms bonds) counts ≡ lying_of atoms bonds placed
lying_by atoms bonds placed counts size count are =
    agrees_from (map bond_of bonds) placed 0 atoms counts count (λ k. let e : k ≡ 0 + k = omega arith in are k ∙ sum_once placed (map bond_of bonds) k size ∙ ap (placed_at (map bond_of bonds) placed) e)

-- ---- what is found of one atom

found_at : (bonds : List Bond) (placed : List Bool) (j : ℕ) (atoms : List SkelAtom) (k : ℕ) (atom : SkelAtom) → slice_get atoms k ≡ Some atom
    → marked (lying_from bonds placed j atoms) k ≡ is_right (needs_double atom (bond_sum bonds (j + k))) (placed_at bonds placed (j + k))
found_at bonds placed j [] k atom at = cc
found_at bonds placed j (x ∷ atoms) zero atom at =
    let e : j ≡ j + 0 = omega arith in
    ap (λ (y : SkelAtom). is_right (needs_double y (bond_sum bonds j)) (placed_at bonds placed j)) (same_Some x atom at)
    ∙ ap (λ (n : ℕ). is_right (needs_double atom (bond_sum bonds n)) (placed_at bonds placed n)) e
found_at bonds placed j (x ∷ atoms) (suc k) atom at =
    let e : j + 1 + k ≡ j + suc k = omega arith in
    found_at bonds placed (j + 1) atoms k atom at ∙ ap (λ (n : ℕ). is_right (needs_double atom (bond_sum bonds n)) (placed_at bonds placed n)) e

-- an atom is marked exactly where it lies so
pub lies_where_marked : (atoms : List SkelAtom) (bonds : List TextBond) (placed : List Bool) (k : ℕ) → k < length atoms → (marked (lying_of atoms bonds placed) k ≡ true) ↔ LiesOnce atoms (map bond_of bonds) placed k
lies_where_marked atoms bonds placed k less =
    let (atom, at) = bond_at atoms k less in
    let e : 0 + k ≡ k = omega arith in
    let is : marked (lying_of atoms bonds placed) k ≡ is_right (needs atoms (map bond_of bonds) k) (placed_at (map bond_of bonds) placed k) =
    found_at (map bond_of bonds) placed 0 atoms k atom at
    ∙ ap (λ (n : ℕ). is_right (needs_double atom (bond_sum (map bond_of bonds) n)) (placed_at (map bond_of bonds) placed n)) e
    ∙ ap (λ (o : Option SkelAtom). is_right (needs_in o (bond_sum (map bond_of bonds) k)) (placed_at (map bond_of bonds) placed k)) (sym at) in
    ((λ h. eqb-true _ _ (sym is ∙ h)), (λ h. is ∙ eq-eqb _ _ h))
