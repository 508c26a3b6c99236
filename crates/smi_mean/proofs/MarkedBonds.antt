-- The marked ones of bonds, bond by bond.
use Rattle.std.proofs.Common.{◌≡◌, ◌∙◌, ℕ, ◌+◌, ◌<◌, List, [], ◌∷◌, ◌++◌, length, get_or, drop, Bool, true, false, ap, sym}
use Rattle.std.proofs.lemmas.Bool.{cond-true, cond-false}
use Rattle.std.proofs.lemmas.List.{append_assoc, at_drop_more}
use Rattle.mc_mol.specs.declared.parts.Bond.{Bond}
use Rattle.smi_graph.specs.Candidates.{marked}
use Rattle.smi_mean.specs.Barriers.{marked_from}

-- a marked bond is found, and another one passed
pub marked_found : (marks : List Bool) (k : ℕ) (bonds found : List Bond) (d : Bond) (whole : List Bond) → k < length bonds → marked marks k ≡ true → found ++ marked_from marks k (drop k bonds) ≡ whole
    → (found ++ get_or bonds k d ∷ []) ++ marked_from marks (k + 1) (drop (k + 1) bonds) ≡ whole
marked_found marks k bonds found d whole less holds is =
    append_assoc found (get_or bonds k d ∷ []) (marked_from marks (k + 1) (drop (k + 1) bonds))
    ∙ ap (λ (xs : List Bond). found ++ xs) (sym (at_drop_more (marked_from marks k) bonds k d less
    ∙ cond-true (marked marks k) (get_or bonds k d ∷ marked_from marks (k + 1) (drop (k + 1) bonds)) (marked_from marks (k + 1) (drop (k + 1) bonds)) holds)) ∙ is

pub marked_passed : (marks : List Bool) (k : ℕ) (bonds found : List Bond) (d : Bond) (whole : List Bond) → k < length bonds → marked marks k ≡ false → found ++ marked_from marks k (drop k bonds) ≡ whole
    → found ++ marked_from marks (k + 1) (drop (k + 1) bonds) ≡ whole
marked_passed marks k bonds found d whole less fails is =
    ap (λ (xs : List Bond). found ++ xs) (sym (at_drop_more (marked_from marks k) bonds k d less
    ∙ cond-false (marked marks k) (get_or bonds k d ∷ marked_from marks (k + 1) (drop (k + 1) bonds)) (marked_from marks (k + 1) (drop (k + 1) bonds)) fails)) ∙ is
