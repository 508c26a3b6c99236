-- What is left of an input after a read.
use Rattle.std.proofs.Common.{◌≡◌, ℕ, ◌+◌, ◌<◌, List, ◌++◌, length, take, drop, set, ap, sym, ◌∙◌}
use Rattle.std.proofs.lemmas.List.{take-append-drop, drop-drop, get_or-set_same}
use Rattle.mc_io.specs.declared.taking.Taking.{Taking}
use Rattle.mc_io.specs.Inputs.{taking_at, untaken}

-- the bytes behind a place are those that were copied and those behind them
pub consumed : (all into front : List ℕ) (at n : ℕ) → front ≡ drop at all → take n into ≡ take n front → drop at all ≡ take n into ++ drop (at + n) all
consumed all into front at n is copied =
    sym (take-append-drop n (drop at all)) ∙ ap (λ (x : List ℕ). x ++ drop n (drop at all)) (sym (copied ∙ ap (take n) is)) ∙ ap (λ (x : List ℕ). take n into ++ x) (drop-drop n at all)

pub taking_set : (ts : List Taking) (i : ℕ) (t : Taking) → i < length ts → taking_at (set ts i t) i ≡ t
taking_set ts i t within = get_or-set_same ts i t untaken within

pub left_after : (all into front : List ℕ) (ts : List Taking) (i n : ℕ) (t : Taking) → i < length ts → t.at ≡ (taking_at ts i).at + n → front ≡ drop (taking_at ts i).at all → take n into ≡ take n front
    → drop (taking_at ts i).at all ≡ take n into ++ drop (taking_at (set ts i t) i).at all
left_after all into front ts i n t within moved is copied =
    consumed all into front (taking_at ts i).at n is copied
    ∙ ap (λ (k : ℕ). take n into ++ drop k all) (sym (ap (λ (x : Taking). x.at) (taking_set ts i t within) ∙ moved))
