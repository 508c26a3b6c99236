-- A `)` goes back to the atom before its `(`.
use Rattle.std.proofs.Common.{◌≡◌, ℕ, zero, suc, ◌+◌, List, [], ◌∷◌, ◌++◌, length, get_or, drop, reverse, Option, Some, None, refl, ap, sym, ◌∙◌, arith}
use Rattle.std.specs.Prelude.{unwrap_or, option_to_list, IsNone}
use Rattle.std.proofs.lemmas.List.{same_from_push, append-nil, reverse-append, length-append, length-reverse}
use Rattle.smi_graph.specs.declared.role.Role.{Role}
use Rattle.smi_graph.specs.declared.role.Role.TheVariants.{Atom, Bond, Ring, Enter, Leave, Dot}
use Rattle.smi_graph.specs.Order.{latest}
use Rattle.smi_graph.specs.Bonds.{mark_of}
use Rattle.smi_graph.specs.Branches.{open_once_closed, return_atoms}
use Rattle.smi_graph.specs.Reading.{mark_in}

get_or_tail : (xs : List (Option ℕ)) (d : ℕ) → get_or xs (suc d) None ≡ get_or (drop 1 xs) d None
get_or_tail [] d = refl
get_or_tail (x ∷ xs) d = refl

pub open_behind : (before : List Role) (d : ℕ) → open_once_closed (suc d) before ≡ get_or (return_atoms before) d None
open_behind [] d = refl
open_behind (Atom lower ∷ before) d = open_behind before d
open_behind (Bond mark ∷ before) d = open_behind before d
open_behind (Ring number ∷ before) d = open_behind before d
open_behind (Dot ∷ before) d = open_behind before d
open_behind (Enter ∷ before) zero = refl
open_behind (Enter ∷ before) (suc d) = open_behind before d
open_behind (Leave ∷ before) d = open_behind before (suc d) ∙ get_or_tail (return_atoms before) d

pub record Popped (new r : List (Option ℕ)) (given : Option ℕ) : Type 0 where
  pub rest : new ≡ reverse (drop 1 r)
  pub top : given ≡ get_or r 0 None

pub pop_reversed : (r new : List (Option ℕ)) (o : Option (Option ℕ)) → reverse r ≡ new ++ option_to_list o → (IsNone o → length (reverse r) ≡ 0) → Popped new r (unwrap_or o None)
pop_reversed [] new None e none = record { rest = sym (e ∙ append-nil new); top = refl }
pop_reversed (y ∷ ys) new None e none = absurd (let l : length (reverse (y ∷ ys)) ≡ suc (length ys) = length-reverse (y ∷ ys) in let z = none refl in omega arith)
pop_reversed [] new (Some x) e none = absurd (let l : 0 ≡ length new + 1 = ap length e ∙ length-append new (x ∷ []) in omega arith)
pop_reversed (y ∷ ys) new (Some x) e none =
    let p = same_from_push (reverse ys) new y x (sym (reverse-append (y ∷ []) ys) ∙ e) in
    record { rest = sym p.0; top = sym p.1 }

-- the bond symbol directly before is the latest token, where that is one
pub mark_of_is : (before : List Role) → mark_of before ≡ mark_in (latest before)
mark_of_is [] = refl
mark_of_is (Atom lower ∷ before) = refl
mark_of_is (Bond mark ∷ before) = refl
mark_of_is (Ring number ∷ before) = refl
mark_of_is (Enter ∷ before) = refl
mark_of_is (Leave ∷ before) = refl
mark_of_is (Dot ∷ before) = refl
