-- One more token in order, or out of order.
use Rattle.std.proofs.Common.{arith, ◌≡◌, ◌∙◌, ℕ, ◌+◌, List, ◌∷◌, true, false, Option, Some, None, refl, sym}
use Rattle.std.specs.Prelude.{Bool, not, unwrap_or, is_some, IfSome, IfNone}
use Rattle.std.proofs.lemmas.Bool.{false≢true}
use Rattle.smi_graph.specs.declared.role.Role.{Role}
use Rattle.smi_graph.specs.declared.token_order.TokenOrder.{TokenOrder}
use Rattle.smi_graph.specs.Order.{latest, is_misplaced}
use Rattle.smi_graph.specs.Firsts.{NoneBelow, IsFirstOf}
use Rattle.smi_graph.specs.Reading.{IsBehind}

-- what is known of the order behind a token, where there is one
abbrev pub Placed : TokenOrder → Option Role → Role → TokenOrder → Type 0
Placed order previous role next = (before : List Role) → previous ≡ latest before → IsBehind order before → is_misplaced before (Some role) ≡ false

abbrev pub Behind : TokenOrder → Option Role → Role → TokenOrder → Type 0
Behind order previous role next = (before : List Role) → previous ≡ latest before → IsBehind order before → IsBehind next (role ∷ before)

abbrev pub Misplaced : TokenOrder → Option Role → Role → Type 0
Misplaced order previous role = (before : List Role) → previous ≡ latest before → IsBehind order before → is_misplaced before (Some role) ≡ true

pub order_behind : (order : TokenOrder) (previous : Option Role) (role : Role) (next : Option TokenOrder) (before : List Role)
    → IfSome next (Behind order previous role) → IfNone next (Misplaced order previous role) → previous ≡ latest before → IsBehind order before
    → is_misplaced before (Some role) ≡ false → IsBehind (unwrap_or next order) (role ∷ before)
order_behind order previous role None before behind misplaced is at right = absurd (false≢true (sym right ∙ misplaced before is at))
order_behind order previous role (Some next) before behind misplaced is at right = behind before is at

pub misplaced_is : (order : TokenOrder) (previous : Option Role) (role : Role) (next : Option TokenOrder) (before : List Role) (none : Bool)
    → IfSome next (Placed order previous role) → IfNone next (Misplaced order previous role) → not none ≡ is_some next → previous ≡ latest before → IsBehind order before
    → is_misplaced before (Some role) ≡ none
misplaced_is order previous role None before true placed misplaced tells is at = misplaced before is at
misplaced_is order previous role None before false placed misplaced tells is at = cc
misplaced_is order previous role (Some next) before true placed misplaced tells is at = cc
misplaced_is order previous role (Some next) before false placed misplaced tells is at = placed before is at

-- where no place passes, none was found
pub none_found : (p : ℕ → Bool) (i : ℕ) (first : Option ℕ) → NoneBelow p (i + 1) → IsFirstOf p i first → first ≡ None
none_found p i None none h = refl
none_found p i (Some k) none h = absurd (false≢true (sym (none k (let l = h.0 in omega arith)) ∙ h.1))

pub none_below : (p : ℕ → Bool) (n : ℕ) (first : Option ℕ) → first ≡ None → IsFirstOf p n first → NoneBelow p n
none_below p n None is h = h
none_below p n (Some k) is h = cc

pub none_of : (o : Option ℕ) (none : Bool) → is_some o ≡ not none → none ≡ true → o ≡ None
none_of None none tells is = refl
none_of (Some n) true tells is = cc
none_of (Some n) false tells is = cc
