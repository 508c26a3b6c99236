-- A `(` is never closed where each `)` behind it closes another.
use Rattle.std.proofs.Common.{◌≡◌, ◌∙◌, ℕ, zero, suc, ◌+◌, ◌-◌, ◌<◌, List, [], ◌∷◌, length, drop, get_or, Bool, true, false, Option, Some, refl, ap, arith}
use Rattle.std.specs.Prelude.{◌&&◌, nat_le, slice_get}
use Rattle.std.proofs.lemmas.Bool.Decides.{nat_tests}
use Rattle.smi_graph.specs.declared.role.Role.{Role}
use Rattle.smi_graph.specs.declared.role.Role.TheVariants.{Atom, Bond, Ring, Enter, Leave, Dot}
use Rattle.smi_graph.specs.Order.{stays_open, is_enter, unclosed_at}
use Rattle.smi_graph.specs.Firsts.{unmatched, unmatched_with}

one_less : (n level : ℕ) → nat_le n (suc level) ≡ nat_le (n - 1) level
one_less n level = grind (arith, nat_tests)

one_more : (n level : ℕ) → nat_le n level ≡ nat_le (n + 1) (suc level)
one_more n level = grind (arith, nat_tests)

all : (level : ℕ) → true ≡ nat_le 0 level
all level = grind (arith, nat_tests)

none : (n : ℕ) → false ≡ nat_le (n + 1) 0
none n = grind (arith, nat_tests)

pub stays_open_is : (level : ℕ) (ks : List Role) → stays_open level ks ≡ nat_le (unmatched ks) level
stays_open_is level [] = all level
stays_open_is level (Atom lower ∷ ks) = stays_open_is level ks
stays_open_is level (Bond mark ∷ ks) = stays_open_is level ks
stays_open_is level (Ring number ∷ ks) = stays_open_is level ks
stays_open_is level (Dot ∷ ks) = stays_open_is level ks
stays_open_is level (Enter ∷ ks) = stays_open_is (suc level) ks ∙ one_less (unmatched ks) level
stays_open_is zero (Leave ∷ ks) = none (unmatched ks)
stays_open_is (suc level) (Leave ∷ ks) = stays_open_is level ks ∙ one_more (unmatched ks) level

pub is_unclosed : (ks : List Role) (i : ℕ) (k : Role) → slice_get ks i ≡ Some k → unclosed_at ks i ≡ is_enter (Some k) && nat_le (unmatched (drop (i + 1) ks)) 0
is_unclosed ks i k is = ap (λ (o : Option Role). is_enter o && stays_open 0 (drop (i + 1) ks)) is ∙ ap (λ (b : Bool). is_enter (Some k) && b) (stays_open_is 0 (drop (i + 1) ks))

pub unmatched_here : (ks : List Role) (i : ℕ) (d : Role) → i < length ks → unmatched (drop i ks) ≡ unmatched_with (get_or ks i d) (unmatched (drop (i + 1) ks))
unmatched_here [] i d less = absurd (omega arith)
unmatched_here (k ∷ ks) zero d less = refl
unmatched_here (k ∷ ks) (suc i) d less =
    let e : suc (i + 1) ≡ suc i + 1 = omega arith in
    unmatched_here ks i d (omega arith) ∙ ap (λ (n : ℕ). unmatched_with (get_or ks i d) (unmatched (drop n (k ∷ ks)))) e
