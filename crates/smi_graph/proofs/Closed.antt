-- Where no branch is open behind the tokens of a text, each of its branches is closed.
use Rattle.std.proofs.Common.{arith, ◌≡◌, ◌∙◌, ℕ, zero, suc, ◌+◌, ◌≤◌, List, [], ◌∷◌, ◌++◌, length, reverse, true, false, Option, Some, None, refl, ap, sym}
use Rattle.std.specs.Prelude.{◌&&◌, nat_eq, nat_le, drop, slice_get}
use Rattle.std.proofs.lemmas.Bool.Decides.{nat_tests}
use Rattle.std.proofs.lemmas.List.{append-nil, append_assoc, reverse-append}
use Rattle.std.proofs.lemmas.Option.{same_Some}
use Rattle.smi_graph.specs.declared.role.Role.{Role}
use Rattle.smi_graph.specs.declared.role.Role.TheVariants.{Atom, Bond, Ring, Enter, Leave, Dot}
use Rattle.smi_graph.specs.Order.{depth, depth_behind, stays_open, is_enter, tokens_before, unclosed_at}
use Rattle.smi_graph.specs.Firsts.{unmatched}
use Rattle.smi_graph.proofs.Prefixes.{all_before}
use Rattle.smi_graph.proofs.Unmatched.{stays_open_is}

no_depth : (e : ℕ) → None ≡ Some e → ⊥
no_depth e h = cc

-- going on behind some tokens
onto : (k : Role) (later before : List Role) → depth (reverse (k ∷ later) ++ before) ≡ depth (reverse later ++ k ∷ before)
onto k later before = ap depth (ap (λ (x : List Role). x ++ before) (reverse-append (k ∷ []) later) ∙ append_assoc (reverse later) (k ∷ []) before)

-- behind a `)` that closes nothing there is no depth
none_on : (later before : List Role) (e : ℕ) → depth before ≡ None → depth (reverse later ++ before) ≡ Some e → ⊥
none_on [] before e none is = no_depth e (sym none ∙ is)
none_on (k ∷ later) before e none is = none_on later (k ∷ before) e (ap (λ (o : Option ℕ). depth_behind o k) none) (sym (onto k later before) ∙ is)

-- the depth falls by no more than the `)` that close what was open before
falls : (later before : List Role) (d e : ℕ) → depth before ≡ Some d → depth (reverse later ++ before) ≡ Some e → d ≤ e + unmatched later
falls [] before d e is ends = let s = same_Some d e (sym is ∙ ends) in omega arith
falls (Atom lower ∷ later) before d e is ends = falls later (Atom lower ∷ before) d e (ap (λ (o : Option ℕ). depth_behind o (Atom lower)) is) (sym (onto (Atom lower) later before) ∙ ends)
falls (Bond mark ∷ later) before d e is ends = falls later (Bond mark ∷ before) d e (ap (λ (o : Option ℕ). depth_behind o (Bond mark)) is) (sym (onto (Bond mark) later before) ∙ ends)
falls (Ring number ∷ later) before d e is ends = falls later (Ring number ∷ before) d e (ap (λ (o : Option ℕ). depth_behind o (Ring number)) is) (sym (onto (Ring number) later before) ∙ ends)
falls (Dot ∷ later) before d e is ends = falls later (Dot ∷ before) d e (ap (λ (o : Option ℕ). depth_behind o Dot) is) (sym (onto Dot later before) ∙ ends)
falls (Enter ∷ later) before d e is ends =
    let h = falls later (Enter ∷ before) (d + 1) e (ap (λ (o : Option ℕ). depth_behind o Enter) is) (sym (onto Enter later before) ∙ ends) in omega arith
falls (Leave ∷ later) before zero e is ends = omega arith
falls (Leave ∷ later) before (suc d) e is ends =
    let h = falls later (Leave ∷ before) d e (ap (λ (o : Option ℕ). depth_behind o Leave) is) (sym (onto Leave later before) ∙ ends) in omega arith

above : (n : ℕ) → 1 ≤ n → nat_le n 0 ≡ false
above n more = grind (arith, nat_tests)

closed_from : (later before : List Role) → depth (reverse later ++ before) ≡ Some 0 → (i : ℕ) → unclosed_at later i ≡ false
closed_from [] before ends i = nothing i
  where
    nothing : (i : ℕ) → unclosed_at [] i ≡ false
    nothing zero = refl
    nothing (suc i) = refl
closed_from (k ∷ later) before ends (suc i) =
    let e : suc i + 1 ≡ suc (i + 1) = omega arith in
    ap (λ (n : ℕ). is_enter (slice_get later i) && stays_open 0 (drop n (k ∷ later))) e ∙ closed_from later (k ∷ before) (sym (onto k later before) ∙ ends) i
closed_from (k ∷ later) before ends zero = first k (sym (onto k later before) ∙ ends) (depth before) refl
  where
    first : (k : Role) → depth (reverse later ++ k ∷ before) ≡ Some 0 → (o : Option ℕ) → depth before ≡ o → unclosed_at (k ∷ later) 0 ≡ false
    first Enter ends None is = absurd (none_on later (Enter ∷ before) 0 (ap (λ (o : Option ℕ). depth_behind o Enter) is) ends)
    first Enter ends (Some d) is =
        let h = falls later (Enter ∷ before) (d + 1) 0 (ap (λ (o : Option ℕ). depth_behind o Enter) is) ends in
        stays_open_is 0 later ∙ above (unmatched later) (omega arith)
    first (Atom lower) ends o is = refl
    first (Bond mark) ends o is = refl
    first (Ring number) ends o is = refl
    first Leave ends o is = refl
    first Dot ends o is = refl

zero_of : (d : ℕ) → nat_eq d 0 ≡ true → d ≡ 0
zero_of d h = grind (arith, nat_tests)

pub all_closed : (ks : List Role) (d : ℕ) → nat_eq d 0 ≡ true → depth (tokens_before ks (length ks)) ≡ Some d → (i : ℕ) → unclosed_at ks i ≡ false
all_closed ks d flat is = closed_from ks [] (ap depth (append-nil (reverse ks) ∙ sym (all_before ks)) ∙ (is ∙ ap Some (zero_of d flat)))
