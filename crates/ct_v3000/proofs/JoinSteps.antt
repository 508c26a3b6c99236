-- One more line of a joined line.
use Rattle.std.proofs.Common.{arith, ◌≡◌, ◌∙◌, ℕ, suc, ◌+◌, ◌-◌, ◌≤◌, ◌<◌, List, [], ◌∷◌, ◌++◌, length, take, drop, get_or, Bool, true, false, if◌then◌else◌, ◌&&◌, Some, None, refl, ap, sym}
use Rattle.std.specs.Prelude.{not}
use Rattle.std.proofs.Math.Seq.{drop-cons}
use Rattle.std.proofs.lemmas.List.{drop_all}
use Rattle.ct_v3000.specs.Joined.{Joined, Begun, has_prefix, text_behind, goes_on, is_whole, without_last, joined_from}
use Rattle.ct_v3000.specs.Steps.{lines_between}

pub short_line : (line : List ℕ) → length line < 7 → drop 7 line ≡ []
short_line line few = drop_all 7 line (let n : ℕ = length line in let h : n < 7 = few in omega arith)

pub between_more : (k end : ℕ) (lines : List (List ℕ)) → k < end → end ≤ length lines → lines_between k end lines ≡ get_or lines k [] ∷ lines_between (k + 1) end lines
between_more k end lines less within =
    ap (λ (m : ℕ). take m (drop k lines)) (let e : end - k ≡ suc (end - (k + 1)) = omega arith in e)
    ∙ (ap (λ (t : List (List ℕ)). take (suc (end - (k + 1))) t) (drop-cons lines k [] (let n : ℕ = length lines in let h : end ≤ n = within in omega arith))
    ∙ ap (λ (m : ℕ). get_or lines k [] ∷ take (end - (k + 1)) (drop m lines)) (let e : suc k ≡ k + 1 = omega arith in e))

pub between_none : (k end : ℕ) (lines : List (List ℕ)) → end ≤ k → lines_between k end lines ≡ []
between_none k end lines over = ap (λ (m : ℕ). take m (drop k lines)) (let e : end - k ≡ 0 = omega arith in e)

pub first_begun : (k end : ℕ) (lines : List (List ℕ)) → k < end → end ≤ length lines
    → joined_from (Some (k + 1, [])) (k + 1) (lines_between k end lines) ≡ joined_from None (k + 1) (lines_between k end lines)
first_begun k end lines less within =
    ap (joined_from (Some (k + 1, [])) (k + 1)) (between_more k end lines less within) ∙ sym (ap (joined_from None (k + 1)) (between_more k end lines less within))

-- by whether the line has the prefix, and whether it goes on
abbrev by_tests : Begun → ℕ → List ℕ → List (List ℕ) → Bool → Bool → List Joined
by_tests begun k line lines prefixed further =
    if prefixed then
    (if further
    then joined_from (Some (begun.0, begun.1 ++ without_last (text_behind line))) (k + 1) lines
    else record { at = begun.0; text = Some (begun.1 ++ text_behind line) } ∷ joined_from None (k + 1) lines)
    else record { at = k; text = None } ∷ []

line_is : (begun : Begun) (n end : ℕ) (lines : List (List ℕ)) → n < end → end ≤ length lines
    → joined_from (Some begun) (n + 1) (lines_between n end lines) ≡ by_tests begun (n + 1) (get_or lines n []) (lines_between (n + 1) end lines) (has_prefix (get_or lines n [])) (goes_on (text_behind (get_or lines n [])))
line_is begun n end lines less within = ap (joined_from (Some begun) (n + 1)) (between_more n end lines less within)

pub ends_whole : (a : ℕ) (text line : List ℕ) (n end : ℕ) (lines : List (List ℕ)) → n < end → end ≤ length lines → line ≡ get_or lines n []
    → has_prefix line ≡ true → goes_on (text_behind line) ≡ false
    → joined_from (Some (a, text)) (n + 1) (lines_between n end lines) ≡ record { at = a; text = Some (text ++ text_behind line) } ∷ joined_from None (n + 1 + 1) (lines_between (n + 1) end lines)
ends_whole a text line n end lines less within is p g =
    line_is (a, text) n end lines less within
    ∙ (ap (λ (t : List ℕ). by_tests (a, text) (n + 1) t (lines_between (n + 1) end lines) (has_prefix t) (goes_on (text_behind t))) (sym is)
    ∙ (ap (λ (b : Bool). by_tests (a, text) (n + 1) line (lines_between (n + 1) end lines) b (goes_on (text_behind line))) p
    ∙ ap (λ (b : Bool). by_tests (a, text) (n + 1) line (lines_between (n + 1) end lines) true b) g))

pub goes_further : (a : ℕ) (text line : List ℕ) (n end : ℕ) (lines : List (List ℕ)) → n < end → end ≤ length lines → line ≡ get_or lines n []
    → has_prefix line ≡ true → goes_on (text_behind line) ≡ true
    → joined_from (Some (a, text)) (n + 1) (lines_between n end lines) ≡ joined_from (Some (a, text ++ without_last (text_behind line))) (n + 1 + 1) (lines_between (n + 1) end lines)
goes_further a text line n end lines less within is p g =
    line_is (a, text) n end lines less within
    ∙ (ap (λ (t : List ℕ). by_tests (a, text) (n + 1) t (lines_between (n + 1) end lines) (has_prefix t) (goes_on (text_behind t))) (sym is)
    ∙ (ap (λ (b : Bool). by_tests (a, text) (n + 1) line (lines_between (n + 1) end lines) b (goes_on (text_behind line))) p
    ∙ ap (λ (b : Bool). by_tests (a, text) (n + 1) line (lines_between (n + 1) end lines) true b) g))

pub breaks : (a : ℕ) (text line : List ℕ) (n end : ℕ) (lines : List (List ℕ)) → n < end → end ≤ length lines → line ≡ get_or lines n []
    → has_prefix line ≡ false
    → joined_from (Some (a, text)) (n + 1) (lines_between n end lines) ≡ record { at = n + 1; text = None } ∷ []
breaks a text line n end lines less within is p =
    line_is (a, text) n end lines less within
    ∙ (ap (λ (t : List ℕ). by_tests (a, text) (n + 1) t (lines_between (n + 1) end lines) (has_prefix t) (goes_on (text_behind t))) (sym is)
    ∙ ap (λ (b : Bool). by_tests (a, text) (n + 1) line (lines_between (n + 1) end lines) b (goes_on (text_behind line))) p)

pub breaks_at_end : (a : ℕ) (text : List ℕ) (n end : ℕ) (lines : List (List ℕ)) → end ≤ n
    → joined_from (Some (a, text)) (n + 1) (lines_between n end lines) ≡ record { at = n + 1; text = None } ∷ []
breaks_at_end a text n end lines over = ap (joined_from (Some (a, text)) (n + 1)) (between_none n end lines over)

is_whole_by : (prefixed further : Bool) → (prefixed && not further) ≡ true → (prefixed ≡ true) × (further ≡ false)
is_whole_by true false is = (refl, refl)
is_whole_by true true is = cc
is_whole_by false further is = cc

-- a line that is a joined line by itself
pub one_whole : (n end : ℕ) (lines : List (List ℕ)) (line text : List ℕ) → n < end → end ≤ length lines → line ≡ get_or lines n [] → text ≡ text_behind line → is_whole line ≡ true
    → joined_from None (n + 1) (lines_between n end lines) ≡ record { at = n + 1; text = Some text } ∷ joined_from None (n + 1 + 1) (lines_between (n + 1) end lines)
one_whole n end lines line text less within is t whole =
    sym (first_begun n end lines less within)
    ∙ (ends_whole (n + 1) [] line n end lines less within is (is_whole_by (has_prefix line) (goes_on (text_behind line)) whole).0 (is_whole_by (has_prefix line) (goes_on (text_behind line)) whole).1
    ∙ ap (λ (x : List ℕ). record { at = n + 1; text = Some x } ∷ joined_from None (n + 1 + 1) (lines_between (n + 1) end lines)) (sym t))
