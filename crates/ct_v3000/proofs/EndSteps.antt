-- The line that ends a table.
use Rattle.std.proofs.Common.{arith, ◌≡◌, ◌∙◌, ℕ, suc, ◌+◌, ◌-◌, ◌≤◌, ◌<◌, ◌||◌, List, [], ◌∷◌, ◌++◌, length, take, drop, get_or, Bool, false, if◌then◌else◌, ap, sym, append_assoc, inl, inr}
use Rattle.std.specs.Prelude.{not}
use Rattle.std.specs.List.{list_any}
use Rattle.std.proofs.Math.Seq.{drop-cons}
use Rattle.std.proofs.lemmas.Bool.{cases_lt}
use Rattle.std.proofs.lemmas.List.{take_more, get_or-drop, length-drop}
use Rattle.ct_sd.specs.Columns.{is_end_line}
use Rattle.ct_sd.specs.declared.head.Version.TheVariants.{V2000, V3000}
use Rattle.ct_sd.specs.Heads.{version_of}
use Rattle.ct_sd.proofs.Ranges.{no_version}
use Rattle.ct_v3000.specs.Joined.{before_end}
use Rattle.ct_v3000.specs.Steps.{lines_between, is_short_behind}

one_line : (k : ℕ) (lines : List (List ℕ)) → k < length lines → drop k lines ≡ get_or lines k [] ∷ drop (k + 1) lines
one_line k lines less = drop-cons lines k [] less ∙ ap (λ (m : ℕ). get_or lines k [] ∷ drop m lines) (let e : suc k ≡ k + 1 = omega arith in e)

longer : (k : ℕ) (lines : List (List ℕ)) → 4 ≤ k → k < length lines → lines_between 4 (k + 1) lines ≡ lines_between 4 k lines ++ get_or lines k [] ∷ []
longer k lines header less =
    ap (λ (m : ℕ). take m (drop 4 lines)) (let e : k + 1 - 4 ≡ k - 4 + 1 = omega arith in e)
    ∙ (take_more (drop 4 lines) (k - 4) [] (let n : ℕ = length (drop 4 lines) in let l : n ≡ length lines - 4 = length-drop 4 lines in omega arith)
    ∙ ap (λ (t : List ℕ). take (k - 4) (drop 4 lines) ++ t ∷ []) (get_or-drop 4 lines (k - 4) [] ∙ ap (λ (m : ℕ). get_or lines m []) (let e : 4 + (k - 4) ≡ k = omega arith in e)))

pub body_more : (k : ℕ) (lines all : List (List ℕ)) (line : List ℕ) → 4 ≤ k → k < length lines → line ≡ get_or lines k [] → is_end_line line ≡ false
    → lines_between 4 k lines ++ before_end (drop k lines) ≡ all
    → lines_between 4 (k + 1) lines ++ before_end (drop (k + 1) lines) ≡ all
body_more k lines all line header less is no_end was =
    ap (λ (t : List (List ℕ)). t ++ before_end (drop (k + 1) lines)) (longer k lines header less)
    ∙ (append_assoc (lines_between 4 k lines) (get_or lines k [] ∷ []) (before_end (drop (k + 1) lines))
    ∙ (ap (λ (t : List (List ℕ)). lines_between 4 k lines ++ t)
    (sym (ap before_end (one_line k lines less) ∙ ap (λ (b : Bool). if b then [] else get_or lines k [] ∷ before_end (drop (k + 1) lines)) (sym (ap is_end_line is) ∙ no_end))) ∙ was))

pub short_more : (k : ℕ) (lines : List (List ℕ)) (line : List ℕ) (all : Bool) → k < length lines → line ≡ get_or lines k [] → is_end_line line ≡ false
    → is_short_behind k lines ≡ all → is_short_behind (k + 1) lines ≡ all
short_more k lines line all less is no_end was =
    sym (ap (λ (t : List (List ℕ)). not (list_any is_end_line t)) (one_line k lines less)
    ∙ ap (λ (b : Bool). not (b || list_any is_end_line (drop (k + 1) lines))) (sym (ap is_end_line is) ∙ no_end)) ∙ was

differ : V2000 ≡ V3000 → ⊥
differ e = cc

-- a record with this version has its line 4
pub four_lines : (lines : List (List ℕ)) → version_of lines ≡ V3000 → 4 ≤ length lines
four_lines lines is = elim (cases_lt (length lines) 4) [
  | inl less ↦ absurd (differ (sym (no_version lines less) ∙ is))
  | inr more ↦ more
]
