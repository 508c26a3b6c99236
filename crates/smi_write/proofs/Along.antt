-- A test of each place of a text, along its tokens.
use Rattle.std.proofs.Common.{◌≡◌, ◌∙◌, ℕ, zero, suc, ◌+◌, ◌≤◌, List, [], ◌∷◌, length, reverse, Bool, false, Option, Some, None, ap, sym, subst, inl, inr, arith}
use Rattle.std.specs.Prelude.{slice_get}
use Rattle.std.proofs.lemmas.Bool.{cases_lt}
use Rattle.std.proofs.lemmas.Option.{slice_get-get_or}
use Rattle.smi_graph.specs.declared.role.Role.{Role}
use Rattle.smi_graph.specs.declared.role.Role.TheVariants.{Atom}
use Rattle.smi_graph.specs.Order.{tokens_before}
use Rattle.smi_graph.proofs.Prefixes.{tokens_before_more, slice_get_end, all_before}

-- no token fails the test behind those before it
abbrev pub Along : (List Role → Option Role → Bool) → List Role → Type 0
Along test [] = Unit {0}
Along test (k ∷ before) = Along test before × (test before (Some k) ≡ false)

-- from the end back to a place; `left` places lie behind it
front : (test : List Role → Option Role → Bool) (ks : List Role) (i left : ℕ) → i + left ≡ length ks → Along test (reverse ks) → Along test (tokens_before ks i)
front test ks i zero e h = subst (λ (n : ℕ). Along test (tokens_before ks n)) (let same : length ks ≡ i = omega arith in same) (subst (λ (x : List Role). Along test x) (sym (all_before ks)) h)
front test ks i (suc left) e h =
    let later = front test ks (i + 1) left (omega arith) h in
    let more = subst (λ (x : List Role). Along test x) (tokens_before_more ks i (Atom false) (omega arith)) later in more.0

left_over : (i n : ℕ) → i ≤ n → (left : ℕ) × (i + left ≡ n)
left_over zero n le = (n, omega arith)
left_over (suc i) n le = let (left, e) = left_over i n (omega arith) in by_left left e
  where
    by_left : (left : ℕ) → i + left ≡ n → (left' : ℕ) × (suc i + left' ≡ n)
    by_left zero e = absurd (omega arith)
    by_left (suc left) e = (left, omega arith)

-- nothing fails at any place
pub at_places : (test : List Role → Option Role → Bool) (ks : List Role) → Along test (reverse ks) → test (reverse ks) None ≡ false
    → (i : ℕ) → i ≤ length ks → test (tokens_before ks i) (slice_get ks i) ≡ false
at_places test ks h end i le = elim (cases_lt i (length ks)) [
  | inl less ↦
      let (left, e) = left_over (i + 1) (length ks) (omega arith) in
      let later = front test ks (i + 1) left e h in
      let more = subst (λ (x : List Role). Along test x) (tokens_before_more ks i (Atom false) less) later in
      ap (test (tokens_before ks i)) (slice_get-get_or ks i (Atom false) less) ∙ more.1
  | inr ge ↦
      let same : length ks ≡ i = omega arith in
      subst (λ (n : ℕ). test (tokens_before ks n) (slice_get ks n) ≡ false) same
      (ap (test (tokens_before ks (length ks))) (slice_get_end ks) ∙ ap (λ (x : List Role). test x None) (all_before ks) ∙ end)
]
