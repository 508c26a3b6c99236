-- The first token whose ring number is open.
use Rattle.std.proofs.Common.{arith, ◌≡◌, ◌∙◌, ℕ, zero, suc, ◌+◌, ◌≤◌, ◌<◌, List, [], ◌∷◌, length, get_or, Bool, true, false, Option, Some, None, refl, ap, sym, inl, inr}
use Rattle.std.specs.Prelude.{◌⊎◌, nat_lt, if◌then◌else◌}
use Rattle.std.proofs.lemmas.Bool.{cases_lt, cases_eq}
use Rattle.std.proofs.lemmas.Bool.Decides.{nat_tests}
use Rattle.std.proofs.lemmas.Option.{same_Some}
use Rattle.smi_graph.specs.declared.ring_table.RingEnd.{RingEnd}
use Rattle.smi_graph.specs.declared.role.Role.{Role}
use Rattle.smi_graph.specs.Bonds.{open_end}
use Rattle.smi_graph.specs.RingTables.{lesser, IsFirstEnd, IsFirstOpen}

no_end : (a : RingEnd) → None ≡ Some a → ⊥
no_end a h = cc

-- one more number
pub one_more : (ends : List (Option RingEnd)) (i : ℕ) (first : Option ℕ) (end : Option RingEnd) → get_or ends i None ≡ end → IsFirstEnd ends i first → IsFirstEnd ends (i + 1) (lesser first end)
one_more ends i None None is h = λ n less. elim (cases_eq n i) [
  | inl e ↦ ap (λ (x : ℕ). get_or ends x None) e ∙ is
  | inr ne ↦ h n (omega arith)
]
one_more ends i None (Some end) is h = (
  (i, end, is, refl),
  λ n other less at. elim (cases_eq n i) [
    | inl e ↦ let same : end ≡ other = same_Some end other (sym is ∙ (ap (λ (x : ℕ). get_or ends x None) (sym e) ∙ at)) in let t = ap (λ (x : RingEnd). x.token) same in omega arith
    | inr ne ↦ absurd (no_end other (sym (h n (omega arith)) ∙ at))
  ],
)
one_more ends i (Some token) None is h = (
  h.0,
  λ n other less at. elim (cases_eq n i) [
    | inl e ↦ absurd (no_end other (sym is ∙ (ap (λ (x : ℕ). get_or ends x None) (sym e) ∙ at)))
    | inr ne ↦ h.1 n other (omega arith) at
  ],
)
one_more ends i (Some token) (Some end) is h = by_test (nat_lt end.token token) refl
  where
    later : (n : ℕ) (other : RingEnd) → n < i + 1 → get_or ends n None ≡ Some other → (end.token ≤ other.token) ⊎ (token ≤ other.token)
    later n other less at = elim (cases_eq n i) [
      | inl e ↦ let same : end ≡ other = same_Some end other (sym is ∙ (ap (λ (x : ℕ). get_or ends x None) (sym e) ∙ at)) in let t = ap (λ (x : RingEnd). x.token) same in inl (omega arith)
      | inr ne ↦ inr (h.1 n other (omega arith) at)
    ]

    below : nat_lt end.token token ≡ true → end.token < token
    below t = grind (arith, nat_tests)

    above : nat_lt end.token token ≡ false → token ≤ end.token
    above t = grind (arith, nat_tests)

    by_test : (t : Bool) → nat_lt end.token token ≡ t → IsFirstEnd ends (i + 1) (Some (if t then end.token else token))
    by_test true t = ((i, end, is, refl), λ n other less at. let b = below t in elim (later n other less at) [ inl low ↦ low | inr high ↦ omega arith ])
    by_test false t = (h.0, λ n other less at. let a = above t in elim (later n other less at) [ inl low ↦ omega arith | inr high ↦ high ])

beyond : (ends : List (Option RingEnd)) (n : ℕ) → length ends ≤ n → get_or ends n None ≡ None
beyond [] n le = refl
beyond (x ∷ ends) zero le = absurd (omega arith)
beyond (x ∷ ends) (suc n) le = beyond ends n (omega arith)

-- the ends of the numbers are all there are
pub first_open_is : (before : List Role) (ends : List (Option RingEnd)) (first : Option ℕ) → ((n : ℕ) → get_or ends n None ≡ open_end n before) → IsFirstEnd ends (length ends) first → IsFirstOpen before first
first_open_is before ends None are h = λ n. sym (are n) ∙ (elim (cases_lt n (length ends)) [
  | inl less ↦ h n less
  | inr more ↦ beyond ends n (omega arith)
])
first_open_is before ends (Some token) are ((n, end, is, same), least) = (
  (n, end, sym (are n) ∙ is, same),
  λ k other at. elim (cases_lt k (length ends)) [
    | inl less ↦ least k other less (are k ∙ at)
    | inr more ↦ absurd (no_end other (sym (beyond ends k (omega arith)) ∙ (are k ∙ at)))
  ],
)
