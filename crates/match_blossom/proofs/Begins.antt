-- The tree of a root alone in its arrays.
use Rattle.std.proofs.Common.{◌≡◌, ℕ, ◌<◌, List, [], ◌∷◌, length, get_or, set, drop, true, refl, ap, sym, ◌∙◌, inl, inr, arith, subst}
use Rattle.std.proofs.lemmas.Bool.{cases_eq, false≢true}
use Rattle.std.proofs.lemmas.List.{get_or-set_same, get_or-set_other, length-set}
use Rattle.match_blossom.specs.declared.tree.Label.{Label}
use Rattle.match_blossom.specs.declared.tree.Label.TheVariants.{Outside, Outer}
use Rattle.match_blossom.specs.declared.cycles.Cycles.{Cycles}
use Rattle.match_blossom.specs.Labels.{at, is_outer, says_outer}
use Rattle.match_blossom.specs.Stack.{foldings_of}
use Rattle.match_blossom.specs.Forest.{IsQueue, IsTouched, stacked}

drop_all : (xs : List ℕ) → drop (length xs) xs ≡ []
drop_all [] = refl
drop_all (x ∷ xs) = drop_all xs

pub no_sizes : (xs : List ℕ) (k : ℕ) → k ≡ length xs → drop k xs ≡ []
no_sizes xs k e = ap (λ (j : ℕ). drop j xs) e ∙ drop_all xs

pub no_cycles : (c : Cycles) → c.height ≡ length c.sizes.items → stacked c ≡ []
no_cycles c e = ap (λ (xs : List ℕ). foldings_of xs (drop c.top c.nodes.items)) (no_sizes c.sizes.items c.height e)

first_place : (list : List ℕ) (x k : ℕ) → 0 < length list → k < 1 → at (set list 0 x) k ≡ x
first_place list x k some less = let e : k ≡ 0 = omega arith in ap (at (set list 0 x)) e ∙ get_or-set_same list 0 x 0 some

outer_root : (labels : List Label) (root : ℕ) → root < length labels → is_outer (set labels root Outer) root ≡ true
outer_root labels root less = ap says_outer (get_or-set_same labels root Outer Outside less)

pub queue_begins : (g : List (List ℕ)) (labels : List Label) (root : ℕ) (queue : List ℕ) → root < length g → root < length labels → 0 < length queue → ((u : ℕ) → get_or labels u Outside ≡ Outside)
    → IsQueue g (set labels root Outer) (λ u. u) (set queue 0 root) 1
queue_begins g labels root queue below less some none = record {
  below = λ k within. subst (λ (x : ℕ). x < length g) (sym (first_place queue root k some within)) below;
  outer = λ k within. ap (is_outer (set labels root Outer)) (first_place queue root k some within) ∙ outer_root labels root less;
  each = λ u within o. elim (cases_eq u root) [
    | inl e ↦ (0, omega arith, omega arith, first_place queue root 0 some (omega arith) ∙ sym e)
    | inr ne ↦ absurd (false≢true (sym (ap says_outer (get_or-set_other labels root u Outer Outside ne ∙ none u)) ∙ o))
  ];
}

pub touched_begins : (labels : List Label) (root : ℕ) (base touched : List ℕ) → root < length labels → root < length base → 0 < length touched → ((u : ℕ) → get_or labels u Outside ≡ Outside) → ((u : ℕ) → u < length base → at base u ≡ u)
    → IsTouched (set labels root Outer) base (set touched 0 root) 1
touched_begins labels root base touched less below some none own = record {
  below = λ k within. let e = first_place touched root k some within in let long = length-set labels root Outer in (omega arith, omega arith);
  labelled = λ u. elim (cases_eq u root) [
    | inl e ↦ inr (0, omega arith, omega arith, first_place touched root 0 some (omega arith) ∙ sym e)
    | inr ne ↦ inl (get_or-set_other labels root u Outer Outside ne ∙ none u)
  ];
  pointed = λ u within. inl (own u within);
}
