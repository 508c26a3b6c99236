-- Which parents have a later child.
use Rattle.std.proofs.Common.{◌≡◌, ◌≢◌, ℕ, zero, suc, ◌+◌, ◌≤◌, ◌<◌, List, [], ◌∷◌, ◌++◌, length, take, drop, get_or, slice_set, Bool, true, false, refl, ap, sym, ◌∙◌, inl, inr, arith}
use Rattle.std.specs.Prelude.{◌⊎◌, ◌==◌, ◌||◌, nat_lt}
use Rattle.std.proofs.lemmas.Bool.{cases_lt, cases_eq, ne_eqb}
use Rattle.std.proofs.lemmas.Bool.Decides.{nat_tests}
use Rattle.std.proofs.lemmas.List.{take_more, drop_all, length-take, length_push, get_or-set_same, get_or-set_other}
use Rattle.std.proofs.Math.Bool.{or-true, or-false}
use Rattle.mc_mol.proofs.Lists.{length-slice_set}
use Rattle.mc_mol.proofs.Halves.{same_test}
use Rattle.smi_mean.specs.RingNumbers.{has}
use Rattle.smi_write.specs.WrittenOrder.{LastChildren}

has_push : (p q : ℕ) (qs : List ℕ) → has p (qs ++ q ∷ []) ≡ (has p qs || (q == p))
has_push p q [] = or-false (q == p)
  where
    or-false : (b : Bool) → (b || false) ≡ b
    or-false true = refl
    or-false false = refl
has_push p q (r ∷ qs) = ap (λ (b : Bool). (r == p) || b) (has_push p q qs) ∙ regroup (r == p) (has p qs) (q == p)
  where
    regroup : (a b c : Bool) → (a || (b || c)) ≡ ((a || b) || c)
    regroup true b c = refl
    regroup false b c = refl

drop_push : (n q : ℕ) (qs : List ℕ) → n ≤ length qs → drop n (qs ++ q ∷ []) ≡ drop n qs ++ q ∷ []
drop_push zero q qs le = refl
drop_push (suc n) q [] le = absurd (omega arith)
drop_push (suc n) q (r ∷ qs) le = drop_push n q qs (omega arith)

pub one_more_child : (ps last last' : List ℕ) (n q : ℕ) → LastChildren ps n last → n < length ps → q ≡ get_or ps n 0 → q ≤ length ps → last' ≡ slice_set last q n → LastChildren ps (n + 1) last'
one_more_child ps last last' n q h less is within e =
    let count = h.count in
    let more : take (n + 1) ps ≡ take n ps ++ q ∷ [] = take_more ps n 0 less ∙ ap (λ (x : ℕ). take n ps ++ x ∷ []) (sym is) in
    let len : length (take n ps) ≡ n = length-take n ps ∙ omega arith in
    record {
      count = ap length e ∙ length-slice_set last q n ∙ count;
      later = λ k p le.
          let was = h.later k p le in
          ap (λ (x : List ℕ). has p (drop (k + 1) x)) more ∙ elim (cases_lt k n) [
            | inl below ↦ ap (has p) (drop_push (k + 1) q (take n ps) (omega arith)) ∙ has_push p q (drop (k + 1) (take n ps)) ∙ at_end k p below was (cases_eq q p)
            | inr past ↦
                let nothing : drop (k + 1) (take n ps ++ q ∷ []) ≡ [] = drop_all (k + 1) (take n ps ++ q ∷ []) (let l = length_push (take n ps) q in omega arith) in
                let before : drop (k + 1) (take n ps) ≡ [] = drop_all (k + 1) (take n ps) (omega arith) in
                ap (has p) nothing ∙ past_end k p past (sym was ∙ ap (has p) before) (cases_eq q p)
          ];
    }
  where
    at_end : (k p : ℕ) → k < n → has p (drop (k + 1) (take n ps)) ≡ nat_lt k (get_or last p 0) → (q ≡ p) ⊎ (q ≢ p) → (has p (drop (k + 1) (take n ps)) || (q == p)) ≡ nat_lt k (get_or last' p 0)
    at_end k p below was (inl same) =
        let count = h.count in
        let t : (q == p) ≡ true = ap (λ (x : ℕ). x == p) same ∙ same_test p in
        let at : get_or last' p 0 ≡ n = ap (λ (x : List ℕ). get_or x p 0) e ∙ ap (λ (x : ℕ). get_or (slice_set last q n) x 0) (sym same) ∙ get_or-set_same last q n 0 (omega arith) in
        let less : nat_lt k n ≡ true = grind (arith, nat_tests) in
        rw t (or-true (has p (drop (k + 1) (take n ps)))) ∙ sym (ap (nat_lt k) at ∙ less)
    at_end k p below was (inr ne) =
        let at : get_or last' p 0 ≡ get_or last p 0 = ap (λ (x : List ℕ). get_or x p 0) e ∙ get_or-set_other last q p n 0 (λ x. ne (sym x)) in
        rw (ne_eqb q p ne) (or-false (has p (drop (k + 1) (take n ps)))) ∙ was ∙ ap (nat_lt k) (sym at)

    past_end : (k p : ℕ) → n ≤ k → nat_lt k (get_or last p 0) ≡ false → (q ≡ p) ⊎ (q ≢ p) → false ≡ nat_lt k (get_or last' p 0)
    past_end k p past was (inl same) =
        let count = h.count in
        let at : get_or last' p 0 ≡ n = ap (λ (x : List ℕ). get_or x p 0) e ∙ ap (λ (x : ℕ). get_or (slice_set last q n) x 0) (sym same) ∙ get_or-set_same last q n 0 (omega arith) in
        let no : nat_lt k n ≡ false = grind (arith, nat_tests) in
        sym (ap (nat_lt k) at ∙ no)
    past_end k p past was (inr ne) =
        let at : get_or last' p 0 ≡ get_or last p 0 = ap (λ (x : List ℕ). get_or x p 0) e ∙ get_or-set_other last q p n 0 (λ x. ne (sym x)) in
        sym (ap (nat_lt k) at ∙ was)
