-- Where the depth is 0 at the end, each branch is closed.
use Rattle.std.proofs.Common.{◌≡◌, ℕ, zero, suc, ◌+◌, ◌≤◌, ◌<◌, List, [], ◌∷◌, ◌++◌, length, get_or, take, drop, reverse, true, false, Option, Some, None, refl, ap, sym, ◌∙◌, subst, inl, inr, arith}
use Rattle.std.specs.Prelude.{◌&&◌, slice_get}
use Rattle.std.proofs.lemmas.Bool.{cases_lt, false≢true, and_parts, false_from_ne_true}
use Rattle.std.proofs.lemmas.List.{take-append-drop}
use Rattle.std.proofs.lemmas.Option.{slice_get-get_or, same_Some}
use mathlib.Core.List.{reverse_aux}
use Rattle.smi_graph.specs.declared.role.Role.{Role}
use Rattle.smi_graph.specs.declared.role.Role.TheVariants.{Atom, Bond, Ring, Enter, Leave, Dot}
use Rattle.smi_graph.specs.Order.{depth, depth_behind, tokens_before, unclosed_at, stays_open, is_enter}
use Rattle.smi_graph.proofs.Prefixes.{tokens_before_more, slice_get_end}

depth_enter : (o : Option ℕ) (d : ℕ) → depth_behind o Enter ≡ Some d → (c : ℕ) × (o ≡ Some c) × (d ≡ c + 1)
depth_enter None d h = cc
depth_enter (Some c) d h = (c, refl, sym (same_Some (c + 1) d h))

depth_leave : (o : Option ℕ) (d : ℕ) → depth_behind o Leave ≡ Some d → o ≡ Some (suc d)
depth_leave None d h = cc
depth_leave (Some zero) d h = cc
depth_leave (Some (suc c)) d h = let e : c ≡ d = same_Some c d h in ap (λ (n : ℕ). Some (suc n)) e

-- a token that changes no depth
depth_keep : (o : Option ℕ) (k : Role) (d : ℕ) → ((c : ℕ) → depth_behind (Some c) k ≡ Some c) → depth_behind o k ≡ Some d → o ≡ Some d
depth_keep None k d same h = cc
depth_keep (Some c) k d same h = sym (same c) ∙ h

-- the depth at the end is at least that before, less the level that may be lost
floor : (rest before : List Role) (d l e : ℕ) → depth before ≡ Some d → stays_open l rest ≡ true → depth (reverse_aux rest before) ≡ Some e → d ≤ e + l
floor [] before d l e deep stays end = let s : d ≡ e = same_Some d e (sym deep ∙ end) in omega arith
floor (Atom lower ∷ rest) before d l e deep stays end = floor rest (Atom lower ∷ before) d l e (ap (λ (o : Option ℕ). depth_behind o (Atom lower)) deep) stays end
floor (Bond mark ∷ rest) before d l e deep stays end = floor rest (Bond mark ∷ before) d l e (ap (λ (o : Option ℕ). depth_behind o (Bond mark)) deep) stays end
floor (Ring number ∷ rest) before d l e deep stays end = floor rest (Ring number ∷ before) d l e (ap (λ (o : Option ℕ). depth_behind o (Ring number)) deep) stays end
floor (Dot ∷ rest) before d l e deep stays end = floor rest (Dot ∷ before) d l e (ap (λ (o : Option ℕ). depth_behind o Dot) deep) stays end
floor (Enter ∷ rest) before d l e deep stays end = let h = floor rest (Enter ∷ before) (d + 1) (suc l) e (ap (λ (o : Option ℕ). depth_behind o Enter) deep) stays end in omega arith
floor (Leave ∷ rest) before d zero e deep stays end = absurd (false≢true stays)
floor (Leave ∷ rest) before zero (suc l) e deep stays end = omega arith
floor (Leave ∷ rest) before (suc d) (suc l) e deep stays end = let h = floor rest (Leave ∷ before) d l e (ap (λ (o : Option ℕ). depth_behind o Leave) deep) stays end in omega arith

reverse_aux_append : (xs ys acc : List Role) → reverse_aux (xs ++ ys) acc ≡ reverse_aux ys (reverse_aux xs acc)
reverse_aux_append [] ys acc = refl
reverse_aux_append (x ∷ xs) ys acc = reverse_aux_append xs ys (x ∷ acc)

reverse_split : (ks : List Role) (i : ℕ) → reverse ks ≡ reverse_aux (drop i ks) (tokens_before ks i)
reverse_split ks i = ap reverse (sym (take-append-drop i ks)) ∙ reverse_aux_append (take i ks) (drop i ks) []

enter_is : (k : Role) → is_enter (Some k) ≡ true → k ≡ Enter
enter_is (Atom lower) h = absurd (false≢true h)
enter_is (Bond mark) h = absurd (false≢true h)
enter_is (Ring number) h = absurd (false≢true h)
enter_is Enter h = refl
enter_is Leave h = absurd (false≢true h)
enter_is Dot h = absurd (false≢true h)

depth_front : (rest before : List Role) (e : ℕ) → depth (reverse_aux rest before) ≡ Some e → (d : ℕ) × (depth before ≡ Some d)
depth_front [] before e h = (e, h)
depth_front (Atom lower ∷ rest) before e h = let (d, is) = depth_front rest (Atom lower ∷ before) e h in (d, depth_keep (depth before) (Atom lower) d (λ c. refl) is)
depth_front (Bond mark ∷ rest) before e h = let (d, is) = depth_front rest (Bond mark ∷ before) e h in (d, depth_keep (depth before) (Bond mark) d (λ c. refl) is)
depth_front (Ring number ∷ rest) before e h = let (d, is) = depth_front rest (Ring number ∷ before) e h in (d, depth_keep (depth before) (Ring number) d (λ c. refl) is)
depth_front (Dot ∷ rest) before e h = let (d, is) = depth_front rest (Dot ∷ before) e h in (d, depth_keep (depth before) Dot d (λ c. refl) is)
depth_front (Enter ∷ rest) before e h = let (d, is) = depth_front rest (Enter ∷ before) e h in let r = depth_enter (depth before) d is in (r.0, r.1)
depth_front (Leave ∷ rest) before e h = let (d, is) = depth_front rest (Leave ∷ before) e h in (suc d, depth_leave (depth before) d is)

closed_here : (ks : List Role) → depth (reverse ks) ≡ Some 0 → (j : ℕ) → j < length ks → unclosed_at ks j ≡ false
closed_here ks deep j less = false_from_ne_true (unclosed_at ks j) (λ (h : unclosed_at ks j ≡ true).
    let both = and_parts (is_enter (slice_get ks j)) (stays_open 0 (drop (j + 1) ks)) h in
    let k : get_or ks j Enter ≡ Enter = enter_is (get_or ks j Enter) (ap is_enter (sym (slice_get-get_or ks j Enter less)) ∙ both.0) in
    let end : depth (reverse_aux (drop (j + 1) ks) (tokens_before ks (j + 1))) ≡ Some 0 = ap depth (sym (reverse_split ks (j + 1))) ∙ deep in
    let (c, is) = depth_front (drop (j + 1) ks) (tokens_before ks (j + 1)) 0 end in
    let here : depth (Enter ∷ tokens_before ks j) ≡ Some c = ap depth (sym (tokens_before_more ks j Enter less ∙ ap (λ (x : Role). x ∷ tokens_before ks j) k)) ∙ is in
    let (d, was, up) = depth_enter (depth (tokens_before ks j)) c here in
    let low = floor (drop (j + 1) ks) (tokens_before ks (j + 1)) c 0 0 is both.1 end in
    omega arith)

pub closed_of : (ks : List Role) → depth (reverse ks) ≡ Some 0 → (j : ℕ) → j ≤ length ks → unclosed_at ks j ≡ false
closed_of ks deep j le = elim (cases_lt j (length ks)) [
  | inl less ↦ closed_here ks deep j less
  | inr ge ↦
      let same : length ks ≡ j = omega arith in
      subst (λ (n : ℕ). unclosed_at ks n ≡ false) same (ap (λ (o : Option Role). is_enter o && stays_open 0 (drop (length ks + 1) ks)) (slice_get_end ks))
]
