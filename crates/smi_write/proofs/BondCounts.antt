-- Each bond is read exactly once.
use Rattle.std.proofs.Common.{◌≡◌, ◌≢◌, ℕ, zero, suc, ◌+◌, ◌≤◌, ◌<◌, List, [], ◌∷◌, ◌++◌, length, get_or, map, Option, Bool, true, false, refl, ap, sym, ◌∙◌, subst, inl, inr, arith}
use Rattle.std.specs.Prelude.{◌==◌, ◌&&◌}
use Rattle.std.proofs.lemmas.Bool.{cases_eq, and_right, ne_eqb}
use Rattle.std.proofs.lemmas.List.{map-append}
use Rattle.mc_mol.specs.declared.parts.Bond.{Bond}
use Rattle.mc_mol.proofs.Halves.{same_test}
use Rattle.smi_lex.specs.declared.token.BondMark.{BondMark}
use Rattle.smi_graph.specs.declared.text_bond.TextBond.{TextBond}
use Rattle.smi_graph.specs.Links.{bond_of}
use Rattle.smi_mean.specs.RingNumbers.{Pair, closing}
use Rattle.smi_write.proofs.RoleText.{links, parent_bond, bonds_from}
use Rattle.smi_write.proofs.Hits.{bit, opener_count}

abbrev pub hit : ℕ → ℕ → Bond → ℕ
hit j l b = bit (b.first.0 == j && b.second.0 == l)

-- how often a bond from j to l stands in a list
abbrev pub bond_count : ℕ → ℕ → List Bond → ℕ
bond_count j l [] = 0
bond_count j l (b ∷ bs) = hit j l b + bond_count j l bs

pub count_append : (j l : ℕ) (xs ys : List Bond) → bond_count j l (xs ++ ys) ≡ bond_count j l xs + bond_count j l ys
count_append j l [] ys = omega arith
count_append j l (x ∷ xs) ys = ap (λ (y : ℕ). hit j l x + y) (count_append j l xs ys) ∙ omega arith

-- how often a text's bond from j to l stands in a list
abbrev pub text_count : ℕ → ℕ → List TextBond → ℕ
text_count j l bs = bond_count j l (map bond_of bs)

pub text_append : (j l : ℕ) (xs ys : List TextBond) → text_count j l (xs ++ ys) ≡ text_count j l xs + text_count j l ys
text_append j l xs ys = ap (bond_count j l) (map-append bond_of xs ys) ∙ count_append j l (map bond_of xs) (map bond_of ys)

and_last : (a b : Bool) → b ≡ true → (a && b) ≡ a
and_last true b h = h
and_last false b h = refl

links_here : (j k : ℕ) (ps : List Pair) → text_count j k (links k ps) ≡ opener_count j ps
links_here j k [] = refl
links_here j k (p ∷ ps) = rw (and_last (p.opener == j) (k == k) (same_test k)) (ap (λ (x : ℕ). bit (p.opener == j) + x) (links_here j k ps))

links_other : (j l k : ℕ) (ps : List Pair) → k ≢ l → text_count j l (links k ps) ≡ 0
links_other j l k [] ne = refl
links_other j l k (p ∷ ps) ne = rw (and_right (p.opener == j) (k == l) (ne_eqb k l ne)) (let h = links_other j l k ps ne in omega arith)

parent_other : (v : ℕ → ℕ → Option BondMark) (j l p k : ℕ) → k ≢ l → text_count j l (parent_bond v p k) ≡ 0
parent_other v j l zero k ne = refl
parent_other v j l (suc p) k ne = rw (and_right (p == j) (k == l) (ne_eqb k l ne)) refl

pub parent_here : (v : ℕ → ℕ → Option BondMark) (j p k : ℕ) → text_count j k (parent_bond v p k) ≡ bit (p == suc j)
parent_here v j zero k = ap bit (sym (ne_eqb 0 (suc j) (omega arith)))
parent_here v j (suc p) k = rw (and_last (p == j) (k == k) (same_test k)) (omega arith ∙ ap bit (same_suc p j))
  where
    same_suc : (p j : ℕ) → (p == j) ≡ (suc p == suc j)
    same_suc p j = elim (cases_eq p j) [ inl e ↦ ap (λ (x : ℕ). x == j) e ∙ same_test j ∙ sym (ap (λ (x : ℕ). suc x == suc j) e ∙ same_test (suc j)) | inr ne ↦ ne_eqb p j ne ∙ sym (ne_eqb (suc p) (suc j) (omega arith)) ]

piece_count : (v : ℕ → ℕ → Option BondMark) (r : ℕ → ℕ → Bool) (n j l k p : ℕ) (qs : List ℕ) → text_count j l (bonds_from v r n k (p ∷ qs)) ≡ text_count j l (parent_bond v p k) + (text_count j l (links k (closing v r n k)) + text_count j l (bonds_from v r n (suc k) qs))
piece_count v r n j l k p qs =
    text_append j l (parent_bond v p k) (links k (closing v r n k) ++ bonds_from v r n (suc k) qs)
    ∙ ap (λ (x : ℕ). text_count j l (parent_bond v p k) + x) (text_append j l (links k (closing v r n k)) (bonds_from v r n (suc k) qs))

sum_other : (v : ℕ → ℕ → Option BondMark) (r : ℕ → ℕ → Bool) (n j l k p : ℕ) (qs : List ℕ) → k ≢ l → text_count j l (bonds_from v r n k (p ∷ qs)) ≡ text_count j l (bonds_from v r n (suc k) qs)
sum_other v r n j l k p qs ne = piece_count v r n j l k p qs ∙ (let a = parent_other v j l p k ne in let b = links_other j l k (closing v r n k) ne in omega arith)

pub count_below : (v : ℕ → ℕ → Option BondMark) (r : ℕ → ℕ → Bool) (n j l k : ℕ) (qs : List ℕ) → l < k → text_count j l (bonds_from v r n k qs) ≡ 0
count_below v r n j l k [] less = refl
count_below v r n j l k (p ∷ qs) less = sum_other v r n j l k p qs (omega arith) ∙ count_below v r n j l (suc k) qs (omega arith)

pub count_above : (v : ℕ → ℕ → Option BondMark) (r : ℕ → ℕ → Bool) (n j l k : ℕ) (qs : List ℕ) → k + length qs ≤ l → text_count j l (bonds_from v r n k qs) ≡ 0
count_above v r n j l k [] le = refl
count_above v r n j l k (p ∷ qs) le = sum_other v r n j l k p qs (omega arith) ∙ count_above v r n j l (suc k) qs (omega arith)

pub count_at : (v : ℕ → ℕ → Option BondMark) (r : ℕ → ℕ → Bool) (n j l k i : ℕ) (qs : List ℕ) → l ≡ k + i → i < length qs
    → text_count j l (bonds_from v r n k qs) ≡ bit (get_or qs i 0 == suc j) + opener_count j (closing v r n l)
count_at v r n j l k i [] e less = absurd (omega arith)
count_at v r n j l k zero (p ∷ qs) e less =
    let same : k ≡ l = omega arith in
    subst (λ (x : ℕ). text_count j x (bonds_from v r n k (p ∷ qs)) ≡ bit (p == suc j) + opener_count j (closing v r n x)) same
    (piece_count v r n j k k p qs ∙ (
    let a = parent_here v j p k in
    let b = links_here j k (closing v r n k) in
    let c = count_below v r n j k (suc k) qs (omega arith) in omega arith))
count_at v r n j l k (suc i) (p ∷ qs) e less = sum_other v r n j l k p qs (omega arith) ∙ count_at v r n j l (suc k) i qs (omega arith) (omega arith)
