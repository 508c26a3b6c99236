-- Each bond that is read has its symbol.
use Rattle.std.proofs.Common.{◌≡◌, ℕ, zero, suc, List, [], ◌∷◌, ◌++◌, Bool, true, false, refl, ap, ◌∙◌, Option, None}
use Rattle.std.specs.Prelude.{◌==◌, nat_le, if◌then◌else◌}
use Rattle.std.proofs.lemmas.Bool.{eqb-true}
use Rattle.smi_lex.specs.declared.token.BondMark.{BondMark}
use Rattle.smi_graph.specs.declared.text_bond.TextBond.{TextBond}
use Rattle.smi_mean.specs.RingNumbers.{Pair, new_pair, opened, ending, kept, insert, sorted, partners, onto_all, active, closing}
use Rattle.smi_write.proofs.RoleText.{links, parent_bond, bonds_from}

-- each bond has the symbol of its atoms' bond, at its first atom, and no other
abbrev pub HasSymbols : (ℕ → ℕ → Option BondMark) → List TextBond → Type 0
HasSymbols v [] = Unit {0}
HasSymbols v (b ∷ bs) = ((b.opening ≡ v b.first.0 b.second.0) × (b.closing ≡ None)) × HasSymbols v bs

-- the numbers that are open have the symbols of their bonds
abbrev Fitting : (ℕ → ℕ → Option BondMark) → List Pair → Type 0
Fitting v [] = Unit {0}
Fitting v (p ∷ ps) = (p.symbol ≡ v p.opener p.partner) × Fitting v ps

-- those that end at atom k
abbrev Ending : (ℕ → ℕ → Option BondMark) → ℕ → List Pair → Type 0
Ending v k [] = Unit {0}
Ending v k (p ∷ ps) = (p.symbol ≡ v p.opener k) × Ending v k ps

ending_fits : (v : ℕ → ℕ → Option BondMark) (k : ℕ) (ps : List Pair) → Fitting v ps → Ending v k (ending k ps)
ending_fits v k [] h = tt
ending_fits v k (p ∷ ps) h = by_test (p.partner == k) refl (ending_fits v k ps h.1)
  where
    by_test : (t : Bool) → (p.partner == k) ≡ t → Ending v k (ending k ps) → Ending v k (if t then p ∷ ending k ps else ending k ps)
    by_test true e r = (h.0 ∙ ap (v p.opener) (eqb-true p.partner k e), r)
    by_test false e r = r

kept_fits : (v : ℕ → ℕ → Option BondMark) (k : ℕ) (ps : List Pair) → Fitting v ps → Fitting v (kept k ps)
kept_fits v k [] h = tt
kept_fits v k (p ∷ ps) h = by_test (p.partner == k) (kept_fits v k ps h.1)
  where
    by_test : (t : Bool) → Fitting v (kept k ps) → Fitting v (if t then kept k ps else p ∷ kept k ps)
    by_test true r = r
    by_test false r = (h.0, r)

opened_fits : (v : ℕ → ℕ → Option BondMark) (k : ℕ) (used act : List Pair) (ls : List ℕ) → Fitting v act → Fitting v (onto_all (opened v used k ls) act)
opened_fits v k used act [] h = h
opened_fits v k used act (l ∷ ls) h =
    opened_fits v k (new_pair v used k l ∷ used) (new_pair v used k l ∷ act) ls (refl, h)

active_fits : (v : ℕ → ℕ → Option BondMark) (r : ℕ → ℕ → Bool) (n k : ℕ) → Fitting v (active v r n k)
active_fits v r n zero = tt
active_fits v r n (suc k) = opened_fits v k (active v r n k) (kept k (active v r n k)) (partners r n k) (kept_fits v k (active v r n k) (active_fits v r n k))

insert_fits : (v : ℕ → ℕ → Option BondMark) (k : ℕ) (p : Pair) (qs : List Pair) → p.symbol ≡ v p.opener k → Ending v k qs → Ending v k (insert p qs)
insert_fits v k p [] e h = (e, tt)
insert_fits v k p (q ∷ qs) e h = by_test (nat_le p.number q.number) (insert_fits v k p qs e h.1)
  where
    by_test : (t : Bool) → Ending v k (insert p qs) → Ending v k (if t then p ∷ q ∷ qs else q ∷ insert p qs)
    by_test true r = (e, h)
    by_test false r = (h.0, r)

sorted_fits : (v : ℕ → ℕ → Option BondMark) (k : ℕ) (ps : List Pair) → Ending v k ps → Ending v k (sorted ps)
sorted_fits v k [] h = tt
sorted_fits v k (p ∷ ps) h = insert_fits v k p (sorted ps) h.0 (sorted_fits v k ps h.1)

links_marked : (v : ℕ → ℕ → Option BondMark) (k : ℕ) (ps : List Pair) → Ending v k ps → HasSymbols v (links k ps)
links_marked v k [] h = tt
links_marked v k (p ∷ ps) h = ((h.0, refl), links_marked v k ps h.1)

marked_append : (v : ℕ → ℕ → Option BondMark) (xs ys : List TextBond) → HasSymbols v xs → HasSymbols v ys → HasSymbols v (xs ++ ys)
marked_append v [] ys a b = b
marked_append v (x ∷ xs) ys a b = (a.0, marked_append v xs ys a.1 b)

parent_marked : (v : ℕ → ℕ → Option BondMark) (p k : ℕ) → HasSymbols v (parent_bond v p k)
parent_marked v zero k = tt
parent_marked v (suc p) k = ((refl, refl), tt)

pub has_symbols : (v : ℕ → ℕ → Option BondMark) (r : ℕ → ℕ → Bool) (n k : ℕ) (qs : List ℕ) → HasSymbols v (bonds_from v r n k qs)
has_symbols v r n k [] = tt
has_symbols v r n k (p ∷ qs) =
    marked_append v (parent_bond v p k) (links k (closing v r n k) ++ bonds_from v r n (suc k) qs) (parent_marked v p k)
    (marked_append v (links k (closing v r n k)) (bonds_from v r n (suc k) qs)
    (links_marked v k (closing v r n k) (sorted_fits v k (ending k (active v r n k)) (ending_fits v k (active v r n k) (active_fits v r n k))))
    (has_symbols v r n (suc k) qs))
