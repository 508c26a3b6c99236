-- Which ring numbers are open, and between which atoms, doesn't depend on the symbols of bonds.
use Rattle.std.proofs.Common.{◌≡◌, ℕ, zero, suc, ◌+◌, List, [], ◌∷◌, length, map, Bool, true, false, Option, None, refl, ap, sym, ◌∙◌}
use Rattle.std.specs.Prelude.{◌==◌, not, nat_le, if◌then◌else◌}
use Rattle.smi_lex.specs.declared.token.BondMark.{BondMark}
use Rattle.smi_mean.specs.Order.{least}
use Rattle.smi_mean.specs.RingNumbers.{Pair, has, value, numbers, free_number, new_pair, opened, ending, kept, insert, sorted, partners, onto_all, active, closing}
use Rattle.smi_mean.specs.WrittenPlaces.{unmarked}

abbrev pub bare : Pair → Pair
bare p = record { number = p.number; opener = p.opener; partner = p.partner; symbol = None }

abbrev all_bare : List Pair → List Pair
all_bare ps = map bare ps

numbers_bare : (ps : List Pair) → numbers (all_bare ps) ≡ numbers ps
numbers_bare [] = refl
numbers_bare (p ∷ ps) = ap (λ (x : List ℕ). p.number ∷ x) (numbers_bare ps)

length_bare : (ps : List Pair) → length (all_bare ps) ≡ length ps
length_bare [] = refl
length_bare (p ∷ ps) = ap suc (length_bare ps)

free_bare : (ps : List Pair) → free_number ps ≡ free_number (all_bare ps)
free_bare ps =
    ap (λ (ns : List ℕ). value (least (λ n. not (has n (0 ∷ ns))) (length ps + 2))) (sym (numbers_bare ps))
    ∙ ap (λ (n : ℕ). value (least (λ m. not (has m (0 ∷ numbers (all_bare ps)))) (n + 2))) (sym (length_bare ps))

opened_bare : (v : ℕ → ℕ → Option BondMark) (used : List Pair) (k : ℕ) (ls : List ℕ) → all_bare (opened v used k ls) ≡ opened (λ j l. unmarked j l) (all_bare used) k ls
opened_bare v used k [] = refl
opened_bare v used k (l ∷ ls) =
    let same : bare (new_pair v used k l) ≡ new_pair (λ j l. unmarked j l) (all_bare used) k l = ap (made k l) (free_bare used) in
    ap (λ (x : List Pair). bare (new_pair v used k l) ∷ x) (opened_bare v (new_pair v used k l ∷ used) k ls)
    ∙ ap (λ (p : Pair). p ∷ opened (λ j l. unmarked j l) (p ∷ all_bare used) k ls) same
  where
    made : ℕ → ℕ → ℕ → Pair
    made k l n = record { number = n; opener = k; partner = l; symbol = None }

kept_bare : (k : ℕ) (ps : List Pair) → all_bare (kept k ps) ≡ kept k (all_bare ps)
kept_bare k [] = refl
kept_bare k (p ∷ ps) = by_test (p.partner == k) (kept_bare k ps)
  where
    by_test : (t : Bool) → all_bare (kept k ps) ≡ kept k (all_bare ps) → all_bare (if t then kept k ps else p ∷ kept k ps) ≡ (if t then kept k (all_bare ps) else bare p ∷ kept k (all_bare ps))
    by_test true h = h
    by_test false h = ap (λ (x : List Pair). bare p ∷ x) h

ending_bare : (k : ℕ) (ps : List Pair) → all_bare (ending k ps) ≡ ending k (all_bare ps)
ending_bare k [] = refl
ending_bare k (p ∷ ps) = by_test (p.partner == k) (ending_bare k ps)
  where
    by_test : (t : Bool) → all_bare (ending k ps) ≡ ending k (all_bare ps) → all_bare (if t then p ∷ ending k ps else ending k ps) ≡ (if t then bare p ∷ ending k (all_bare ps) else ending k (all_bare ps))
    by_test true h = ap (λ (x : List Pair). bare p ∷ x) h
    by_test false h = h

insert_bare : (p : Pair) (qs : List Pair) → all_bare (insert p qs) ≡ insert (bare p) (all_bare qs)
insert_bare p [] = refl
insert_bare p (q ∷ qs) = by_test (nat_le p.number q.number) (insert_bare p qs)
  where
    by_test : (t : Bool) → all_bare (insert p qs) ≡ insert (bare p) (all_bare qs)
        → all_bare (if t then p ∷ q ∷ qs else q ∷ insert p qs) ≡ (if t then bare p ∷ bare q ∷ all_bare qs else bare q ∷ insert (bare p) (all_bare qs))
    by_test true h = refl
    by_test false h = ap (λ (x : List Pair). bare q ∷ x) h

sorted_bare : (ps : List Pair) → all_bare (sorted ps) ≡ sorted (all_bare ps)
sorted_bare [] = refl
sorted_bare (p ∷ ps) = insert_bare p (sorted ps) ∙ ap (insert (bare p)) (sorted_bare ps)

onto_bare : (xs ys : List Pair) → all_bare (onto_all xs ys) ≡ onto_all (all_bare xs) (all_bare ys)
onto_bare [] ys = refl
onto_bare (x ∷ xs) ys = onto_bare xs (x ∷ ys)

active_bare : (v : ℕ → ℕ → Option BondMark) (r : ℕ → ℕ → Bool) (n k : ℕ) → all_bare (active v r n k) ≡ active (λ j l. unmarked j l) r n k
active_bare v r n zero = refl
active_bare v r n (suc k) =
    let act : List Pair = active v r n k in
    let same : all_bare act ≡ active (λ j l. unmarked j l) r n k = active_bare v r n k in
    onto_bare (opened v act k (partners r n k)) (kept k act)
    ∙ ap (λ (x : List Pair). onto_all x (all_bare (kept k act))) (opened_bare v act k (partners r n k))
    ∙ ap (λ (x : List Pair). onto_all (opened (λ j l. unmarked j l) (all_bare act) k (partners r n k)) x) (kept_bare k act)
    ∙ ap (λ (x : List Pair). onto_all (opened (λ j l. unmarked j l) x k (partners r n k)) (kept k x)) same

openers_bare : (ps : List Pair) → map (λ (p : Pair). p.opener) ps ≡ map (λ (p : Pair). p.opener) (all_bare ps)
openers_bare [] = refl
openers_bare (p ∷ ps) = ap (λ (x : List ℕ). p.opener ∷ x) (openers_bare ps)

-- the atoms whose numbers close at an atom, whatever the symbols are
pub same_closers : (v : ℕ → ℕ → Option BondMark) (r : ℕ → ℕ → Bool) (n k : ℕ) → map (λ (p : Pair). p.opener) (closing v r n k) ≡ map (λ (p : Pair). p.opener) (closing (λ j l. unmarked j l) r n k)
same_closers v r n k =
    openers_bare (closing v r n k)
    ∙ ap (map (λ (p : Pair). p.opener)) (sorted_bare (ending k (active v r n k)) ∙ ap sorted (ending_bare k (active v r n k) ∙ ap (ending k) (active_bare v r n k)))
