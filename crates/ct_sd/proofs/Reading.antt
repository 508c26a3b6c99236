-- A field is read from the columns that a line has.
use Rattle.std.proofs.Common.{arith, take, drop, zero, suc, ◌≤◌, ◌<◌, ◌^◌, subst, pos, ◌≡◌, ◌∙◌, ℕ, ◌+◌, ◌-◌, List, [], ◌∷◌, ◌++◌, Bool, true, false, Option, Some, None, refl, ap, sym, if◌then◌else◌, ℤ}
use Rattle.std.specs.Prelude.{replicate, length, unsigned_abs, IfSome, IsTrue, int_le, nat_le, negsuc, ◌&&◌}
use Rattle.std.proofs.lemmas.Bool.Decides.{nat_tests}
use Rattle.ct_sd.specs.declared.field.Field.{Field}
use Rattle.ct_sd.specs.declared.field.Grammar.{Grammar}
use Rattle.ct_sd.specs.declared.field.Grammar.TheVariants.{Count, Fixed}
use Rattle.ct_sd.specs.Columns.{cut, columns}
use Rattle.ct_sd.specs.Fields.{field_shows, number_of, or_zero, read, shown_by, value, within, is_within}
use Rattle.ct_sd.proofs.Bounds.{HasAtMost, count_small, grown}
use Rattle.ct_sd.proofs.Padding.{count_padded, fixed_padded}

number_padded : (grammar : Grammar) (text : List ℕ) (n : ℕ) → number_of grammar (text ++ replicate n 32) ≡ number_of grammar text
number_padded Count text n = count_padded text n
number_padded Fixed text n = fixed_padded text n

pub read_is : (f : Field) (line : List ℕ) → read f line ≡ within f (number_of f.grammar (cut f.from f.to line))
read_is f line = ap (within f) (number_padded f.grammar (cut f.from f.to line) (f.to + 1 - f.from - length (cut f.from f.to line)))

-- ---- how great a value may be

pub few_columns : (from to : ℕ) (line : List ℕ) → length (cut from to line) ≤ to + 1 - from
few_columns from to line = at_most (to + 1 - from) (drop (from - 1) line)
  where
    at_most : (n : ℕ) (text : List ℕ) → length (take n text) ≤ n
    at_most zero text = omega arith
    at_most (suc n) [] = omega arith
    at_most (suc n) (b ∷ text) = let h : length (take n text) ≤ n = at_most n text in omega arith

within_few : (digits : ℕ) (f : Field) (number : Option ℤ) → HasAtMost digits number → unsigned_abs (or_zero (within f number)) < 10 ^ digits
within_few digits f None few = grown 0 0 digits (omega arith) (omega arith)
within_few digits f (Some n) few = by_test (is_within f n)
  where
    by_test : (t : Bool) → unsigned_abs (or_zero (if t then Some n else None)) < 10 ^ digits
    by_test true = few
    by_test false = grown 0 0 digits (omega arith) (omega arith)

pub value_few : (f : Field) (line : List ℕ) → f.grammar ≡ Count → unsigned_abs (value f line) < 10 ^ (f.to + 1 - f.from)
unfolding value
value_few f line is =
    subst (λ (x : Option ℤ). unsigned_abs (or_zero x) < 10 ^ (f.to + 1 - f.from)) (sym (read_is f line))
    (within_few (f.to + 1 - f.from) f (number_of f.grammar (cut f.from f.to line))
    (subst (λ (g : Grammar). HasAtMost (f.to + 1 - f.from) (number_of g (cut f.from f.to line))) (sym is) (count_small (cut f.from f.to line) (f.to + 1 - f.from) (few_columns f.from f.to line))))

pub value_within : (f : Field) (line : List ℕ) → IsTrue (is_within f (pos 0)) → IsTrue (is_within f (value f line))
unfolding value
value_within f line zero_is = by_number (number_of f.grammar (columns f.from f.to line))
  where
    by_test : (n : ℤ) (t : Bool) → is_within f n ≡ t → IsTrue (is_within f (or_zero (if t then Some n else None)))
    by_test n true is = is
    by_test n false is = zero_is

    by_number : (number : Option ℤ) → IsTrue (is_within f (or_zero (within f number)))
    by_number None = zero_is
    by_number (Some n) = by_test n (is_within f n) refl

nat_small : (l k m : ℕ) → (nat_le l k && nat_le k m) ≡ true → k ≤ m
nat_small l k m is = grind (arith, nat_tests)

-- a field whose least number isn't negative has no number above its greatest
pub value_most : (f : Field) (line : List ℕ) (l m : ℕ) → f.least ≡ pos l → f.most ≡ pos m → unsigned_abs (value f line) ≤ m
unfolding value
value_most f line l m low high = by_number (number_of f.grammar (columns f.from f.to line))
  where
    between : ℤ → Bool
    between n = int_le (pos l) n && int_le n (pos m)

    same : (n : ℤ) → is_within f n ≡ between n
    same n = ap (λ (k : ℤ). int_le k n && int_le n f.most) low ∙ ap (λ (h : ℤ). int_le (pos l) n && int_le n h) high

    small : (n : ℤ) → between n ≡ true → unsigned_abs n ≤ m
    small (pos k) is = nat_small l k m is
    small (negsuc k) is = absurd cc

    by_test : (n : ℤ) (t : Bool) → is_within f n ≡ t → unsigned_abs (or_zero (if t then Some n else None)) ≤ m
    by_test n true is = small n (sym (same n) ∙ is)
    by_test n false is = omega arith

    by_number : (number : Option ℤ) → unsigned_abs (or_zero (within f number)) ≤ m
    by_number None = omega arith
    by_number (Some n) = by_test n (is_within f n) refl

nat_large : (l k : ℕ) (high : Bool) → (nat_le l k && high) ≡ true → l ≤ k
nat_large l k true is = grind (arith, nat_tests)
nat_large l k false is = grind (arith, nat_tests)

-- a field that shows nothing has no number below its least
pub value_least : (f : Field) (line : List ℕ) (l : ℕ) → f.least ≡ pos l → field_shows f line ≡ [] → l ≤ unsigned_abs (value f line)
unfolding value field_shows
value_least f line l low none = by_number (number_of f.grammar (columns f.from f.to line)) none
  where
    large : (n : ℤ) → (int_le (pos l) n && int_le n f.most) ≡ true → l ≤ unsigned_abs n
    large (pos k) is = nat_large l k (int_le (pos k) f.most) is
    large (negsuc k) is = absurd cc

    by_test : (n : ℤ) (t : Bool) → is_within f n ≡ t → shown_by f (if t then Some n else None) ≡ [] → l ≤ unsigned_abs (or_zero (if t then Some n else None))
    by_test n true is shows = large n (sym (ap (λ (k : ℤ). int_le k n && int_le n f.most) low) ∙ is)
    by_test n false is shows = absurd cc

    by_number : (number : Option ℤ) → shown_by f (within f number) ≡ [] → l ≤ unsigned_abs (or_zero (within f number))
    by_number None shows = absurd cc
    by_number (Some n) shows = by_test n (is_within f n) refl shows

pub read_most : (f : Field) (line : List ℕ) (l m : ℕ) → f.least ≡ pos l → f.most ≡ pos m → IfSome (read f line) (λ (n : ℤ). unsigned_abs n ≤ m)
unfolding value
read_most f line l m low high = by_number (read f line) (value_most f line l m low high)
  where
    by_number : (number : Option ℤ) → unsigned_abs (or_zero number) ≤ m → IfSome number (λ (n : ℤ). unsigned_abs n ≤ m)
    by_number None small = tt
    by_number (Some n) small = small
