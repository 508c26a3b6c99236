-- Parts of a buffer.
use Rattle.std.proofs.Common.{arith, ◌≡◌, ◌∙◌, ℕ, ◌+◌, ◌-◌, ◌<◌, ◌≤◌, Bool, true, false, List, [], ◌++◌, length, take, drop, ap, sym, subst, refl}
use Rattle.std.specs.Prelude.{slice_range, IsTrue}
use Rattle.std.proofs.Math.Seq.{take-add}
use Rattle.std.proofs.lemmas.Bool.{false≢true}
use Rattle.std.proofs.lemmas.List.{append-nil, drop-drop, drop-take, length-take-le, length-drop}
use Rattle.mc_io.specs.Buffered.{Buffered, PutsSome, Reads, most_read}
use Rattle.mc_io.specs.Outside.{Input, Takes}

pub slice_length : (bytes : List ℕ) (a e : ℕ) → a ≤ e → e ≤ length bytes → length (slice_range bytes a e) ≡ e - a
slice_length bytes a e order within = length-take-le (e - a) (drop a bytes) (let n = length-drop a bytes in omega arith)

pub slice_parts : (bytes : List ℕ) (a s e : ℕ) → a ≤ s → s ≤ e → slice_range bytes a e ≡ slice_range bytes a s ++ slice_range bytes s e
slice_parts bytes a s e low high =
    let both : e - a ≡ (s - a) + (e - s) = omega arith in
    let at : a + (s - a) ≡ s = omega arith in
    ap (λ (n : ℕ). take n (drop a bytes)) both ∙ take-add (s - a) (e - s) (drop a bytes)
    ∙ ap (λ (x : List ℕ). take (s - a) (drop a bytes) ++ take (e - s) x) (drop-drop (s - a) a bytes ∙ ap (λ (n : ℕ). drop n bytes) at)

pub drop_slice : (bytes : List ℕ) (a e c : ℕ) → a + c ≤ e → drop c (slice_range bytes a e) ≡ slice_range bytes (a + c) e
drop_slice bytes a e c within =
    let both : e - a ≡ c + (e - (a + c)) = omega arith in
    ap (λ (n : ℕ). drop c (take n (drop a bytes))) both ∙ drop-take c (e - (a + c)) (drop a bytes) ∙ ap (take (e - (a + c))) (drop-drop c a bytes)

-- a part is known from what stands before its end
pub slice_of_front : (bytes : List ℕ) (a e : ℕ) → a ≤ e → slice_range bytes a e ≡ drop a (take e bytes)
slice_of_front bytes a e order =
    let both : e ≡ a + (e - a) = omega arith in
    sym (ap (λ (n : ℕ). drop a (take n bytes)) both ∙ drop-take a (e - a) bytes)

pub same_slice : (old new : List ℕ) (a e : ℕ) → a ≤ e → take e new ≡ take e old → slice_range new a e ≡ slice_range old a e
same_slice old new a e order same = slice_of_front new a e order ∙ ap (drop a) same ∙ sym (slice_of_front old a e order)

-- bytes put behind a part
pub slice_grown : (old new : List ℕ) (a e n : ℕ) → a ≤ e → take e new ≡ take e old → slice_range new a (e + n) ≡ slice_range old a e ++ slice_range new e (e + n)
slice_grown old new a e n order same =
    slice_parts new a e (e + n) order (omega arith) ∙ ap (λ (x : List ℕ). x ++ slice_range new e (e + n)) (same_slice old new a e order same)

-- ---- what a buffer holds

abbrev made : ℕ → List ℕ → ℕ → Bool → ℕ → Buffered
made i h t e r = record { input = i; held = h; taken = t; ended = e; room = r }

-- where bytes are passed
pub passed_is : (b : List ℕ) (from to n i t : ℕ) (e : Bool) (old : Buffered) → record { input = i; held = slice_range b from to; taken = t; ended = e; room = length b } ≡ old → from ≤ to → to ≤ length b → n ≤ length old.held
    → record { input = i; held = slice_range b (from + n) to; taken = t; ended = e; room = length b } ≡ record old { held = drop n old.held }
passed_is b from to n i t e old is order within few =
    subst (λ (o : Buffered). n ≤ length o.held → made i (slice_range b (from + n) to) t e (length b) ≡ record o { held = drop n o.held }) is
    (λ le. let size = slice_length b from to order within in ap (λ (h : List ℕ). made i h t e (length b)) (sym (drop_slice b from to n (omega arith)))) few

-- where a read put bytes behind what is held
read_behind : (old : Buffered) (moved roomed put : List ℕ) (at n : ℕ) (before after : Input) (e : Bool) (size : ℕ) → take at moved ≡ old.held → take at roomed ≡ take at moved → PutsSome at n roomed put before after → 0 < n → e ≡ false
    → Reads old (record { input = old.input; held = slice_range put 0 (at + n); taken = old.taken + n; ended = e; room = size }) before after
read_behind old moved roomed put at n before after e size held kept puts some going = record {
  bytes = slice_range put at (at + n);
  adds = record {
    takes = puts.takes;
    input = refl;
    held = slice_parts put 0 at (at + n) (omega arith) (omega arith) ∙ ap (λ (x : List ℕ). x ++ slice_range put at (at + n)) (slice_of_front put 0 at (omega arith) ∙ puts.stays.front ∙ kept ∙ held);
    taken = let n_is = read_size in omega arith;
  };
  few = let n_is = read_size in let few = puts.few in omega arith;
  ended = λ end. absurd (false≢true (sym going ∙ end));
  going = λ _. (let n_is = read_size in omega arith, puts.going some);
}
  where
    read_size : length (slice_range put at (at + n)) ≡ n
    read_size = let size = slice_length put at (at + n) (omega arith) puts.within in omega arith

-- and behind what was moved to the front
pub read_is : (b moved roomed put : List ℕ) (from to i t n : ℕ) (e : Bool) (size : ℕ) (old : Buffered) (x y : ℕ → Input) → record { input = i; held = slice_range b from to; taken = t; ended = e; room = length b } ≡ old
    → take (to - from) moved ≡ slice_range b from to → take (to - from) roomed ≡ take (to - from) moved → PutsSome (to - from) n roomed put (x i) (y i) → 0 < n → old.ended ≡ false
    → Reads old (record { input = i; held = slice_range put 0 (to - from + n); taken = t + n; ended = e; room = size }) (x old.input) (y old.input)
read_is b moved roomed put from to i t n e size old x y is held kept puts some going =
    subst (λ (o : Buffered). o.ended ≡ false → Reads o (made i (slice_range put 0 (to - from + n)) (t + n) e size) (x o.input) (y o.input)) is
    (λ going. read_behind (made i (slice_range b from to) t e (length b)) moved roomed put (to - from) n (x i) (y i) e size held kept puts some going) going
