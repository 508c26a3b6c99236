-- What is known of a line by its bytes, one after the other, is what its whole says.
use Rattle.std.proofs.Common.{arith, ◌≡◌, ◌∙◌, ℕ, zero, suc, ◌+◌, ◌==◌, ◌&&◌, Bool, true, false, not, if◌then◌else◌, List, [], ◌∷◌, ◌++◌, length, take, Option, Some, None, refl, ap, sym}
use Rattle.std.specs.Prelude.{codes, nat_eq, nat_lt, replicate}
use Rattle.std.specs.Cmp.Lexicographic.{pointwise}
use Rattle.std.specs.List.{list_all, starts_with}
use Rattle.std.proofs.lemmas.Bool.Decides.{nat_tests}
use Rattle.mc_digits.specs.Fields.{is_blank}
use Rattle.mc_io.specs.Lines.{carriage_return, is_long, most_bytes, onto_text, text_of}
use Rattle.ct_sd.specs.declared.line_so_far.LineSoFar.{LineSoFar}
use Rattle.ct_sd.specs.declared.line_so_far.Said.{Said}
use Rattle.ct_sd.specs.declared.line_so_far.Said.TheVariants.{Blanks, Returns, Something}
use Rattle.ct_sd.specs.Columns.{is_blank_text}
use Rattle.ct_sd.specs.LinesSoFar.{after, ends_here, is_long_so_far, is_something, none_yet, say, step, want}

pub after_joined : (line : LineSoFar) (xs ys : List ℕ) → after line (xs ++ ys) ≡ after (after line xs) ys
after_joined line [] ys = refl
after_joined line (b ∷ xs) ys = after_joined (step line b) xs ys

pub after_len : (line : LineSoFar) (xs : List ℕ) → (after line xs).len ≡ line.len + length xs
after_len line [] = omega arith
after_len line (b ∷ xs) = let e = after_len (step line b) xs in omega arith

abbrev are_returns : List ℕ → Bool
are_returns xs = list_all (λ b. b == carriage_return) xs

and_behind : (p q r : Bool) → ((p && q) && r) ≡ (p && (q && r))
and_behind true q r = refl
and_behind false q r = refl

and_true : (p : Bool) → p ≡ (p && true)
and_true true = refl
and_true false = refl

after_returns : (line : LineSoFar) (xs : List ℕ) → (after line xs).returns ≡ (line.returns && are_returns xs)
after_returns line [] = and_true line.returns
after_returns line (b ∷ xs) = after_returns (step line b) xs ∙ and_behind line.returns (b == carriage_return) (are_returns xs)

pub long_is : (piece : List ℕ) → is_long_so_far (after none_yet piece) ≡ is_long piece
long_is piece = rw (after_len none_yet piece, after_returns none_yet piece) (ap (λ (n : ℕ). nat_lt most_bytes n && not (are_returns piece)) (let e : 0 + length piece ≡ length piece = omega arith in e))

-- ---- the line that ends a record

abbrev wanted_after : Option ℕ → List ℕ → Option ℕ
wanted_after wanted [] = wanted
wanted_after wanted (b ∷ xs) = wanted_after (want wanted b) xs

after_wanted : (line : LineSoFar) (xs : List ℕ) → (after line xs).wanted ≡ wanted_after line.wanted xs
after_wanted line [] = refl
after_wanted line (b ∷ xs) = after_wanted (step line b) xs

none_stays : (xs : List ℕ) → wanted_after None xs ≡ None
none_stays [] = refl
none_stays (b ∷ xs) = none_stays xs

zero_stays : (xs : List ℕ) → wanted_after (Some 0) xs ≡ Some 0
zero_stays [] = refl
zero_stays (b ∷ xs) = zero_stays xs

turned : (b c : ℕ) → nat_eq c b ≡ (b == c)
turned b c = grind (arith, nat_tests)

wanted_is : (n : ℕ) (xs : List ℕ) → ends_here (wanted_after (Some n) xs) ≡ pointwise nat_eq (replicate n 36) (take n xs)
wanted_is zero xs = ap ends_here (zero_stays xs)
wanted_is (suc n) [] = refl
wanted_is (suc n) (b ∷ xs) = by_test (b == 36) refl (wanted_is n xs)
  where
    by_test : (t : Bool) → (b == 36) ≡ t → ends_here (wanted_after (Some n) xs) ≡ pointwise nat_eq (replicate n 36) (take n xs) → ends_here (wanted_after (if t then Some n else None) xs) ≡ (nat_eq 36 b && pointwise nat_eq (replicate n 36) (take n xs))
    by_test true is later = later ∙ ap (λ (t : Bool). t && pointwise nat_eq (replicate n 36) (take n xs)) (sym (turned b 36 ∙ is))
    by_test false is later = ap ends_here (none_stays xs) ∙ ap (λ (t : Bool). t && pointwise nat_eq (replicate n 36) (take n xs)) (sym (turned b 36 ∙ is))

pub ends_is : (piece : List ℕ) → ends_here (after none_yet piece).wanted ≡ starts_with nat_eq piece (codes "$$$$")
ends_is piece = ap ends_here (after_wanted none_yet piece) ∙ wanted_is 4 piece

-- ---- what its text says

abbrev said_after : Said → List ℕ → Said
said_after said [] = said
said_after said (b ∷ xs) = said_after (say said b) xs

after_said : (line : LineSoFar) (xs : List ℕ) → (after line xs).said ≡ said_after line.said xs
after_said line [] = refl
after_said line (b ∷ xs) = after_said (step line b) xs

something_stays : (xs : List ℕ) → said_after Something xs ≡ Something
something_stays [] = refl
something_stays (b ∷ xs) = something_stays xs

-- a text has no byte
abbrev is_none : List ℕ → Bool
is_none [] = true
is_none (b ∷ xs) = false

-- behind a carriage return the text ends unless something comes
returns_is : (xs : List ℕ) → is_something (said_after Returns xs) ≡ not (is_none (text_of xs))
returns_is [] = refl
returns_is (b ∷ xs) = by_test (b == carriage_return) refl (returns_is xs)
  where
    none : (t : Bool) (text : List ℕ) → (b == carriage_return) ≡ t → is_none (onto_text b text) ≡ (if t then is_none text else false)
    none true [] is = ap (λ (s : Bool). is_none (if s then [] else b ∷ [])) is
    none false [] is = ap (λ (s : Bool). is_none (if s then [] else b ∷ [])) is
    none true (c ∷ text) is = refl
    none false (c ∷ text) is = refl

    by_test : (t : Bool) → (b == carriage_return) ≡ t → is_something (said_after Returns xs) ≡ not (is_none (text_of xs))
        → is_something (said_after (if t then Returns else Something) xs) ≡ not (is_none (onto_text b (text_of xs)))
    by_test true is later = later ∙ ap not (sym (none true (text_of xs) is))
    by_test false is later = ap is_something (something_stays xs) ∙ ap not (sym (none false (text_of xs) is))

no_return : (b : ℕ) → is_blank b ≡ true → (b == carriage_return) ≡ false
no_return b is = grind (arith, nat_tests)

no_blank : (b : ℕ) → (b == carriage_return) ≡ true → is_blank b ≡ false
no_blank b is = grind (arith, nat_tests)

blanks_is : (xs : List ℕ) → is_something (said_after Blanks xs) ≡ not (is_blank_text (text_of xs))
blanks_is [] = refl
blanks_is (b ∷ xs) = by_blank (is_blank b) refl (b == carriage_return) refl (blanks_is xs)
  where
    -- a byte that isn't a carriage return is of the text
    kept : (text : List ℕ) → (b == carriage_return) ≡ false → onto_text b text ≡ b ∷ text
    kept [] other = ap (λ (t : Bool). if t then [] else b ∷ []) other
    kept (c ∷ text) other = refl

    ended : (text : List ℕ) → (b == carriage_return) ≡ true → is_blank b ≡ false → not (is_none text) ≡ not (is_blank_text (onto_text b text))
    ended [] is other = ap (λ (t : Bool). not (is_blank_text (if t then [] else b ∷ []))) (sym is)
    ended (c ∷ text) is other = ap (λ (t : Bool). not (t && is_blank_text (c ∷ text))) (sym other)

    by_blank : (t : Bool) → is_blank b ≡ t → (r : Bool) → (b == carriage_return) ≡ r → is_something (said_after Blanks xs) ≡ not (is_blank_text (text_of xs))
        → is_something (said_after (if t then Blanks else (if r then Returns else Something)) xs) ≡ not (is_blank_text (onto_text b (text_of xs)))
    by_blank true is r other later = later ∙ ap not (sym (ap is_blank_text (kept (text_of xs) (no_return b is)) ∙ ap (λ (t : Bool). t && is_blank_text (text_of xs)) is))
    by_blank false is true other later = returns_is xs ∙ ended (text_of xs) other is
    by_blank false is false other later = ap is_something (something_stays xs) ∙ ap not (sym (ap is_blank_text (kept (text_of xs) other) ∙ ap (λ (t : Bool). t && is_blank_text (text_of xs)) is))

pub says_is : (piece : List ℕ) → is_something (after none_yet piece).said ≡ not (is_blank_text (text_of piece))
says_is piece = ap is_something (after_said none_yet piece) ∙ blanks_is piece
