-- Steps of reading, put together.
use Rattle.std.proofs.Common.{arith, ◌≡◌, ◌∙◌, ℕ, ◌<◌, ◌≤◌, ◌==◌, true, false, List, length, [], ◌∷◌, ◌++◌, filter, map, Option, Some, None, refl, sym, ap, subst}
use Rattle.std.specs.Prelude.{Ok}
use Rattle.std.proofs.lemmas.Bool.Decides.{nat_tests}
use Rattle.std.proofs.lemmas.List.{append_assoc, length-append}
use Rattle.mc_io.specs.Causes.{Rose}
use Rattle.mc_io.specs.Outside.{SameBut, Input}
use Rattle.mc_io.specs.Lines.{lines_of}
use Rattle.mc_io.specs.LineReader.{LineReader, Reading, TakesLines}
use Rattle.mc_io.proofs.Takings.{takes_none as none_taken, takes_trans as more_taken}
use Rattle.mc_convert.specs.declared.formats.Origin.{Origin}
use Rattle.mc_convert.specs.declared.formats.Origin.TheVariants.{Smi}
use Rattle.mc_convert.specs.Records.{Record}
use Rattle.mc_convert.specs.Records.{is_record, line_record, records}
use Rattle.mc_convert.specs.declared.records.Passed.{Passed}
use Rattle.mc_convert.specs.declared.records.Passed.TheVariants.{Line, TooLong}
use Rattle.mc_convert.specs.Readers.{GivesLine, HasEnded, IsEmptyLine, TakesRecords}

-- the same by way of a time between
pub same_but_trans : {A : Type 0} (k : ℕ) (a b c : ℕ → A) → SameBut k a b → SameBut k b c → SameBut k a c
same_but_trans k a b c p q = λ i other. q i other ∙ p i other

-- nothing was taken
pub reading_none : (reader : LineReader) (now : Input) → Reading reader reader now now
reading_none reader now = record { input = refl; bytes = []; takes = none_taken now; taken = omega arith; few = λ less. less; at_end = λ ends. ends }

-- more was taken
pub reading_trans : (a b c : LineReader) (x y z : Input) → Reading a b x y → Reading b c y z → Reading a c x z
reading_trans a b c x y z p q =
    let first = p.taken in
    let second = q.taken in
    let more = length-append p.bytes q.bytes in record {
      input = q.input ∙ p.input;
      bytes = p.bytes ++ q.bytes;
      takes = more_taken x y z p.bytes q.bytes p.takes q.takes;
      taken = omega arith;
      few = λ less. q.few (p.few less);
      at_end = λ ends. q.at_end (p.at_end ends);
    }

-- the same by the inputs of the readers
pub reading_on : (start now next : LineReader) (x y z : ℕ → Input) → now.input ≡ start.input → Reading start now (x start.input) (y start.input) → Reading now next (y now.input) (z now.input)
    → Reading start next (x start.input) (z start.input)
reading_on start now next x y z same p q =
    let P : ℕ → Type 0 = λ i. Reading now next (y i) (z i) in
    reading_trans start now next (x start.input) (y start.input) (z start.input) p (subst P same q)

pub same_on : {A : Type 0} (k j : ℕ) (x y z : ℕ → A) → j ≡ k → SameBut k x y → SameBut j y z → SameBut k x z
same_on k j x y z same p q = same_but_trans k x y z p (subst (λ (i : ℕ). SameBut i y z) same q)

-- a rise counts from any earlier time
pub rose_later : (a b c : ℕ) → a ≤ b → Rose b c → Rose a c
rose_later a b c less rose = omega arith

-- ---- records

-- some, and then more
pub takes_trans : (from : Origin) (a b c : Option (List ℕ)) (xs ys : List Record) → TakesRecords from a b xs → TakesRecords from b c ys → TakesRecords from a c (xs ++ ys)
takes_trans from None b c xs ys p q = tt
takes_trans from (Some a) None c xs ys p q = absurd p
takes_trans from (Some a) (Some b) None xs ys p q = absurd q
takes_trans from (Some a) (Some b) (Some c) xs ys p q = p ∙ ap (λ l. xs ++ l) q ∙ sym (append_assoc xs ys (records from c))

-- of no bytes there are none
pub records_of_none : (from : Origin) → records from [] ≡ []
records_of_none Smi = refl

-- an empty line is no record
pub empty_passed : (input all rest : Option (List ℕ)) (text : List ℕ) → TakesRecords Smi input all [] → TakesLines all rest (Some text ∷ []) → text ≡ [] → TakesRecords Smi input rest []
empty_passed None all rest text first takes none = tt
empty_passed (Some i) None rest text first takes none = absurd first
empty_passed (Some i) (Some a) None text first takes none = absurd takes
empty_passed (Some i) (Some a) (Some r) text first takes none = first ∙ ap (λ (lines : List (Option (List ℕ))). map line_record (filter is_record lines)) (takes ∙ ap (λ (t : List ℕ). Some t ∷ lines_of r) none)

pub next_empty : (next : Option Passed) (input all rest : Option (List ℕ)) (text : List ℕ) → TakesRecords Smi input all [] → GivesLine (Ok next) all rest text → IsEmptyLine text next → TakesRecords Smi input rest []
next_empty None input all rest text first gives none = absurd none
next_empty (Some Line) input all rest text first gives none = empty_passed input all rest text first gives none
next_empty (Some TooLong) input all rest text first gives none = absurd none

pub is_within : (limit : ℕ) (next : Option Passed) (new : LineReader) (before after : Input) → HasEnded limit (Ok next) new before after → new.taken ≤ limit
is_within limit None new before after h = h.0
is_within limit (Some passed) new before after h = h

-- a line of no bytes is empty, and another isn't
is_zero : (n : ℕ) → true ≡ (n == 0) → n ≡ 0
is_zero n is = grind (arith, nat_tests)

is_positive : (n : ℕ) → false ≡ (n == 0) → 0 < n
is_positive n is = grind (arith, nat_tests)

pub is_empty_text : (line text : List ℕ) → line ≡ text → true ≡ (length line == 0) → text ≡ []
is_empty_text [] text same none = sym same
is_empty_text (b ∷ line) text same none = let is = is_zero (length (b ∷ line)) none in absurd (omega arith)

pub is_some_text : (line text : List ℕ) → line ≡ text → false ≡ (length line == 0) → 0 < length text
is_some_text line text same some = subst (λ (l : List ℕ). 0 < length l) same (is_positive (length line) some)

-- none
pub takes_none : (from : Origin) (a : Option (List ℕ)) → TakesRecords from a a []
takes_none from None = tt
takes_none from (Some a) = refl
