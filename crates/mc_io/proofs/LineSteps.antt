-- What a found line says of the bytes ahead.
use Rattle.std.proofs.Common.{arith, ◌≡◌, ◌∙◌, ℕ, suc, ◌+◌, ◌-◌, ◌^◌, ◌<◌, ◌≤◌, ◌==◌, ◌&&◌, nat_lt, Bool, true, false, not, if◌then◌else◌, List, [], ◌∷◌, ◌++◌, length, take, drop, Option, Some, None, refl, ap, sym, subst, inl, inr}
use Rattle.std.specs.Prelude.{◌⊎◌, IsTrue}
use Rattle.std.specs.List.{list_all}
use Rattle.std.specs.Io.KnownBytes.{Consumes, IsAtEnd, prepend_known}
use Rattle.std.proofs.lemmas.Bool.{false≢true}
use Rattle.std.proofs.lemmas.Bool.Decides.{nat_tests}
use Rattle.std.proofs.lemmas.List.{append_assoc, append-nil, length-append, length-drop, take-take, take_all, drop_all}
use Rattle.mc_io.specs.Lines.{line_feed, carriage_return, text_of, most_bytes, is_long, line_of, lines_of, ended_lines, has_feed, IsLineText}
use Rattle.mc_io.specs.Outside.{Input, Takes}
use Rattle.mc_io.specs.Buffered.{Buffered, most_read}
use Rattle.mc_io.specs.LineReader.{TakesLines, ahead_of, Ends, EndsNone, Gives, GivesEnded, IsSound, LineReader, Reading, ahead, reader_of, step_of, step_of_text}
use Rattle.mc_io.specs.FoundLines.{Fills, Finds, FindsNone, FrontIs, IsFrontPiece, IsPiece, Stopped, Stops, over_long, most_room, text_in, text_len}
use Rattle.mc_io.specs.declared.line_finding.FoundLine.{FoundLine}
use Rattle.mc_io.specs.declared.lines.LineStep.{LineStep}
use Rattle.mc_io.specs.declared.lines.LineStep.TheVariants.{Line}
use Rattle.mc_io.specs.declared.read_stop.ReadStop.{ReadStop}
use Rattle.mc_io.specs.declared.read_stop.ReadStop.TheVariants.{ReadFault, InputLimit, NoMemory}
use Rattle.mc_io.proofs.Cutting.{some_text, text_front}
use Rattle.mc_io.proofs.Fillings.{was_going}
use Rattle.mc_io.proofs.FrontPieces.{first_line, last_line, first_ended_line, no_ended_line}
use Rattle.mc_io.proofs.LineTexts.{line_short, line_text}

-- ---- known bytes

-- the line at the front of bytes that are held
front_line : (piece held rest : List ℕ) (ended : Bool) → has_feed piece ≡ false → IsFrontPiece piece held rest ended → lines_of held ≡ line_of piece ∷ lines_of rest
front_line piece held rest ended clear (inl is) = ap lines_of is ∙ first_line piece rest clear
front_line piece held rest ended clear (inr (is, none, some, end)) = ap lines_of is ∙ last_line piece clear some ∙ ap (λ (x : List ℕ). line_of piece ∷ lines_of x) (sym none)

-- and where more stands behind them
more_line : (piece held rest more : List ℕ) (ended : Bool) → has_feed piece ≡ false → IsFrontPiece piece held rest ended → (IsTrue ended → more ≡ []) → lines_of (held ++ more) ≡ line_of piece ∷ lines_of (rest ++ more)
more_line piece held rest more ended clear (inl is) none =
    ap (λ (x : List ℕ). lines_of (x ++ more)) is ∙ ap lines_of (append_assoc piece (line_feed ∷ rest) more) ∙ first_line piece (rest ++ more) clear
more_line piece held rest more ended clear (inr (is, empty, some, end)) none =
    let nothing = none end in
    ap (λ (x : List ℕ). lines_of (held ++ x)) nothing ∙ ap lines_of (append-nil held ∙ is) ∙ last_line piece clear some
    ∙ ap (λ (x : List ℕ). line_of piece ∷ lines_of x) (sym (ap (λ (x : List ℕ). rest ++ x) nothing ∙ append-nil rest ∙ empty))

-- what was read stood in front of what was left
pub read_lines : (held bytes : List ℕ) (left more rest : Option (List ℕ)) (lines : List (Option (List ℕ))) → Consumes left more bytes → TakesLines (prepend_known (held ++ bytes) more) rest lines → TakesLines (prepend_known held left) rest lines
read_lines held bytes None more rest lines took takes = tt
read_lines held bytes (Some l) None rest lines took takes = absurd took
read_lines held bytes (Some l) (Some m) None lines took takes = takes
read_lines held bytes (Some l) (Some m) (Some r) lines took takes = ap (λ (x : List ℕ). lines_of (held ++ x)) took ∙ ap lines_of (sym (append_assoc held bytes m)) ∙ takes

-- a line was passed, whatever was read for it
pub passed_line : (old new : Buffered) (before after : Input) (bytes piece rest : List ℕ) → Fills old new before after bytes → has_feed piece ≡ false → IsFrontPiece piece (old.held ++ bytes) rest new.ended
    → TakesLines (ahead_of old.ended old.held before.left) (ahead_of new.ended rest after.left) (line_of piece ∷ [])
passed_line old new before after bytes piece rest fills clear front = by_end old.ended new.ended refl refl
  where
    by_left : (left : Option (List ℕ)) (ended : Bool) → new.ended ≡ ended → (IsTrue ended → IsAtEnd left) → TakesLines (prepend_known (old.held ++ bytes) left) (ahead_of ended rest left) (line_of piece ∷ [])
    by_left None ended is none = tt
    by_left (Some m) true is none = more_line piece (old.held ++ bytes) rest m new.ended clear front (λ _. none refl) ∙ ap (λ (x : List ℕ). line_of piece ∷ lines_of (rest ++ x)) (none refl) ∙ ap (λ (x : List ℕ). line_of piece ∷ lines_of x) (append-nil rest)
    by_left (Some m) false is none = more_line piece (old.held ++ bytes) rest m new.ended clear front (λ end. absurd (false≢true (sym is ∙ end)))

    by_end : (was ended : Bool) → old.ended ≡ was → new.ended ≡ ended → TakesLines (ahead_of was old.held before.left) (ahead_of ended rest after.left) (line_of piece ∷ [])
    by_end true false was is = absurd (false≢true (sym is ∙ (fills.stays was).0))
    by_end true true was is =
        let none = (fills.stays was).1 in
        ap lines_of (sym (ap (λ (x : List ℕ). old.held ++ x) none ∙ append-nil old.held)) ∙ front_line piece (old.held ++ bytes) rest new.ended clear front
    by_end false true was is = read_lines old.held bytes before.left after.left (Some rest) (line_of piece ∷ []) fills.takes.front (by_left after.left true is at_end)
      where
        at_end : IsTrue true → IsAtEnd after.left
        at_end e = elim (fills.met is) [ inl before_that ↦ absurd (false≢true (sym was ∙ before_that)) | inr met ↦ met.1 ]
    by_end false false was is = read_lines old.held bytes before.left after.left (prepend_known rest after.left) (line_of piece ∷ []) fills.takes.front (by_left after.left false is (λ e. absurd (false≢true e)))

-- and it ended first, whatever stands behind
pub ended_line : (piece held rest later : List ℕ) (ended : Bool) → has_feed piece ≡ false → IsFrontPiece piece held rest ended → ended ≡ false → ended_lines (held ++ later) ≡ line_of piece ∷ ended_lines (rest ++ later)
ended_line piece held rest later ended clear (inl is) going = ap (λ (x : List ℕ). ended_lines (x ++ later)) is ∙ ap ended_lines (append_assoc piece (line_feed ∷ rest) later) ∙ first_ended_line piece (rest ++ later) clear
ended_line piece held rest later ended clear (inr (is, none, some, end)) going = absurd (false≢true (sym going ∙ end))

-- ---- the line of a piece

pub line_is : (piece : List ℕ) (text : ℕ) (long : Bool) → text ≡ length (text_of piece) → long ≡ (nat_lt most_bytes (length piece) && nat_lt 0 text) → line_of piece ≡ text_in (if long then None else Some text) piece
line_is piece text long texts longs =
    let same : long ≡ is_long piece = longs ∙ rw (some_text piece) (ap (λ (n : ℕ). nat_lt most_bytes (length piece) && nat_lt 0 n) texts) in
    let front : take text piece ≡ text_of piece = ap (λ (n : ℕ). take n piece) texts ∙ text_front piece in
    by_long long (is_long piece) same (text_of piece) front
  where
    by_long : (t u : Bool) → t ≡ u → (whole : List ℕ) → take text piece ≡ whole → (if u then None else Some whole) ≡ text_in (if t then None else Some text) piece
    by_long true true same whole front = refl
    by_long false false same whole front = ap Some (sym front)
    by_long true false same whole front = absurd (false≢true (sym same))
    by_long false true same whole front = absurd (false≢true same)

-- a longer one of carriage returns alone is empty
pub long_is : (piece held : List ℕ) (returns : Bool) (whole : ℕ) → most_bytes < length piece → returns ≡ list_all (λ b. b == carriage_return) piece → line_of piece ≡ text_in (over_long returns whole).text held
long_is piece held returns whole long all =
    let far : nat_lt most_bytes (length piece) ≡ true = is_more most_bytes (length piece) long in
    by_all returns all (some_text piece) far
  where
    is_more : (m n : ℕ) → m < n → nat_lt m n ≡ true
    is_more m n less = grind (arith, nat_tests)

    none : (n : ℕ) → false ≡ nat_lt 0 n → n ≡ 0
    none n e = grind (arith, nat_tests)

    no_text : (text : List ℕ) → length text ≡ 0 → text ≡ []
    no_text [] e = refl
    no_text (b ∷ text) e = absurd (omega arith)

    by_all : (t : Bool) → t ≡ list_all (λ b. b == carriage_return) piece → not (list_all (λ b. b == carriage_return) piece) ≡ nat_lt 0 (length (text_of piece)) → nat_lt most_bytes (length piece) ≡ true → line_of piece ≡ text_in (over_long t whole).text held
    by_all true all some far =
        let empty : text_of piece ≡ [] = no_text (text_of piece) (none (length (text_of piece)) (ap not all ∙ some)) in
        rw (far, sym all) (ap Some empty)
    by_all false all some far = rw (far, sym all) refl

-- where it is the front of what is held
pub text_in_front : (n : Option ℕ) (held : List ℕ) (len : ℕ) → text_len n ≤ len → text_in n (take len held) ≡ text_in n held
text_in_front None held len le = refl
text_in_front (Some n) held len le = ap Some (take-take n len held le)

-- ---- lines at the front

pub finds_piece : (old new : Buffered) (before after : Input) (len : ℕ) (line : FoundLine) → FrontIs old new before after (IsPiece len) → line_of (take len new.held) ≡ text_in line.text (take len new.held) → line.whole ≡ len + 1 → text_len line.text ≤ len → Finds line old new before after
finds_piece old new before after len line front is whole text = record {
  bytes = front.bytes;
  fills = front.fills;
  piece = take len new.held;
  clear = front.holds.feed.clear;
  front = inl (sym front.held ∙ front.holds.feed.split ∙ ap (λ (n : ℕ). take len new.held ++ line_feed ∷ drop n new.held) (sym whole));
  is = is ∙ text_in_front line.text new.held len text;
  within = let low = front.holds.feed.within in omega arith;
  text_within = omega arith;
  beyond = let far = front.holds.beyond in omega arith;
}

pub finds_last : (old new : Buffered) (before after : Input) (line : FoundLine) → FrontIs old new before after (λ held. has_feed held ≡ false) → IsTrue new.ended → line_of new.held ≡ text_in line.text new.held → line.whole ≡ length new.held → 0 < length new.held → text_len line.text ≤ line.whole → Finds line old new before after
finds_last old new before after line front end is whole some text = record {
  bytes = front.bytes;
  fills = front.fills;
  piece = new.held;
  clear = front.holds;
  front = inr (sym front.held, ap (λ (n : ℕ). drop n new.held) whole ∙ drop_all (length new.held) new.held (omega arith), some, end);
  is = is;
  within = omega arith;
  text_within = text;
  beyond = omega arith;
}

-- ---- answers

pub found_gives : (old new : Buffered) (before after : Input) (line : FoundLine) (number : ℕ) → Finds line old new before after
    → Gives (step_of_text line.text number) (ahead_of old.ended old.held before.left) (ahead_of new.ended (drop line.whole new.held) after.left) (take (text_len line.text) new.held) number
found_gives old new before after line number f = by_text line.text f.is
  where
    passed : TakesLines (ahead_of old.ended old.held before.left) (ahead_of new.ended (drop line.whole new.held) after.left) (line_of f.piece ∷ [])
    passed = passed_line old new before after f.bytes f.piece (drop line.whole new.held) f.fills f.clear f.front

    by_text : (t : Option ℕ) → line_of f.piece ≡ text_in t new.held → Gives (step_of_text t number) (ahead_of old.ended old.held before.left) (ahead_of new.ended (drop line.whole new.held) after.left) (take (text_len t) new.held) number
    by_text None is = (subst (λ (l : Option (List ℕ)). TakesLines (ahead_of old.ended old.held before.left) (ahead_of new.ended (drop line.whole new.held) after.left) (l ∷ [])) is passed, refl)
    by_text (Some n) is = subst (λ (l : Option (List ℕ)). TakesLines (ahead_of old.ended old.held before.left) (ahead_of new.ended (drop line.whole new.held) after.left) (l ∷ [])) is passed

-- a reader and the bytes that it holds, in a buffer
pub record Has (reader : LineReader) (buffer : Buffered) (held : List ℕ) : Type 0 where
  pub input : reader.input ≡ buffer.input
  pub held_is : reader.held ≡ held
  pub taken : reader.taken ≡ buffer.taken
  pub ended : reader.ended ≡ buffer.ended

-- before a call, where the line that was given last is passed
pub has_passed : (buffer passed : Buffered) (count : ℕ) (line : FoundLine) (answer : Option LineStep) (reader : LineReader) → reader_of buffer count line answer ≡ reader → passed ≡ record buffer { held = drop line.whole buffer.held } → Has reader passed passed.held
has_passed buffer passed count line answer reader is moved = record {
  input = sym (ap (λ (r : LineReader). r.input) is) ∙ sym (ap (λ (b : Buffered). b.input) moved);
  held_is = sym (ap (λ (r : LineReader). r.held) is) ∙ sym (ap (λ (b : Buffered). b.held) moved);
  taken = sym (ap (λ (r : LineReader). r.taken) is) ∙ sym (ap (λ (b : Buffered). b.taken) moved);
  ended = sym (ap (λ (r : LineReader). r.ended) is) ∙ sym (ap (λ (b : Buffered). b.ended) moved);
}

-- and after it
pub has_new : (buffer : Buffered) (count : ℕ) (line : FoundLine) (answer : Option LineStep) → Has (reader_of buffer count line answer) buffer (drop line.whole buffer.held)
has_new buffer count line answer = record { input = refl; held_is = refl; taken = refl; ended = refl }

pub next_gives : (old new : Buffered) (x z : ℕ → Input) (line : FoundLine) (number : ℕ) (answer : Option LineStep) (p : LineReader) → Finds line old new (x old.input) (z old.input) → Has p old old.held
    → Gives (step_of_text line.text number) (ahead p (x p.input).left) (ahead (reader_of new number line answer) (z p.input).left) (take (text_len line.text) new.held) number
next_gives old new x z line number answer p f was =
    let given = found_gives old new (x old.input) (z old.input) line number f in
    let step = step_of_text line.text number in
    let text = take (text_len line.text) new.held in
    let rest = drop line.whole new.held in
    let first : ahead p (x p.input).left ≡ ahead_of old.ended old.held (x old.input).left =
    ap (λ (e : Bool). ahead_of e p.held (x p.input).left) was.ended ∙ ap (λ (h : List ℕ). ahead_of old.ended h (x p.input).left) was.held_is ∙ ap (λ (i : ℕ). ahead_of old.ended old.held (x i).left) was.input in
    subst (λ (a : Option (List ℕ)). Gives step a (ahead_of new.ended rest (z p.input).left) text number) (sym first)
    (subst (λ (i : ℕ). Gives step (ahead_of old.ended old.held (x old.input).left) (ahead_of new.ended rest (z i).left) text number) (sym was.input) given)

pub next_short : (line : FoundLine) (number : ℕ) (piece held : List ℕ) → line_of piece ≡ text_in line.text held → step_of_text line.text number ≡ Line → length (take (text_len line.text) held) ≤ most_bytes
next_short line number piece held is gives = by_text line.text is gives
  where
    by_text : (t : Option ℕ) → line_of piece ≡ text_in t held → step_of_text t number ≡ Line → length (take (text_len t) held) ≤ most_bytes
    by_text None same e = absurd cc
    by_text (Some n) same e = line_short piece (take n held) same

pub next_text : (line : FoundLine) (number : ℕ) (piece held : List ℕ) → has_feed piece ≡ false → line_of piece ≡ text_in line.text held → step_of_text line.text number ≡ Line → IsLineText (take (text_len line.text) held)
next_text line number piece held clear is gives = by_text line.text is gives
  where
    by_text : (t : Option ℕ) → line_of piece ≡ text_in t held → step_of_text t number ≡ Line → IsLineText (take (text_len t) held)
    by_text None same e = absurd cc
    by_text (Some n) same e = line_text piece (take n held) clear same

front_size : (piece held rest : List ℕ) (ended : Bool) → IsFrontPiece piece held rest ended → 1 + length rest ≤ length held
front_size piece held rest ended (inl is) = let size = ap (λ (x : List ℕ). length x) is ∙ length-append piece (line_feed ∷ rest) in let n : length (line_feed ∷ rest) ≡ 1 + length rest = omega arith in omega arith
front_size piece held rest ended (inr (is, none, some, end)) = let size = ap (λ (x : List ℕ). length x) is in let empty = ap (λ (x : List ℕ). length x) none in omega arith

pub next_sound : (old new : Buffered) (before after : Input) (line : FoundLine) (count : ℕ) (answer : Option LineStep) → Finds line old new before after → count + length old.held ≤ old.taken → new.room ≤ most_room → new.taken < 2 ^ 64 → IsSound new (count + 1) line answer
next_sound old new before after line count answer f few room small = record {
  text = f.text_within;
  whole = f.within;
  few = let size = front_size f.piece (old.held ++ f.bytes) (drop line.whole new.held) new.ended f.front in let n = length-append old.held f.bytes in let taken = f.fills.taken in omega arith;
  room = room;
  small = λ _. small;
  beyond = λ _. let size = length-drop line.whole new.held in let far = f.beyond in omega arith;
}

pub found_ends : (limit : ℕ) (old new : Buffered) (before after : Input) (line : FoundLine) (number : ℕ) (p q : LineReader) → Finds line old new before after → Has p old old.held → Has q new (drop line.whole new.held) → q.text ≡ take (text_len line.text) new.held
    → Ends limit (step_of_text line.text number) p q before after
found_ends limit old new before after line number p q f was is text = by_text line.text f.is text
  where
    given : (l : Option (List ℕ)) → line_of f.piece ≡ l → GivesEnded (l ∷ []) p q before after
    given l same = record {
      bytes = f.bytes;
      takes = f.fills.takes;
      taken = let a = was.taken in let b = is.taken in let c = f.fills.taken in omega arith;
      going = λ going. was.ended ∙ was_going old new before after f.bytes f.fills (sym is.ended ∙ going);
      ended = λ going later.
          ap (λ (x : List ℕ). ended_lines ((x ++ f.bytes) ++ later)) was.held_is ∙ ended_line f.piece (old.held ++ f.bytes) (drop line.whole new.held) later new.ended f.clear f.front (sym is.ended ∙ going)
          ∙ ap (λ (x : Option (List ℕ)). x ∷ ended_lines (drop line.whole new.held ++ later)) same ∙ ap (λ (x : List ℕ). l ∷ ended_lines (x ++ later)) (sym is.held_is);
    }

    by_text : (t : Option ℕ) → line_of f.piece ≡ text_in t new.held → q.text ≡ take (text_len t) new.held → Ends limit (step_of_text t number) p q before after
    by_text None same text = given None same
    by_text (Some n) same text = given (Some q.text) (same ∙ ap Some (sym text))

stop_ends : (limit : ℕ) (old new : Buffered) (before after : Input) (last : List ℕ) (p q : LineReader) → Stopped limit old new before after last → Has p old old.held → q.taken ≡ new.taken → EndsNone limit p q before after last
stop_ends limit old new before after last p q s was taken = record {
  front = s.front;
  takes = s.fills.takes;
  taken = let a = was.taken in let c = s.fills.taken in omega arith;
  few = s.few;
  going = was.ended ∙ s.going;
  none = ap (λ (x : List ℕ). ended_lines (x ++ s.front)) was.held_is ∙ no_ended_line (old.held ++ s.front) s.clear;
  within = λ low. let a = was.taken in let c = s.within (omega arith) in omega arith;
}

pub stopped_ends : (limit : ℕ) (stop : ReadStop) (old new : Buffered) (before after : Input) (p q : LineReader) → Stops limit stop old new before after → Has p old old.held → q.taken ≡ new.taken → Ends limit (step_of stop) p q before after
stopped_ends limit ReadFault old new before after p q s was taken = stop_ends limit old new before after [] p q s.0 was taken
stopped_ends limit InputLimit old new before after p q s was taken = (s.0, stop_ends limit old new before after s.0 p q s.1 was taken)
stopped_ends limit NoMemory old new before after p q s was taken = tt

-- ---- what was taken where reading stopped

stopped_reading : (limit : ℕ) (old new : Buffered) (before after : Input) (last : List ℕ) (p q : LineReader) → Stopped limit old new before after last → Has p old old.held → q.input ≡ new.input → q.taken ≡ new.taken → q.ended ≡ new.ended → Reading p q before after
stopped_reading limit old new before after last p q s was input taken ended = record {
  input = input ∙ s.fills.input ∙ sym was.input;
  bytes = s.front ++ last;
  takes = s.fills.takes;
  taken = let a = was.taken in let b = s.fills.taken in omega arith;
  few = λ _. let n = length-append s.front last in let b = s.fills.taken in let small = s.small in let few = s.few in omega arith;
  at_end = λ told end. elim (s.fills.met (sym ended ∙ end)) [
    | inl first ↦ let stays = s.fills.stays first in subst (λ (i : Input). IsTrue i.ended) (sym stays.2) (told (was.ended ∙ first))
    | inr met ↦ met.0
  ];
}

pub stops_reading : (limit : ℕ) (stop : ReadStop) (old new : Buffered) (before after : Input) (p q : LineReader) → Stops limit stop old new before after → Has p old old.held → q.input ≡ new.input → q.taken ≡ new.taken → q.ended ≡ new.ended → Reading p q before after
stops_reading limit ReadFault old new before after p q s was input taken ended = stopped_reading limit old new before after [] p q s.0 was input taken ended
stops_reading limit InputLimit old new before after p q s was input taken ended = stopped_reading limit old new before after s.0 p q s.1 was input taken ended
stops_reading limit NoMemory old new before after p q s was input taken ended = stopped_reading limit old new before after [] p q s was input taken ended
