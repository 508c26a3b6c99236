-- A record that is too long: what was found of it, and what was passed behind that.
use Rattle.std.proofs.Common.{arith, ◌≡◌, ◌∙◌, ℕ, ◌+◌, ◌≤◌, ◌||◌, if◌then◌else◌, Bool, true, false, not, List, [], ◌∷◌, ◌++◌, length, drop, Option, Some, None, refl, ap, sym, subst, inl, inr}
use Rattle.std.specs.Prelude.{◌⊎◌, IsTrue, is_some, option_to_list}
use Rattle.std.specs.List.{list_any}
use Rattle.std.proofs.lemmas.Bool.{false≢true}
use Rattle.std.proofs.lemmas.List.{append_assoc, append-nil, drop_all, length-append, length-drop}
use Rattle.std.proofs.lemmas.List.Folds.{list_any-append}
use Rattle.mc_base.specs.declared.kind.Kind.{Kind}
use Rattle.mc_base.specs.declared.span.Span.{Span}
use Rattle.mc_io.specs.declared.read_stop.ReadStop.{ReadStop}
use Rattle.mc_io.specs.declared.read_stop.ReadStop.TheVariants.{ReadFault, InputLimit, NoMemory}
use Rattle.mc_io.specs.Buffered.{Buffered}
use Rattle.mc_io.specs.Causes.{Rose}
use Rattle.mc_io.specs.FoundLines.{Fills}
use Rattle.mc_io.specs.Outside.{Input, Takes}
use Rattle.mc_io.proofs.Fillings.{fills_alike, fills_trans, was_going}
use Rattle.ct_sd.specs.Columns.{is_blank_text}
use Rattle.ct_sd.specs.Faults.{first_of}
use Rattle.ct_sd.specs.FoundRecords.{AreSpans, FindsEnd, FindsLong, FindsRecord, Goes, IsFoundLong, IsFoundRecord, IsFront, Passes, Reaches, ShowsFirst, Stops, StopsWithin}
use Rattle.ct_sd.specs.Ranges.{part}
use Rattle.ct_sd.specs.Records.{Run, counted_lines, ended_records, has_end, is_record, joined, most_record_bytes, says_something, sd_records, too_long}
use Rattle.ct_sd.proofs.FedLines.{count_is, few_lines, say_is, spans_on}
use Rattle.ct_sd.proofs.Goings.{goes_alike}
use Rattle.ct_sd.proofs.Fronts.{behind, first_too_long, front_behind, front_records, none_behind}

-- reads, then reads behind a part that is passed
unfoldable pub goes_both : (limit at : ℕ) (ranges : List Span) (old mid next new : Buffered) (before x after : Input) → (r : Reaches limit old mid before x) → IsFoundLong at mid.held mid.ended ranges → next ≡ record mid { held = drop at mid.held }
    → (h : Goes limit next new x after) → Goes limit old new before after
goes_both limit at ranges old mid next new before x after r long moved h =
    let g = r.goes in
    let alike : Fills old next before x g.bytes = fills_alike old mid next before x g.bytes g.fills (ap (λ (b : Buffered). b.input) moved) (ap (λ (b : Buffered). b.taken) moved) (ap (λ (b : Buffered). b.ended) moved) in record {
      bytes = g.bytes ++ h.bytes;
      fills = fills_trans old next new before x after g.bytes h.bytes alike h.fills;
      small = h.small;
      within = λ low. h.within (let first = g.within low in let same : next.taken ≡ mid.taken = ap (λ (b : Buffered). b.taken) moved in omega arith);
      unread = by_both g.unread h.unread;
    }
  where
    none : ended_records next.held ≡ [] → ended_records mid.held ≡ []
    none is = ap ended_records long.split ∙ none_behind long.lines (drop at mid.held) long.plain (ap ended_records (sym (ap (λ (b : Buffered). b.held) moved)) ∙ is)

    by_both : (((x ≡ before) × (r.goes.bytes ≡ [])) ⊎ (ended_records old.held ≡ [])) → (((after ≡ x) × (h.bytes ≡ [])) ⊎ (ended_records next.held ≡ []))
        → (((after ≡ before) × (r.goes.bytes ++ h.bytes ≡ [])) ⊎ (ended_records old.held ≡ []))
    by_both (inr before_that) second = inr before_that
    by_both (inl first) (inl second) = inl (second.0 ∙ first.0, ap (λ (t : List ℕ). t ++ h.bytes) first.1 ∙ second.1)
    by_both (inl first) (inr later) =
        inr (ap ended_records (sym (append-nil old.held) ∙ (ap (λ (t : List ℕ). old.held ++ t) (sym first.1) ∙ sym r.held)) ∙ none later)

-- a stop within what is passed
pub stops_both : (limit at : ℕ) (ranges : List Span) (stop : ReadStop) (old mid next new : Buffered) (before x after : Input) → (r : Reaches limit old mid before x) → IsFoundLong at mid.held mid.ended ranges → next ≡ record mid { held = drop at mid.held }
    → Stops limit stop next new x after → Stops limit stop old new before after
stops_both limit at ranges stop old mid next new before x after r long moved = by_stop stop
  where
    within : (last : List ℕ) → StopsWithin limit next new x after last → StopsWithin limit old new before after last
    within last s =
        let g = r.goes in
        let alike : Fills old next before x g.bytes = fills_alike old mid next before x g.bytes g.fills (ap (λ (b : Buffered). b.input) moved) (ap (λ (b : Buffered). b.taken) moved) (ap (λ (b : Buffered). b.ended) moved) in
        let taken = alike.taken in
        let size = length-append g.bytes s.front in record {
          front = g.bytes ++ s.front;
          fills = subst (λ (t : List ℕ). Fills old new before after t) (sym (append_assoc g.bytes s.front last)) (fills_trans old next new before x after g.bytes (s.front ++ last) alike s.fills);
          few = s.few;
          going = was_going old next before x g.bytes alike s.going;
          none =
              ap ended_records (sym (append_assoc old.held g.bytes s.front) ∙ (ap (λ (t : List ℕ). t ++ s.front) (sym r.held ∙ long.split) ∙ append_assoc (joined long.lines) (drop at mid.held) s.front))
              ∙ none_behind long.lines (drop at mid.held ++ s.front) long.plain (ap (λ (t : List ℕ). ended_records (t ++ s.front)) (sym (ap (λ (b : Buffered). b.held) moved)) ∙ s.none);
          small = let small = s.small in omega arith;
          within = λ low. let first = g.within low in let same : next.taken ≡ mid.taken = ap (λ (b : Buffered). b.taken) moved in let later = s.within (omega arith) in omega arith;
        }

    rose : (p q r : Input) (bytes : List ℕ) → Takes p q bytes → Rose q.faults r.faults → Rose p.faults r.faults
    rose p q r bytes takes later = let first = takes.later in omega arith

    by_stop : (s : ReadStop) → Stops limit s next new x after → Stops limit s old new before after
    by_stop ReadFault s = (within [] s.0, rose before x after r.goes.bytes r.goes.fills.takes s.1, s.2)
    by_stop InputLimit s = (s.0, within s.0 s.1, s.2, s.3)
    by_stop NoMemory s = goes_both limit at ranges old mid next new before x after r long moved s

-- the run behind the lines before it
says_behind : (lines : List (List ℕ)) (run : Run) (said : Bool) → said ≡ list_any says_something lines → (said || is_record run) ≡ is_record (behind lines run)
says_behind lines run said is = by_end (has_end run) said (list_any says_something lines) (list_any says_something run.lines) is (list_any-append says_something lines run.lines)
  where
    by_end : (e s p q : Bool) → s ≡ p → list_any says_something (lines ++ run.lines) ≡ (p || q) → (s || (e || q)) ≡ (e || list_any says_something (lines ++ run.lines))
    by_end true true p q same joint = refl
    by_end true false p q same joint = refl
    by_end false s p q same joint = ap (λ (t : Bool). t || q) same ∙ sym joint

counted_behind : (lines : List (List ℕ)) (run : Run) (whole : List ℕ) (more : List (List ℕ)) → counted_lines run ≡ whole ∷ more → counted_lines (behind lines run) ≡ lines ++ whole ∷ more
counted_behind lines run whole more is = append_assoc lines run.lines (option_to_list run.end) ∙ ap (λ (t : List (List ℕ)). lines ++ t) is

-- what was passed is a record, by the kind that stands first
pub long_run : (limit at : ℕ) (ranges : List Span) (said : Bool) (kind : Kind) (old mid next new : Buffered) (before x after : Input) → (r : Reaches limit old mid before x) → (long : IsFoundLong at mid.held mid.ended ranges) → next ≡ record mid { held = drop at mid.held }
    → said ≡ list_any says_something long.lines → Passes limit at said (Some kind) next new x after → FindsLong limit (record { kind = kind; place = 1 + length long.lines }) old new before after
unfolding goes_both
long_run limit at ranges said kind old mid next new before x after r long moved says p =
    let lines = long.lines in record {
      run = behind lines p.run;
      finds = record {
        goes = goes_both limit at ranges old mid next new before x after r long moved p.goes;
        front = subst (λ (t : List ℕ). IsFront (behind lines p.run) t new.held new.ended) bytes_are (front_behind lines p.run (next.held ++ p.goes.bytes) new.held new.ended long.plain p.front);
        is_record = sym (says_behind lines p.run said says) ∙ p.tells.is_record;
        within = omega arith;
        few = p.few;
      };
      first =
          ap (λ (t : List (List ℕ)). first_of None (too_long 0 1 t)) (counted_behind lines p.run p.tells.whole p.tells.more p.tells.first)
          ∙ first_too_long lines p.tells.whole p.tells.more kind long.none (subst (λ (n : ℕ). ShowsFirst kind n p.tells.whole) long.at_is p.tells.shows);
    }
  where
    bytes_are : joined long.lines ++ (next.held ++ p.goes.bytes) ≡ old.held ++ (r.goes.bytes ++ p.goes.bytes)
    bytes_are =
        ap (λ (t : List ℕ). joined long.lines ++ (t ++ p.goes.bytes)) (ap (λ (b : Buffered). b.held) moved)
        ∙ (sym (append_assoc (joined long.lines) (drop at mid.held) p.goes.bytes) ∙ (ap (λ (t : List ℕ). t ++ p.goes.bytes) (sym long.split ∙ r.held) ∙ append_assoc old.held r.goes.bytes p.goes.bytes))

-- or none, and the input has ended
pub long_end : (limit at : ℕ) (ranges : List Span) (said : Bool) (old mid next new : Buffered) (before x after : Input) → (r : Reaches limit old mid before x) → (long : IsFoundLong at mid.held mid.ended ranges) → next ≡ record mid { held = drop at mid.held }
    → said ≡ list_any says_something long.lines → Passes limit at said None next new x after → FindsEnd limit old new before after
unfolding goes_both
long_end limit at ranges said old mid next new before x after r long moved says p = by_front p.front
  where
    run : Run
    run = behind long.lines p.run

    bytes_are : joined long.lines ++ (next.held ++ p.goes.bytes) ≡ old.held ++ (r.goes.bytes ++ p.goes.bytes)
    bytes_are =
        ap (λ (t : List ℕ). joined long.lines ++ (t ++ p.goes.bytes)) (ap (λ (b : Buffered). b.held) moved)
        ∙ (sym (append_assoc (joined long.lines) (drop at mid.held) p.goes.bytes) ∙ (ap (λ (t : List ℕ). t ++ p.goes.bytes) (sym long.split ∙ r.held) ∙ append_assoc old.held r.goes.bytes p.goes.bytes))

    no_record : is_record (behind long.lines p.run) ≡ false
    no_record = sym (says_behind long.lines p.run said says) ∙ p.tells

    by_front : IsFront p.run (next.held ++ p.goes.bytes) new.held new.ended → FindsEnd limit old new before after
    by_front (inl c) = absurd (false≢true (sym no_record ∙ ap (λ (e : Option (List ℕ)). is_some e || list_any says_something (long.lines ++ p.run.lines)) c.end))
    by_front (inr l) = record {
      goes = goes_both limit at ranges old mid next new before x after r long moved p.goes;
      none =
          ap sd_records (sym bytes_are ∙ sym (append-nil (joined long.lines ++ (next.held ++ p.goes.bytes))))
          ∙ (front_records (behind long.lines p.run) (joined long.lines ++ (next.held ++ p.goes.bytes)) new.held [] new.ended (front_behind long.lines p.run (next.held ++ p.goes.bytes) new.held new.ended long.plain p.front) (λ e. refl)
          ∙ (ap (λ (t : Bool). (if t then behind long.lines p.run ∷ [] else []) ++ sd_records (new.held ++ [])) no_record ∙ ap (λ (t : List ℕ). sd_records (t ++ [])) l.none));
      empty = l.none;
      ended = l.end;
    }

-- ---- what was found is passed, or is a record within the limits

pub few_ranges : (at : ℕ) (held : List ℕ) (ended : Bool) (ranges : List Span) → IsFoundLong at held ended ranges → length ranges ≤ most_record_bytes
few_ranges at held ended ranges long =
    let count = count_is (joined long.lines) ranges long.lines long.spans in
    let few = few_lines long.lines long.plain in
    let size = long.at_is in
    let short = long.short in omega arith

-- its ranges are parts of all that is held
pub long_spans : (at : ℕ) (held : List ℕ) (ended : Bool) (ranges : List Span) → (long : IsFoundLong at held ended ranges) → AreSpans held ranges long.lines
long_spans at held ended ranges long = subst (λ (t : List ℕ). AreSpans t ranges long.lines) (sym long.split) (spans_on (joined long.lines) (drop at held) ranges long.lines long.spans)

pub said_is : (at : ℕ) (held : List ℕ) (ended : Bool) (ranges : List Span) (bytes : List ℕ) (said : Bool) → (long : IsFoundLong at held ended ranges) → bytes ≡ held → said ≡ list_any (λ (r : Span). not (is_blank_text (part bytes r))) ranges → said ≡ list_any says_something long.lines
said_is at held ended ranges bytes said long is says =
    says ∙ (ap (λ (t : List ℕ). list_any (λ (r : Span). not (is_blank_text (part t r))) ranges) is ∙ say_is held ranges long.lines (long_spans at held ended ranges long))

pub place_is : (at : ℕ) (held : List ℕ) (ended : Bool) (ranges : List Span) → (long : IsFoundLong at held ended ranges) → 1 + length long.lines ≡ length ranges + 1
place_is at held ended ranges long = let count = count_is (joined long.lines) ranges long.lines long.spans in omega arith

pub found_record : (limit count : ℕ) (ranges : List Span) (old new : Buffered) (before after : Input) → Reaches limit old new before after → IsFoundRecord count new.held new.ended ranges → FindsRecord limit count old new before after ranges
found_record limit count ranges old new before after r f = record {
  run = f.run;
  finds = record {
    goes = r.goes;
    front = subst (λ (t : List ℕ). IsFront f.run t (drop count new.held) new.ended) r.held f.front;
    is_record = f.is_record;
    within = f.within;
    few = let size = length-drop count new.held in let far = f.beyond in omega arith;
  };
  none = f.none;
  spans = f.spans;
}

pub found_end : (limit : ℕ) (old mid new : Buffered) (before after : Input) → Reaches limit old mid before after → sd_records mid.held ≡ [] → IsTrue mid.ended → new ≡ record mid { held = drop (length mid.held) mid.held } → FindsEnd limit old new before after
unfolding goes_alike
found_end limit old mid new before after r none end moved = record {
  goes = goes_alike limit old mid new before after r.goes (ap (λ (b : Buffered). b.input) moved) (ap (λ (b : Buffered). b.taken) moved) (ap (λ (b : Buffered). b.ended) moved);
  none = ap sd_records (sym r.held) ∙ none;
  empty = ap (λ (b : Buffered). b.held) moved ∙ drop_all (length mid.held) mid.held (omega arith);
  ended = ap (λ (b : Buffered). b.ended) moved ∙ end;
}

-- no more bytes are held than were taken
pub reached_few : (limit : ℕ) (old new : Buffered) (before after : Input) → Reaches limit old new before after → length old.held ≤ old.taken → length new.held ≤ new.taken
reached_few limit old new before after r few =
    let size = ap length r.held in
    let n = length-append old.held r.goes.bytes in
    let taken = r.goes.fills.taken in omega arith
