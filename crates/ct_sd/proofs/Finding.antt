-- How the search for what stands at the front of an input goes on and ends.
use Rattle.std.proofs.Common.{arith, ◌≡◌, ◌∙◌, ℕ, zero, suc, ◌+◌, ◌-◌, ◌^◌, ◌<◌, ◌≤◌, max, Bool, false, List, [], ◌∷◌, ◌++◌, length, take, drop, Some, None, refl, ap, sym, subst, inl, inr}
use Rattle.std.specs.Prelude.{IsTrue}
use Rattle.std.proofs.lemmas.Bool.{false≢true}
use Rattle.std.proofs.lemmas.List.{append_assoc, append-nil, drop-append-le, drop_all, length-append, length-drop, length-take-le, take_all, take-append-drop}
use Rattle.mc_base.specs.declared.span.Span.{Span}
use Rattle.mc_io.specs.Buffered.{Buffered, Reads, most_read}
use Rattle.mc_io.specs.FoundLines.{IsFirstFeed}
use Rattle.mc_io.specs.Lines.{has_feed, line_feed}
use Rattle.mc_io.specs.Outside.{Input}
use Rattle.ct_sd.specs.declared.record_front.Front.{Front}
use Rattle.ct_sd.specs.declared.record_front.Front.TheVariants.{Record, TooLong, Nothing}
use Rattle.ct_sd.specs.declared.record_front.LineRole.TheVariants.{End as EndRole, TooLong as LongRole}
use Rattle.ct_sd.specs.declared.record_front.Met.{Met}
use Rattle.ct_sd.specs.declared.record_front.Met.TheVariants.{End as MetEnd, TooLong as MetLong}
use Rattle.ct_sd.specs.declared.record_front.Scan.{Scan}
use Rattle.ct_sd.specs.FoundRecords.{AreSpans, HasMet, IsFound, IsFoundLong, IsFoundRecord, IsLast, IsScanned, IsSearched, Meets, Plays, Looks, Reaches, front_of, most_room}
use Rattle.ct_sd.specs.Records.{ended_records, joined, most_record_bytes, whole_lines}
use Rattle.ct_sd.proofs.FedLines.{fed_whole, none_closed, none_more, spans_on}
use Rattle.ct_sd.proofs.Goings.{goes_none, goes_on}
use Rattle.ct_sd.proofs.LastRuns.{feed_there, searched_is, spoils_fed, spoils_over}
use Rattle.ct_sd.proofs.Scanning.{at_is, scanned_none}

pub record Finding (limit : ℕ) (old now : Buffered) (before after : Input) (scan : Scan) (ranges : List Span) : Type 0 where
  pub reaches : Reaches limit old now before after
  pub scanned : IsScanned now.held scan ranges
  pub few : length now.held ≤ scan.searched + most_read

pub finding_none : (limit : ℕ) (old : Buffered) (input : Input) (scan : Scan) (ranges : List Span) → old.taken < 2 ^ 64 → length old.held ≤ most_read → scan.at ≡ 0 → scan.searched ≡ 0 → ranges ≡ [] → Finding limit old old input input scan ranges
unfolding goes_none
finding_none limit old input scan ranges small few at searched none = record {
  reaches = record { goes = goes_none limit old input small; held = sym (append-nil old.held) };
  scanned = scanned_none old.held scan ranges at searched none;
  few = omega arith;
}

-- more bytes behind those that are scanned
scanned_on : (held more : List ℕ) (scan : Scan) (ranges : List Span) → IsScanned held scan ranges → IsScanned (held ++ more) scan ranges
scanned_on held more scan ranges s =
    let order = s.order in
    let inside = s.within in
    let n = length-append held more in
    let m = length-drop scan.at held in record {
      lines = s.lines;
      plain = s.plain;
      front = front_of_both scan.at held more (omega arith) ∙ s.front;
      order = s.order;
      within = omega arith;
      short = s.short;
      none = s.none;
      clear =
          ap (λ (t : List ℕ). has_feed (take (scan.searched - scan.at) t)) (drop-append-le scan.at held more (omega arith))
          ∙ (ap has_feed (front_of_both (scan.searched - scan.at) (drop scan.at held) more (omega arith)) ∙ s.clear);
      spans = s.spans;
    }
  where
    front_of_both : (n : ℕ) (xs ys : List ℕ) → n ≤ length xs → take n (xs ++ ys) ≡ take n xs
    front_of_both zero xs ys low = refl
    front_of_both (suc n) [] ys low = absurd (omega arith)
    front_of_both (suc n) (x ∷ xs) ys low = ap (λ (t : List ℕ). x ∷ t) (front_of_both n xs ys (omega arith))

-- no record has ended in what is searched
pub none_ended : (held : List ℕ) (at : ℕ) (ranges : List Span) → IsSearched held at ranges → ended_records held ≡ []
none_ended held at ranges s = ap ended_records s.split ∙ none_closed s.lines (drop at held) s.plain s.clear

pub none_so_far : (limit : ℕ) (old now : Buffered) (before after : Input) (scan : Scan) (ranges : List Span) (f : Finding limit old now before after scan ranges) → scan.searched ≡ length now.held → ended_records (old.held ++ f.reaches.goes.bytes) ≡ []
none_so_far limit old now before after scan ranges f all = ap ended_records (sym f.reaches.held) ∙ none_ended now.held scan.at ranges (searched_is now.held scan ranges f.scanned all)

pub finding_on : (limit : ℕ) (old now new : Buffered) (before mid after : Input) (scan : Scan) (ranges : List Span) → Finding limit old now before mid scan ranges → scan.searched ≡ length now.held → now.ended ≡ false → Reads now new mid after
    → (now.taken ≤ limit → new.taken ≤ limit) → new.taken < 2 ^ 64 → Finding limit old new before after scan ranges
unfolding goes_on
finding_on limit old now new before mid after scan ranges f all going reads within small = record {
  reaches = record {
    goes = goes_on limit old now new before mid after f.reaches.goes going (none_so_far limit old now before mid scan ranges f all) reads within small;
    held = reads.adds.held ∙ (ap (λ (t : List ℕ). t ++ reads.bytes) f.reaches.held ∙ append_assoc old.held f.reaches.goes.bytes reads.bytes);
  };
  scanned = subst (λ (t : List ℕ). IsScanned t scan ranges) (sym reads.adds.held) (scanned_on now.held reads.bytes scan ranges f.scanned);
  few = let same = ap length reads.adds.held in let n = length-append now.held reads.bytes in let few = reads.few in omega arith;
}

-- ---- what is found

take_behind : (held piece : List ℕ) (at to behind : ℕ) (front : List ℕ) → take at held ≡ front → drop at held ≡ piece ++ line_feed ∷ drop behind held → to ≡ at + length piece → behind ≡ to + 1 → behind ≤ length held → take behind held ≡ front ++ (piece ++ line_feed ∷ [])
take_behind held piece at to behind front is split to_is behind_is within =
    same_front (take behind held) (front ++ (piece ++ line_feed ∷ [])) (drop behind held)
    (take-append-drop behind held ∙ (sym (take-append-drop at held) ∙ (ap (λ (t : List ℕ). t ++ drop at held) is ∙ (ap (λ (t : List ℕ). front ++ t) split ∙ (ap (λ (t : List ℕ). front ++ t) (sym (append_assoc piece (line_feed ∷ []) (drop behind held))) ∙ sym (append_assoc front (piece ++ line_feed ∷ []) (drop behind held)))))))
  where
    same_front : (xs ys zs : List ℕ) → xs ++ zs ≡ ys ++ zs → xs ≡ ys
    same_front xs ys zs e = (let n = ap length e in let a = length-append xs zs in let b = length-append ys zs in by_length xs ys (omega arith) e)
      where
        by_length : (xs ys : List ℕ) → length xs ≡ length ys → xs ++ zs ≡ ys ++ zs → xs ≡ ys
        by_length [] [] n e = refl
        by_length [] (y ∷ ys) n e = absurd (omega arith)
        by_length (x ∷ xs) [] n e = absurd (omega arith)
        by_length (x ∷ xs) (y ∷ ys) n e = let head : x ≡ y = cc in let rest : xs ++ zs ≡ ys ++ zs = cc in ap (λ (t : List ℕ). x ∷ t) (by_length xs ys (omega arith) rest) ∙ ap (λ (c : ℕ). c ∷ ys) head

found_end : (held : List ℕ) (ended : Bool) (scan : Scan) (ranges : List Span) (to behind : ℕ) → length held ≤ scan.searched + most_read
    → Meets held scan ranges to behind (λ whole. Plays EndRole scan.at whole) → IsFoundRecord behind held ended ranges
found_end held ended scan ranges to behind few m =
    let s = m.scanned in
    let whole = m.piece ++ line_feed ∷ [] in
    let later = m.later in
    let front : take behind held ≡ joined s.lines ++ whole = take_behind held m.piece scan.at to behind (joined s.lines) s.front m.split m.to_is m.behind_is m.within in record {
      run = record { lines = s.lines; end = Some whole };
      front = inl (record {
        plain = s.plain;
        whole = whole;
        fed = record { piece = m.piece; clear = m.clear; is = refl };
        ends = m.is.1;
        end = refl;
        split = sym (take-append-drop behind held) ∙ (ap (λ (t : List ℕ). t ++ drop behind held) front ∙ append_assoc (joined s.lines) whole (drop behind held));
      });
      is_record = refl;
      none = none_more s.lines scan.at whole s.none (at_is held scan ranges s) m.is.0;
      within = m.within;
      beyond = omega arith;
      spans = subst (λ (t : List ℕ). AreSpans t ranges s.lines) (sym front) (spans_on (joined s.lines) whole ranges s.lines s.spans);
    }

feed_length : (bytes piece rest : List ℕ) (n : ℕ) → has_feed piece ≡ false → bytes ≡ piece ++ line_feed ∷ rest → IsFirstFeed bytes n → length piece ≡ n
feed_length bytes piece rest n clear split feed =
    let low = feed.within in
    let size : length (take n bytes) ≡ n = length-take-le n bytes (omega arith) in
    let same : piece ++ line_feed ∷ [] ≡ take n bytes ++ line_feed ∷ [] = heads _ _ (whole_lines rest) (whole_lines (drop (n + 1) bytes))
    (sym (ap whole_lines (split ∙ sym (append_assoc piece (line_feed ∷ []) rest)) ∙ fed_whole (piece ++ line_feed ∷ []) rest (record { piece = piece; clear = clear; is = refl }))
    ∙ (ap whole_lines (feed.split ∙ sym (append_assoc (take n bytes) (line_feed ∷ []) (drop (n + 1) bytes))) ∙ fed_whole (take n bytes ++ line_feed ∷ []) (drop (n + 1) bytes) (record { piece = take n bytes; clear = feed.clear; is = refl }))) in
    let a = ap length same in
    let b = length-append piece (line_feed ∷ []) in
    let c = length-append (take n bytes) (line_feed ∷ []) in omega arith
  where
    heads : (x y : List ℕ) (xs ys : List (List ℕ)) → x ∷ xs ≡ y ∷ ys → x ≡ y
    heads x y xs ys e = cc

found_long : (held : List ℕ) (ended : Bool) (scan : Scan) (ranges : List Span) (to behind : ℕ) → length held ≤ scan.searched + most_read
    → Meets held scan ranges to behind (λ whole. Plays LongRole scan.at whole) → IsFoundLong scan.at held ended ranges
found_long held ended scan ranges to behind few m =
    let s = m.scanned in
    let order = s.order in
    let inside = s.within in
    let later = m.later in
    let to_is = m.to_is in
    let behind_is = m.behind_is in
    let d = length-drop scan.at held in record {
      lines = s.lines;
      plain = s.plain;
      split = sym (take-append-drop scan.at held) ∙ ap (λ (t : List ℕ). t ++ drop scan.at held) s.front;
      at_is = at_is held scan ranges s;
      short = s.short;
      within = omega arith;
      none = s.none;
      spans = s.spans;
      spoils = spoils_fed scan.at (drop scan.at held) m.piece (drop behind held) m.clear m.split m.is ended;
      few = λ n feed. let size = feed_length (drop scan.at held) m.piece (drop behind held) n m.clear m.split feed in omega arith;
    }

-- a line that ends the record, or makes it too long
pub found_met : (held : List ℕ) (ended : Bool) (scan : Scan) (ranges : List Span) (met : Met) → length held ≤ scan.searched + most_read → HasMet (Some met) held scan ranges → IsFound (front_of met scan.at) held ended ranges
found_met held ended scan ranges (MetEnd behind) few m = found_end held ended scan ranges m.0 behind few m.1
found_met held ended scan ranges MetLong few m = found_long held ended scan ranges m.0 m.1 few m.2

no_feed : (bytes : List ℕ) (n : ℕ) → has_feed bytes ≡ false → IsFirstFeed bytes n → ⊥
no_feed bytes n clear feed = false≢true (sym clear ∙ (ap has_feed feed.split ∙ feed_there (take n bytes) (drop (n + 1) bytes)))

-- too many bytes, and no end of a line
pub found_over : (held : List ℕ) (ended : Bool) (scan : Scan) (ranges : List Span) → IsScanned held scan ranges → scan.searched ≡ length held → most_record_bytes < length held → IsFoundLong scan.at held ended ranges
found_over held ended scan ranges scanned all far =
    let s = searched_is held scan ranges scanned all in
    let within = s.within in
    let d = length-drop scan.at held in record {
      lines = s.lines;
      plain = s.plain;
      split = s.split;
      at_is = s.at_is;
      short = s.short;
      within = s.within;
      none = s.none;
      spans = s.spans;
      spoils = spoils_over scan.at (drop scan.at held) s.short s.clear (omega arith) ended;
      few = λ n feed. absurd (no_feed (drop scan.at held) n s.clear feed);
    }

-- the input has ended
pub found_last : (held : List ℕ) (ended : Bool) (ranges : List Span) (front : Front) → IsTrue ended → IsLast front held ranges → IsFound front held ended ranges
found_last held ended ranges (Record count) end last =
    let nothing : drop count held ≡ [] = drop_all count held (let all = last.all in omega arith) in record {
      run = last.run;
      front = inr (record {
        lines = last.last.lines;
        plain = last.last.plain;
        piece = last.last.piece;
        clear = last.last.clear;
        is = last.last.is;
        split = last.last.split;
        none = nothing;
        end = end;
      });
      is_record = last.is_record;
      none = last.none;
      within = let all = last.all in omega arith;
      beyond = let all = last.all in omega arith;
      spans = subst (λ (t : List ℕ). AreSpans t ranges last.run.lines) (sym (take_all count held (let all = last.all in omega arith))) last.spans;
    }
found_last held ended ranges (TooLong at) end last =
    let s = last.0 in record {
      lines = s.lines;
      plain = s.plain;
      split = s.split;
      at_is = s.at_is;
      short = s.short;
      within = s.within;
      none = s.none;
      spans = s.spans;
      spoils = λ whole rest more ended is line. last.1 whole rest more (λ e. ended end) is line;
      few = λ n feed. absurd (no_feed (drop at held) n s.clear feed);
    }
found_last held ended ranges Nothing end last = (last, end)

-- nothing is found yet in what is held
pub record FoundNone (limit : ℕ) (old now : Buffered) (before after : Input) (scan : Scan) (ranges : List Span) : Type 0 where
  pub finding : Finding limit old now before after scan ranges
  pub all : scan.searched ≡ length now.held
  pub going : now.ended ≡ false
  pub short : length now.held ≤ most_record_bytes

pub found_none : (limit : ℕ) (old now : Buffered) (before after : Input) (scan next : Scan) (ranges more : List Span) (held : List ℕ) (ended : Bool) → Finding limit old now before after scan ranges → held ≡ now.held → ended ≡ now.ended → Looks None held ended next more
    → scan.searched ≤ next.searched → FoundNone limit old now before after next more
found_none limit old now before after scan next ranges more held ended f is_held is_ended looks later = record {
  finding = record {
    reaches = f.reaches;
    scanned = subst (λ (t : List ℕ). IsScanned t next more) is_held looks.0;
    few = let few = f.few in omega arith;
  };
  all = looks.1 ∙ ap length is_held;
  going = sym is_ended ∙ looks.2;
  short = subst (λ (t : List ℕ). length t ≤ most_record_bytes) is_held looks.3;
}

pub room_kept : (new old held : ℕ) → new ≤ max old (held + most_read) → old ≤ most_room → held ≤ most_record_bytes → new ≤ most_room
room_kept new old held grown room short = grind arith
