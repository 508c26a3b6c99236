-- How a record that is too long is passed.
use Rattle.std.proofs.Common.{arith, ◌≡◌, ◌∙◌, ℕ, ◌+◌, ◌-◌, ◌*◌, ◌^◌, ◌<◌, ◌≤◌, ◌&&◌, ◌||◌, Bool, true, false, not, if◌then◌else◌, List, [], ◌∷◌, ◌++◌, length, take, drop, Option, Some, None, refl, ap, sym, subst, inl, inr}
use Rattle.std.specs.Prelude.{◌⊎◌, IsTrue, codes, nat_eq, nat_le, nat_lt}
use Rattle.std.specs.List.{list_any, starts_with}
use Rattle.std.proofs.lemmas.Bool.Decides.{nat_tests}
use Rattle.std.proofs.lemmas.List.{append_assoc, append-nil, length-append, length-drop}
use Rattle.std.proofs.lemmas.List.Folds.{list_any-append}
use Rattle.mc_base.specs.declared.kind.Kind.{Kind}
use Rattle.mc_base.specs.declared.kind.Kind.TheVariants.{LineTooLong, RecordTooLong}
use Rattle.mc_io.specs.Buffered.{Buffered, Reads, most_read}
use Rattle.mc_io.specs.FoundLines.{IsFirstFeed}
use Rattle.mc_io.specs.Lines.{has_feed, is_long, line_feed, text_of}
use Rattle.mc_io.specs.Outside.{Input}
use Rattle.mc_io.proofs.FrontPieces.{clear_both}
use Rattle.ct_sd.specs.declared.line_so_far.LineSoFar.{LineSoFar}
use Rattle.ct_sd.specs.declared.record_passing.Passing.{Passing}
use Rattle.ct_sd.specs.Columns.{is_blank_text}
use Rattle.ct_sd.specs.Faults.{shown_if}
use Rattle.ct_sd.specs.LinesSoFar.{after as line_after, ends_here, is_long_so_far, is_something, none_yet}
use Rattle.ct_sd.specs.FoundRecords.{ArePlain, Goes, HasFewBehind, IsFed, Passes, ShowsFirst, Spoils, Tells, kind_behind, kind_of, last_kind, last_run, passing_behind}
use Rattle.ct_sd.specs.Records.{ended_records, ends_record, joined, length_shows, most_record_bytes, piece_of, says_something}
use Rattle.ct_sd.proofs.FedLines.{bare_is, joined_more, none_closed, piece_is, plain_both}
use Rattle.ct_sd.proofs.Goings.{goes_alike, goes_none, goes_on}
use Rattle.ct_sd.proofs.LinesSoFar.{after_joined, after_len, ends_is, long_is, says_is}

-- the kind by the line that is passed first
abbrev pub KindSoFar : ℕ → Option Kind → List (List ℕ) → Type 0
KindSoFar at None lines = lines ≡ []
KindSoFar at (Some kind) lines = (whole : List ℕ) × (more : List (List ℕ)) × (lines ≡ whole ∷ more) × ShowsFirst kind at whole

-- lines were passed, and a part of the next
pub record IsPassing (limit : ℕ) (at : ℕ) (said : Bool) (old now : Buffered) (before after : Input) (passing : Passing) : Type 0 where
  pub goes : Goes limit old now before after
  pub lines : List (List ℕ)
  pub plain : ArePlain lines
  pub part : List ℕ
  pub clear : has_feed part ≡ false
  pub split : old.held ++ goes.bytes ≡ joined lines ++ (part ++ now.held)
  pub line : passing.line ≡ line_after none_yet part
  pub said_is : passing.said ≡ (said || list_any says_something lines)
  pub kind : KindSoFar at passing.kind lines
  pub few : HasFewBehind now.held

pub passing_none : (limit at : ℕ) (said : Bool) (old : Buffered) (input : Input) (passing : Passing) → old.taken < 2 ^ 64 → HasFewBehind old.held → passing ≡ record { line = none_yet; said = said; kind = None } → IsPassing limit at said old old input input passing
unfolding goes_none
passing_none limit at said old input passing small few is = record {
  goes = goes_none limit old input small;
  lines = [];
  plain = tt;
  part = [];
  clear = refl;
  split = append-nil old.held;
  line = ap (λ (p : Passing). p.line) is;
  said_is = ap (λ (p : Passing). p.said) is ∙ or_false said;
  kind = subst (λ (k : Option Kind). KindSoFar at k []) (sym (ap (λ (p : Passing). p.kind) is)) refl;
  few = few;
}
  where
    or_false : (t : Bool) → t ≡ (t || false)
    or_false true = refl
    or_false false = refl

-- no more bytes than were taken
pub passing_small : (limit at : ℕ) (said : Bool) (old now : Buffered) (before after : Input) (passing : Passing) → length old.held ≤ old.taken → IsPassing limit at said old now before after passing → passing.line.len + length now.held < 2 ^ 64
passing_small limit at said old now before after passing few p =
    let len : passing.line.len ≡ length p.part = ap (λ (l : LineSoFar). l.len) p.line ∙ (after_len none_yet p.part ∙ (let e : 0 + length p.part ≡ length p.part = omega arith in e)) in
    let all = ap length p.split in
    let a = length-append old.held p.goes.bytes in
    let b = length-append (joined p.lines) (p.part ++ now.held) in
    let c = length-append p.part now.held in
    let taken = p.goes.fills.taken in
    let small = p.goes.small in omega arith

-- ---- a line that is whole

kind_is : (at : ℕ) (kind : Kind) (whole : List ℕ) (long : Bool) → long ≡ is_long (piece_of whole) → ShowsFirst kind at whole → ShowsFirst (kind_of at long) at whole
kind_is at kind whole long longs shows = by_test (nat_lt at most_record_bytes && is_long (piece_of whole)) (ap (λ (t : Bool). nat_lt at most_record_bytes && t) longs) shows
  where
    over : Bool
    over = nat_le at most_record_bytes && nat_lt most_record_bytes (at + length whole)

    by_test : (p : Bool) → (nat_lt at most_record_bytes && long) ≡ p
        → (rest : List Kind) × (shown_if p LineTooLong ++ shown_if (nat_le at most_record_bytes && nat_lt most_record_bytes (at + length whole)) RecordTooLong ≡ kind ∷ rest)
        → (rest : List Kind) × (shown_if p LineTooLong ++ shown_if (nat_le at most_record_bytes && nat_lt most_record_bytes (at + length whole)) RecordTooLong ≡ kind_of at long ∷ rest)
    by_test true is shows = (shown_if (nat_le at most_record_bytes && nat_lt most_record_bytes (at + length whole)) RecordTooLong, ap (λ (t : Bool). (if true then LineTooLong else RecordTooLong) ∷ shown_if (nat_le at most_record_bytes && nat_lt most_record_bytes (at + length whole)) RecordTooLong) (sym is) ∙ ap (λ (t : Bool). (if t then LineTooLong else RecordTooLong) ∷ shown_if (nat_le at most_record_bytes && nat_lt most_record_bytes (at + length whole)) RecordTooLong) (sym is))
    by_test false is shows = by_over (nat_le at most_record_bytes && nat_lt most_record_bytes (at + length whole)) shows.1
      where
        by_over : (q : Bool) → shown_if q RecordTooLong ≡ kind ∷ shows.0 → (rest : List Kind) × (shown_if q RecordTooLong ≡ kind_of at long ∷ rest)
        by_over true e = ([], ap (λ (t : Bool). (if t then LineTooLong else RecordTooLong) ∷ []) (sym is))
        by_over false e = absurd cc

-- what is known of a line at its end is what its whole says
pub record IsWholeLine (line : LineSoFar) (whole : List ℕ) : Type 0 where
  pub long : is_long_so_far line ≡ is_long (piece_of whole)
  pub ends : ends_here line.wanted ≡ ends_record whole
  pub says : is_something line.said ≡ says_something whole

whole_line : (line : LineSoFar) (piece whole : List ℕ) → line ≡ line_after none_yet piece → piece_of whole ≡ piece → IsWholeLine line whole
whole_line line piece whole is bare = record {
  long = ap is_long_so_far is ∙ (long_is piece ∙ ap is_long (sym bare));
  ends = ap (λ (l : LineSoFar). ends_here l.wanted) is ∙ (ends_is piece ∙ ap (λ (p : List ℕ). starts_with nat_eq p (codes "$$$$")) (sym bare));
  says = ap (λ (l : LineSoFar). is_something l.said) is ∙ (says_is piece ∙ ap (λ (p : List ℕ). not (is_blank_text (text_of p))) (sym bare));
}

kind_then : (at : ℕ) (kind : Option Kind) (lines : List (List ℕ)) (whole : List ℕ) (long : Bool) → KindSoFar at kind lines → (lines ≡ [] → ShowsFirst (kind_of at long) at whole)
    → (first : List ℕ) × (more : List (List ℕ)) × (lines ++ whole ∷ [] ≡ first ∷ more) × ShowsFirst (kind_behind kind at long) at first
kind_then at (Some kind) lines whole long so_far shows = (so_far.0, so_far.1 ++ whole ∷ [], ap (λ (t : List (List ℕ)). t ++ whole ∷ []) so_far.2, so_far.3)
kind_then at None lines whole long none shows = (whole, [], ap (λ (t : List (List ℕ)). t ++ whole ∷ []) none, shows none)

-- the next line of what is held
line_split : (held bytes joint part now piece rest : List ℕ) → held ++ bytes ≡ joint ++ (part ++ now) → now ≡ piece ++ line_feed ∷ rest → held ++ bytes ≡ joint ++ (((part ++ piece) ++ line_feed ∷ []) ++ rest)
line_split held bytes joint part now piece rest split is =
    split ∙ ap (λ (t : List ℕ). joint ++ t)
    (ap (λ (t : List ℕ). part ++ t) is
    ∙ (sym (append_assoc part piece (line_feed ∷ rest)) ∙ sym (append_assoc (part ++ piece) (line_feed ∷ []) rest)))

-- the first line shows its kind
first_shows : (limit at : ℕ) (said : Bool) (old now : Buffered) (before after : Input) (passing : Passing) (p : IsPassing limit at said old now before after passing) (whole rest : List ℕ) (long : Bool) → Spoils at old.held old.ended
    → old.held ++ p.goes.bytes ≡ joined p.lines ++ (whole ++ rest) → IsFed whole ⊎ ((has_feed whole ≡ false) × (rest ≡ [])) → long ≡ is_long (piece_of whole) → p.lines ≡ [] → ShowsFirst (kind_of at long) at whole
first_shows limit at said old now before after passing p whole rest long spoils split line longs none =
    let found = spoils whole rest p.goes.bytes (λ end. (p.goes.fills.stays end).1) (split ∙ ap (λ (t : List (List ℕ)). joined t ++ (whole ++ rest)) none) line in
    kind_is at found.0 whole long longs found.1

says_more : (said says : Bool) (lines : List (List ℕ)) (whole : List ℕ) (now : Bool) → now ≡ (said || list_any says_something lines) → says ≡ says_something whole → (now || says) ≡ (said || list_any says_something (lines ++ whole ∷ []))
says_more said says lines whole now is one =
    ap (λ (t : Bool). t || says) is ∙ (ap (λ (t : Bool). (said || list_any says_something lines) || t) one
    ∙ (or_behind said (list_any says_something lines) (says_something whole) ∙ ap (λ (t : Bool). said || t) (sym (list_any-append says_something lines (whole ∷ []) ∙ ap (λ (t : Bool). list_any says_something lines || t) (or_false (says_something whole))))))
  where
    or_behind : (p q r : Bool) → ((p || q) || r) ≡ (p || (q || r))
    or_behind true q r = refl
    or_behind false q r = refl

    or_false : (t : Bool) → (t || false) ≡ t
    or_false true = refl
    or_false false = refl

few_alone : (held : List ℕ) → length held ≤ most_read → HasFewBehind held
few_alone held few n feed = omega arith

-- a line feed was found, and the line ends the record, or doesn't
pub record LinePassed (limit : ℕ) (at : ℕ) (said : Bool) (old new : Buffered) (before after : Input) (passing : Passing) (line : LineSoFar) (kind : Kind) : Type 0 where
  pub ended : ends_here line.wanted ≡ true → Passes limit at said (Some kind) old new before after
  pub going : ends_here line.wanted ≡ false → IsPassing limit at said old new before after (passing_behind passing line kind)

pub line_passed : (limit at n : ℕ) (said : Bool) (old now new : Buffered) (before after : Input) (passing : Passing) (line : LineSoFar) (kind : Kind) → Spoils at old.held old.ended → IsPassing limit at said old now before after passing → IsFirstFeed now.held n
    → line ≡ line_after passing.line (take n now.held) → kind ≡ kind_behind passing.kind at (is_long_so_far line) → new ≡ record now { held = drop (n + 1) now.held } → LinePassed limit at said old new before after passing line kind
unfolding goes_alike
line_passed limit at n said old now new before after passing line kind spoils p feed line_is kind_is_now moved =
    let front = take n now.held in
    let rest = drop (n + 1) now.held in
    let piece = p.part ++ front in
    let whole = piece ++ line_feed ∷ [] in
    let clear : has_feed piece ≡ false = clear_both p.part front p.clear feed.clear in
    let fed : IsFed whole = record { piece = piece; clear = clear; is = refl } in
    let goes = goes_alike limit old now new before after p.goes (ap (λ (b : Buffered). b.input) moved) (ap (λ (b : Buffered). b.taken) moved) (ap (λ (b : Buffered). b.ended) moved) in
    let held : new.held ≡ rest = ap (λ (b : Buffered). b.held) moved in
    let known = whole_line line piece whole (line_is ∙ (ap (λ (l : LineSoFar). line_after l front) p.line ∙ sym (after_joined none_yet p.part front))) (piece_is piece clear) in
    let split : old.held ++ p.goes.bytes ≡ joined p.lines ++ (whole ++ rest) = line_split old.held p.goes.bytes (joined p.lines) p.part now.held front rest p.split feed.split in
    let firsts = kind_then at passing.kind p.lines whole (is_long_so_far line) p.kind (first_shows limit at said old now before after passing p whole rest (is_long_so_far line) spoils split (inl fed) known.long) in
    let shows : ShowsFirst kind at firsts.0 = subst (λ (k : Kind). ShowsFirst k at firsts.0) (sym kind_is_now) firsts.3 in
    let few : length rest ≤ most_read = (let f = p.few n feed in let low = feed.within in let d = length-drop (n + 1) now.held in omega arith) in record {
      ended = λ ends. record {
        goes = goes;
        run = record { lines = p.lines; end = Some whole };
        front = inl (record { plain = p.plain; whole = whole; fed = fed; ends = sym known.ends ∙ ends; end = refl; split = split ∙ ap (λ (t : List ℕ). joined p.lines ++ (whole ++ t)) (sym held) });
        tells = record { whole = firsts.0; more = firsts.1; first = firsts.2; shows = shows; is_record = or_true said };
        few = subst (λ (t : List ℕ). length t ≤ most_read) (sym held) few;
      };
      going = λ other. record {
        goes = goes;
        lines = p.lines ++ whole ∷ [];
        plain = plain_both p.lines (whole ∷ []) p.plain (record { fed = fed; other = sym known.ends ∙ other }, tt);
        part = [];
        clear = refl;
        split =
            split ∙ (sym (append_assoc (joined p.lines) whole rest) ∙ (ap (λ (t : List ℕ). t ++ rest) (sym (joined_more p.lines whole)) ∙ ap (λ (t : List ℕ). joined (p.lines ++ whole ∷ []) ++ t) (sym held)));
        line = refl;
        said_is = says_more said (is_something line.said) p.lines whole passing.said p.said_is known.says;
        kind = (firsts.0, firsts.1, firsts.2, shows);
        few = subst HasFewBehind (sym held) (few_alone rest few);
      };
    }
  where
    or_true : (t : Bool) → (t || true) ≡ true
    or_true true = refl
    or_true false = refl

-- no line feed is held
pub part_passed : (limit at : ℕ) (said : Bool) (old now new : Buffered) (before after : Input) (passing next : Passing) → IsPassing limit at said old now before after passing → has_feed now.held ≡ false
    → next ≡ record passing { line = line_after passing.line now.held } → new ≡ record now { held = [] } → IsPassing limit at said old new before after next
unfolding goes_alike
part_passed limit at said old now new before after passing next p clear is moved = record {
  goes = goes_alike limit old now new before after p.goes (ap (λ (b : Buffered). b.input) moved) (ap (λ (b : Buffered). b.taken) moved) (ap (λ (b : Buffered). b.ended) moved);
  lines = p.lines;
  plain = p.plain;
  part = p.part ++ now.held;
  clear = clear_both p.part now.held p.clear clear;
  split =
      p.split ∙ ap (λ (t : List ℕ). joined p.lines ++ t) (sym (append-nil (p.part ++ now.held)) ∙ ap (λ (t : List ℕ). (p.part ++ now.held) ++ t) (sym (ap (λ (b : Buffered). b.held) moved)));
  line = ap (λ (q : Passing). q.line) is ∙ (ap (λ (l : LineSoFar). line_after l now.held) p.line ∙ sym (after_joined none_yet p.part now.held));
  said_is = ap (λ (q : Passing). q.said) is ∙ p.said_is;
  kind = subst (λ (k : Option Kind). KindSoFar at k p.lines) (sym (ap (λ (q : Passing). q.kind) is)) p.kind;
  few = subst HasFewBehind (sym (ap (λ (b : Buffered). b.held) moved)) (few_alone [] (omega arith));
}

-- no record has ended in what is passed
pub none_passed : (limit at : ℕ) (said : Bool) (old now : Buffered) (before after : Input) (passing : Passing) → (p : IsPassing limit at said old now before after passing) → now.held ≡ [] → ended_records (old.held ++ p.goes.bytes) ≡ []
none_passed limit at said old now before after passing p empty =
    ap ended_records (p.split ∙ ap (λ (t : List ℕ). joined p.lines ++ t) (ap (λ (t : List ℕ). p.part ++ t) empty ∙ append-nil p.part)) ∙ none_closed p.lines p.part p.plain p.clear

-- and one more read
pub passing_on : (limit at : ℕ) (said : Bool) (old now new : Buffered) (before mid after : Input) (passing : Passing) → (p : IsPassing limit at said old now before mid passing) → now.held ≡ [] → now.ended ≡ false → Reads now new mid after
    → (now.taken ≤ limit → new.taken ≤ limit) → new.taken < 2 ^ 64 → IsPassing limit at said old new before after passing
unfolding goes_on
passing_on limit at said old now new before mid after passing p empty going reads within small =
    let held : new.held ≡ reads.bytes = reads.adds.held ∙ ap (λ (t : List ℕ). t ++ reads.bytes) empty in record {
      goes = goes_on limit old now new before mid after p.goes going (none_passed limit at said old now before mid passing p empty) reads within small;
      lines = p.lines;
      plain = p.plain;
      part = p.part;
      clear = p.clear;
      split =
          sym (append_assoc old.held p.goes.bytes reads.bytes)
          ∙ (ap (λ (t : List ℕ). t ++ reads.bytes) (p.split ∙ ap (λ (t : List ℕ). joined p.lines ++ (p.part ++ t)) empty)
          ∙ (append_assoc (joined p.lines) (p.part ++ []) reads.bytes ∙ ap (λ (t : List ℕ). joined p.lines ++ t) (ap (λ (t : List ℕ). t ++ reads.bytes) (append-nil p.part) ∙ ap (λ (t : List ℕ). p.part ++ t) (sym held))));
      line = p.line;
      said_is = p.said_is;
      kind = p.kind;
      few = subst HasFewBehind (sym held) (few_alone reads.bytes reads.few);
    }

-- ---- the input has ended

no_kind : (at : ℕ) (kind : Kind) → at ≤ most_record_bytes → ShowsFirst kind at [] → ⊥
no_kind at kind low shows = nothing (tests at low) shows.1
  where
    tests : (a : ℕ) → a ≤ most_record_bytes → (nat_le a most_record_bytes && nat_lt most_record_bytes (a + 0)) ≡ false
    tests a low = grind (arith, nat_tests)

    and_false : (t : Bool) → (t && false) ≡ false
    and_false true = refl
    and_false false = refl

    nothing : (nat_le at most_record_bytes && nat_lt most_record_bytes (at + 0)) ≡ false → length_shows at [] ≡ kind ∷ shows.0 → ⊥
    nothing over e =
        let none : length_shows at [] ≡ [] =
        ap (λ (t : Bool). shown_if t LineTooLong ++ shown_if (nat_le at most_record_bytes && nat_lt most_record_bytes (at + 0)) RecordTooLong) (and_false (nat_lt at most_record_bytes))
        ∙ ap (λ (t : Bool). shown_if t RecordTooLong) over in cc

pub passing_last : (limit at : ℕ) (said : Bool) (old now : Buffered) (before after : Input) (passing : Passing) → at ≤ most_record_bytes → Spoils at old.held old.ended → IsPassing limit at said old now before after passing → now.held ≡ [] → IsTrue now.ended
    → Passes limit at said (last_kind passing at) old now before after
passing_last limit at said old now before after passing low spoils p empty end = record {
  goes = p.goes;
  run = last_run p.lines p.part;
  front = inr (record {
    lines = p.lines;
    plain = p.plain;
    piece = p.part;
    clear = p.clear;
    is = refl;
    split = split;
    none = empty;
    end = end;
  });
  tells = by_part p.part refl;
  few = subst (λ (t : List ℕ). length t ≤ most_read) (sym empty) (omega arith);
}
  where
    split : old.held ++ p.goes.bytes ≡ joined p.lines ++ p.part
    split = p.split ∙ ap (λ (t : List ℕ). joined p.lines ++ t) (ap (λ (t : List ℕ). p.part ++ t) empty ∙ append-nil p.part)

    long : Bool
    long = is_long_so_far passing.line

    known : IsWholeLine passing.line p.part
    known = whole_line passing.line p.part p.part p.line (bare_is p.part p.clear)

    first : p.lines ≡ [] → ShowsFirst (kind_of at (is_long_so_far passing.line)) at p.part
    first none =
        first_shows limit at said old now before after passing p p.part [] (is_long_so_far passing.line) spoils (split ∙ ap (λ (t : List ℕ). joined p.lines ++ t) (sym (append-nil p.part))) (inr (p.clear, refl)) known.long none

    -- nothing stands behind the last line feed
    no_part : (kind : Option Kind) → passing.kind ≡ kind → KindSoFar at kind p.lines → (said_now : Bool) → said_now ≡ (said || list_any says_something p.lines) → (p.lines ≡ [] → (k : Kind) × ShowsFirst k at [])
        → Tells at said (record { lines = p.lines; end = None }) (if said_now then Some (kind_behind kind at (is_long_so_far passing.line)) else None)
    no_part None is so_far said_now s shows = let found = shows so_far in absurd (no_kind at found.0 low found.1)
    no_part (Some kind) is so_far true s shows = record { whole = so_far.0; more = so_far.1; first = append-nil p.lines ∙ so_far.2; shows = so_far.3; is_record = sym s }
    no_part (Some kind) is so_far false s shows = sym s

    by_part : (part : List ℕ) → p.part ≡ part → Tells at said (last_run p.lines p.part) (last_kind passing at)
    by_part [] is =
        subst (λ (t : List ℕ). Tells at said (last_run p.lines t) (last_kind passing at)) (sym is)
        (subst (λ (t : Bool). Tells at said (record { lines = p.lines; end = None }) (if t then Some (kind_behind passing.kind at (is_long_so_far passing.line)) else None)) (sym tests)
        (no_part passing.kind refl p.kind passing.said p.said_is (λ none. (kind_of at (is_long_so_far passing.line), subst (λ (t : List ℕ). ShowsFirst (kind_of at (is_long_so_far passing.line)) at t) is (first none)))))
      where
        or_false : (t : Bool) → (t || false) ≡ t
        or_false true = refl
        or_false false = refl

        tests : (ends_here passing.line.wanted || (passing.said || is_something passing.line.said)) ≡ passing.said
        tests = ap (λ (l : LineSoFar). ends_here l.wanted || (passing.said || is_something l.said)) (p.line ∙ ap (line_after none_yet) is) ∙ or_false passing.said
    by_part (b ∷ part) is =
        subst (λ (t : List ℕ). Tells at said (last_run p.lines t) (last_kind passing at)) (sym is)
        (by_tests (ends_record (b ∷ part)) (says_something (b ∷ part)) passing.said refl refl refl
        (known.ends ∙ ap ends_record is) (known.says ∙ ap says_something is))
      where
        firsts : (w : List ℕ) × (more : List (List ℕ)) × (p.lines ++ (b ∷ part) ∷ [] ≡ w ∷ more) × ShowsFirst (kind_behind passing.kind at (is_long_so_far passing.line)) at w
        firsts = kind_then at passing.kind p.lines (b ∷ part) (is_long_so_far passing.line) p.kind (λ none. subst (λ (t : List ℕ). ShowsFirst (kind_of at (is_long_so_far passing.line)) at t) is (first none))

        or_true : (t : Bool) → (t || true) ≡ true
        or_true true = refl
        or_true false = refl

        all : (said || list_any says_something (p.lines ++ (b ∷ part) ∷ [])) ≡ (passing.said || says_something (b ∷ part))
        all = sym (says_more said (says_something (b ∷ part)) p.lines (b ∷ part) passing.said p.said_is refl)

        by_tests : (ends says said_now : Bool) → ends_record (b ∷ part) ≡ ends → says_something (b ∷ part) ≡ says → passing.said ≡ said_now → ends_here passing.line.wanted ≡ ends_record (b ∷ part) → is_something passing.line.said ≡ says_something (b ∷ part)
            → Tells at said (last_run p.lines (b ∷ part)) (last_kind passing at)
        by_tests true says said_now e s n wanted something =
            subst (λ (t : Bool). Tells at said (if t then record { lines = p.lines; end = Some (b ∷ part) } else record { lines = p.lines ++ (b ∷ part) ∷ []; end = None }) (last_kind passing at)) (sym e)
            (subst (λ (t : Bool). Tells at said (record { lines = p.lines; end = Some (b ∷ part) }) (if t || (passing.said || is_something passing.line.said) then Some (kind_behind passing.kind at (is_long_so_far passing.line)) else None)) (sym (wanted ∙ e))
            (record { whole = firsts.0; more = firsts.1; first = firsts.2; shows = firsts.3; is_record = or_true said }))
        by_tests false says said_now e s n wanted something =
            subst (λ (t : Bool). Tells at said (if t then record { lines = p.lines; end = Some (b ∷ part) } else record { lines = p.lines ++ (b ∷ part) ∷ []; end = None }) (last_kind passing at)) (sym e)
            (subst (λ (t : Bool). Tells at said (record { lines = p.lines ++ (b ∷ part) ∷ []; end = None }) (if t || (passing.said || is_something passing.line.said) then Some (kind_behind passing.kind at (is_long_so_far passing.line)) else None)) (sym (wanted ∙ e))
            (subst (λ (t : Bool). Tells at said (record { lines = p.lines ++ (b ∷ part) ∷ []; end = None }) (if passing.said || t then Some (kind_behind passing.kind at (is_long_so_far passing.line)) else None)) (sym something)
            (open_last (passing.said || says_something (b ∷ part)) all)))
          where
            open_last : (t : Bool) → (said || list_any says_something (p.lines ++ (b ∷ part) ∷ [])) ≡ t → Tells at said (record { lines = p.lines ++ (b ∷ part) ∷ []; end = None }) (if t then Some (kind_behind passing.kind at (is_long_so_far passing.line)) else None)
            open_last true is = record { whole = firsts.0; more = firsts.1; first = append-nil (p.lines ++ (b ∷ part) ∷ []) ∙ firsts.2; shows = firsts.3; is_record = is }
            open_last false is = is

-- each turn passes a line feed, or reads some bytes, or meets the end
pub passing_falls : (limit : ℕ) (now new : Buffered) (before after : Input) → now.held ≡ [] → now.ended ≡ false → Reads now new before after → (new.ended ≡ false → new.taken ≤ limit)
    → 2 * (limit - new.taken) + length new.held + (if new.ended then 0 else 1) < 2 * (limit - now.taken) + 0 + 1
passing_falls limit now new before after empty going reads low = by_end new.ended refl
  where
    held : length new.held ≡ length reads.bytes
    held = ap length (reads.adds.held ∙ ap (λ (t : List ℕ). t ++ reads.bytes) empty)

    by_end : (t : Bool) → new.ended ≡ t → 2 * (limit - new.taken) + length new.held + (if t then 0 else 1) < 2 * (limit - now.taken) + 0 + 1
    by_end true is = let none : length reads.bytes ≡ 0 = ap length (reads.ended is).0 in let n = held in let taken = reads.adds.taken in omega arith
    by_end false is = let some = (reads.going is).0 in let n = held in let taken = reads.adds.taken in let w = low is in omega arith
