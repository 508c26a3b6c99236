-- What several reads into a buffer do, and how a search in it goes on.
use Rattle.std.proofs.Common.{arith, ◌≡◌, ◌∙◌, ℕ, zero, suc, ◌+◌, ◌-◌, ◌^◌, ◌<◌, ◌≤◌, ◌==◌, ◌||◌, ◌&&◌, nat_lt, Bool, true, false, not, if◌then◌else◌, List, [], ◌∷◌, ◌++◌, length, take, drop, Option, Some, None, refl, ap, sym, subst, inl, inr}
use Rattle.std.specs.Prelude.{◌⊎◌, IsTrue, slice_index}
use Rattle.std.specs.List.{list_all}
use Rattle.std.specs.Io.KnownBytes.{Consumes, IsAtEnd}
use Rattle.std.proofs.Math.Seq.{take-add}
use Rattle.std.proofs.lemmas.Bool.{cases_Bool, false≢true}
use Rattle.std.proofs.lemmas.Bool.Decides.{nat_tests}
use Rattle.std.proofs.lemmas.List.{append_assoc, append-nil, drop-drop, length-append, length-drop, length-take-le, take-append-drop, take_at}
use Rattle.std.proofs.lemmas.List.Folds.{list_all-append}
use Rattle.mc_io.specs.Buffered.{Buffered, Adds, Reads, most_read}
use Rattle.mc_io.specs.Causes.{Rose}
use Rattle.mc_io.specs.FoundLines.{Fills, Finds, FrontIs, FindsFront, IsFirstFeed, IsFrontPiece, IsLong, IsPiece, Stopped, Stops, over_long, text_in, text_len}
use Rattle.mc_io.specs.Lines.{line_feed, carriage_return, text_of, most_bytes, is_long, line_of, has_feed}
use Rattle.mc_io.specs.Outside.{Input, Takes, GaveNone}
use Rattle.mc_io.specs.declared.line_finding.FoundLine.{FoundLine}
use Rattle.mc_io.specs.declared.read_stop.ReadStop.{ReadStop}
use Rattle.mc_io.specs.declared.read_stop.ReadStop.TheVariants.{ReadFault, InputLimit, NoMemory}
use Rattle.mc_io.proofs.Cutting.{some_text}
use Rattle.mc_io.proofs.FrontPieces.{clear_both, clear_parts}
use Rattle.mc_io.proofs.Takings.{takes_none, takes_trans}

-- ---- reads

pub fills_none : (buffer : Buffered) (input : Input) → Fills buffer buffer input input []
fills_none buffer input = record {
  takes = takes_none input;
  input = refl;
  taken = omega arith;
  met = λ end. inl end;
  stays = λ end. (end, refl, refl);
}

pub fills_trans : (a b c : Buffered) (x y z : Input) (front back : List ℕ) → Fills a b x y front → Fills b c y z back → Fills a c x z (front ++ back)
fills_trans a b c x y z front back p q = record {
  takes = takes_trans x y z front back p.takes q.takes;
  input = q.input ∙ p.input;
  taken = let n = length-append front back in let first = p.taken in let second = q.taken in omega arith;
  met = λ end. elim (q.met end) [
    | inl before ↦ elim (p.met before) [
      | inl first ↦ inl first
      | inr at_end ↦ let same : z ≡ y = (q.stays before).2 in inr (subst (λ (i : Input). IsTrue i.ended × IsAtEnd i.left) (sym same) at_end)
    ]
    | inr at_end ↦ inr at_end
  ];
  stays = λ end. let first = p.stays end in let second = q.stays first.0 in (second.0, ap (λ (t : List ℕ). t ++ back) first.1 ∙ second.1, second.2 ∙ first.2);
}

-- what is held and how much room there is makes no difference
pub fills_alike : (a b c : Buffered) (x y : Input) (bytes : List ℕ) → Fills a b x y bytes → c.input ≡ b.input → c.taken ≡ b.taken → c.ended ≡ b.ended → Fills a c x y bytes
fills_alike a b c x y bytes p input taken ended = record {
  takes = p.takes;
  input = input ∙ p.input;
  taken = taken ∙ p.taken;
  met = λ end. p.met (sym ended ∙ end);
  stays = λ end. let first = p.stays end in (ended ∙ first.0, first.1, first.2);
}

pub read_fills : (a b : Buffered) (x y : Input) (going : a.ended ≡ false) (reads : Reads a b x y) → Fills a b x y reads.bytes
read_fills a b x y going reads = record {
  takes = reads.adds.takes;
  input = reads.adds.input;
  taken = reads.adds.taken;
  met = λ end. let met = reads.ended end in inr (met.1, met.2);
  stays = λ end. absurd (false≢true (sym going ∙ end));
}

-- a failed read
pub missed_fills : (a b : Buffered) (x y : Input) → a.ended ≡ false → b ≡ record a { room = b.room } → Takes x y [] → Fills a b x y []
missed_fills a b x y going kept takes = record {
  takes = takes;
  input = ap (λ (k : Buffered). k.input) kept;
  taken = let same : b.taken ≡ a.taken = ap (λ (k : Buffered). k.taken) kept in omega arith;
  met = λ end. inl (sym (ap (λ (k : Buffered). k.ended) kept) ∙ end);
  stays = λ end. absurd (false≢true (sym going ∙ end));
}

-- the end isn't left behind
pub was_going : (old new : Buffered) (before after : Input) (bytes : List ℕ) → Fills old new before after bytes → new.ended ≡ false → old.ended ≡ false
was_going old new before after bytes fills going = by_end old.ended refl
  where
    by_end : (t : Bool) → old.ended ≡ t → old.ended ≡ false
    by_end true is = absurd (false≢true (sym going ∙ (fills.stays is).0))
    by_end false is = is

-- ---- within a line

-- Reads took these bytes, and no line has ended in what was held and what they took; the end isn't met.
pub record InLine (limit : ℕ) (old now : Buffered) (before after : Input) (front : List ℕ) : Type 0 where
  pub fills : Fills old now before after front
  pub clear : has_feed (old.held ++ front) ≡ false
  pub small : now.taken < 2 ^ 64
  pub within : old.taken ≤ limit → now.taken ≤ limit
  pub going : now.ended ≡ false
  pub held : length now.held ≤ length old.held + length front

taken_within : (limit : ℕ) (old now : Buffered) (before after : Input) (front : List ℕ) → InLine limit old now before after front → old.taken ≤ limit → old.taken + length front ≤ limit
taken_within limit old now before after front line low = let taken = line.fills.taken in let within = line.within low in omega arith

pub stop_fault : (limit : ℕ) (old now new : Buffered) (before mid after : Input) (front : List ℕ) → InLine limit old now before mid front → new ≡ record now { room = new.room } → GaveNone mid after → Stops limit ReadFault old new before after
stop_fault limit old now new before mid after front line kept none = (
  record {
    front = front;
    fills = fills_trans old now new before mid after front [] line.fills (missed_fills now new mid after line.going kept none.takes);
    few = omega arith;
    going = was_going old now before mid front line.fills line.going;
    clear = line.clear;
    small = let taken = line.fills.taken in let small = line.small in omega arith;
    within = taken_within limit old now before mid front line;
    held = let same : length new.held ≡ length now.held = ap (λ (k : Buffered). length k.held) kept in let n = length-append front [] in let low = line.held in omega arith;
  },
  rose before mid after line.fills.takes none,
  none.not_ended,
)
  where
    rose : (a b c : Input) → Takes a b front → GaveNone b c → Rose a.faults c.faults
    rose a b c p q = let first = p.later in let second = q.rose in omega arith

pub stop_memory : (limit : ℕ) (old now new : Buffered) (before mid after : Input) (front : List ℕ) → InLine limit old now before mid front → new ≡ record now { room = new.room } → after ≡ mid → Stops limit NoMemory old new before after
stop_memory limit old now new before mid after front line kept same = record {
  front = front;
  fills = fills_trans old now new before mid after front [] line.fills (missed_fills now new mid after line.going kept (subst (λ (i : Input). Takes mid i []) (sym same) (takes_none mid)));
  few = omega arith;
  going = was_going old now before mid front line.fills line.going;
  clear = line.clear;
  small = let taken = line.fills.taken in let small = line.small in omega arith;
  within = taken_within limit old now before mid front line;
  held = let same : length new.held ≡ length now.held = ap (λ (k : Buffered). length k.held) kept in let n = length-append front [] in let low = line.held in omega arith;
}

pub stop_limit : (limit : ℕ) (old now new : Buffered) (before mid after : Input) (front : List ℕ) → InLine limit old now before mid front → Reads now new mid after → limit < new.taken → new.ended ≡ false → Stops limit InputLimit old new before after
stop_limit limit old now new before mid after front line reads past going = (
  reads.bytes,
  record {
    front = front;
    fills = fills_trans old now new before mid after front reads.bytes line.fills (read_fills now new mid after line.going reads);
    few = reads.few;
    going = was_going old now before mid front line.fills line.going;
    clear = line.clear;
    small = let taken = line.fills.taken in let small = line.small in omega arith;
    within = taken_within limit old now before mid front line;
    held =
        let same = ap (λ (x : List ℕ). length x) reads.adds.held in
        let joined = length-append now.held reads.bytes in
        let n = length-append front reads.bytes in let low = line.held in omega arith;
  },
  past,
  (reads.going going).1,
)

-- whatever the stop
pub stops_here : (limit : ℕ) (stop : ReadStop) (old now new : Buffered) (before : Input) (y z : ℕ → Input) (front : List ℕ) → InLine limit old now before (y old.input) front → now.input ≡ old.input
    → (stop ≡ ReadFault → (new ≡ record now { room = new.room }) × GaveNone (y now.input) (z now.input))
    → (stop ≡ NoMemory → (new ≡ record now { room = new.room }) × (z ≡ y))
    → (stop ≡ InputLimit → Reads now new (y now.input) (z now.input) × (limit < new.taken) × (new.ended ≡ false))
    → Stops limit stop old new before (z old.input)
stops_here limit ReadFault old now new before y z front line same fault memory past =
    let f = fault refl in stop_fault limit old now new before (y old.input) (z old.input) front line f.0 (subst (λ (i : ℕ). GaveNone (y i) (z i)) same f.1)
stops_here limit InputLimit old now new before y z front line same fault memory past =
    let f = past refl in stop_limit limit old now new before (y old.input) (z old.input) front line (subst (λ (i : ℕ). Reads now new (y i) (z i)) same f.0) f.1 f.2
stops_here limit NoMemory old now new before y z front line same fault memory past =
    let f = memory refl in stop_memory limit old now new before (y old.input) (z old.input) front line f.0 (ap (λ (k : ℕ → Input). k old.input) f.1)

-- ---- the search for the first line feed

-- Reads put these bytes behind what was held, and no line feed stands before a place, behind which few bytes stand.
pub record Searched (limit : ℕ) (old now : Buffered) (before after : Input) (searched : ℕ) : Type 0 where
  pub bytes : List ℕ
  pub fills : Fills old now before after bytes
  pub held : now.held ≡ old.held ++ bytes
  pub clear : has_feed (take searched now.held) ≡ false
  pub place : searched ≤ length now.held
  pub few : length now.held ≤ searched + most_read
  pub within : old.taken ≤ limit → now.taken ≤ limit
  pub unread : has_feed old.held ≡ true → after ≡ before

pub searched_none : (limit : ℕ) (old : Buffered) (input : Input) → length old.held ≤ most_read → Searched limit old old input input 0
searched_none limit old input few = record {
  bytes = [];
  fills = fills_none old input;
  held = sym (append-nil old.held);
  clear = refl;
  place = omega arith;
  few = omega arith;
  within = λ low. low;
  unread = λ feed. refl;
}

no_feed_before : (old now : List ℕ) (bytes : List ℕ) → now ≡ old ++ bytes → has_feed now ≡ false → has_feed old ≡ false
no_feed_before old now bytes is clear = (clear_parts old bytes (sym (ap has_feed is) ∙ clear)).0

-- all of it was searched
pub searched_line : (limit : ℕ) (old now : Buffered) (before after : Input) (place : ℕ) (s : Searched limit old now before after place) → has_feed now.held ≡ false → now.ended ≡ false → now.taken < 2 ^ 64 → InLine limit old now before after s.bytes
searched_line limit old now before after place s clear going small = record {
  small = small;
  fills = s.fills;
  clear = sym (ap has_feed s.held) ∙ clear;
  within = s.within;
  going = going;
  held = let same = ap (λ (x : List ℕ). length x) s.held in let n = length-append old.held s.bytes in omega arith;
}

-- and one more read
pub searched_on : (limit : ℕ) (old now new : Buffered) (before mid after : Input) (place : ℕ) → Searched limit old now before mid place → has_feed now.held ≡ false → now.ended ≡ false → Reads now new mid after
    → (now.taken ≤ limit → new.taken ≤ limit) → Searched limit old new before after (length now.held)
searched_on limit old now new before mid after place s clear going reads within = record {
  bytes = s.bytes ++ reads.bytes;
  fills = fills_trans old now new before mid after s.bytes reads.bytes s.fills (read_fills now new mid after going reads);
  held = reads.adds.held ∙ ap (λ (x : List ℕ). x ++ reads.bytes) s.held ∙ append_assoc old.held s.bytes reads.bytes;
  clear = ap (λ (x : List ℕ). has_feed (take (length now.held) x)) reads.adds.held ∙ ap has_feed (take_at now.held reads.bytes (length now.held) refl) ∙ clear;
  place = let same = ap (λ (x : List ℕ). length x) reads.adds.held in let n = length-append now.held reads.bytes in omega arith;
  few = let same = ap (λ (x : List ℕ). length x) reads.adds.held in let n = length-append now.held reads.bytes in let few = reads.few in omega arith;
  within = λ low. within (s.within low);
  unread = λ feed. absurd (false≢true (sym (no_feed_before old.held now.held s.bytes s.held clear) ∙ feed));
}

-- what is found
pub found_piece : (limit : ℕ) (old now : Buffered) (before after : Input) (place n : ℕ) → Searched limit old now before after place → IsFirstFeed now.held n → place ≤ n → FrontIs old now before after (IsPiece n)
found_piece limit old now before after place n s feed low = record {
  bytes = s.bytes;
  fills = s.fills;
  held = s.held;
  holds = record { feed = feed; beyond = let few = s.few in omega arith };
}

pub found_rest : (limit : ℕ) (old now : Buffered) (before after : Input) (place : ℕ) → Searched limit old now before after place → has_feed now.held ≡ false → FrontIs old now before after (λ held. has_feed held ≡ false)
found_rest limit old now before after place s clear = record { bytes = s.bytes; fills = s.fills; held = s.held; holds = clear }

pub found_long : (limit : ℕ) (old now : Buffered) (before after : Input) (place : ℕ) → Searched limit old now before after place → has_feed now.held ≡ false → most_bytes < length now.held → FrontIs old now before after IsLong
found_long limit old now before after place s clear long = record { bytes = s.bytes; fills = s.fills; held = s.held; holds = record { clear = clear; long = long } }

-- ---- a line behind what was found first

pub finds_later : (a b c : Buffered) (x y z : Input) (line : FoundLine) (bytes : List ℕ) → Fills a b x y bytes → b.held ≡ a.held ++ bytes → Finds line b c y z → Finds line a c x z
finds_later a b c x y z line bytes fills held finds = record {
  bytes = bytes ++ finds.bytes;
  fills = fills_trans a b c x y z bytes finds.bytes fills finds.fills;
  piece = finds.piece;
  clear = finds.clear;
  front = subst (λ (t : List ℕ). IsFrontPiece finds.piece t (drop line.whole c.held) c.ended) (ap (λ (t : List ℕ). t ++ finds.bytes) held ∙ append_assoc a.held bytes finds.bytes) finds.front;
  is = finds.is;
  within = finds.within;
  text_within = finds.text_within;
  beyond = finds.beyond;
}

pub stopped_later : (limit : ℕ) (a b c : Buffered) (x y z : Input) (bytes last : List ℕ) → Fills a b x y bytes → b.held ≡ a.held ++ bytes → (a.taken ≤ limit → b.taken ≤ limit) → Stopped limit b c y z last → Stopped limit a c x z last
stopped_later limit a b c x y z bytes last fills held within stopped = record {
  front = bytes ++ stopped.front;
  fills = subst (λ (t : List ℕ). Fills a c x z t) (sym (append_assoc bytes stopped.front last)) (fills_trans a b c x y z bytes (stopped.front ++ last) fills stopped.fills);
  few = stopped.few;
  going = was_going a b x y bytes fills stopped.going;
  small = let later = stopped.small in let first = fills.taken in let n = length-append bytes stopped.front in omega arith;
  clear = ap has_feed (sym (append_assoc a.held bytes stopped.front)) ∙ ap (λ (t : List ℕ). has_feed (t ++ stopped.front)) (sym held) ∙ stopped.clear;
  within = λ low. let later = stopped.within (within low) in let first = fills.taken in let n = length-append bytes stopped.front in omega arith;
  held =
      let later = stopped.held in
      let first = ap (λ (t : List ℕ). length t) held ∙ length-append a.held bytes in
      let n = length-append bytes stopped.front in
      let m = length-append stopped.front last in
      let k = length-append (bytes ++ stopped.front) last in omega arith;
}

pub finds_behind : (a b c : Buffered) (x : Input) (y z : ℕ → Input) (line : FoundLine) (bytes : List ℕ) → Fills a b x (y a.input) bytes → b.held ≡ a.held ++ bytes → Finds line b c (y b.input) (z b.input) → Finds line a c x (z a.input)
finds_behind a b c x y z line bytes fills held finds = finds_later a b c x (y a.input) (z a.input) line bytes fills held (subst (λ (i : ℕ). Finds line b c (y i) (z i)) fills.input finds)

pub stops_behind : (limit : ℕ) (stop : ReadStop) (a b c : Buffered) (x : Input) (y z : ℕ → Input) (bytes : List ℕ) → Fills a b x (y a.input) bytes → b.held ≡ a.held ++ bytes → (a.taken ≤ limit → b.taken ≤ limit) → Stops limit stop b c (y b.input) (z b.input) → Stops limit stop a c x (z a.input)
stops_behind limit stop a b c x y z bytes fills held within stops = by_stop stop (subst (λ (i : ℕ). Stops limit stop b c (y i) (z i)) fills.input stops)
  where
    rose : (p q r : Input) → Takes p q bytes → Rose q.faults r.faults → Rose p.faults r.faults
    rose p q r takes later = let first = takes.later in omega arith

    by_stop : (stop : ReadStop) → Stops limit stop b c (y a.input) (z a.input) → Stops limit stop a c x (z a.input)
    by_stop ReadFault s = (stopped_later limit a b c x (y a.input) (z a.input) bytes [] fills held within s.0, rose x (y a.input) (z a.input) fills.takes s.1, s.2)
    by_stop InputLimit s = (s.0, stopped_later limit a b c x (y a.input) (z a.input) bytes s.0 fills held within s.1, s.2, s.3)
    by_stop NoMemory s = stopped_later limit a b c x (y a.input) (z a.input) bytes [] fills held within s

-- each read but the last takes some bytes, within the limit
pub room_falls : (limit : ℕ) (now new : Buffered) (mid after : Input) → now.ended ≡ false → Reads now new mid after → (new.ended ≡ false → new.taken ≤ limit) → (if new.ended then 0 else suc (limit - new.taken)) < (if now.ended then 0 else suc (limit - now.taken))
room_falls limit now new mid after going reads within = rw going (by_end new.ended refl)
  where
    by_end : (t : Bool) → new.ended ≡ t → (if t then 0 else suc (limit - new.taken)) < suc (limit - now.taken)
    by_end true is = omega arith
    by_end false is = let low = within is in let some = (reads.going is).0 in let taken = reads.adds.taken in omega arith

-- ---- the answer of a search

abbrev IsFeed : List ℕ → ℕ → Type 0
IsFeed bytes k = (slice_index bytes k == line_feed) ≡ true

no_feed : (bytes : List ℕ) → ((k : ℕ) → k < length bytes → IsFeed bytes k → ⊥) → has_feed bytes ≡ false
no_feed [] before = refl
no_feed (b ∷ bytes) before = elim (cases_Bool (b == line_feed)) [
  | inl feed ↦ absurd (before 0 (omega arith) feed)
  | inr other ↦ rw other (no_feed bytes (λ k less. before (suc k) (omega arith)))
]

feed_at : (bytes : List ℕ) (n : ℕ) → n < length bytes → ((k : ℕ) → k < n → IsFeed bytes k → ⊥) → IsFeed bytes n → (has_feed (take n bytes) ≡ false) × (bytes ≡ take n bytes ++ line_feed ∷ drop (suc n) bytes)
feed_at [] n within before here = absurd (omega arith)
feed_at (b ∷ bytes) zero within before here = (refl, ap (λ (x : ℕ). x ∷ bytes) (same_byte b here))
  where
    same_byte : (b : ℕ) → (b == line_feed) ≡ true → b ≡ line_feed
    same_byte b is = grind (arith, nat_tests)
feed_at (b ∷ bytes) (suc n) within before here =
    let later = feed_at bytes n (omega arith) (λ k less. before (suc k) (omega arith)) here in elim (cases_Bool (b == line_feed)) [
      | inl feed ↦ absurd (before 0 (omega arith) feed)
      | inr other ↦ (rw other later.0, ap (λ (x : List ℕ). b ∷ x) later.1)
    ]

-- the first line feed, where none stands before a place
feed_from : (bytes : List ℕ) (place n : ℕ) → place ≤ length bytes → has_feed (take place bytes) ≡ false → n < length (drop place bytes) → ((k : ℕ) → k < n → IsFeed (drop place bytes) k → ⊥) → IsFeed (drop place bytes) n → IsFirstFeed bytes (place + n)
feed_from bytes place n low clear within before here =
    let found = feed_at (drop place bytes) n within before here in
    let front = take place bytes in
    let parts = take-append-drop place bytes in
    let size : length front ≡ place = length-take-le place bytes low in
    let both : take (place + n) bytes ≡ front ++ take n (drop place bytes) = take-add place n bytes in
    let rest : drop (suc n) (drop place bytes) ≡ drop (place + n + 1) bytes = drop-drop (suc n) place bytes ∙ ap (λ (k : ℕ). drop k bytes) (let e : place + suc n ≡ place + n + 1 = omega arith in e) in record {
      within = let d = length-drop place bytes in omega arith;
      clear = ap has_feed both ∙ clear_both front (take n (drop place bytes)) clear found.0;
      split =
          sym parts ∙ ap (λ (x : List ℕ). front ++ x) found.1 ∙ sym (append_assoc front (take n (drop place bytes)) (line_feed ∷ drop (suc n) (drop place bytes)))
          ∙ ap (λ (x : List ℕ). x ++ line_feed ∷ drop (suc n) (drop place bytes)) (sym both) ∙ ap (λ (x : List ℕ). take (place + n) bytes ++ line_feed ∷ x) rest;
    }

no_feed_from : (bytes : List ℕ) (place : ℕ) → has_feed (take place bytes) ≡ false → ((k : ℕ) → k < length (drop place bytes) → IsFeed (drop place bytes) k → ⊥) → has_feed bytes ≡ false
no_feed_from bytes place clear before = ap has_feed (sym (take-append-drop place bytes)) ∙ clear_both (take place bytes) (drop place bytes) clear (no_feed (drop place bytes) before)

pub first_in_rest : (bytes rest : List ℕ) (place n : ℕ) → rest ≡ drop place bytes → place ≤ length bytes → has_feed (take place bytes) ≡ false → n < length rest → ((k : ℕ) → k < n → IsFeed rest k → ⊥) → IsFeed rest n → IsFirstFeed bytes (place + n)
first_in_rest bytes rest place n is low clear within before here =
    subst (λ (r : List ℕ). n < length r → ((k : ℕ) → k < n → IsFeed r k → ⊥) → IsFeed r n → IsFirstFeed bytes (place + n)) (sym is) (feed_from bytes place n low clear) within before here

pub none_in_rest : (bytes rest : List ℕ) (place : ℕ) → rest ≡ drop place bytes → has_feed (take place bytes) ≡ false → ((k : ℕ) → k < length rest → IsFeed rest k → ⊥) → has_feed bytes ≡ false
none_in_rest bytes rest place is clear before =
    subst (λ (r : List ℕ). ((k : ℕ) → k < length r → IsFeed r k → ⊥) → has_feed bytes ≡ false) (sym is) (no_feed_from bytes place clear) before
