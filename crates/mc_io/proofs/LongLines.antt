-- How a line is passed that is longer than the limit.
use Rattle.std.proofs.Common.{arith, ◌≡◌, ◌∙◌, ℕ, ◌+◌, ◌-◌, ◌^◌, ◌<◌, ◌≤◌, ◌==◌, ◌&&◌, Bool, true, false, List, [], ◌∷◌, ◌++◌, length, take, drop, Option, refl, ap, sym, subst, inl, inr}
use Rattle.std.specs.Prelude.{IsTrue}
use Rattle.std.specs.List.{list_all}
use Rattle.std.proofs.lemmas.Bool.{false≢true}
use Rattle.std.proofs.lemmas.List.{append_assoc, append-nil, length-append}
use Rattle.std.proofs.lemmas.List.Folds.{list_all-append}
use Rattle.mc_io.specs.Buffered.{Buffered, Reads, most_read}
use Rattle.mc_io.specs.FoundLines.{Fills, Finds, IsFirstFeed, IsFrontPiece, over_long, text_in, text_len}
use Rattle.mc_io.specs.Lines.{line_feed, carriage_return, has_feed, line_of, most_bytes}
use Rattle.mc_io.specs.Outside.{Input}
use Rattle.mc_io.specs.declared.line_finding.FoundLine.{FoundLine}
use Rattle.mc_io.proofs.Fillings.{InLine, fills_none, fills_alike, fills_trans, read_fills}
use Rattle.mc_io.proofs.FrontPieces.{clear_both}
use Rattle.mc_io.proofs.LineSteps.{long_is}

abbrev are_returns : List ℕ → Bool
are_returns bytes = list_all (λ b. b == carriage_return) bytes

-- What was passed of a line, and whether it is carriage returns alone; nothing of it is held.
pub record Passing (limit : ℕ) (old now : Buffered) (before after : Input) (returns : Bool) : Type 0 where
  pub front : List ℕ
  pub line : InLine limit old now before after front
  pub held : now.held ≡ []
  pub returns_is : returns ≡ list_all (λ b. b == carriage_return) (old.held ++ front)

pub passing_first : (limit : ℕ) (old now : Buffered) (input : Input) (returns : Bool) → old.ended ≡ false → has_feed old.held ≡ false → returns ≡ list_all (λ b. b == carriage_return) old.held → now ≡ record old { held = [] } → old.taken < 2 ^ 64 → Passing limit old now input input returns
passing_first limit old now input returns going clear all passed small = record {
  front = [];
  line = record {
    fills = fills_alike old old now input input [] (fills_none old input) (ap (λ (b : Buffered). b.input) passed) (ap (λ (b : Buffered). b.taken) passed) (ap (λ (b : Buffered). b.ended) passed);
    clear = ap has_feed (append-nil old.held) ∙ clear;
    small = let same : now.taken ≡ old.taken = ap (λ (b : Buffered). b.taken) passed in omega arith;
    within = λ low. let same : now.taken ≡ old.taken = ap (λ (b : Buffered). b.taken) passed in omega arith;
    going = ap (λ (b : Buffered). b.ended) passed ∙ going;
    held = let none : length now.held ≡ 0 = ap (λ (b : Buffered). length b.held) passed in omega arith;
  };
  held = ap (λ (b : Buffered). b.held) passed;
  returns_is = all ∙ ap are_returns (sym (append-nil old.held));
}

read_held : (limit : ℕ) (old now new : Buffered) (before mid after : Input) (returns : Bool) → Passing limit old now before mid returns → (reads : Reads now new mid after) → new.held ≡ reads.bytes
read_held limit old now new before mid after returns p reads = reads.adds.held ∙ ap (λ (t : List ℕ). t ++ reads.bytes) p.held

pub passing_on : (limit : ℕ) (old now new passed : Buffered) (before mid after : Input) (returns part : Bool) → Passing limit old now before mid returns → Reads now new mid after → new.ended ≡ false → has_feed new.held ≡ false
    → (now.taken ≤ limit → new.taken ≤ limit) → part ≡ list_all (λ b. b == carriage_return) new.held → passed ≡ record new { held = [] } → new.taken < 2 ^ 64 → Passing limit old passed before after (returns && part)
passing_on limit old now new passed before mid after returns part p reads going clear within all is small =
    let held = read_held limit old now new before mid after returns p reads in
    let bytes = reads.bytes in record {
      front = p.front ++ bytes;
      line = record {
        fills = fills_alike old new passed before after (p.front ++ bytes) (fills_trans old now new before mid after p.front bytes p.line.fills (read_fills now new mid after p.line.going reads)) (ap (λ (b : Buffered). b.input) is) (ap (λ (b : Buffered). b.taken) is) (ap (λ (b : Buffered). b.ended) is);
        clear = ap has_feed (sym (append_assoc old.held p.front bytes)) ∙ clear_both (old.held ++ p.front) bytes p.line.clear (sym (ap has_feed held) ∙ clear);
        small = let same : passed.taken ≡ new.taken = ap (λ (b : Buffered). b.taken) is in omega arith;
        within = λ low. let same : passed.taken ≡ new.taken = ap (λ (b : Buffered). b.taken) is in let first = p.line.within low in let later = within first in omega arith;
        going = ap (λ (b : Buffered). b.ended) is ∙ going;
        held = let none : length passed.held ≡ 0 = ap (λ (b : Buffered). length b.held) is in omega arith;
      };
      held = ap (λ (b : Buffered). b.held) is;
      returns_is =
          ap (λ (t : Bool). t && part) p.returns_is ∙ ap (λ (t : Bool). are_returns (old.held ++ p.front) && t) (all ∙ ap are_returns held)
          ∙ sym (list_all-append (λ b. b == carriage_return) (old.held ++ p.front) bytes) ∙ ap are_returns (append_assoc old.held p.front bytes);
    }

short_text : (returns : Bool) (whole : ℕ) → text_len (over_long returns whole).text ≤ whole
short_text true whole = omega arith
short_text false whole = omega arith

-- its line feed was found
pub finds_long : (limit : ℕ) (old now new : Buffered) (before mid after : Input) (returns part : Bool) (n : ℕ) → Passing limit old now before mid returns → Reads now new mid after → IsFirstFeed new.held n → most_bytes < length old.held
    → part ≡ list_all (λ b. b == carriage_return) (take n new.held) → Finds (over_long (returns && part) (n + 1)) old new before after
finds_long limit old now new before mid after returns part n p reads feed long all =
    let held = read_held limit old now new before mid after returns p reads in
    let bytes = reads.bytes in
    let start = old.held ++ p.front in
    let piece = start ++ take n new.held in
    let rest = drop (n + 1) new.held in record {
      bytes = p.front ++ bytes;
      fills = fills_trans old now new before mid after p.front bytes p.line.fills (read_fills now new mid after p.line.going reads);
      piece = piece;
      clear = clear_both start (take n new.held) p.line.clear feed.clear;
      front = inl (sym (append_assoc old.held p.front bytes) ∙ ap (λ (t : List ℕ). start ++ t) (sym held ∙ feed.split) ∙ sym (append_assoc start (take n new.held) (line_feed ∷ rest)));
      is = long_is piece new.held (returns && part) (n + 1) (let a = length-append start (take n new.held) in let b = length-append old.held p.front in omega arith)
          (ap (λ (t : Bool). t && part) p.returns_is ∙ ap (λ (t : Bool). are_returns start && t) all ∙ sym (list_all-append (λ b. b == carriage_return) start (take n new.held)));
      within = let low = feed.within in omega arith;
      text_within = short_text (returns && part) (n + 1);
      beyond = let size = ap (λ (t : List ℕ). length t) held in let few = reads.few in omega arith;
    }

-- the input ended with it
pub finds_long_last : (limit : ℕ) (old now new : Buffered) (before mid after : Input) (returns : Bool) → Passing limit old now before mid returns → Reads now new mid after → IsTrue new.ended → most_bytes < length old.held → Finds (over_long returns 0) old new before after
finds_long_last limit old now new before mid after returns p reads end long =
    let held = read_held limit old now new before mid after returns p reads in
    let none = (reads.ended end).0 in
    let size : length new.held ≡ 0 = ap (λ (t : List ℕ). length t) (held ∙ none) in
    let piece = old.held ++ p.front in
    let n = length-append old.held p.front in record {
      bytes = p.front ++ reads.bytes;
      fills = fills_trans old now new before mid after p.front reads.bytes p.line.fills (read_fills now new mid after p.line.going reads);
      piece = piece;
      clear = p.line.clear;
      front = inr (ap (λ (t : List ℕ). old.held ++ (p.front ++ t)) none ∙ ap (λ (t : List ℕ). old.held ++ t) (append-nil p.front), held ∙ none, omega arith, end);
      is = long_is piece new.held returns 0 (omega arith) p.returns_is;
      within = omega arith;
      text_within = short_text returns 0;
      beyond = omega arith;
    }
