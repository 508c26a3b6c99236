-- How the lines of a record are found among the bytes that are held.
use Rattle.std.proofs.Common.{arith, ◌≡◌, ◌∙◌, ℕ, zero, suc, ◌+◌, ◌-◌, ◌^◌, ◌<◌, ◌≤◌, ◌==◌, if◌then◌else◌, Bool, true, false, List, [], ◌∷◌, ◌++◌, length, take, drop, refl, ap, sym, subst}
use Rattle.std.proofs.Math.Seq.{take-add}
use Rattle.std.proofs.lemmas.List.{drop-drop, length-drop, length-take-le, take_all}
use Rattle.mc_base.specs.declared.span.Span.{Span}
use Rattle.mc_io.specs.FoundLines.{IsFirstFeed}
use Rattle.mc_io.specs.Lines.{has_feed, line_feed}
use Rattle.mc_io.proofs.Cutting.{text_len_le}
use Rattle.ct_sd.specs.declared.record_front.LineRole.{LineRole}
use Rattle.ct_sd.specs.declared.record_front.LineRole.TheVariants.{Line}
use Rattle.ct_sd.specs.declared.record_front.Scan.{Scan}
use Rattle.ct_sd.specs.FoundRecords.{AreSpans, IsScanned, Meets, Plays}
use Rattle.ct_sd.specs.Records.{joined, most_record_bytes, piece_of}
use Rattle.ct_sd.proofs.FedLines.{fed_front, fed_len, joined_more, none_more, piece_is, plain_both, short_enough, span_more}

-- how many bytes the lines have
pub at_is : (held : List ℕ) (scan : Scan) (ranges : List Span) (s : IsScanned held scan ranges) → scan.at ≡ length (joined s.lines)
at_is held scan ranges s =
    let low = s.order in let high = s.within in
    sym (length-take-le scan.at held (omega arith)) ∙ ap length s.front

-- a line feed at a place of the rest
pub record IsNextLine (held : List ℕ) (at len : ℕ) (piece : List ℕ) : Type 0 where
  pub clear : has_feed piece ≡ false
  pub size : length piece ≡ len
  pub split : drop at held ≡ piece ++ line_feed ∷ drop (at + len + 1) held
  pub within : at + len + 1 ≤ length held
  pub front : take (at + len + 1) held ≡ take at held ++ (piece ++ line_feed ∷ [])

pub next_line : (held rest : List ℕ) (at len : ℕ) → at ≤ length held → rest ≡ drop at held → IsFirstFeed rest len → IsNextLine held at len (take len (drop at held))
next_line held rest at len low is feed =
    let all : IsFirstFeed (drop at held) len = subst (λ (t : List ℕ). IsFirstFeed t len) is feed in
    let n = length-drop at held in
    let less = all.within in
    let size : length (take len (drop at held)) ≡ len = length-take-le len (drop at held) (omega arith) in
    let split : drop at held ≡ take len (drop at held) ++ line_feed ∷ drop (at + len + 1) held =
    all.split ∙ ap (λ (t : List ℕ). take len (drop at held) ++ line_feed ∷ t) (drop-drop (len + 1) at held ∙ ap (λ (k : ℕ). drop k held) (let e : at + (len + 1) ≡ at + len + 1 = omega arith in e)) in record {
      clear = all.clear;
      size = size;
      split = split;
      within = omega arith;
      front =
          ap (λ (k : ℕ). take k held) (let e : at + len + 1 ≡ at + (len + 1) = omega arith in e)
          ∙ (take-add at (len + 1) held
          ∙ ap (λ (t : List ℕ). take at held ++ t) (ap (take (len + 1)) split ∙ (ap (λ (k : ℕ). take (k + 1) (take len (drop at held) ++ line_feed ∷ drop (at + len + 1) held)) (sym size) ∙ fed_front (take len (drop at held)) (drop (at + len + 1) held))));
    }

none_there : (n : ℕ) (xs : List ℕ) → has_feed (take (n - n) xs) ≡ false
none_there n xs = ap (λ (k : ℕ). has_feed (take k xs)) (let e : n - n ≡ 0 = omega arith in e)

-- one more line
pub scanned_more : (held : List ℕ) (scan next : Scan) (ranges : List Span) (range : Span) (len text : ℕ) (piece : List ℕ) → IsScanned held scan ranges → IsNextLine held scan.at len piece
    → Plays (Line text) scan.at (piece ++ line_feed ∷ []) → next.at ≡ scan.at + len + 1 → next.searched ≡ scan.at + len + 1 → range.from ≡ scan.at → range.to ≡ scan.at + text → IsScanned held next (ranges ++ range ∷ [])
scanned_more held scan next ranges range len text piece s line plays at searched from to =
    let whole = piece ++ line_feed ∷ [] in
    let size : scan.at ≡ length (joined s.lines) = at_is held scan ranges s in
    let n : length whole ≡ length piece + 1 = fed_len piece in
    let m = line.size in
    let short = short_enough scan.at whole s.short plays.0 in
    let inside = line.within in
    let bare : piece_of whole ≡ piece = piece_is piece line.clear in record {
      lines = s.lines ++ whole ∷ [];
      plain = plain_both s.lines (whole ∷ []) s.plain (record { fed = record { piece = piece; clear = line.clear; is = refl }; other = plays.1 }, tt);
      front =
          ap (λ (k : ℕ). take k held) at
          ∙ (line.front ∙ (ap (λ (t : List ℕ). t ++ whole) s.front ∙ sym (joined_more s.lines whole)));
      order = omega arith;
      within = omega arith;
      short = omega arith;
      none = none_more s.lines scan.at whole s.none size plays.0;
      clear = subst (λ (k : ℕ). has_feed (take (k - next.at) (drop next.at held)) ≡ false) (at ∙ sym searched) (none_there next.at (drop next.at held));
      spans = span_more s.lines ranges piece whole (line_feed ∷ []) scan.at text range s.spans size bare refl plays.2 from to;
    }

-- another line
pub meets_line : (held : List ℕ) (scan : Scan) (ranges : List Span) (len to behind : ℕ) (piece : List ℕ) (Is : List ℕ → Type 0) → IsScanned held scan ranges → IsNextLine held scan.at len piece → scan.searched - scan.at ≤ len
    → to ≡ scan.at + len → behind ≡ to + 1 → Is (piece ++ line_feed ∷ []) → Meets held scan ranges to behind Is
meets_line held scan ranges len to behind piece Is s line low to_is behind_is is =
    let size = line.size in
    let inside = line.within in
    let order = s.order in
    let same : behind ≡ scan.at + len + 1 = omega arith in record {
      scanned = s;
      piece = piece;
      clear = line.clear;
      split = line.split ∙ ap (λ (k : ℕ). piece ++ line_feed ∷ drop k held) (sym same);
      to_is = omega arith;
      behind_is = behind_is;
      within = omega arith;
      later = omega arith;
      is = is;
    }

-- all that is held is searched
pub scanned_all : (held rest : List ℕ) (scan next : Scan) (ranges : List Span) → IsScanned held scan ranges → rest ≡ drop scan.at held → has_feed rest ≡ false → next.at ≡ scan.at → next.searched ≡ length held → IsScanned held next ranges
scanned_all held rest scan next ranges s is clear at searched =
    let order = s.order in
    let inside = s.within in
    let n = length-drop scan.at held in record {
      lines = s.lines;
      plain = s.plain;
      front = ap (λ (k : ℕ). take k held) at ∙ s.front;
      order = omega arith;
      within = omega arith;
      short = let short = s.short in omega arith;
      none = s.none;
      clear =
          ap (λ (k : ℕ). has_feed (take (next.searched - k) (drop k held))) at
          ∙ (ap (λ (k : ℕ). has_feed (take (k - scan.at) (drop scan.at held))) searched
          ∙ (ap has_feed (all_of (length held - scan.at) (drop scan.at held) (omega arith)) ∙ (sym (ap has_feed is) ∙ clear)));
      spans = s.spans;
    }
  where
    all_of : (n : ℕ) (xs : List ℕ) → length xs ≤ n → take n xs ≡ xs
    all_of zero [] low = refl
    all_of zero (x ∷ xs) low = absurd (omega arith)
    all_of (suc n) [] low = refl
    all_of (suc n) (x ∷ xs) low = ap (λ (t : List ℕ). x ∷ t) (all_of n xs (omega arith))

-- nothing is scanned yet
pub scanned_none : (held : List ℕ) (scan : Scan) (ranges : List Span) → scan.at ≡ 0 → scan.searched ≡ 0 → ranges ≡ [] → IsScanned held scan ranges
scanned_none held scan ranges at searched none = record {
  lines = [];
  plain = tt;
  front = ap (λ (k : ℕ). take k held) at;
  order = omega arith;
  within = omega arith;
  short = omega arith;
  none = refl;
  clear = ap (λ (k : ℕ). has_feed (take (k - scan.at) (drop scan.at held))) searched ∙ ap (λ (k : ℕ). has_feed (take (0 - k) (drop scan.at held))) at;
  spans = subst (λ (t : List Span). AreSpans [] t []) (sym none) tt;
}

-- ---- the steps of the loop

rest_is : (held : List ℕ) (at : ℕ) → at ≤ length held → take (length held - at) (drop at held) ≡ drop at held
rest_is held at low = take_all (length held - at) (drop at held) (let n = length-drop at held in omega arith)

pub clear_here : (held : List ℕ) (scan : Scan) (ranges : List Span) → IsScanned held scan ranges → has_feed (take (scan.searched - scan.at) (take (length held - scan.at) (drop scan.at held))) ≡ false
clear_here held scan ranges s =
    let order = s.order in
    let inside = s.within in ap (λ (t : List ℕ). has_feed (take (scan.searched - scan.at) t)) (rest_is held scan.at (omega arith)) ∙ s.clear

pub line_here : (held : List ℕ) (scan : Scan) (ranges : List Span) (len : ℕ) → IsScanned held scan ranges → IsFirstFeed (take (length held - scan.at) (drop scan.at held)) len → IsNextLine held scan.at len (take len (drop scan.at held))
line_here held scan ranges len s feed =
    let order = s.order in
    let inside = s.within in next_line held (take (length held - scan.at) (drop scan.at held)) scan.at len (omega arith) (rest_is held scan.at (omega arith)) feed

pub role_here : (held : List ℕ) (at len : ℕ) (role : LineRole) → IsNextLine held at len (take len (drop at held))
    → ((whole : List ℕ) → piece_of whole ≡ take (at + len - at) (drop at held) → at + len + 1 ≡ at + length whole → Plays role at whole) → Plays role at (take len (drop at held) ++ line_feed ∷ [])
role_here held at len role line plays =
    let piece = take len (drop at held) in
    let size = line.size in
    let n = fed_len piece in
    plays (piece ++ line_feed ∷ []) (piece_is piece line.clear ∙ ap (λ (k : ℕ). take k (drop at held)) (let e : len ≡ at + len - at = omega arith in e)) (omega arith)

-- the range of a line fits
pub small_line : (at text : ℕ) (whole : List ℕ) → at ≤ most_record_bytes → Plays (Line text) at whole → at + text < 2 ^ 32
small_line at text whole low plays =
    let short = short_enough at whole low plays.0 in
    let a = text_len_le (piece_of whole) in
    let b = piece_len whole in
    let is = plays.2 in omega arith
  where
    piece_len : (whole : List ℕ) → length (piece_of whole) ≤ length whole
    piece_len [] = omega arith
    piece_len (b ∷ whole) = by_test (b == line_feed) (piece_len whole)
      where
        by_test : (t : Bool) → length (piece_of whole) ≤ length whole → length (if t then [] else b ∷ piece_of whole) ≤ suc (length whole)
        by_test true le = omega arith
        by_test false le = omega arith
