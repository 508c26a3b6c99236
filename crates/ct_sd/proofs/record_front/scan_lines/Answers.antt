use Rattle.std.proofs.Common.{arith, ◌+◌, ◌++◌, [], ◌∷◌, ℕ, List, take, drop, refl, sym, subst}
use Rattle.mc_base.specs.declared.span.Span.{Span}
use Rattle.mc_io.specs.Lines.{line_feed}
use Rattle.ct_sd.specs.declared.record_front.LineRole.TheVariants.{Line, End, TooLong}
use Rattle.ct_sd.specs.FoundRecords.{IsScanned, Plays}
use Rattle.ct_sd.proofs.Scanning.{clear_here, line_here, meets_line, role_here, scanned_more, small_line}
use Rattle.ct_sd.proofs.record_front.scan_lines.Goals as goal

pub first_feed-requires-clause-clear : goal.first_feed-requires-clause-clear
first_feed-requires-clause-clear c = clear_here c.args.held.now c.loop-len.scan c.loop-len.ranges.items c.loop-len.invariant.scanned

pub push_range-requires : goal.push_range-requires
push_range-requires c =
    let held = c.args.held.now in
    let scan = c.loop-len.scan in
    let s = c.loop-len.invariant.scanned in
    let line = line_here held scan c.loop-len.ranges.items c.in-Some.len s c.in-Some.ensures.found.0 in
    small_line scan.at c.in-Line.text (take c.in-Some.len (drop scan.at held) ++ line_feed ∷ []) s.short (role_here held scan.at c.in-Some.len (Line c.in-Line.text) line c.in-Line.ensures)

pub loop-len-preserved : goal.loop-len-preserved
loop-len-preserved c =
    let held = c.args.held.now in
    let scan = c.loop-len.scan in
    let s = c.loop-len.invariant.scanned in
    let len : ℕ = c.in-Some.len in
    let feed = c.in-Some.ensures.found in
    let line = line_here held scan c.loop-len.ranges.items len s feed.0 in
    let plays = role_here held scan.at len (Line c.in-Line.text) line c.in-Line.ensures in
    let before = c.loop-len.invariant.later in
    let low = feed.1 in
    let order = s.order in record {
      scanned = subst (λ (rs : List Span). IsScanned held (record { at = scan.at + len + 1; searched = scan.at + len + 1 }) rs) (sym c.in_ok-push_range-in-Line.ensures)
          (scanned_more held scan (record { at = scan.at + len + 1; searched = scan.at + len + 1 }) c.loop-len.ranges.items _ len c.in-Line.text (take len (drop scan.at held)) s line plays refl refl refl refl);
      later = omega arith;
    }

pub returns-in-End-clause-met : goal.returns-in-End-clause-met
returns-in-End-clause-met c =
    let held = c.args.held.now in
    let scan = c.loop-len.scan in
    let s = c.loop-len.invariant.scanned in
    let len : ℕ = c.in-Some.len in
    let feed = c.in-Some.ensures.found in
    let line = line_here held scan c.loop-len.ranges.items len s feed.0 in
    (scan.at + len, meets_line held scan c.loop-len.ranges.items len (scan.at + len) (scan.at + len + 1) (take len (drop scan.at held)) (λ (whole : List ℕ). Plays End scan.at whole) s line feed.1 refl refl (role_here held scan.at len End line c.in-End.ensures))

pub returns-in-TooLong-clause-met : goal.returns-in-TooLong-clause-met
returns-in-TooLong-clause-met c =
    let held = c.args.held.now in
    let scan = c.loop-len.scan in
    let s = c.loop-len.invariant.scanned in
    let len : ℕ = c.in-Some.len in
    let feed = c.in-Some.ensures.found in
    let line = line_here held scan c.loop-len.ranges.items len s feed.0 in
    (scan.at + len, scan.at + len + 1, meets_line held scan c.loop-len.ranges.items len (scan.at + len) (scan.at + len + 1) (take len (drop scan.at held)) (λ (whole : List ℕ). Plays TooLong scan.at whole) s line feed.1 refl refl (role_here held scan.at len TooLong line c.in-TooLong.ensures))
