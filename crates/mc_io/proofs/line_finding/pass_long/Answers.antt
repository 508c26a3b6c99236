use Rattle.std.proofs.Common.{arith, rules, ◌≡◌, ◌∙◌, ◌≤◌, ap, sym, subst, false, true, ℕ}
use Rattle.std.specs.Prelude.{IsTrue}
use Rattle.mc_io.specs.Buffered.{Buffered, Reads}
use Rattle.mc_io.specs.FoundLines.{Finds, IsFirstFeed}
use Rattle.mc_io.specs.Lines.{has_feed}
use Rattle.mc_io.specs.declared.line_finding.FoundLine.{FoundLine}
use Rattle.mc_io.proofs.LongLines.{finds_long, finds_long_last, passing_on}
use Rattle.mc_io.proofs.line_finding.pass_long.Goals as goal

pub returns-in-Some-clause-finds : goal.returns-in-Some-clause-finds
returns-in-Some-clause-finds g c =
    let old = c.args.buffer.now in
    let inv = c.loop-buffer.invariant in
    let new = c.read_more.new.self in
    let x = g.S.Source.inputs c.args.source.now old.input in
    let y = g.S.Source.inputs c.loop-buffer.source in
    let z = g.S.Source.inputs c.read_more.new.source in
    let reads = subst (λ (i : ℕ). Reads c.loop-buffer.buffer new (y i) (z i)) inv.input c.in_ok-read_more.ensures.read in
    let feed : IsFirstFeed new.held c.in-Some.len = search rules in
    subst (λ (l : FoundLine). Finds l old new x (z old.input)) (sym c.over_long.ensures)
    (finds_long g.S.Source.LIMIT old c.loop-buffer.buffer new x (y old.input) (z old.input) c.loop-buffer.returns _ c.in-Some.len inv.passing reads feed c.requires.long (search rules))

pub returns-then-has_ended-clause-finds : goal.returns-then-has_ended-clause-finds
returns-then-has_ended-clause-finds g c =
    let old = c.args.buffer.now in
    let inv = c.loop-buffer.invariant in
    let new = c.read_more.new.self in
    let x = g.S.Source.inputs c.args.source.now old.input in
    let y = g.S.Source.inputs c.loop-buffer.source in
    let z = g.S.Source.inputs c.read_more.new.source in
    let reads = subst (λ (i : ℕ). Reads c.loop-buffer.buffer new (y i) (z i)) inv.input c.in_ok-read_more.ensures.read in
    let end : IsTrue new.ended = search rules in
    subst (λ (l : FoundLine). Finds l old new x (z old.input)) (sym c.over_long-then-has_ended.ensures)
    (finds_long_last g.S.Source.LIMIT old c.loop-buffer.buffer new x (y old.input) (z old.input) c.loop-buffer.returns inv.passing reads end c.requires.long)

pub loop-buffer-preserved : goal.loop-buffer-preserved
loop-buffer-preserved g c =
    let old = c.args.buffer.now in
    let inv = c.loop-buffer.invariant in
    let new = c.read_more.new.self in
    let passed = c.pass_returns-returns-in-loop-buffer in
    let x = g.S.Source.inputs c.args.source.now old.input in
    let y = g.S.Source.inputs c.loop-buffer.source in
    let z = g.S.Source.inputs c.read_more.new.source in
    let read = c.in_ok-read_more.ensures in
    let reads = subst (λ (i : ℕ). Reads c.loop-buffer.buffer new (y i) (z i)) inv.input read.read in
    let going : new.ended ≡ false = search rules in
    let clear : has_feed new.held ≡ false = search rules in
    let same : passed.new.buffer.taken ≡ new.taken = ap (λ (b : Buffered). b.taken) passed.ensures.passed in
    let small = read.small in record {
      passing = passing_on g.S.Source.LIMIT old c.loop-buffer.buffer new passed.new.buffer x (y old.input) (z old.input) c.loop-buffer.returns passed.result inv.passing reads going clear read.within passed.ensures.returns passed.ensures.passed read.small;
      input = ap (λ (b : Buffered). b.input) passed.ensures.passed ∙ reads.adds.input ∙ inv.input;
      small = omega arith;
      room = search rules;
      others = λ i other. read.others i (λ same. other (same ∙ inv.input)) ∙ inv.others i other;
    }
