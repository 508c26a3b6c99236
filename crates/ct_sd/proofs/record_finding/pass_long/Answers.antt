use Rattle.std.proofs.Common.{arith, ◌≡◌, ◌≤◌, ℕ, List, Some, None, length, ap, sym, subst, All}
use Rattle.std.specs.List.{list_any}
use Rattle.std.proofs.lemmas.Result.{err_from_is_err_and}
use Rattle.mc_base.specs.declared.span.Span.{Span}
use Rattle.mc_io.specs.Buffered.{Buffered}
use Rattle.ct_sd.specs.FoundRecords.{FindsLong, Passes, Stops}
use Rattle.ct_sd.specs.Records.{says_something}
use Rattle.ct_sd.proofs.FedLines.{spans_within}
use Rattle.ct_sd.proofs.LongRecords.{few_ranges, long_end, long_run, long_spans, place_is, said_is, stops_both}
use Rattle.ct_sd.proofs.record_finding.pass_long.Goals as goal

pub overflow_cast-place : goal.overflow_cast-place
overflow_cast-place g c =
    let few = few_ranges c.args.at c.args.buffer.now.held c.args.buffer.now.ended c.args.ranges.now c.requires.long in omega arith

pub overflow_add-place : goal.overflow_add-place
overflow_add-place g c =
    let few = few_ranges c.args.at c.args.buffer.now.held c.args.buffer.now.ended c.args.ranges.now c.requires.long in omega arith

pub say_something-said-requires : goal.say_something-said-requires
say_something-said-requires g c =
    let held = c.args.buffer.now.held in
    let ranges = c.args.ranges.now in
    let spans = long_spans c.args.at held c.args.buffer.now.ended ranges c.requires.long in
    subst (λ (t : List ℕ). All (λ (r : Span). (r.from ≤ r.to) × (r.to ≤ length t)) ranges) (sym c.held.ensures) (spans_within held ranges c.requires.long.lines spans)

pub returns-in_err-kind-clause-stops : goal.returns-in_err-kind-clause-stops
returns-in_err-kind-clause-stops g c = λ old before reaches.
    let mid = c.args.buffer.now in
    let next = c.pass.new.self in
    let new = c.pass_record.new.buffer in
    let x = g.S.Source.inputs c.args.source.now in
    let z = g.S.Source.inputs c.pass_record.new.source in
    let moved = c.pass.ensures in
    let same : next.input ≡ mid.input = ap (λ (b : Buffered). b.input) moved in
    let q = err_from_is_err_and c.from_residual.result c.from_residual.ensures.1 in
    let stop = c.in_err-kind.field-0.0 in
    let stops : Stops g.S.Source.LIMIT stop next new (x mid.input) (z mid.input) = subst (λ (i : ℕ). Stops g.S.Source.LIMIT stop next new (x i) (z i)) same c.in_err-kind.ensures.stops in
    rw (q.1, q.2) (stops_both g.S.Source.LIMIT c.args.at c.args.ranges.now stop old mid next new before (x mid.input) (z mid.input) reaches c.requires.long moved stops)

pub returns-in-Some-clause-passes : goal.returns-in-Some-clause-passes
returns-in-Some-clause-passes g c = λ old before reaches.
    let mid = c.args.buffer.now in
    let next = c.pass.new.self in
    let new = c.pass_record.new.buffer in
    let ranges = c.args.ranges.now in
    let long = c.requires.long in
    let kind = c.in-Some.kind in
    let said = c.say_something-said.result in
    let x = g.S.Source.inputs c.args.source.now in
    let z = g.S.Source.inputs c.pass_record.new.source in
    let moved = c.pass.ensures in
    let same : next.input ≡ mid.input = ap (λ (b : Buffered). b.input) moved in
    let says : said ≡ list_any says_something long.lines = said_is c.args.at mid.held mid.ended ranges c.held.result.now said long c.held.ensures c.say_something-said.ensures in
    let passes : Passes g.S.Source.LIMIT c.args.at said (Some kind) next new (x mid.input) (z mid.input) = subst (λ (i : ℕ). Passes g.S.Source.LIMIT c.args.at said (Some kind) next new (x i) (z i)) same (rw c.in-Some.is at c.in_ok-kind.ensures.passes) in
    subst (λ (n : ℕ). FindsLong g.S.Source.LIMIT (record { kind = kind; place = n }) old new before (z mid.input)) (place_is c.args.at mid.held mid.ended ranges long)
    (long_run g.S.Source.LIMIT c.args.at ranges said kind old mid next new before (x mid.input) (z mid.input) reaches long moved says passes)

pub returns-in-None-clause-passes : goal.returns-in-None-clause-passes
returns-in-None-clause-passes g c = λ old before reaches.
    let mid = c.args.buffer.now in
    let next = c.pass.new.self in
    let new = c.pass_record.new.buffer in
    let ranges = c.args.ranges.now in
    let long = c.requires.long in
    let said = c.say_something-said.result in
    let x = g.S.Source.inputs c.args.source.now in
    let z = g.S.Source.inputs c.pass_record.new.source in
    let moved = c.pass.ensures in
    let same : next.input ≡ mid.input = ap (λ (b : Buffered). b.input) moved in
    let says : said ≡ list_any says_something long.lines = said_is c.args.at mid.held mid.ended ranges c.held.result.now said long c.held.ensures c.say_something-said.ensures in
    let passes : Passes g.S.Source.LIMIT c.args.at said None next new (x mid.input) (z mid.input) = subst (λ (i : ℕ). Passes g.S.Source.LIMIT c.args.at said None next new (x i) (z i)) same (rw c.in-None.is at c.in_ok-kind.ensures.passes) in
    long_end g.S.Source.LIMIT c.args.at ranges said old mid next new before (x mid.input) (z mid.input) reaches long moved says passes
