use Rattle.std.proofs.Common.{arith, rules, ◌≡◌, ◌∙◌, true, false, ℕ, [], Option, Err, length, refl, ap, sym, subst}
use Rattle.std.specs.Prelude.{IsTrue}
use Rattle.std.proofs.lemmas.Result.{err_from_is_err_and}
use Rattle.mc_base.specs.declared.kind.Kind.{Kind}
use Rattle.mc_io.specs.Buffered.{Buffered, Reads}
use Rattle.mc_io.specs.FoundLines.{IsFirstFeed}
use Rattle.mc_io.specs.Lines.{has_feed}
use Rattle.ct_sd.specs.declared.record_passing.Passing.{Passing}
use Rattle.ct_sd.specs.FoundRecords.{Passes, kind_behind, passing_behind}
use Rattle.ct_sd.specs.LinesSoFar.{ends_here, is_long_so_far}
use Rattle.ct_sd.proofs.Finding.{room_kept}
use Rattle.ct_sd.proofs.Goings.{goes_stop}
use Rattle.ct_sd.proofs.Passings.{IsPassing, line_passed, none_passed, part_passed, passing_last, passing_none, passing_on, passing_small}
use Rattle.ct_sd.proofs.record_passing.pass_record.Goals as goal

pub loop-len-init : goal.loop-len-init
loop-len-init g c = record {
  passing = passing_none g.S.Source.LIMIT c.args.at c.args.said c.args.buffer.now (g.S.Source.inputs c.args.source.now c.args.buffer.now.input) c.new-passing.result c.requires.small c.requires.few c.new-passing.ensures;
  input = refl;
  room = c.requires.room;
  others = λ i other. refl;
}

pub pass_line-requires-clause-small : goal.pass_line-requires-clause-small
pass_line-requires-clause-small g c =
    passing_small g.S.Source.LIMIT c.args.at c.args.said c.args.buffer.now c.loop-len.buffer (g.S.Source.inputs c.args.source.now c.args.buffer.now.input) (g.S.Source.inputs c.loop-len.source c.args.buffer.now.input) c.loop-len.passing c.requires.held c.loop-len.invariant.passing

pub pass_part-requires : goal.pass_part-requires
pass_part-requires g c =
    passing_small g.S.Source.LIMIT c.args.at c.args.said c.args.buffer.now c.loop-len.buffer (g.S.Source.inputs c.args.source.now c.args.buffer.now.input) (g.S.Source.inputs c.loop-len.source c.args.buffer.now.input) c.loop-len.passing c.requires.held c.loop-len.invariant.passing

pub returns-then-ends_record-clause-passes : goal.returns-then-ends_record-clause-passes
returns-then-ends_record-clause-passes g c =
    let old = c.args.buffer.now in
    let now = c.loop-len.buffer in
    let passing = c.loop-len.passing in
    let behind = c.pass_line.new.self in
    let x = g.S.Source.inputs c.args.source.now old.input in
    let y = g.S.Source.inputs c.loop-len.source old.input in
    let feed : IsFirstFeed now.held c.in-Some.len = search rules in
    let is = c.pass_line.ensures.passing in
    let line = ap (λ (p : Passing). p.line) is in
    let kind : c.kind_behind-kind.result ≡ kind_behind passing.kind c.args.at (is_long_so_far behind.line) = c.kind_behind-kind.ensures ∙ ap (λ (p : Passing). kind_behind p.kind c.args.at (is_long_so_far behind.line)) is in
    let ends : ends_here behind.line.wanted ≡ true = search rules in
    (line_passed g.S.Source.LIMIT c.args.at c.in-Some.len c.args.said old now c.pass_line.new.buffer x y passing behind.line c.kind_behind-kind.result c.requires.spoils c.loop-len.invariant.passing feed line kind c.pass_line.ensures.buffer).ended ends

pub loop-len-preserved-in-Some : goal.loop-len-preserved-in-Some
loop-len-preserved-in-Some g c =
    let old = c.args.buffer.now in
    let now = c.loop-len.buffer in
    let new = c.pass_line.new.buffer in
    let passing = c.loop-len.passing in
    let behind = c.pass_line.new.self in
    let x = g.S.Source.inputs c.args.source.now old.input in
    let y = g.S.Source.inputs c.loop-len.source old.input in
    let feed : IsFirstFeed now.held c.in-Some.len = search rules in
    let is = c.pass_line.ensures.passing in
    let line = ap (λ (p : Passing). p.line) is in
    let kind : c.kind_behind-kind.result ≡ kind_behind passing.kind c.args.at (is_long_so_far behind.line) = c.kind_behind-kind.ensures ∙ ap (λ (p : Passing). kind_behind p.kind c.args.at (is_long_so_far behind.line)) is in
    let other : ends_here behind.line.wanted ≡ false = search rules in
    let next : c.next-passing.result ≡ passing_behind passing behind.line c.kind_behind-kind.result = c.next-passing.ensures ∙ ap (λ (p : Passing). passing_behind p behind.line c.kind_behind-kind.result) is in
    let moved = c.pass_line.ensures.buffer in
    let room : new.room ≡ now.room = ap (λ (b : Buffered). b.room) moved in
    let kept = c.loop-len.invariant.room in record {
      passing = subst (λ (p : Passing). IsPassing g.S.Source.LIMIT c.args.at c.args.said old new x y p) (sym next)
          ((line_passed g.S.Source.LIMIT c.args.at c.in-Some.len c.args.said old now new x y passing behind.line c.kind_behind-kind.result c.requires.spoils c.loop-len.invariant.passing feed line kind moved).going other);
      input = ap (λ (b : Buffered). b.input) moved ∙ c.loop-len.invariant.input;
      room = omega arith;
      others = c.loop-len.invariant.others;
    }

pub returns-then-has_ended-clause-passes : goal.returns-then-has_ended-clause-passes
returns-then-has_ended-clause-passes g c =
    let old = c.args.buffer.now in
    let now = c.loop-len.buffer in
    let new = c.pass_part.new.buffer in
    let next = c.pass_part.new.self in
    let x = g.S.Source.inputs c.args.source.now old.input in
    let y = g.S.Source.inputs c.loop-len.source old.input in
    let clear : has_feed now.held ≡ false = search rules in
    let moved = c.pass_part.ensures.buffer in
    let end : IsTrue new.ended = search rules in
    let p = part_passed g.S.Source.LIMIT c.args.at c.args.said old now new x y c.loop-len.passing next c.loop-len.invariant.passing clear c.pass_part.ensures.passing moved in
    subst (λ (k : Option Kind). Passes g.S.Source.LIMIT c.args.at c.args.said k old new x y) (sym c.last_kind.ensures)
    (passing_last g.S.Source.LIMIT c.args.at c.args.said old new x y next c.requires.short c.requires.spoils p (ap (λ (b : Buffered). b.held) moved) end)

pub loop-len-preserved : goal.loop-len-preserved
loop-len-preserved g c =
    let old = c.args.buffer.now in
    let now = c.loop-len.buffer in
    let part = c.pass_part.new.buffer in
    let next = c.pass_part.new.self in
    let new = c.read_more.new.self in
    let x = g.S.Source.inputs c.args.source.now old.input in
    let y = g.S.Source.inputs c.loop-len.source in
    let z = g.S.Source.inputs c.read_more.new.source in
    let read = c.in_ok-read_more.ensures in
    let clear : has_feed now.held ≡ false = search rules in
    let moved = c.pass_part.ensures.buffer in
    let going : part.ended ≡ false = search rules in
    let empty : part.held ≡ [] = ap (λ (b : Buffered). b.held) moved in
    let same : part.input ≡ old.input = ap (λ (b : Buffered). b.input) moved ∙ c.loop-len.invariant.input in
    let p = part_passed g.S.Source.LIMIT c.args.at c.args.said old now part x (y old.input) c.loop-len.passing next c.loop-len.invariant.passing clear c.pass_part.ensures.passing moved in
    let reads = subst (λ (i : ℕ). Reads part new (y i) (z i)) same read.read in
    let room : part.room ≡ now.room = ap (λ (b : Buffered). b.room) moved in
    let none : length part.held ≡ 0 = ap length empty in
    let kept = c.loop-len.invariant.room in record {
      passing = passing_on g.S.Source.LIMIT c.args.at c.args.said old part new x (y old.input) (z old.input) next p empty going reads read.within read.small;
      input = reads.adds.input ∙ same;
      room = room_kept new.room part.room (length part.held) read.room (omega arith) (omega arith);
      others = λ i other. read.others i (λ e. other (e ∙ same)) ∙ c.loop-len.invariant.others i other;
    }

pub returns-in_err-read_more-clause-stops : goal.returns-in_err-read_more-clause-stops
returns-in_err-read_more-clause-stops g c =
    let old = c.args.buffer.now in
    let now = c.loop-len.buffer in
    let part = c.pass_part.new.buffer in
    let next = c.pass_part.new.self in
    let x = g.S.Source.inputs c.args.source.now old.input in
    let y = g.S.Source.inputs c.loop-len.source in
    let z = g.S.Source.inputs c.read_more.new.source in
    let clear : has_feed now.held ≡ false = search rules in
    let moved = c.pass_part.ensures.buffer in
    let going : part.ended ≡ false = search rules in
    let empty : part.held ≡ [] = ap (λ (b : Buffered). b.held) moved in
    let same : part.input ≡ old.input = ap (λ (b : Buffered). b.input) moved ∙ c.loop-len.invariant.input in
    let p = part_passed g.S.Source.LIMIT c.args.at c.args.said old now part x (y old.input) c.loop-len.passing next c.loop-len.invariant.passing clear c.pass_part.ensures.passing moved in
    let q = err_from_is_err_and c.from_residual.result c.from_residual.ensures.1 in
    rw (q.1, q.2) (goes_stop g.S.Source.LIMIT c.in_err-read_more.field-0.0 old part c.read_more.new.self x y z p.goes same going (none_passed g.S.Source.LIMIT c.args.at c.args.said old part x (y old.input) next p empty)
    (λ e. c.read_more.ensures.missed (c.in_err-read_more.was ∙ ap Err e)) (λ e. c.read_more.ensures.unread (c.in_err-read_more.was ∙ ap Err e)) (λ e. c.read_more.ensures.past (c.in_err-read_more.was ∙ ap Err e)))

pub returns-in_err-read_more-clause-room : goal.returns-in_err-read_more-clause-room
returns-in_err-read_more-clause-room g c =
    let part = c.pass_part.new.buffer in
    let moved = c.pass_part.ensures.buffer in
    let room : part.room ≡ c.loop-len.buffer.room = ap (λ (b : Buffered). b.room) moved in
    let none : length part.held ≡ 0 = ap (λ (b : Buffered). length b.held) moved in
    let kept = c.loop-len.invariant.room in
    room_kept c.read_more.new.self.room part.room (length part.held) c.read_more.ensures.room (omega arith) (omega arith)
