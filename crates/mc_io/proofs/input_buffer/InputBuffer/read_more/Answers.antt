use Rattle.std.proofs.Common.{arith, ◌≡◌, ◌<◌, ◌∙◌, ap, sym, false, Bool}
use Rattle.std.proofs.lemmas.Grind.{common_steps}
use Rattle.mc_io.specs.Buffered.{Buffered}
use Rattle.mc_io.proofs.Slices.{read_is}
use Rattle.mc_io.proofs.input_buffer.InputBuffer.read_more.Goals as goal

pub returns-else-self-LIMIT-clause-read : goal.returns-else-self-LIMIT-clause-read
returns-else-self-LIMIT-clause-read g c =
    let some : 0 < c.in-Ok.count = grind (arith, common_steps) in
    read_is c.self.inside.bytes.items c.move_to_front.new.bytes.items c.make_room.new.bytes.items c.read_at.new.bytes.items c.self.inside.held_from c.self.inside.held_to c.self.inside.input c.self.inside.taken c.in-Ok.count c.self.inside.ended _ c.args.self.now (g.S.Source.inputs c.args.source.now) (g.S.Source.inputs c.read_at.new.source)
    c.self.view_is c.move_to_front.ensures.moved c.make_room.ensures.front c.in-Ok.ensures.puts some c.requires.going

pub returns-then-self-LIMIT-clause-past : goal.returns-then-self-LIMIT-clause-past
returns-then-self-LIMIT-clause-past g c = λ stop.
    let some : 0 < c.in-Ok.count = grind (arith, common_steps) in (
      read_is c.self.inside.bytes.items c.move_to_front.new.bytes.items c.make_room.new.bytes.items c.read_at.new.bytes.items c.self.inside.held_from c.self.inside.held_to c.self.inside.input c.self.inside.taken c.in-Ok.count c.self.inside.ended _ c.args.self.now (g.S.Source.inputs c.args.source.now) (g.S.Source.inputs c.read_at.new.source)
          c.self.view_is c.move_to_front.ensures.moved c.make_room.ensures.front c.in-Ok.ensures.puts some c.requires.going,
      grind (arith, common_steps),
      ap (λ (b : Buffered). b.ended) c.self.view_is ∙ c.requires.going,
    )
