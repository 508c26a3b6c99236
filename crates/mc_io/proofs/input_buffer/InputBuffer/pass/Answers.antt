use Rattle.mc_io.proofs.Slices.{passed_is}
use Rattle.mc_io.proofs.input_buffer.InputBuffer.pass.Goals as goal

pub returns : goal.returns
returns c = passed_is c.self.inside.bytes.items c.self.inside.held_from c.self.inside.held_to c.args.count c.self.inside.input c.self.inside.taken c.self.inside.ended c.args.self.now c.self.view_is c.self.invariant.order c.self.invariant.within c.requires
