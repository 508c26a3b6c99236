use Rattle.std.proofs.Common.{arith, refl}
use Rattle.mc_io.specs.Inputs.{bytes_at}
use Rattle.mc_io.proofs.PieceLemmas.{left_after}
use Rattle.mc_io.proofs.inputs.Inputs.take.Goals as goal

pub returns-clause-bytes : goal.returns-clause-bytes
returns-clause-bytes c =
    let is = rw c.deref.ensures.value at c.left_of.ensures in
    left_after (bytes_at c.args.self.now.contents.items c.args.input) c.copy_front-count.new.into c.left_of.result.now c.args.self.now.takings c.args.input c.copy_front-count.result _ (omega arith) refl is c.copy_front-count.ensures.front
