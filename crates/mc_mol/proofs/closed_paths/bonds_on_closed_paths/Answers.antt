use Rattle.mc_mol.proofs.ClosedBonds.{marks_more}
use Rattle.mc_mol.proofs.closed_paths.bonds_on_closed_paths.Goals as goal

pub loop-k-preserved : goal.loop-k-preserved
loop-k-preserved c =
    let more = marks_more c.args.graph.now.bonds c.loop-k.marks.items c.push.new.self.items c.loop-k.k c.lies_on_closed_path.result c.loop-k.invariant.count c.in_ok-push.ensures.items
    c.loop-k.invariant.each c.lies_on_closed_path.ensures in
    record { count = more.0; each = more.1 }
