use Rattle.mc_rings.proofs.LoneBonds.{sizes_more}
use Rattle.mc_rings.proofs.sizes.ring_sizes.Goals as goal

pub loop-k-preserved : goal.loop-k-preserved
loop-k-preserved c =
    let more = sizes_more c.args.mol.now.bonds c.loop-k.sizes.items c.push.new.self.items c.loop-k.k c.in_ok-size.size c.loop-k.invariant.count c.in_ok-push.ensures.items c.loop-k.invariant.each
    c.in_ok-size.ensures in
    record { count = more.0; each = more.1 }
