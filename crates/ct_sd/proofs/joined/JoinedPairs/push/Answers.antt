use Rattle.ct_sd.proofs.KeptPairs.{knows_more}
use Rattle.ct_sd.proofs.joined.JoinedPairs.push.Goals as goal

pub invariant_of-self-2 : goal.invariant_of-self-2
invariant_of-self-2 c =
    knows_more c.args.pair c.in_order.result c.self.inside.seen.keys c.insert.new.self.keys c.self.inside.pairs.items c.reserve.new.self.items c.push_reserved.new.self.items
    c.self.invariant c.in_order.ensures c.in_ok-insert.ensures.keys c.reserve.ensures.items c.push_reserved.ensures.items
