use Rattle.std.proofs.Common.{arith, sym, ◌∙◌, ◌+◌, get_or}
use Rattle.std.proofs.lemmas.List.{length-set}
use Rattle.match_barrier.proofs.Edges.{has_at}
use Rattle.match_blossom.proofs.Pairs.{pair_off_more, pair_off_last}
use Rattle.match_blossom.proofs.lifting.pair_off.Goals as goal

pub bounds-mates-x : goal.bounds-mates-x
bounds-mates-x c = let h = c.requires (get_or c.args.list.now c.loop-k.k 0) (has_at c.args.list.now c.loop-k.k 0 (let less = c.loop-k-test.true in omega arith)) in let long = c.loop-k.auto.mates in omega arith

pub bounds-mates-y : goal.bounds-mates-y
bounds-mates-y c = let h = c.requires (get_or c.args.list.now (c.loop-k.k + 1) 0) (has_at c.args.list.now (c.loop-k.k + 1) 0 (let less = c.loop-k-test.true in omega arith)) in let long = c.loop-k.auto.mates in let same = length-set c.loop-k.mates (get_or c.args.list.now c.loop-k.k 0) (get_or c.args.list.now (c.loop-k.k + 1) 0) in omega arith

pub loop-k-preserved : goal.loop-k-preserved
loop-k-preserved c = (sym (pair_off_more c.args.list.now c.loop-k.mates c.loop-k.k c.loop-k-test.true) ∙ c.loop-k.invariant.0, let less = c.loop-k-test.true in omega arith)

pub returns : goal.returns
returns c = sym (pair_off_last c.args.list.now c.loop-k.mates c.loop-k.k c.loop-k-test.false) ∙ c.loop-k.invariant.0
