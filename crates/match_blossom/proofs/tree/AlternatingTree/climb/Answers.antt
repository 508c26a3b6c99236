use Rattle.match_blossom.proofs.tree.AlternatingTree.climb.Goals as goal

pub returns-clause-above : goal.returns-clause-above
returns-clause-above c = λ part points. c.above.ensures part (c.shorten.ensures.points part points)
