use Rattle.match_blossom.proofs.tests.+can_pair.Given as goal

abbrev pub decreases-can_pair : goal.decreases-can_pair
decreases-can_pair g l = l.depth
