use Rattle.match_blossom.specs.Forest.{stacked, base_in}
use Rattle.match_blossom.proofs.Lifted.{augmented}
use Rattle.match_blossom.proofs.Scanning.{touched_released}
use Rattle.match_blossom.proofs.augmenting.augment.Goals as goal

pub lift_all-requires-clause-matching : goal.lift_all-requires-clause-matching
lift_all-requires-clause-matching c = c.augment_path.ensures.turned.matching

pub returns-clause-augmented : goal.returns-clause-augmented
returns-clause-augmented c = augmented c.args.graph.now c.args.mates.now c.augment_path.new.mates c.lift_all.new.mates (base_in c.args.tree.now) c.args.tree.now.root c.args.v (stacked c.args.tree.now.cycles) c.augment_path.ensures.turned c.lift_all.ensures.lifted

pub returns-clause-cycle_touched : goal.returns-clause-cycle_touched
returns-clause-cycle_touched c = touched_released c.args.tree.now.labels.items c.args.tree.now.blossoms.cycle_base.items c.lift_all.new.blossoms.cycle_base.items c.args.tree.now.touched.items c.args.tree.now.now c.requires.forest.cycle_touched c.lift_all.ensures.base c.lift_all.ensures.base_length
