use Rattle.std.proofs.Common.{arith}
use Rattle.mc_mol.proofs.Forests.{searched_by, all_found}
use Rattle.mc_mol.proofs.Roots.{few_roots}
use Rattle.mc_mol.proofs.forest.forest_of.Goals as goal

pub loop-a-init : goal.loop-a-init
loop-a-init c = record {
  state = searched_by c.args.graph.now.bonds _ c.atom_count.result _ _ _ _ c.atom_count.ensures.count c.in_ok-forest.ensures.order c.in_ok-forest.ensures.places c.in_ok-forest.ensures.parents
      c.in_ok-forest.ensures.roots;
  found = λ x less. absurd (omega arith);
}

pub loop-a-preserved : goal.loop-a-preserved
loop-a-preserved c = record {
  state = c.in_ok-visit.ensures.state;
  found = all_found c.loop-a.forest.places.items c.visit.new.self.places.items c.loop-a.a c.in_ok-visit.ensures.kept c.loop-a.invariant.found c.in_ok-visit.ensures.found;
}
