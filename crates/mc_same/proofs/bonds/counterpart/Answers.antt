use Rattle.std.proofs.lemmas.Bool.{eqb-true}
use Rattle.mc_mol.specs.Same.{entry}
use Rattle.mc_same.proofs.Between.{same_order}
use Rattle.mc_same.proofs.bonds.counterpart.Goals as goal

pub returns-else-bond-clause-found : goal.returns-else-bond-clause-found
returns-else-bond-clause-found c =
    let f = c.args.map.now in
    let decides = same_order c.args.input.now (entry f c.args.bond.first.0) (entry f c.args.bond.second.0) c.in_ok-found.found.0 c.args.bond.order c.bond.result c.requires.well_formed c.in_ok-found.ensures c.bond.ensures.value in
    ((λ e. cc), (λ has. absurd (c.if-bond.false (eqb-true c.bond.result.order c.args.bond.order (decides.1 has)))))
