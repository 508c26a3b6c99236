use Rattle.std.proofs.Common.{arith, ◌≤◌, length, map, List}
use Rattle.std.proofs.lemmas.List.{length-map}
use Rattle.mc_mol.specs.declared.parts.Bond.{Bond}
use Rattle.mc_mol.specs.Parts.{begins_part, part_count}
use Rattle.smi_graph.specs.Links.{bond_of}
use Rattle.smi_graph.proofs.limits.rings_above.Goals as goal
use Rattle.mc_mol.proofs.Labelled.{count_low}

pub returns-then-bonds-clause-few : goal.returns-then-bonds-clause-few
returns-then-bonds-clause-few c =
    let few = c.if-bonds.true in
    let bonds : List Bond = map bond_of c.args.bonds.now in
    let size = length-map c.args.bonds.now bond_of in
    let low : part_count bonds (length c.args.atoms.now) ≤ length c.args.atoms.now = count_low (begins_part bonds) (length c.args.atoms.now) in
    omega arith
