use Rattle.std.proofs.Common.{sym, subst}
use Rattle.mc_mol.specs.Molecule.{Molecule}
use Rattle.mc_mol.specs.WellFormed.{SidesFit}
use Rattle.mc_mol.proofs.Marked.{marks_sides}
use Rattle.mc_mol.proofs.mol.Mol.set_sides.Goals as goal

pub invariant_of-self : goal.invariant_of-self
invariant_of-self c =
    let inside = c.self.inside in
    let m : Molecule = record { atoms = inside.atoms.items; bonds = inside.bonds.items; centres = inside.centres; sides = inside.sides.items } in
    let fits = subst (λ (m : Molecule). SidesFit m.bonds c.args.bond.0 c.args.sides) (sym c.self.view_is) c.requires.sides in
    marks_sides m inside.adjacency.lists.items c.args.bond.0 c.args.sides c.self.invariant fits
