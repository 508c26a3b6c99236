use Rattle.std.proofs.Common.{sym, subst}
use Rattle.mc_mol.specs.Molecule.{Molecule}
use Rattle.mc_mol.specs.WellFormed.{IsPlaceList}
use Rattle.mc_mol.proofs.Marked.{marks_centre}
use Rattle.mc_mol.proofs.ShortLists.{small_places}
use Rattle.mc_mol.proofs.mol.Mol.set_centre.Goals as goal

pub set-requires-clause-small : goal.set-requires-clause-small
set-requires-clause-small c =
    let is = c.self.invariant.0 in
    let fits = subst (λ (m : Molecule). IsPlaceList m.bonds c.args.atom.0 c.args.places) (sym c.self.view_is) c.requires.places in
    small_places c.self.inside.bonds.items _ c.args.atom.0 c.args.places is.bonds is.few_atoms fits

pub invariant_of-self : goal.invariant_of-self
invariant_of-self c =
    let inside = c.self.inside in
    let m : Molecule = record { atoms = inside.atoms.items; bonds = inside.bonds.items; centres = inside.centres; sides = inside.sides.items } in
    let fits = subst (λ (m : Molecule). IsPlaceList m.bonds c.args.atom.0 c.args.places) (sym c.self.view_is) c.requires.places in
    rw c.set.ensures (marks_centre m inside.adjacency.lists.items c.args.atom.0 c.args.places c.self.invariant fits)
