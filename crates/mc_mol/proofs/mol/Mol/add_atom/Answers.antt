use Rattle.std.proofs.Common.{◌≡◌, ◌≢◌, ◌++◌, [], ◌∷◌, length, None, arith}
use Rattle.mc_mol.proofs.Added.{adds_atom}
use Rattle.mc_mol.specs.Molecule.{Molecule}
use Rattle.mc_mol.proofs.mol.Mol.add_atom.Goals as goal

pub invariant_of-self-2 : goal.invariant_of-self-2
invariant_of-self-2 c =
    let inside = c.self.inside in
    let m : Molecule = record { atoms = inside.atoms.items; bonds = inside.bonds.items; centres = inside.centres; sides = inside.sides.items } in
    let room : length inside.atoms.items ≢ 999 = omega arith in
    let atoms : c.push_reserved.new.self.items ≡ inside.atoms.items ++ c.args.atom ∷ [] = cc in
    let centres : c.push_none.new.self ≡ inside.centres ++ None ∷ [] = c.in_ok-push_none.ensures.ok in
    let lists : c.push_atom.new.self.lists.items ≡ inside.adjacency.lists.items ++ record { items = []; capacity = c.push_atom.ensures.0 } ∷ [] = cc in
    adds_atom m inside.adjacency.lists.items _ c.args.atom _ _ c.push_atom.ensures.0 c.self.invariant room atoms centres lists
