use Rattle.std.proofs.Common.{◌≡◌, ◌≢◌, ◌<◌, ◌∙◌, ◌++◌, [], ◌∷◌, length, false, None, Some, slice_get, List, ap, arith, subst, sym}
use Rattle.mc_mol.specs.declared.parts.Bond.{Bond}
use Rattle.mc_mol.specs.declared.parts.HalfEdge.{HalfEdge as Half}
use Rattle.mc_mol.specs.Molecule.{Molecule, are_joined}
use Rattle.mc_mol.specs.WellFormed.{IsBond}
use Rattle.mc_mol.proofs.Added.{adds_bond, gains_of, few_half_edges}
use Rattle.mc_mol.proofs.mol.Mol.add_bond.Goals as goal

pub join-requires-clause-first_few : goal.join-requires-clause-first_few
join-requires-clause-first_few c d =
    let inside = c.self.inside in
    let m : Molecule = record { atoms = inside.atoms.items; bonds = inside.bonds.items; centres = inside.centres; sides = inside.sides.items } in
    let within : c.args.first.0 < length m.atoms = subst (λ (m : Molecule). c.args.first.0 < length m.atoms) (sym c.self.view_is) c.requires.first in
    let few = few_half_edges m inside.adjacency.lists.items c.self.invariant c.args.first.0 d within in
    let same = ap (λ (xs : List Half). length xs) (c.reserve_at-2.ensures.items c.args.first.0 d ∙ c.reserve_at.ensures.items c.args.first.0 d) in
    omega (arith, few, same)

pub join-requires-clause-second_few : goal.join-requires-clause-second_few
join-requires-clause-second_few c d =
    let inside = c.self.inside in
    let m : Molecule = record { atoms = inside.atoms.items; bonds = inside.bonds.items; centres = inside.centres; sides = inside.sides.items } in
    let within : c.args.second.0 < length m.atoms = subst (λ (m : Molecule). c.args.second.0 < length m.atoms) (sym c.self.view_is) c.requires.second in
    let few = few_half_edges m inside.adjacency.lists.items c.self.invariant c.args.second.0 d within in
    let same = ap (λ (xs : List Half). length xs) (c.reserve_at-2.ensures.items c.args.second.0 d ∙ c.reserve_at.ensures.items c.args.second.0 d) in
    omega (arith, few, same)

pub invariant_of-self-2 : goal.invariant_of-self-2
invariant_of-self-2 c =
    let inside = c.self.inside in
    let m : Molecule = record { atoms = inside.atoms.items; bonds = inside.bonds.items; centres = inside.centres; sides = inside.sides.items } in
    let bond : Bond = record { first = c.args.first; second = c.args.second; order = c.args.order } in
    let fits : IsBond (length m.atoms) bond = record {
      first = subst (λ (m : Molecule). c.args.first.0 < length m.atoms) (sym c.self.view_is) c.requires.first;
      second = subst (λ (m : Molecule). c.args.second.0 < length m.atoms) (sym c.self.view_is) c.requires.second;
      different = c.if-first-second.false;
      order_low = c.requires.order_low;
      order_high = c.requires.order_high;
    } in
    let free : are_joined m.bonds c.args.first.0 c.args.second.0 ≡ false = subst (λ (m : Molecule). are_joined m.bonds c.args.first.0 c.args.second.0 ≡ false) (sym c.self.view_is) (sym c.if-are_joined.ensures) in
    let first_free = subst (λ (m : Molecule). slice_get m.centres c.args.first.0 ≡ Some None) (sym c.self.view_is) c.requires.first_free in
    let second_free = subst (λ (m : Molecule). slice_get m.centres c.args.second.0 ≡ Some None) (sym c.self.view_is) c.requires.second_free in
    let room : length m.bonds ≢ 999 = omega arith in
    let bonds : c.push_reserved.new.self.items ≡ m.bonds ++ bond ∷ [] = cc in
    let sides : c.push_reserved-2.new.self.items ≡ m.sides ++ None ∷ [] = cc in
    let number : c.len-count.result ≡ length m.bonds = omega arith in
    let gains = gains_of m.bonds inside.adjacency.lists.items c.reserve_at-2.new.self.lists.items c.join.new.self.lists.items bond (record { 0 = c.len-count.result }) number
    (λ k d. c.reserve_at-2.ensures.items k d ∙ c.reserve_at.ensures.items k d)
    c.in-Ok.ensures.at_first c.in-Ok.ensures.at_second c.join.ensures.others in
    adds_bond m inside.adjacency.lists.items c.join.new.self.lists.items bond (record { 0 = c.len-count.result }) _ _ c.self.invariant fits free first_free second_free room bonds sides (c.join.ensures.count ∙ c.reserve_at-2.ensures.count ∙ c.reserve_at.ensures.count) gains
