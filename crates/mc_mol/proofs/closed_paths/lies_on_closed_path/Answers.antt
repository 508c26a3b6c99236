use Rattle.std.proofs.Common.{◌≡◌, ℕ, List, Some, refl, slice_get}
use Rattle.mc_mol.specs.declared.parts.Bond.{Bond}
use Rattle.mc_mol.proofs.Climbs.{Rooted}
use Rattle.mc_mol.proofs.ClosedBonds.{first_below, second_below, neither_below}
use Rattle.mc_mol.proofs.closed_paths.lies_on_closed_path.Goals as goal

-- one place holds one bond
same_bond : (bonds : List Bond) (k : ℕ) (here bond : Bond) → slice_get bonds k ≡ Some here → slice_get bonds k ≡ Some bond → here ≡ bond
same_bond bonds k here bond e f = cc

pub returns-then-is_child : goal.returns-then-is_child
returns-then-is_child c bond at =
    let t : Rooted = record { bonds = c.args.graph.now.bonds; atoms = c.args.graph.now.atoms; order = c.args.forest.now.order.items; places = c.args.forest.now.places.items; parents = c.args.forest.now.parents.items; roots = c.args.forest.now.roots.items } in
    second_below t (record { forest = c.requires.forest }) c.args.lows.now c.requires.lows c.bond-bond.result bond 0 c.place.result
    (same_bond c.args.graph.now.bonds c.args.b.0 c.bond-bond.result bond c.bond-bond.ensures.value at) (c.is_child.ensures.0 c.if-is_child.true) c.place.ensures

pub returns-then-is_child-2 : goal.returns-then-is_child-2
returns-then-is_child-2 c bond at =
    let t : Rooted = record { bonds = c.args.graph.now.bonds; atoms = c.args.graph.now.atoms; order = c.args.forest.now.order.items; places = c.args.forest.now.places.items; parents = c.args.forest.now.parents.items; roots = c.args.forest.now.roots.items } in
    first_below t (record { forest = c.requires.forest }) c.args.lows.now c.requires.lows c.bond-bond.result bond 0 c.place-then-is_child-2.result
    (same_bond c.args.graph.now.bonds c.args.b.0 c.bond-bond.result bond c.bond-bond.ensures.value at) (c.is_child-else-is_child.ensures.0 c.if-is_child-2.true) c.place-then-is_child-2.ensures

pub returns-else-is_child-2 : goal.returns-else-is_child-2
returns-else-is_child-2 c bond at =
    let t : Rooted = record { bonds = c.args.graph.now.bonds; atoms = c.args.graph.now.atoms; order = c.args.forest.now.order.items; places = c.args.forest.now.places.items; parents = c.args.forest.now.parents.items; roots = c.args.forest.now.roots.items } in (
      (λ yes. neither_below t (record { forest = c.requires.forest }) c.bond-bond.result bond
          (same_bond c.args.graph.now.bonds c.args.b.0 c.bond-bond.result bond c.bond-bond.ensures.value at) c.args.b.0 at
          (λ child. let is = c.is_child.ensures.1 child in let not_child = c.if-is_child.false in cc)
          (λ parent. let is = c.is_child-else-is_child.ensures.1 parent in let not_child = c.if-is_child-2.false in cc)),
      (λ lies. refl),
    )
