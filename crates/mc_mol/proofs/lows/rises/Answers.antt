use Rattle.std.proofs.Common.{subst, sym}
use Rattle.mc_mol.specs.Numbered.{Mark}
use Rattle.mc_mol.proofs.LeastPlaces.{rises_there, parent_placed}
use Rattle.mc_mol.proofs.lows.rises.Goals as goal

pub place-requires : goal.place-requires
place-requires c = (parent_placed c.args.graph.now.bonds _ _ c.args.forest.now.places.items c.args.forest.now.parents.items _ c.requires.forest c.args.atom.0 c.args.parent.0 c.requires.parent).2

pub returns : goal.returns
returns c =
    let at = parent_placed c.args.graph.now.bonds _ _ c.args.forest.now.places.items c.args.forest.now.parents.items _ c.requires.forest c.args.atom.0 c.args.parent.0 c.requires.parent in
    rises_there c.args.graph.now.bonds _ _ c.args.forest.now.places.items c.args.forest.now.parents.items _ c.requires.forest c.args.lows.now c.requires.lows c.args.atom.0 c.args.parent.0 0 _
    c.requires.parent (subst (λ k. Mark c.args.forest.now.places.items c.args.parent.0 k) (sym (c.place.ensures at.0 at.1)) at.1)
