use Rattle.std.proofs.Common.{subst, sym}
use Rattle.mc_mol.specs.Numbered.{Mark}
use Rattle.mc_mol.proofs.LeastPlaces.{half_child, half_parent, half_other, low_there}
use Rattle.mc_mol.proofs.lows.half_low.Goals as goal

pub returns-then-is_child : goal.returns-then-is_child
returns-then-is_child c =
    let parent = c.is_child.ensures.0 c.if-is_child.true in
    half_child c.args.graph.now.bonds _ _ c.args.forest.now.places.items c.args.forest.now.parents.items _ c.requires.forest c.args.atom.0 c.args.next.0 _ parent
    (low_there c.args.graph.now.bonds c.args.forest.now.places.items c.args.forest.now.parents.items c.args.lows.now c.args.next.0 0 (c.requires.children c.args.next.0 parent))

pub returns-then-is_child-2 : goal.returns-then-is_child-2
returns-then-is_child-2 c =
    let at = c.requires.forest.all c.args.atom.0 c.requires.atom in
    half_parent c.args.graph.now.bonds _ _ c.args.forest.now.places.items c.args.forest.now.parents.items _ c.requires.forest c.args.atom.0 c.args.next.0 _
    (c.is_child-else-is_child.ensures.0 c.if-is_child-2.true)
    (subst (λ k. Mark c.args.forest.now.places.items c.args.atom.0 k) (sym (c.place.ensures at.0 at.1)) at.1)

pub returns-else-is_child-2 : goal.returns-else-is_child-2
returns-else-is_child-2 c =
    let at = c.requires.forest.all c.args.next.0 c.requires.next in
    half_other c.args.graph.now.bonds c.args.forest.now.places.items c.args.forest.now.parents.items c.args.atom.0 c.args.next.0 _
    (λ child. let is = c.is_child.ensures.1 child in let not_child = c.if-is_child.false in cc)
    (λ parent. let is = c.is_child-else-is_child.ensures.1 parent in let not_child = c.if-is_child-2.false in cc)
    (subst (λ k. Mark c.args.forest.now.places.items c.args.next.0 k) (sym (c.place-else-is_child-2.ensures at.0 at.1)) at.1)
