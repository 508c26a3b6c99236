use Rattle.std.proofs.Common.{◌≡◌, ℕ, length, subst, arith}
use Rattle.mc_rings.specs.Blocks.{Blocked}
use Rattle.mc_mol.proofs.Roots.{order_full}
use Rattle.mc_rings.proofs.block_tree.block_tree.Goals as goal

pub atom_at-atom-requires : goal.atom_at-atom-requires
atom_at-atom-requires c =
    let full = order_full c.args.graph.now.bonds _ c.args.forest.now.order.items c.args.forest.now.places.items c.args.forest.now.parents.items c.args.forest.now.roots.items c.requires.forest in
    let less = c.loop-done-test.true in
    omega (arith, c.atom_count-count.ensures.count)

pub loop-done-preserved : goal.loop-done-preserved
loop-done-preserved c = record {
  tree = c.in_ok-add.ensures c.loop-done.done (c.requires.forest.found.listed c.loop-done.done c.atom_at-atom.result c.atom_at-atom.ensures) c.loop-done.invariant.tree;
}

pub returns-clause-blocked : goal.returns-clause-blocked
returns-clause-blocked c =
    let all : c.loop-done.done ≡ c.args.graph.now.atoms =
    let most = c.loop-done.auto.done-end in let past = c.loop-done-test.false in omega (arith, c.atom_count-count.ensures.count) in
    subst (λ (k : ℕ). Blocked c.args.graph.now.bonds c.args.graph.now.atoms c.args.forest.now.places.items c.args.forest.now.parents.items c.loop-done.tree.heads.items
    c.loop-done.tree.firsts.items c.loop-done.tree.above.items k) all c.loop-done.invariant.tree

pub returns-clause-few : goal.returns-clause-few
returns-clause-few c =
    let few = c.loop-done.invariant.tree.few in
    let same = c.loop-done.invariant.tree.same_count in
    let most = c.loop-done.auto.done-end in
    let atoms = c.atom_count-count.ensures in
    omega (arith, atoms.few)
