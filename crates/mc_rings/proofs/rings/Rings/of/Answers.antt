use Rattle.std.proofs.Common.{◌≡◌, ℕ, List, ap, length, subst, sym, arith}
use Rattle.mc_mol.specs.Graphs.{BondGraph}
use Rattle.mc_mol.specs.Parts.{independent_rings}
use Rattle.mc_rings.specs.BlockOrder.{IsBlockOrder}
use Rattle.mc_rings.specs.Blocks.{Tree, IsTree}
use Rattle.mc_rings.specs.Counts.{AreBelow}
use Rattle.mc_rings.specs.Rings.{AreBlocks}
use Rattle.mc_rings.proofs.BlockOrders.{order_of}
use Rattle.mc_rings.proofs.Trees.{tree_of}
use Rattle.mc_rings.proofs.rings.Rings.of.Goals as goal

pub ring_sizes-requires-clause-blocks : goal.ring_sizes-requires-clause-blocks
ring_sizes-requires-clause-blocks c =
    subst (λ (g : BondGraph). AreBlocks g.bonds c.deref-2.result.now) c.graph-graph.ensures
    (subst (λ (xs : List ℕ). AreBlocks c.graph-graph.result.bonds xs) (sym c.deref-2.ensures.value) c.in_ok-blocks.ensures.are)

pub ring_sizes-requires-clause-below : goal.ring_sizes-requires-clause-below
ring_sizes-requires-clause-below c =
    let count : c.len.result ≡ length c.in_ok-tree.tree.firsts.items = let len = c.len.ensures in omega arith in
    subst (λ (n : ℕ). AreBelow c.deref-2.result.now n) (sym count)
    (subst (λ (xs : List ℕ). AreBelow xs (length c.in_ok-tree.tree.firsts.items)) (sym c.deref-2.ensures.value) c.in_ok-blocks.ensures.below)

pub returns : goal.returns
returns c =
    let graph : BondGraph = c.graph-graph.result in
    let tree : Tree = tree_of graph c.in_ok-forest.forest c.in_ok-tree.tree in
    let is : IsTree tree = record { forest = c.in_ok-forest.ensures.forest; blocked = c.in_ok-tree.ensures.blocked } in
    let order = order_of tree c.args.mol.now.atoms c.args.mol.now.centres c.args.mol.now.sides c.in_ok-blocks.blocks.items c.in_ok-order.order.items (ap (λ (g : BondGraph). g.atoms) c.graph-graph.ensures)
    (record { is = is; count = c.in_ok-blocks.ensures.are.count; each = c.in_ok-blocks.ensures.each }) (record { permuted = c.in_ok-order.ensures.permuted; sorted = c.in_ok-order.ensures.sorted }) in
    record {
      count = c.in_ok-sizes.ensures.count;
      sizes = c.in_ok-sizes.ensures.sizes;
      blocks = subst (λ (g : BondGraph). AreBlocks g.bonds c.in_ok-blocks.blocks.items) c.graph-graph.ensures c.in_ok-blocks.ensures.are;
      independent = subst (λ (g : BondGraph). c.independent_rings-independent.result ≡ independent_rings g.bonds g.atoms) c.graph-graph.ensures c.independent_rings-independent.ensures;
      order = subst
          (λ (g : BondGraph). IsBlockOrder (record { atoms = c.args.mol.now.atoms; bonds = g.bonds; centres = c.args.mol.now.centres; sides = c.args.mol.now.sides }) c.in_ok-blocks.blocks.items
          c.in_ok-order.order.items c.in_ok-tree.tree.firsts.items c.in_ok-tree.tree.above.items)
          c.graph-graph.ensures order;
    }

pub invariant_of-result : goal.invariant_of-result
invariant_of-result c = c.in_ok-tree.ensures.few
