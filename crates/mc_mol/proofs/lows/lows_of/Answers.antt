use Rattle.std.proofs.Common.{◌-◌, ℕ, List, length, subst, sym, arith, refl}
use Rattle.mc_mol.specs.Lows.{LowAt}
use Rattle.mc_mol.proofs.Roots.{order_full}
use Rattle.mc_mol.proofs.LeastPlaces.{lows_none, lows_more, children_done, listed_within}
use Rattle.mc_mol.proofs.lows.lows_of.Goals as goal

pub loop-done-init : goal.loop-done-init
loop-done-init c = record {
  lows = lows_none c.args.graph.now.bonds c.args.graph.now.atoms c.args.forest.now.order.items c.args.forest.now.places.items c.args.forest.now.parents.items c.args.forest.now.roots.items
      c.requires c.in_ok-lows.lows.items (let len = c.in_ok-lows.ensures.len in omega (arith, c.atom_count-count.ensures.count));
}

pub atom_at-atom-requires : goal.atom_at-atom-requires
atom_at-atom-requires c =
    let full = order_full c.args.graph.now.bonds _ c.args.forest.now.order.items c.args.forest.now.places.items c.args.forest.now.parents.items c.args.forest.now.roots.items c.requires in
    let less = c.loop-done-test.true in
    omega (arith, c.atom_count-count.ensures.count)

pub low_of-low-requires-clause-atom : goal.low_of-low-requires-clause-atom
low_of-low-requires-clause-atom c = listed_within c.args.graph.now.bonds _ _ c.args.forest.now.places.items c.args.forest.now.parents.items _ c.requires _ c.atom_at-atom.result c.atom_at-atom.ensures

pub low_of-low-requires-clause-children : goal.low_of-low-requires-clause-children
low_of-low-requires-clause-children c child parent =
    let less = c.loop-done-test.true in
    subst (λ (lows : List ℕ). LowAt c.args.graph.now.bonds c.args.forest.now.places.items c.args.forest.now.parents.items lows child) (sym c.deref.ensures.value)
    (children_done c.args.graph.now.bonds c.args.graph.now.atoms _ c.args.forest.now.places.items c.args.forest.now.parents.items _ c.requires c.loop-done.lows.items c.atom_at-atom.result.0
    (c.atom_count-count.result - 1 - c.loop-done.done) c.loop-done.done (c.requires.found.listed _ c.atom_at-atom.result c.atom_at-atom.ensures) (omega (arith, c.atom_count-count.ensures.count))
    c.loop-done.invariant.lows child parent)

pub index_mut-requires : goal.index_mut-requires
index_mut-requires c =
    let within = listed_within c.args.graph.now.bonds _ _ c.args.forest.now.places.items c.args.forest.now.parents.items _ c.requires _ c.atom_at-atom.result c.atom_at-atom.ensures in
    let count = c.loop-done.invariant.lows.count in
    omega arith

pub loop-done-preserved : goal.loop-done-preserved
loop-done-preserved c =
    let less = c.loop-done-test.true in
    record {
      lows = lows_more c.args.graph.now.bonds c.args.graph.now.atoms _ c.args.forest.now.places.items c.args.forest.now.parents.items _ c.requires c.loop-done.lows.items _ c.atom_at-atom.result.0
          (c.atom_count-count.result - 1 - c.loop-done.done) c.low_of-low.result c.loop-done.done (c.requires.found.listed _ c.atom_at-atom.result c.atom_at-atom.ensures)
          (omega (arith, c.atom_count-count.ensures.count)) c.low_of-low.ensures refl c.loop-done.invariant.lows;
    }
