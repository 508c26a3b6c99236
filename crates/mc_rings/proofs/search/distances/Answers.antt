use Rattle.std.proofs.Common.{◌≡◌, ◌⊎◌, ℕ, length, List, subst, ap, arith}
use Rattle.mc_base.specs.declared.ids.AtomId.{AtomId}
use Rattle.mc_mol.specs.Numbered.{Mark, unmarked}
use Rattle.mc_rings.proofs.Levels.{begun_at, begun_few, next_begun, finished_at}
use Rattle.mc_rings.proofs.search.distances.Goals as goal

pub levels-init : goal.levels-init
levels-init c = record {
  between = begun_at c.args.mol.now.bonds c.args.bond.second.0 (length c.args.mol.now.atoms) c.atom_count.result c.args.bond.first c.in_ok-search.search.marks.items
      c.in_ok-current.current.items c.in_ok-search.search.next.items c.requires.first c.atom_count.ensures.count c.in_ok-search.ensures.marks c.in_ok-current.ensures.items
      c.in_ok-search.ensures.next;
  empty = c.in_ok-search.ensures.next;
  few = begun_few (length c.args.mol.now.atoms) c.atom_count.result c.args.bond.first c.in_ok-search.search.marks.items c.in_ok-current.current.items c.requires.first
      c.atom_count.ensures.count c.in_ok-search.ensures.marks c.in_ok-current.ensures.items;
}

pub levels-preserved : goal.levels-preserved
levels-preserved c = record {
  between = next_begun c.args.mol.now.bonds c.args.bond.first.0 c.args.bond.second.0 (length c.args.mol.now.atoms) c.levels.level _ _ _ _ _ _
      c.in_ok-explore_all.ensures.done c.take_next.ensures.marks c.take_next.ensures.next c.take_next.ensures.empty;
  empty = c.take_next.ensures.empty;
  few =
      let total = c.in_ok-explore_all.ensures.total in
      let none = ap (λ (xs : List AtomId). length xs) c.levels.invariant.empty in
      let next = ap (λ (xs : List AtomId). length xs) c.take_next.ensures.next in
      let few = c.levels.invariant.few in
      let marks = ap unmarked c.take_next.ensures.marks in
      let more = c.goes_on.ensures.more c.levels-test.true in
      let current = ap (λ (xs : List AtomId). length xs) c.deref.ensures.value in
      omega arith;
}

pub returns-clause-distances : goal.returns-clause-distances
returns-clause-distances c = finished_at c.args.mol.now.bonds c.args.bond.first.0 c.args.bond.second.0 (length c.args.mol.now.atoms) c.levels.level c.levels.current.items c.levels.search.next.items
    c.levels.search.marks.items (subst (λ (xs : List AtomId). (length xs ≡ 0) ⊎ ((d : ℕ) × (Mark c.levels.search.marks.items c.args.bond.second.0 d))) c.deref.ensures.value
    (c.goes_on.ensures.done c.levels-test.false)) c.levels.invariant.empty c.levels.invariant.between

pub returns-clause-count : goal.returns-clause-count
returns-clause-count c = c.levels.invariant.between.count

pub returns-clause-few : goal.returns-clause-few
returns-clause-few c a d at = omega (arith, c.levels.invariant.between.low a d at, c.levels.invariant.few, c.atom_count.ensures.few, c.atom_count.ensures.count)
