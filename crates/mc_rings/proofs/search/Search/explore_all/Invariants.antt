use Rattle.std.proofs.Common.{◌≡◌, ◌+◌, ◌<◌, ℕ, Some, length, slice_get}
use Rattle.mc_base.specs.declared.ids.AtomId.{AtomId}
use Rattle.mc_mol.specs.Numbered.{unmarked}
use Rattle.mc_rings.specs.Levels.{Between, Explored}
use Rattle.mc_rings.proofs.search.Search.explore_all.Given as goal

abbrev pub invariant-loop-atom : goal.invariant-loop-atom
invariant-loop-atom l = record {
  total : length l.self.next.items + unmarked l.self.marks.items ≡ length l.initial.self.next.items + unmarked l.initial.self.marks.items;
  between : Between l.mol.bonds l.bond.first.0 l.bond.second.0 (length l.mol.atoms) l.level l.current l.self.marks.items l.self.next.items;
  explored : (k : ℕ) (a : AtomId) → k < l.atom-index → slice_get l.current k ≡ Some a
      → Explored l.mol.bonds l.bond.first.0 l.bond.second.0 l.level l.self.marks.items a.0;
}
