use Rattle.std.proofs.Common.{◌≡◌, ◌+◌, List, length}
use Rattle.mc_base.specs.declared.ids.AtomId.{AtomId}
use Rattle.mc_mol.specs.HalfEdges.{half_edges, AllHaveTwins}
use Rattle.mc_mol.specs.Numbered.{Mark, unmarked, Keeps}
use Rattle.mc_rings.specs.Levels.{Between}
use Rattle.mc_rings.proofs.Levels.{Following}
use Rattle.mc_rings.proofs.search.Search.explore.Given as goal

abbrev pub invariant-loop-half : goal.invariant-loop-half
invariant-loop-half l = record {
  halves : l.half-items ≡ half_edges l.mol l.atom.0;
  twins : AllHaveTwins l.mol l.atom;
  count : length l.self.marks.items ≡ length l.initial.self.marks.items;
  kept : Keeps l.initial.self.marks.items l.self.marks.items;
  total : length l.self.next.items + unmarked l.self.marks.items ≡ length l.initial.self.next.items + unmarked l.initial.self.marks.items;
  state : (current : List AtomId)
      → Between l.mol.bonds l.bond.first.0 l.bond.second.0 (length l.mol.atoms) l.level current l.initial.self.marks.items l.initial.self.next.items
      → Mark l.initial.self.marks.items l.atom.0 l.level
      → Following l.mol l.bond.first.0 l.bond.second.0 l.level current l.atom.0 l.self.marks.items l.self.next.items l.half-index;
}
