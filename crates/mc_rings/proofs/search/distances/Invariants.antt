use Rattle.std.proofs.Common.{◌≡◌, ◌+◌, ◌≤◌, [], length}
use Rattle.mc_mol.specs.Numbered.{unmarked}
use Rattle.mc_rings.specs.Levels.{Between}
use Rattle.mc_rings.proofs.search.distances.Given as goal

abbrev pub invariant-levels : goal.invariant-levels
invariant-levels l = record {
  between : Between l.mol.bonds l.bond.first.0 l.bond.second.0 (length l.mol.atoms) l.level l.current.items l.search.marks.items l.search.next.items;
  empty : l.search.next.items ≡ [];
  few : length l.current.items + l.level + unmarked l.search.marks.items ≤ length l.mol.atoms;
}

abbrev pub decreases-levels : goal.decreases-levels
decreases-levels l = unmarked l.search.marks.items + length l.current.items
