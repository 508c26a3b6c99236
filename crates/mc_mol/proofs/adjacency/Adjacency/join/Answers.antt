use Rattle.std.proofs.Common.{arith, ap, [], length, List}
use Rattle.smallvec.specs.SmallVec.{SmallVec as Items}
use Rattle.mc_mol.specs.declared.parts.HalfEdge.{HalfEdge as Half}
use Rattle.mc_mol.proofs.adjacency.Adjacency.join.Goals as goal

none : Items Half
none = record { items = []; capacity = 0 }

pub overflow_cast-at_first : goal.overflow_cast-at_first
overflow_cast-at_first c = omega (arith, c.requires.first_few none, ap (λ (xs : List Half). length xs) (c.of.ensures none))

pub overflow_cast-at_second : goal.overflow_cast-at_second
overflow_cast-at_second c = omega (arith, c.requires.second_few none, ap (λ (xs : List Half). length xs) (c.of-2.ensures none))
