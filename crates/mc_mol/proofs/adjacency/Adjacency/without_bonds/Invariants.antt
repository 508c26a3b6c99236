use Rattle.std.proofs.Common.{◌≡◌, ◌≤◌, ◌<◌, ℕ, [], length, vec_capacity, slice_index_or}
use Rattle.smallvec.specs.SmallVec.{SmallVec as Items}
use Rattle.mc_mol.specs.declared.parts.HalfEdge.{HalfEdge as Half}
use Rattle.mc_mol.proofs.adjacency.Adjacency.without_bonds.Given as goal

abbrev pub invariant-loop : goal.invariant-loop
invariant-loop l = record {
  count : length l.lists.items ≡ l.counter;
  room : l.atoms ≤ vec_capacity l.lists;
  empty : (a : ℕ) (d : Items Half) → a < l.counter → (slice_index_or l.lists.items a d).items ≡ [];
}
