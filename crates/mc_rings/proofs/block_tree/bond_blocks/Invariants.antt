use Rattle.std.proofs.Common.{◌≡◌, ℕ, Some, length, slice_get}
use Rattle.mc_mol.specs.declared.parts.Bond.{Bond}
use Rattle.mc_rings.specs.Blocks.{BlockOf}
use Rattle.mc_rings.proofs.block_tree.bond_blocks.Given as goal

abbrev pub invariant-loop-k : goal.invariant-loop-k
invariant-loop-k l = record {
  count : length l.blocks.items ≡ l.k;
  each : (k : ℕ) (bond : Bond) (block : ℕ) → slice_get l.graph.bonds k ≡ Some bond → slice_get l.blocks.items k ≡ Some block
      → BlockOf l.forest.places.items l.tree.above.items bond.first.0 bond.second.0 block;
}
