use Rattle.std.proofs.Common.{◌≡◌, ◌<◌, ℕ, true, false, length, get_or}
use Rattle.mc_mol.specs.Same.{entry}
use Rattle.mc_same.specs.Differences.{Holds, IsNew}
use Rattle.mc_same.proofs.atoms.first_repeat.Given as goal

abbrev pub invariant-loop-k : goal.invariant-loop-k
invariant-loop-k l = record {
  room : length l.met.items ≡ l.count;
  new : Holds l.k (IsNew l.map);
  marked : (j : ℕ) → j < l.k → get_or l.met.items (entry l.map j) false ≡ true;
  met : (v : ℕ) → get_or l.met.items v false ≡ true → (j : ℕ) × (j < l.k) × (entry l.map j ≡ v);
}
