-- How far the ring numbers that open at an atom are written.
use Rattle.std.specs.Prelude.{◌≡◌, ℕ, ◌&&◌, nat_lt, List, ◌++◌, length, flat_map}
use Rattle.mc_mol.specs.Molecule.{Molecule}
use Rattle.smi_mean.specs.Order.{graph_of, has_ring}
use Rattle.smi_mean.specs.RingNumbers.{Pair, passing, opened, onto_all}
use Rattle.smi_mean.specs.Written.{spelling, opened_tokens, bond_symbol}
use Rattle.smi_write.specs.declared.ring_numbers.OpenRing.{OpenRing}
use Rattle.smi_write.specs.OpenRings.{Holds}

-- the pairs that open at an atom for these partners
abbrev pub opened_pairs : Molecule → List Pair → ℕ → List ℕ → List Pair
opened_pairs m pairs k ls = opened (λ j l. bond_symbol (graph_of m) j l) pairs k ls

-- the partners of atom k's ring bonds above a rank
abbrev pub later_partners : Molecule → ℕ → ℕ → List ℕ
later_partners m k above = passing (λ l. nat_lt above l && has_ring (graph_of m) k l) (length m.atoms)

-- The text so far and the numbers that open for these partners are the whole text of those that open at atom k, and
-- so are the open pairs.
pub record Opens (m : Molecule) (k : ℕ) (old new : List ℕ) (pairs : List Pair) (rings : List OpenRing) (rest : List ℕ) : Type 0 where
  pub now : List Pair
  pub holds : Holds rings now
  pub text : new ++ flat_map spelling (opened_tokens (opened_pairs m now k rest)) ≡ old ++ flat_map spelling (opened_tokens (opened_pairs m pairs k (later_partners m k k)))
  pub ended : onto_all (opened_pairs m now k rest) now ≡ onto_all (opened_pairs m pairs k (later_partners m k k)) pairs
