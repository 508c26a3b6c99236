use Rattle.std.proofs.Common.{◌≡◌, ◌≤◌, ◌+◌, ◌-◌, ◌++◌, []}
use Rattle.ct_sd.specs.Faults.{first_of}
use Rattle.ct_v2000.specs.BondLines.{bond_faults}
use Rattle.ct_v2000.specs.Table.{bonds_from}
use Rattle.ct_v2000.specs.Blocks.{still}
use Rattle.ct_v2000.proofs.blocks.read_bonds.Given as goal

abbrev pub invariant-loop-n : goal.invariant-loop-n
invariant-loop-n l = record {
  within : l.n ≤ l.count;
  bonds : l.bonds ++ bonds_from (l.first + l.n + 1) (still l.first l.n l.count l.given) ≡ bonds_from (l.first + 1) (still l.first 0 l.count l.given);
  shows : first_of l.faults.fault (bond_faults l.atoms l.joined (l.first + l.n + 1) (still l.first l.n l.count l.given)) ≡ first_of l.initial.faults.fault (bond_faults l.atoms [] (l.first + 1) (still l.first 0 l.count l.given));
}

abbrev pub decreases-loop-n : goal.decreases-loop-n
decreases-loop-n l = l.count - l.n
