use Rattle.std.proofs.Common.{◌≡◌, ◌++◌, drop, map}
use Rattle.smi_mean.specs.CentrePlaces.{atom_slot}
use Rattle.smi_mean.specs.Order.{graph_of, at}
use Rattle.smi_write.proofs.written_places.push_atoms.Given as goal

abbrev pub invariant-loop-rank : goal.invariant-loop-rank
invariant-loop-rank l =
    l.places.items ++ map atom_slot (map (λ k. at (graph_of l.mol) k) (drop l.rank-index l.ranks)) ≡ l.initial.places.items ++ map atom_slot (map (λ k. at (graph_of l.mol) k) l.ranks)
