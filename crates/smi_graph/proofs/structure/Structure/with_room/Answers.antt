use Rattle.smi_graph.proofs.structure.Structure.with_room.Goals as goal
use Rattle.std.proofs.Common.{refl}

pub returns-clause-follows : goal.returns-clause-follows
returns-clause-follows c = λ ks. record {
  reads = record {
    bonds = c.in_ok-with_capacity.ensures.items;
    tokens = refl;
    count = refl;
    latest = refl;
    branches = c.none.ensures;
    rings = c.none-2.ensures;
    neighbours = c.in_ok-with_room.ensures;
  };
  order = λ none. c.start.ensures.behind;
  faults = c.none-3.ensures.first ks;
}
