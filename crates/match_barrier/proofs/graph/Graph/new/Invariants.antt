use Rattle.std.proofs.Common.{◌≡◌, map, length, replicate, []}
use Rattle.match_barrier.proofs.graph.Graph.new.Given as goal

abbrev pub invariant-loop : goal.invariant-loop
invariant-loop l = record {
  rows : map (λ row. row.items) l.rows.items ≡ replicate l.counter [];
  count : length l.rows.items ≡ l.counter;
}
