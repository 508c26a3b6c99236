use Rattle.std.proofs.Common.{◌≡◌, ◌≤◌, take}
use Rattle.std.specs.Prelude.{count_by}
use Rattle.mc_convert.specs.Records.{is_header}
use Rattle.mc_convert.proofs.sd_read.header_count.Given as goal

abbrev pub invariant-loop-k : goal.invariant-loop-k
invariant-loop-k l = record {
  count : l.count ≡ count_by is_header (take l.k l.lines);
  few : l.count ≤ l.k;
}
