use Rattle.std.proofs.Common.{◌≤◌, ◌-◌, length}
use Rattle.ct_sd.specs.FoundRecords.{IsScanned}
use Rattle.ct_sd.proofs.record_front.scan_lines.Given as goal

abbrev pub invariant-loop-len : goal.invariant-loop-len
invariant-loop-len l = record {
  scanned : IsScanned l.held l.scan l.ranges.items;
  later : l.fn.scan.searched ≤ l.scan.searched;
}

abbrev pub decreases-loop-len : goal.decreases-loop-len
decreases-loop-len l = length l.held - l.scan.searched
