use Rattle.std.proofs.Common.{◌≡◌, map, drop}
use Rattle.ct_sd.specs.Ranges.{part}
use Rattle.ct_sd.specs.DataLines.{behind_end}
use Rattle.ct_sd.proofs.data_lines.DataLines.behind_end.Given as goal

abbrev pub invariant-loop-i : goal.invariant-loop-i
invariant-loop-i l = behind_end (map (part l.bytes) (drop l.i l.ranges)) ≡ behind_end (map (part l.bytes) l.ranges)
