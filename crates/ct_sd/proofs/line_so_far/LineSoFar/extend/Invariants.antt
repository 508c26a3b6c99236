use Rattle.std.proofs.Common.{◌≡◌, ◌+◌, ◌-◌, ◌<◌, ◌^◌, length, drop}
use Rattle.ct_sd.specs.LinesSoFar.{after}
use Rattle.ct_sd.proofs.line_so_far.LineSoFar.extend.Given as goal

abbrev pub invariant-loop-byte : goal.invariant-loop-byte
invariant-loop-byte l = record {
  same : after l.self (drop l.byte-index l.part) ≡ after l.fn.self l.part;
  small : l.self.len + (length l.part - l.byte-index) < 2 ^ 64;
}
