use Rattle.std.proofs.Common.{◌≡◌, ◌≤◌, drop}
use Rattle.ct_v3000.specs.Numbers.{digits_from}
use Rattle.ct_v3000.proofs.number.unsigned.Given as goal

abbrev pub invariant-loop-byte : goal.invariant-loop-byte
invariant-loop-byte l = record {
  small : l.value ≤ 4294967296;
  same : digits_from l.value (drop l.byte-index l.text) ≡ digits_from 0 l.text;
}
