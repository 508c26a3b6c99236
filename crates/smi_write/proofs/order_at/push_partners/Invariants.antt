use Rattle.std.proofs.Common.{◌≡◌, ◌≤◌, ◌<◌, ◌-◌, ◌++◌, length}
use Rattle.smi_write.specs.Opening.{later_partners}
use Rattle.smi_write.proofs.order_at.push_partners.Given as goal

abbrev pub invariant-loop-partner : goal.invariant-loop-partner
invariant-loop-partner l = record {
  behind : l.rank ≤ l.above;
  within : l.above < length l.mol.atoms;
  list : l.list.items ++ later_partners l.mol l.rank l.above ≡ l.initial.list.items ++ later_partners l.mol l.rank l.rank;
}

abbrev pub decreases-loop-partner : goal.decreases-loop-partner
decreases-loop-partner l = length l.mol.atoms - l.above
