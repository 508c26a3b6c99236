use Rattle.std.proofs.Common.{◌≡◌, take}
use Rattle.mc_rings.proofs.block_order.copied.Given as goal

abbrev pub invariant-loop-atom : goal.invariant-loop-atom
invariant-loop-atom l = record { copy : l.copy.items ≡ take l.atom-index l.atoms }
