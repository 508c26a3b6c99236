use Rattle.std.proofs.Common.{◌≡◌, ◌+◌, ◌-◌, ℕ, length, get_or}
use Rattle.smi_graph.proofs.atom_lists.AtomLists.reach.Given as goal

abbrev pub invariant-loop-self : goal.invariant-loop-self
invariant-loop-self l = record {
  same : (n : ℕ) → get_or l.self.slots.items n 0 ≡ get_or l.initial.self.slots.items n 0;
  lists : l.self.lists ≡ l.initial.self.lists;
  led : l.self.led ≡ l.initial.self.led;
}

abbrev pub decreases-loop-self : goal.decreases-loop-self
decreases-loop-self l = l.number + 1 - length l.self.slots.items
