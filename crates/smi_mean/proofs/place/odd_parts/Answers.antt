use Rattle.smi_mean.proofs.place.odd_parts.Goals as goal

pub unreachable-requires : goal.unreachable-requires
unreachable-requires c = c.in-None.ensures.none c.requires.odd c.requires.barrier
