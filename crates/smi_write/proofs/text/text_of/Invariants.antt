use Rattle.std.proofs.Common.{◌≡◌, ◌++◌}
use Rattle.std.specs.Prelude.{flat_map}
use Rattle.smi_mean.specs.Written.{spelling, written_text}
use Rattle.smi_write.specs.CentreMarks.{CentresFit}
use Rattle.smi_write.specs.OpenRings.{Holds}
use Rattle.smi_write.specs.Texts.{rest_tokens, open_pairs}
use Rattle.smi_write.proofs.text.text_of.Given as goal

abbrev pub invariant-loop-rank : goal.invariant-loop-rank
invariant-loop-rank l = record {
  text : CentresFit l.mol → l.text ++ flat_map spelling (rest_tokens l.mol l.rank) ≡ written_text l.mol;
  rings : Holds l.rings.items (open_pairs l.mol l.rank);
}
