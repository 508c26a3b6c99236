use Rattle.std.proofs.Common.{arith, ◌≡◌, ◌∙◌, ◌≤◌, ℕ, length, sym, subst}
use Rattle.ct_sd.specs.declared.head.Version.{Version}
use Rattle.ct_sd.specs.declared.head.Version.TheVariants.{V3000}
use Rattle.ct_v2000.specs.Table.{record_faults}
use Rattle.ct_v2000.proofs.Refusals.{other_version, other_is, name_noted}
use Rattle.ct_v2000.proofs.reader.read.Goals as goal

pub returns-in_default : goal.returns-in_default
returns-in_default c = record {
  ok = tt;
  sound = tt;
  err = c.refuse.ensures (record_faults c.args.given.now)
      (other_version c.args.given.now c.note_if.new.self.fault
      (subst (λ (n : ℕ). 4 ≤ n) c.line_count.ensures c.if-line_count-lt4.false)
      (sym c.of.ensures ∙ other_is c.of.result c.in_default.not-V2000 (subst (λ (v : Version). v ≡ V3000 → ⊥) (sym c.of.ensures) c.requires))
      (name_noted c.args.given.now c.line.result.now c.is_other_file.result c.none-faults.result.fault c.note_if.new.self.fault c.line.ensures c.is_other_file.ensures c.none-faults.ensures c.note_if.ensures));
}
