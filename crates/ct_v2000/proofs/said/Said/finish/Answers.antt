use Rattle.std.proofs.Common.{arith, ◌∙◌, ◌+◌, ◌<◌, ◌++◌, ℕ, List, length, drop, ap}
use Rattle.ct_sd.specs.declared.table.TableAtom.{TableAtom}
use Rattle.ct_v2000.specs.Blocks.{atoms_by_said}
use Rattle.ct_v2000.proofs.SaidAtoms.{atoms_more, late_more}
use Rattle.ct_v2000.proofs.said.Said.finish.Goals as goal

pub loop-k-preserved : goal.loop-k-preserved
loop-k-preserved c =
    let k : ℕ = c.loop-k.k in
    let count : ℕ = length c.args.lines.now in
    let less : k < count = omega arith in
    record {
      atoms = ap (λ (t : List TableAtom). t ++ atoms_by_said c.args.self.now (k + 1) (drop (k + 1) c.args.lines.now)) c.in_ok-push.ensures.ok
          ∙ atoms_more c.args.self.now c.args.lines.now k _ c.loop-k.atoms _ c.atom.result less c.atom.ensures c.loop-k.invariant.atoms;
      shows = late_more c.args.self.now.codes_replaced c.args.self.now.differences_replaced c.args.lines.now k _ c.loop-k.faults.fault c.note_late.new.faults.fault _ less c.note_late.ensures c.loop-k.invariant.shows;
    }
