use Rattle.std.proofs.Common.{arith, ◌∙◌}
use Rattle.std.proofs.Math.Seq.{take-add}
use Rattle.std.proofs.lemmas.List.{take_rest}
use Rattle.std.proofs.KnownBytes.{Appends-trans}
use Rattle.std.proofs.lemmas.Grind.{common_steps}
use Rattle.mc_io.proofs.writing.put_all.Goals as goal

pub loop-at-preserved : goal.loop-at-preserved
loop-at-preserved g c =
    let before = c.loop-at.invariant.gets in
    let step = c.in_ok-count.ensures.gets in
    record {
      within = grind (arith, common_steps);
      gets = record {
        grown = rw take-add (Appends-trans _ _ _ _ _ before.grown (rw take_rest at step.grown));
        others = λ i ne. step.others i ne ∙ before.others i ne;
        later = let first = before.later in let second = step.later in omega arith;
      };
    }
