use Rattle.std.proofs.Common.{arith, ◌∙◌, ◌<◌, ◌+◌, ℕ, ℤ, Option, None, ap, sym, subst, get_or}
use Rattle.ct_v2000.specs.declared.entry.Entry.{Entry}
use Rattle.ct_v2000.specs.Replaced.{said_for}
use Rattle.ct_v2000.proofs.Entries.{entries_more}
use Rattle.ct_v2000.proofs.entry.set_each.Goals as goal

pub loop-e-preserved : goal.loop-e-preserved
loop-e-preserved c =
    let e : ℕ = c.loop-e.e in
    let count : ℕ = c.args.count in
    let less : e < count = omega arith in
    record {
      within = omega arith;
      count = c.set.ensures.count ∙ c.loop-e.invariant.count;
      set = λ k below. entries_more c.args.line.now e count k (get_or c.loop-e.values k None) (get_or c.set.new.values k None) _ less
          (c.set.ensures.set k (subst (λ (n : ℕ). k < n) (sym c.loop-e.invariant.count) below)
          ∙ ap (λ (a : Entry). said_for (k + 1) a.atom a.value (get_or c.loop-e.values k None)) c.at.ensures)
          (c.loop-e.invariant.set k below);
    }
