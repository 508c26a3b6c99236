use Rattle.std.proofs.Common.{◌∙◌, ◌++◌, ◌+◌, ap, sym, arith, get_or, length, suc, ℕ, List}
use Rattle.std.specs.Prelude.{◌==◌}
use Rattle.std.proofs.lemmas.List.{append-nil}
use Rattle.smi_write.proofs.ChildRange.{none_passing}
use Rattle.smi_write.proofs.Partners.{passing_none}
use Rattle.smi_write.proofs.order_at.push_children.Goals as goal

pub loop-at-init : goal.loop-at-init
loop-at-init c =
    let within = c.requires.within in
    record {
      low = omega arith;
      list = sym (append-nil c.args.list.now.items)
          ∙ ap (λ (x : List ℕ). c.args.list.now.items ++ x) (sym (passing_none (λ l. get_or c.args.parents.now l 0 == suc c.args.rank) (c.args.rank + 1) (λ l less. c.requires.behind l (omega arith))));
    }

pub returns : goal.returns
returns c =
    c.loop-at.invariant.list
    ∙ ap (λ (x : List ℕ). c.args.list.now.items ++ x)
    (sym (none_passing (λ l. get_or c.args.parents.now l 0 == suc c.args.rank) c.loop-at.at (length c.args.parents.now) c.loop-at.invariant.low
    (λ l past. let t = c.loop-at-test.false in c.requires.before l (omega arith))))
