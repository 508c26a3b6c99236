use Rattle.std.proofs.Common.{sym, refl, arith}
use Rattle.std.proofs.lemmas.Grind.{common_steps}
use Rattle.smi_write.proofs.Partners.{length_parent_list}
use Rattle.smi_write.proofs.Befores.{has_parent, length_order_list, order_kept, before_is}
use Rattle.smi_write.proofs.text.push_before.Goals as goal

pub index-parent-requires : goal.index-parent-requires
index-parent-requires c =
    let len = length_parent_list c.args.mol.now c.args.written.now c.requires.written in
    let within = c.requires.within in grind (arith, common_steps)

pub bounds-last-parent : goal.bounds-last-parent
bounds-last-parent c =
    let low = (has_parent c.args.mol.now c.args.written.now c.args.rank c.index-parent.result.now c.requires.written c.requires.within c.index-parent.ensures).low in
    let len = length_parent_list c.args.mol.now c.args.written.now c.requires.written in
    let within = c.requires.within in
    let count = c.requires.last.count in omega arith

pub index-requires : goal.index-requires
index-requires c =
    let within = c.requires.within in
    let len = length_order_list c.args.mol.now c.args.written.now c.requires.written in grind (arith, common_steps)

pub returns : goal.returns
returns c =
    let within = c.requires.within in
    let some = c.if-parent-eq0.false in
    let parent = has_parent c.args.mol.now c.args.written.now c.args.rank c.index-parent.result.now c.requires.written within c.index-parent.ensures in
    rw (sym (before_is c.args.mol.now c.args.written.now c.args.last.now c.args.rank c.index-parent.result.now c.index.result.now _ c.requires.written c.requires.last within parent some
    (order_kept c.args.mol.now c.args.written.now c.args.rank c.index-parent.result.now c.index.result.now c.requires.written within parent some c.index.ensures) refl)) c.push_bond.ensures
