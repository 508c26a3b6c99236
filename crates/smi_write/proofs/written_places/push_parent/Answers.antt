use Rattle.std.proofs.Common.{arith, ap, sym, ◌∙◌, ◌++◌, ◌∷◌, [], List, ℕ, get_or}
use Rattle.std.proofs.lemmas.Grind.{common_steps}
use Rattle.mc_mol.specs.declared.parts.Slot.{Slot}
use Rattle.smi_mean.specs.Order.{graph_of}
use Rattle.smi_write.proofs.Befores.{has_parent}
use Rattle.smi_write.proofs.FourPlaces.{parent_slot}
use Rattle.smi_write.proofs.Partners.{length_parent_list}
use Rattle.smi_write.proofs.written_places.push_parent.Goals as goal

pub index-parent-requires : goal.index-parent-requires
index-parent-requires c =
    let len = length_parent_list c.args.mol.now c.args.written.now c.requires.written in
    let within = c.requires.within in grind (arith, common_steps)

pub atom_at-requires-clause-within : goal.atom_at-requires-clause-within
atom_at-requires-clause-within c =
    let low = (has_parent c.args.mol.now c.args.written.now c.args.rank c.index-parent.result.now c.requires.written c.requires.within c.index-parent.ensures).low in
    let within = c.requires.within in omega arith

pub returns-in_ok-push : goal.returns-in_ok-push
returns-in_ok-push c =
    let parent = has_parent c.args.mol.now c.args.written.now c.args.rank c.index-parent.result.now c.requires.written c.requires.within c.index-parent.ensures in
    c.in_ok-push.ensures.items
    ∙ ap (λ (x : Slot). c.args.places.now.items ++ x ∷ []) c.atom_at.ensures
    ∙ ap (λ (x : List Slot). c.args.places.now.items ++ x) (sym (parent_slot (graph_of c.args.mol.now) _ c.index-parent.result.now (sym (parent.is ∙ ap (λ (xs : List ℕ). get_or xs c.args.rank 0) c.requires.written.parents_are)) c.if-parent-ne0.true))
