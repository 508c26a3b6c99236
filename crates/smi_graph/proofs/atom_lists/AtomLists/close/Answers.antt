use Rattle.std.proofs.Common.{◌∙◌, ap, sym, subst, Vec, ℕ, length, get_or, ◌∷◌}
use Rattle.std.specs.Prelude.{◌==◌, if◌then◌else◌}
use Rattle.std.specs.declared.alloc.Global.{Global}
use Rattle.smallvec.specs.SmallVec.{SmallVec}
use Rattle.mc_base.specs.declared.ids.AtomId.{AtomId}
use Rattle.smi_graph.specs.declared.role.Role.TheVariants.{Ring}
use Rattle.smi_graph.specs.RingSlots.{HoldsLists}
use Rattle.smi_graph.proofs.ListsLaw.{closed, slot_here, ring_held}
use Rattle.smi_graph.proofs.atom_lists.AtomLists.close.Goals as goal

pub returns : goal.returns
returns c = λ before end here first open_ holds.
    let lists = closed c.args.self.now.lists.items c.fill_at.new.self.lists.items c.push_at.new.self.lists.items c.args.bond.first c.args.bond.second c.slot_of-slot.result c.args.number before end
    c.fill_at.ensures.filled c.in_ok-push_at.ensures.pushed c.fill_at.ensures.count c.in_ok-push_at.ensures.count here first open_ (c.slot_of-slot.ensures ∙ holds.slots c.args.number) holds.lists in
    ring_held c.args.self.now c.set_slot.new.self c.args.number c.count_at-own.result before holds
    (subst (λ (x : Vec (SmallVec AtomId) Global). HoldsLists x.items (Ring c.args.number ∷ before)) (sym c.in_ok-set_slot.ensures.lists) lists)
    (ap (λ (x : Vec (SmallVec AtomId) Global). length x.items) c.in_ok-set_slot.ensures.lists ∙ (c.in_ok-push_at.ensures.count ∙ c.fill_at.ensures.count))
    (c.in_ok-set_slot.ensures.led ∙ (c.in_ok-push_at.ensures.led ∙ c.fill_at.ensures.led))
    (λ k. c.in_ok-set_slot.ensures.set k ∙ ap (λ (x : SmallVec ℕ). if c.args.number == k then c.count_at-own.result else get_or x.items k 0) (c.in_ok-push_at.ensures.slots ∙ c.fill_at.ensures.slots))
    (slot_here c.args.self.now.lists.items c.args.bond.second.0 c.count_at-own.result before holds.count here holds.lists c.count_at-own.ensures)
