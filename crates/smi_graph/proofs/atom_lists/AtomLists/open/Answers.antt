use Rattle.std.proofs.Common.{◌∙◌, ap, sym, subst, Vec, ℕ, length, get_or, ◌∷◌}
use Rattle.std.specs.Prelude.{◌==◌, if◌then◌else◌}
use Rattle.std.specs.declared.alloc.Global.{Global}
use Rattle.smallvec.specs.SmallVec.{SmallVec}
use Rattle.mc_base.specs.declared.ids.AtomId.{AtomId}
use Rattle.smi_graph.specs.declared.role.Role.TheVariants.{Ring}
use Rattle.smi_graph.specs.RingSlots.{HoldsLists}
use Rattle.smi_graph.proofs.ListsLaw.{opened, slot_here, ring_held}
use Rattle.smi_graph.proofs.atom_lists.AtomLists.open.Goals as goal

pub returns : goal.returns
returns c = λ before here none holds.
    let lists = opened c.args.self.now.lists.items c.push_at.new.self.lists.items c.args.here c.args.number before c.in_ok-push_at.ensures.pushed c.in_ok-push_at.ensures.count here none holds.lists in
    ring_held c.args.self.now c.set_slot.new.self c.args.number c.count_at-slot.result before holds
    (subst (λ (x : Vec (SmallVec AtomId) Global). HoldsLists x.items (Ring c.args.number ∷ before)) (sym c.in_ok-set_slot.ensures.lists) lists)
    (ap (λ (x : Vec (SmallVec AtomId) Global). length x.items) c.in_ok-set_slot.ensures.lists ∙ c.in_ok-push_at.ensures.count)
    (c.in_ok-set_slot.ensures.led ∙ c.in_ok-push_at.ensures.led)
    (λ k. c.in_ok-set_slot.ensures.set k ∙ ap (λ (x : SmallVec ℕ). if c.args.number == k then c.count_at-slot.result else get_or x.items k 0) c.in_ok-push_at.ensures.slots)
    (slot_here c.args.self.now.lists.items c.args.here c.count_at-slot.result before holds.count here holds.lists c.count_at-slot.ensures)
