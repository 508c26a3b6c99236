use Rattle.std.proofs.Common.{length, ◌∙◌, ap, ◌≡◌, ◌<◌, ◌-◌, ℕ, List, Bool, [], subst, sym, arith}
use Rattle.std.specs.List.{list_any}
use Rattle.std.specs.Prelude.{slice_index_or}
use Rattle.std.proofs.lemmas.List.{get_or_default}
use Rattle.std.proofs.lemmas.Grind.{common_steps}
use Rattle.mc_mol.specs.declared.parts.HalfEdge.{HalfEdge}
use Rattle.smi_mean.specs.Order.{graph_of, steps}
use Rattle.smi_write.specs.declared.order.Seen.{Seen}
use Rattle.smi_write.specs.Seen.{Sees, leads_back, mark_all, nothing, see_all}
use Rattle.smi_write.specs.Progress.{HoldsMarks}
use Rattle.smi_write.proofs.Neighbours.{back_is}
use Rattle.smi_write.proofs.Advance.{top_is, seen, halves_within}
use Rattle.smi_write.proofs.Marks.{is_ranked, marks_above, marks_looked}
use Rattle.smi_write.proofs.order.Walk.look.Goals as goal

pub bonds_of-halves-requires : goal.bonds_of-halves-requires
bonds_of-halves-requires c = (top_is c.args.mol.now (length c.args.self.now.atoms.items) _ _ _ c.args.self.now.stack.items c.args.atom c.requires.walk.holds).below

pub index-rank-requires : goal.index-rank-requires
index-rank-requires c =
    let below = (top_is c.args.mol.now (length c.args.self.now.atoms.items) _ _ _ c.args.self.now.stack.items c.args.atom c.requires.walk.holds).below in
    let count = c.requires.walk.holds.count in grind (arith, common_steps)

pub overflow_sub-rank : goal.overflow_sub-rank
overflow_sub-rank c =
    let some = (is_ranked c.args.mol.now c.args.self.now.atoms.items _ _ c.args.self.now.stack.items c.args.atom c.index-rank.result.now c.requires.walk.holds c.index-rank.ensures).some in omega arith

pub index-parent-requires : goal.index-parent-requires
index-parent-requires c =
    let parent = (is_ranked c.args.mol.now c.args.self.now.atoms.items _ _ c.args.self.now.stack.items c.args.atom c.index-rank.result.now c.requires.walk.holds c.index-rank.ensures).parent in
    grind (arith, common_steps)

pub neighbours_seen-found-requires : goal.neighbours_seen-found-requires
neighbours_seen-found-requires c = λ k d less.
    let within = halves_within c.args.mol.now (record { 0 = c.args.atom }) c.bonds_of-halves.ensures.twins in
    let count : length c.deref.result.now ≡ length c.args.mol.now.atoms = ap length c.deref.ensures.value ∙ c.requires.walk.holds.count in
    let less' = subst (λ (x : List HalfEdge). k < length x) c.bonds_of-halves.ensures.value less in
    let below = subst (λ (x : List HalfEdge). (slice_index_or x k d).to.0 < length c.args.mol.now.atoms) (sym c.bonds_of-halves.ensures.value) (within k d less') in
    omega (arith, below, count)

pub mark_if-requires-clause-back : goal.mark_if-requires-clause-back
mark_if-requires-clause-back c =
    ap (λ (x : Seen). x.back) c.neighbours_seen-found.ensures
    ∙ back_is c.index-rank.result.now c.index-parent.result.now c.deref.result.now c.bonds_of-halves.result.now nothing
    ∙ ap (λ (x : List ℕ). list_any (λ half. leads_back c.index-rank.result.now c.index-parent.result.now (slice_index_or x half.to.0 0)) c.bonds_of-halves.result.now)
    (c.deref.ensures.value ∙ sym c.deref-2.ensures.value)

pub mark_if-requires-clause-within : goal.mark_if-requires-clause-within
mark_if-requires-clause-within c = λ k d less.
    let within = halves_within c.args.mol.now (record { 0 = c.args.atom }) c.bonds_of-halves.ensures.twins in
    let count : length c.deref-2.result.now ≡ length c.args.mol.now.atoms = ap length c.deref-2.ensures.value ∙ c.requires.walk.holds.count in
    let less' = subst (λ (x : List HalfEdge). k < length x) c.bonds_of-halves.ensures.value less in
    let below = subst (λ (x : List HalfEdge). (slice_index_or x k d).to.0 < length c.args.mol.now.atoms) (sym c.bonds_of-halves.ensures.value) (within k d less') in
    omega (arith, below, count)

pub mark_if-requires-clause-low : goal.mark_if-requires-clause-low
mark_if-requires-clause-low c =
    let low = (is_ranked c.args.mol.now c.args.self.now.atoms.items _ _ c.args.self.now.stack.items c.args.atom c.index-rank.result.now c.requires.walk.holds c.index-rank.ensures).low in
    let count = c.requires.walk.marks.count in omega arith

marks : (c : goal.After-mark_if) → HoldsMarks c.args.mol.now c.args.self.now.parents.items c.args.self.now.ranks.items [] c.mark_if.new.opens.items
marks c =
    let at = is_ranked c.args.mol.now c.args.self.now.atoms.items _ _ c.args.self.now.stack.items c.args.atom c.index-rank.result.now c.requires.walk.holds c.index-rank.ensures in
    let low = at.low in
    let count = c.requires.walk.marks.count in
    let marked = c.mark_if.ensures
    ∙ ap (λ (x : List ℕ). mark_all c.index-rank.result.now c.index-parent.result.now x c.args.self.now.opens.items c.bonds_of-halves.result.now) c.deref-2.ensures.value
    ∙ ap (mark_all c.index-rank.result.now c.index-parent.result.now c.args.self.now.ranks.items c.args.self.now.opens.items) c.bonds_of-halves.ensures.value in
    subst (λ (x : List Bool). HoldsMarks c.args.mol.now c.args.self.now.parents.items c.args.self.now.ranks.items [] x) (sym marked)
    (marks_looked c.args.mol.now _ _ c.args.atom c.index-rank.result.now c.index-parent.result.now _ c.requires.walk.marks at.is
    (c.index-parent.ensures ∙ get_or_default c.args.self.now.parents.items (c.index-rank.result.now - 1) c.index-parent.result.now 0 at.parent) (omega arith))

pub returns-clause-walk : goal.returns-clause-walk
returns-clause-walk c = record {
  holds = c.requires.walk.holds;
  orders_are = c.requires.walk.orders_are;
  marks = marks_above c.args.mol.now _ _ _ _ (marks c);
}

pub returns-clause-seen : goal.returns-clause-seen
returns-clause-seen c =
    let found = c.neighbours_seen-found.ensures
    ∙ ap (λ (x : List ℕ). see_all c.index-rank.result.now c.index-parent.result.now x nothing c.bonds_of-halves.result.now) c.deref.ensures.value
    ∙ ap (see_all c.index-rank.result.now c.index-parent.result.now c.args.self.now.ranks.items nothing) c.bonds_of-halves.ensures.value in
    subst (λ (x : Seen). Sees c.args.mol.now (steps (graph_of c.args.mol.now) (length c.args.self.now.atoms.items)) c.args.atom x) (sym found)
    (seen c.args.mol.now (steps (graph_of c.args.mol.now) (length c.args.self.now.atoms.items)) c.index-rank.result.now c.index-parent.result.now c.args.self.now.ranks.items (record { 0 = c.args.atom })
    c.requires.molecule c.requires.walk.holds.ranks_are c.bonds_of-halves.ensures.twins
    (top_is c.args.mol.now (length c.args.self.now.atoms.items) _ _ _ c.args.self.now.stack.items c.args.atom c.requires.walk.holds).written)

pub returns-clause-marks : goal.returns-clause-marks
returns-clause-marks c = marks c
