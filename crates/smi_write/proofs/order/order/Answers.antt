use Rattle.std.proofs.Common.{length, refl, subst, Bool, ◌∷◌, [], ◌<◌, ◌∙◌, ap, ◌≡◌, ℕ, List, sym, arith, map}
use Rattle.std.specs.Prelude.{slice_index_or}
use Rattle.mc_base.specs.declared.ids.AtomId.{AtomId}
use Rattle.smi_mean.specs.Order.{Step, beginning, graph_of, order, steps, atoms, parents, rank}
use Rattle.smi_write.specs.WrittenOrder.{parent_orders}
use Rattle.smi_write.proofs.Advance.{root_next, root_written, orders_on, few_written, whole, order_whole}
use Rattle.smi_write.specs.Progress.{HoldsMarks}
use Rattle.smi_write.proofs.Marks.{marks_written, opens_at}
use Rattle.smi_write.proofs.order.order.Goals as goal

pub write-requires-clause-few : goal.write-requires-clause-few
write-requires-clause-few c =
    let le = few_written c.args.mol.now c.loop-root.walk.atoms.items _ _ _ c.loop-root.invariant.walk.holds in
    let few = c.atom_count-count.ensures.few in
    let count = c.atom_count-count.ensures.count in omega arith

pub finish-requires-clause-walk : goal.finish-requires-clause-walk
finish-requires-clause-walk c =
    let at = c.loop-root.invariant in
    let below : c.loop-root.root < length c.args.mol.now.atoms = let less = c.loop-root-test.true in let count = c.atom_count-count.ensures.count in omega arith in
    let free = sym (ap (λ (d : ℕ). slice_index_or c.loop-root.walk.ranks.items c.loop-root.root d) c.if-index-eq0.true) ∙ sym c.index.ensures ∙ c.if-index-eq0.true in
    record {
      holds = root_written c.args.mol.now c.loop-root.walk.atoms.items _ _ _ _ _ c.loop-root.walk.stack.items _ c.loop-root.root at.walk.holds at.empty below free at.earlier
          c.in_ok-write.ensures.atoms c.in_ok-write.ensures.parents c.in_ok-write.ensures.ranks c.in_ok-write.ensures.stack;
      orders_are = orders_on c.args.mol.now (beginning c.loop-root.root) c.loop-root.walk.atoms.items _ _ _ 1
          (root_next c.args.mol.now c.loop-root.walk.atoms.items _ _ c.loop-root.walk.stack.items c.loop-root.root at.walk.holds at.empty below free at.earlier)
          at.walk.orders_are refl c.in_ok-write.ensures.atoms c.in_ok-write.ensures.orders;
      marks = subst (λ (x : List Bool). HoldsMarks c.args.mol.now c.write.new.self.parents.items c.write.new.self.ranks.items (c.loop-root.root ∷ []) x) (sym c.in_ok-write.ensures.opens)
          (marks_written c.args.mol.now _ c.loop-root.walk.atoms.items _ _ _ _ _ c.loop-root.root 0 _ at.walk.holds at.walk.marks c.in_ok-write.ensures.parents c.in_ok-write.ensures.ranks below);
    }

all : (c : goal.After-drop-walk-2) → length c.loop-root.walk.atoms.items ≡ length c.args.mol.now.atoms
all c = whole c.args.mol.now c.loop-root.walk.atoms.items _ _ _ c.loop-root.invariant.walk.holds (λ v less. c.loop-root.invariant.earlier v
    (let end = c.loop-root-test.false in let count = c.atom_count-count.ensures.count in omega arith))

is_order : (c : goal.After-drop-walk-2) → steps (graph_of c.args.mol.now) (length c.loop-root.walk.atoms.items) ≡ order (graph_of c.args.mol.now)
is_order c = order_whole c.args.mol.now c.loop-root.walk.atoms.items (all c)

pub returns-clause-written : goal.returns-clause-written
returns-clause-written c = record {
  atoms_are = c.loop-root.invariant.walk.holds.atoms_are ∙ ap (λ (x : List Step). let made : List AtomId = map (λ u. record { 0 = u }) (atoms x) in made) (is_order c);
  parents_are = c.loop-root.invariant.walk.holds.parents_are ∙ ap (λ (x : List Step). parents x) (is_order c);
  orders_are = c.loop-root.invariant.walk.orders_are ∙ ap (λ (x : List Step). parent_orders (graph_of c.args.mol.now) x) (is_order c);
  ranks_are = λ u less. c.loop-root.invariant.walk.holds.ranks_are u less ∙ ap (λ (x : List Step). rank x u) (is_order c);
  rank_count = c.loop-root.invariant.walk.holds.count;
  count = all c;
  open_count = c.loop-root.invariant.walk.marks.count;
  opens_are = opens_at c.args.mol.now _ _ _ c.loop-root.invariant.walk.marks
      (c.loop-root.invariant.walk.holds.parents_are ∙ ap (λ (x : List Step). parents x) (is_order c))
      (λ u less. c.loop-root.invariant.walk.holds.ranks_are u less ∙ ap (λ (x : List Step). rank x u) (is_order c));
}
