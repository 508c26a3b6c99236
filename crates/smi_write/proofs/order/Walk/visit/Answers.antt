use Rattle.std.proofs.Common.{length, subst, ◌∷◌, [], ◌<◌, ◌∙◌, ℕ, sym, arith}
use Rattle.std.proofs.lemmas.List.{get_or_default}
use Rattle.std.proofs.lemmas.Option.{slice_get_within}
use Rattle.std.proofs.lemmas.Grind.{common_steps}
use Rattle.std.proofs.lemmas.Bool.{not-true, not-false}
use Rattle.smi_mean.specs.Order.{behind}
use Rattle.smi_write.proofs.BondOrders.{order_of}
use Rattle.smi_write.proofs.Advance.{goes_on, gone_on, less_left, stays_off, orders_on, next_above}
use Rattle.smi_write.specs.Progress.{left}
use Rattle.smi_write.proofs.Marks.{marks_above, marks_on}
use Rattle.smi_write.proofs.order.Walk.visit.Goals as goal

pub returns-then-not-found-clause-walk : goal.returns-then-not-found-clause-walk
returns-then-not-found-clause-walk c = record {
  holds = stays_off c.args.mol.now _ _ _ _ c.look-found.new.self.stack.items _ c.args.atom _ c.look-found.ensures.walk.holds (c.look-found.ensures.seen.none (not-true _ c.if-not-found.true)) c.pop.ensures.items;
  orders_are = c.look-found.ensures.walk.orders_are;
  marks = marks_above c.args.mol.now _ _ _ _ c.look-found.ensures.marks;
}

pub index-parent-requires : goal.index-parent-requires
index-parent-requires c =
    let top = (goes_on c.args.mol.now c.look-found.new.self.atoms.items _ _ c.look-found.new.self.stack.items c.args.atom c.look-found.result.least c.look-found.ensures.walk.holds
    (sym (c.look-found.ensures.seen.least (not-false _ c.if-not-found.false)))).top in
    grind (arith, common_steps)

pub bond-requires : goal.bond-requires
bond-requires c = slice_get_within _ _ _ (c.look-found.ensures.seen.bond (not-false _ c.if-not-found.false)).is_bond

pub write-requires-clause-within : goal.write-requires-clause-within
write-requires-clause-within c = (goes_on c.args.mol.now c.look-found.new.self.atoms.items _ _ c.look-found.new.self.stack.items c.args.atom c.look-found.result.least c.look-found.ensures.walk.holds
    (sym (c.look-found.ensures.seen.least (not-false _ c.if-not-found.false)))).next

pub write-requires-clause-few : goal.write-requires-clause-few
write-requires-clause-few c =
    let fewer = (goes_on c.args.mol.now c.look-found.new.self.atoms.items _ _ c.look-found.new.self.stack.items c.args.atom c.look-found.result.least c.look-found.ensures.walk.holds
    (sym (c.look-found.ensures.seen.least (not-false _ c.if-not-found.false)))).fewer in
    let few = c.requires.molecule.few_atoms in omega arith

pub returns-clause-walk : goal.returns-clause-walk
returns-clause-walk c =
    let some = not-false _ c.if-not-found.false in
    let found = sym (c.look-found.ensures.seen.least some) in
    let bond = c.look-found.ensures.seen.bond some in
    let top = (goes_on c.args.mol.now c.look-found.new.self.atoms.items _ _ c.look-found.new.self.stack.items c.args.atom c.look-found.result.least c.look-found.ensures.walk.holds found).top in
    record {
      holds = gone_on c.args.mol.now c.look-found.new.self.atoms.items _ _ _ _ _ c.look-found.new.self.stack.items _ c.args.atom c.look-found.result.least _ c.look-found.result.more c.look-found.ensures.walk.holds found
          (c.look-found.ensures.seen.only some)
          (c.index-parent.ensures ∙ get_or_default c.look-found.new.self.ranks.items c.args.atom c.index-parent.result.now 0 top)
          c.in_ok-write.ensures.atoms c.in_ok-write.ensures.parents c.in_ok-write.ensures.ranks (c.in_ok-write.ensures.stack ∙ c.in_ok-push_if.ensures);
      orders_are = orders_on c.args.mol.now (behind c.args.atom c.look-found.result.least) c.look-found.new.self.atoms.items _ _ _ _
          (next_above c.args.mol.now _ _ _ _ c.look-found.new.self.stack.items c.args.atom c.look-found.result.least c.look-found.ensures.walk.holds (sym found))
          c.look-found.ensures.walk.orders_are (order_of c.args.mol.now c.args.atom c.look-found.result.least _ c.bond.result bond c.bond.ensures.value) c.in_ok-write.ensures.atoms c.in_ok-write.ensures.orders;
      marks = marks_on c.args.mol.now c.look-found.new.self.atoms.items _ _ _ _ _ c.args.atom c.look-found.result.least _ _ _ c.look-found.ensures.walk.holds c.look-found.ensures.marks found
          c.in_ok-write.ensures.parents c.in_ok-write.ensures.ranks c.in_ok-write.ensures.opens;
    }

pub returns-clause-left : goal.returns-clause-left
returns-clause-left c =
    let found = sym (c.look-found.ensures.seen.least (not-false _ c.if-not-found.false)) in
    subst (λ (n : ℕ). left c.args.mol.now c.write.new.self (c.look-found.result.least ∷ []) < n) c.look-found.ensures.left
    (less_left (length c.args.mol.now.atoms) c.look-found.new.self.atoms.items c.write.new.self.atoms.items c.look-found.new.self.stack.items c.write.new.self.stack.items c.args.atom c.look-found.result.least
    c.look-found.result.more
    (goes_on c.args.mol.now c.look-found.new.self.atoms.items _ _ c.look-found.new.self.stack.items c.args.atom c.look-found.result.least c.look-found.ensures.walk.holds found).fewer c.in_ok-write.ensures.atoms
    (c.in_ok-write.ensures.stack ∙ c.in_ok-push_if.ensures))
