use Rattle.std.proofs.Common.{◌≡◌, ◌∙◌, ap, sym, subst, ℕ, List, length, arith}
use Rattle.smi_write.specs.WrittenOrder.{LastChildren}
use Rattle.smi_write.proofs.Partners.{length_parent_list}
use Rattle.smi_write.proofs.TextSteps.{text_step, pairs_step, parents_low}
use Rattle.smi_write.proofs.text.text_of.Goals as goal

pub last_children-requires-clause-few : goal.last_children-requires-clause-few
last_children-requires-clause-few c =
    let len : length c.deref.result.now ≡ length c.args.mol.now.atoms = ap length c.deref.ensures.value ∙ length_parent_list c.args.mol.now c.args.written.now c.requires.written in
    let few = c.requires.molecule.few_atoms in omega arith

pub last_children-requires-clause-within : goal.last_children-requires-clause-within
last_children-requires-clause-within c = parents_low c.args.mol.now c.args.written.now c.deref.result.now c.requires.written c.deref.ensures.value

pub mark-requires-clause-last : goal.mark-requires-clause-last
mark-requires-clause-last c =
    let len : length c.deref.result.now ≡ length c.args.mol.now.atoms = ap length c.deref.ensures.value ∙ length_parent_list c.args.mol.now c.args.written.now c.requires.written in
    subst (λ (x : List ℕ). LastChildren c.args.written.now.parents.items (length c.args.mol.now.atoms) x) (sym c.deref-in-loop-rank-4.ensures.value)
    (subst (λ (n : ℕ). LastChildren c.args.written.now.parents.items n c.in_ok-last.last.items) len
    (subst (λ (x : List ℕ). LastChildren x (length c.deref.result.now) c.in_ok-last.last.items) c.deref.ensures.value c.in_ok-last.ensures))

pub push_step-requires-clause-last : goal.push_step-requires-clause-last
push_step-requires-clause-last c =
    let len : length c.deref.result.now ≡ length c.args.mol.now.atoms = ap length c.deref.ensures.value ∙ length_parent_list c.args.mol.now c.args.written.now c.requires.written in
    subst (λ (x : List ℕ). LastChildren c.args.written.now.parents.items (length c.args.mol.now.atoms) x) (sym c.deref-in-loop-rank-6.ensures.value)
    (subst (λ (n : ℕ). LastChildren c.args.written.now.parents.items n c.in_ok-last.last.items) len
    (subst (λ (x : List ℕ). LastChildren x (length c.deref.result.now) c.in_ok-last.last.items) c.deref.ensures.value c.in_ok-last.ensures))

pub loop-rank-preserved : goal.loop-rank-preserved
loop-rank-preserved c =
    let was = c.loop-rank.invariant in
    let test = c.loop-rank-test.true in
    let count = c.atom_count-rank-end.ensures.count in
    record {
      text = λ fit. text_step c.args.mol.now c.args.written.now c.loop-rank.rank c.in_ok-mark.mark c.loop-rank.text c.push_step.new.text c.push_rings.new.text _ c.requires.written (omega arith)
          (c.in_ok-mark.ensures fit) c.in_ok-push_step.ensures (c.in_ok-push_rings.ensures.text _ c.loop-rank.invariant.rings) (c.loop-rank.invariant.text fit);
      rings = pairs_step c.args.mol.now c.loop-rank.rank c.push_rings.new.rings.items (c.in_ok-push_rings.ensures.rings _ c.loop-rank.invariant.rings);
    }
