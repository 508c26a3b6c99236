use Rattle.std.proofs.Common.{◌∙◌, List, Some, sym, subst}
use Rattle.mc_base.specs.declared.ids.AtomId.{AtomId}
use Rattle.mc_report.specs.Fronts.{FindsList}
use Rattle.mc_report.proofs.Lists.{Reading, start, step, empty_found, last_found, none_found}
use Rattle.mc_report.proofs.front.numbers_front.Goals as goal

pub returns-then-not-goes_on : goal.returns-then-not-goes_on
returns-then-not-goes_on c =
    let text = c.args.text.now in
    subst (λ (atoms : List AtomId). FindsList text (Some (atoms, text))) (sym c.new.ensures) (empty_found text (sym c.goes_on.ensures ∙ c.if-not-goes_on.true))

pub loop-atom-init : goal.loop-atom-init
loop-atom-init c =
    let text = c.args.text.now in
    subst (λ (atoms : List AtomId). Reading text atoms text) (sym c.in_ok-atoms.ensures) (start text (sym c.goes_on.ensures ∙ c.if-not-goes_on.false))

pub loop-atom-preserved : goal.loop-atom-preserved
loop-atom-preserved c =
    let text = c.args.text.now in
    subst (λ (atoms : List AtomId). Reading text atoms c.in-Some-word_front.more.now) (sym c.in_ok-push-in-Some.ensures.ok)
    (step text c.loop-atom.atoms c.loop-atom.rest.now c.in-Some.atom c.in-Some.behind.now c.in-Some-word_front.more.now c.loop-atom.invariant
    (sym c.in-Some.ensures.value) (sym c.in-Some-word_front.ensures.value))

pub returns-in-None-word_front : goal.returns-in-None-word_front
returns-in-None-word_front c =
    let text = c.args.text.now in
    subst (λ (atoms : List AtomId). FindsList text (Some (atoms, c.in-Some.behind.now))) (sym c.in_ok-push-in-Some.ensures.ok)
    (last_found text c.loop-atom.atoms c.loop-atom.rest.now c.in-Some.atom c.in-Some.behind.now c.loop-atom.invariant
    (sym c.in-Some.ensures.value) (sym c.in-None-word_front.ensures.value))

pub returns-in-None : goal.returns-in-None
returns-in-None c =
    none_found c.args.text.now c.loop-atom.atoms c.loop-atom.rest.now c.loop-atom.invariant (sym c.in-None.ensures.value)
