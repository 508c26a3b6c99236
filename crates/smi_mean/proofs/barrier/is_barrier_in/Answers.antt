use Rattle.std.proofs.Common.{◌≡◌, ◌∙◌, ap, sym, map}
use Rattle.std.proofs.lemmas.Bool.{false≢true}
use Rattle.smi_graph.specs.Links.{bond_of}
use Rattle.smi_mean.specs.Barriers.{needs_of}
use Rattle.smi_mean.proofs.PlacedBonds.{needs_by}
use Rattle.smi_mean.proofs.BarrierTests.{found_decides, not_passing}
use Rattle.smi_mean.proofs.barrier.is_barrier_in.Goals as goal

pub returns-then-not-rises_among : goal.returns-then-not-rises_among
returns-then-not-rises_among c =
    let bonds = c.deref-2.ensures.value ∙ (c.in_ok-bonds.ensures ∙ ap (map bond_of) c.bonds.ensures.value) in
    let needs : c.deref-4.result.now ≡ needs_of c.args.skeleton.now.atoms c.args.skeleton.now.bonds =
    needs_by c.args.skeleton.now c.atoms-2.result.now c.deref-2.result.now c.deref-4.result.now c.atoms-2.ensures.value bonds (c.deref-4.ensures.value ∙ c.in_ok-needs.ensures) in
    not_passing c.args.skeleton.now c.deref-4.result.now c.args.atoms.now c.args.odd needs (λ h. false≢true (sym (sym c.rises_among.ensures ∙ c.if-not-rises_among.true) ∙ h))

pub returns : goal.returns
returns c = rw c.is_found.ensures (found_decides c.args.skeleton.now c.args.atoms.now c.in_ok-found.found c.args.odd c.bonds.ensures.well_formed c.in_ok-found.ensures.some c.in_ok-found.ensures.none)
