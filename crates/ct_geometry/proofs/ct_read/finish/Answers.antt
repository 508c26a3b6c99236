use Rattle.std.proofs.Common.{◌∙◌, List, Option, ap}
use Rattle.mc_mol.specs.declared.parts.Slot.{Slot}
use Rattle.ct_sd.specs.declared.table.TableBond.{TableBond}
use Rattle.ct_geometry.specs.Stands.{idle_count, kept_wedges}
use Rattle.ct_geometry.proofs.Standing.{is_read, is_sound, ring_count_is}
use Rattle.ct_geometry.proofs.ct_read.finish.Goals as goal

pub returns-clause-ok : goal.returns-clause-ok
returns-clause-ok c =
    let table = c.args.table.now in
    let sizes = c.args.drawn.rings.sizes in
    let centres = c.args.stereo.centres.items in
    let bonds = c.as_slice-bonds.ensures in
    is_read table _ centres c.requires.accepted c.requires.rings c.set_stereo.ensures c.requires.centres c.requires.drawing
    (c.in_ok-wedges.ensures ∙ (ap (λ (t : List (Option (List Slot))). kept_wedges t c.as_slice-bonds.result.now) c.deref-3.ensures.value ∙ ap (λ (t : List TableBond). kept_wedges centres t) bonds))
    (c.idle_count-idle.ensures ∙ (ap (λ (t : List (Option (List Slot))). idle_count t c.as_slice-bonds.result.now) c.deref-2.ensures.value ∙ ap (λ (t : List TableBond). idle_count centres t) bonds))
    (ring_count_is table sizes c.args.drawn.mol c.deref.result.now c.ring_count-ring.result c.requires.mol (c.deref.ensures.value ∙ c.requires.marks) c.ring_count-ring.ensures)

pub returns-clause-sound : goal.returns-clause-sound
returns-clause-sound c = is_sound c.args.table.now c.set_stereo.new.mol c.args.drawn.rings c.requires.limits c.set_stereo.ensures
