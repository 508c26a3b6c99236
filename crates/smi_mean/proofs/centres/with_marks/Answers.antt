use Rattle.std.proofs.Common.{◌≡◌, false}
use Rattle.smi_mean.specs.MeantCentres.{centres_in}
use Rattle.smi_mean.proofs.CentreFits.{all_fit, all_places, under_count}
use Rattle.smi_mean.proofs.CentresMarked.{marks_right, no_marks_right, unmarked_same}
use Rattle.smi_mean.proofs.centres.with_marks.Goals as goal

pub returns-then-not-some_marked-clause-centres : goal.returns-then-not-some_marked-clause-centres
returns-then-not-some_marked-clause-centres c =
    let test = c.if-not-some_marked.true in
    let is = c.if-not-some_marked.ensures in
    unmarked_same c.args.skeleton.now c.args.mol c.requires (rw c.atoms.ensures.value at c.some_marked.ensures (let e : c.some_marked.result ≡ false = cc in e))

pub returns-then-not-some_marked-clause-right : goal.returns-then-not-some_marked-clause-right
returns-then-not-some_marked-clause-right c =
    let test = c.if-not-some_marked.true in
    let is = c.if-not-some_marked.ensures in
    no_marks_right c.args.skeleton.now c.args.mol (rw c.atoms.ensures.value at c.some_marked.ensures (let e : c.some_marked.result ≡ false = cc in e))

pub first_wrong_centre-requires-clause-count : goal.first_wrong_centre-requires-clause-count
first_wrong_centre-requires-clause-count c = under_count c.args.skeleton.now c.args.mol c.requires

pub set_centres-requires-clause-count : goal.set_centres-requires-clause-count
set_centres-requires-clause-count c = under_count c.args.skeleton.now c.args.mol c.requires

pub set_centres-requires-clause-fits : goal.set_centres-requires-clause-fits
set_centres-requires-clause-fits c =
    all_fit c.args.skeleton.now c.args.mol c.in_ok-rings.rings.sizes c.bonds-limits.ensures.well_formed c.requires (rw c.in_default.is at c.first_wrong_centre.ensures)

pub set_centres-requires-clause-places : goal.set_centres-requires-clause-places
set_centres-requires-clause-places c =
    all_places c.args.skeleton.now c.args.mol c.in_ok-rings.rings.sizes c.bonds-limits.ensures.well_formed c.requires (rw c.in_default.is at c.first_wrong_centre.ensures)

pub returns-clause-right : goal.returns-clause-right
returns-clause-right c =
    marks_right c.args.skeleton.now c.args.mol c.set_centres.new.mol (centres_in c.args.skeleton.now) c.in_ok-rings.rings c.in_ok-rings.ensures (rw c.in_default.is at c.first_wrong_centre.ensures) c.set_centres.ensures
