use Rattle.std.proofs.Common.{◌∙◌}
use Rattle.ct_geometry.proofs.Standing.{accepted_by, ambiguous_by, centres_are, places_are}
use Rattle.ct_geometry.proofs.ct_read.read_stereo.Goals as goal

pub read_centres-requires-clause-places : goal.read_centres-requires-clause-places
read_centres-requires-clause-places c = places_are c.args.table.now c.args.drawn.now.drawing c.requires.accepted c.requires.drawing

pub returns-in-Err-clause-err : goal.returns-in-Err-clause-err
returns-in-Err-clause-err c =
    ambiguous_by c.args.table.now c.args.drawn.now.rings c.args.drawn.now.mol c.args.drawn.now.drawing c.deref.result.now c.in-Err.stop
    c.requires.mol c.requires.drawing (c.deref.ensures.value ∙ c.requires.marks) c.requires.accepted c.requires.rings c.in-Err.ensures.err

pub read_sides-requires-clause-places : goal.read_sides-requires-clause-places
read_sides-requires-clause-places c = places_are c.args.table.now c.args.drawn.now.drawing c.requires.accepted c.requires.drawing

pub returns-clause-centres : goal.returns-clause-centres
returns-clause-centres c =
    centres_are c.args.table.now c.args.drawn.now.rings.sizes c.args.drawn.now.mol c.args.drawn.now.drawing c.deref.result.now c.in-Ok.centres.items
    c.requires.mol c.requires.drawing (c.deref.ensures.value ∙ c.requires.marks) c.in-Ok.ensures.ok

pub returns-clause-accepted : goal.returns-clause-accepted
returns-clause-accepted c =
    accepted_by c.args.table.now c.args.drawn.now.rings c.args.drawn.now.mol c.args.drawn.now.drawing c.deref.result.now
    c.requires.mol c.requires.drawing (c.deref.ensures.value ∙ c.requires.marks) c.requires.accepted c.requires.rings c.in-Ok.ensures.clear
