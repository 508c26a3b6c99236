use Rattle.std.proofs.Common.{◌∙◌, ap}
use Rattle.mc_mol.specs.Molecule.{Molecule}
use Rattle.ct_geometry.proofs.Given.{centres_few, centres_fit, sides_count, sides_few, sides_fit_in}
use Rattle.ct_geometry.proofs.ct_read.set_stereo.Goals as goal

pub set_centres-requires-clause-few : goal.set_centres-requires-clause-few
set_centres-requires-clause-few c = centres_few c.args.table.now c.args.rings.now.sizes c.deref.result.now c.requires.table (c.deref.ensures.value ∙ c.requires.centres)

pub set_centres-requires-clause-places : goal.set_centres-requires-clause-places
set_centres-requires-clause-places c = centres_fit c.args.table.now c.args.rings.now.sizes c.args.mol.now c.deref.result.now c.requires.table c.requires.mol (c.deref.ensures.value ∙ c.requires.centres)

pub set_sides-requires-clause-count : goal.set_sides-requires-clause-count
set_sides-requires-clause-count c = sides_count c.args.table.now c.args.rings.now.sizes c.set_centres.new.mol c.deref.result.now c.deref-2.result.now
    (c.set_centres.ensures ∙ ap (λ (x : Molecule). record x { centres = c.deref.result.now }) c.requires.mol) (c.deref-2.ensures.value ∙ c.requires.sides)

pub set_sides-requires-clause-few : goal.set_sides-requires-clause-few
set_sides-requires-clause-few c = sides_few c.args.table.now c.args.rings.now.sizes c.deref-2.result.now c.requires.table (c.deref-2.ensures.value ∙ c.requires.sides)

pub set_sides-requires-clause-fit : goal.set_sides-requires-clause-fit
set_sides-requires-clause-fit c = sides_fit_in c.args.table.now c.args.rings.now.sizes c.set_centres.new.mol c.deref.result.now c.deref-2.result.now c.requires.table
    (c.set_centres.ensures ∙ ap (λ (x : Molecule). record x { centres = c.deref.result.now }) c.requires.mol) (c.deref-2.ensures.value ∙ c.requires.sides)
