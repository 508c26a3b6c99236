-- What is asked of the molecule and its drawing.
use Rattle.std.proofs.Common.{List, sym, subst}
use Rattle.mc_mol.specs.declared.drawing.Point.{Point}
use Rattle.lay_wedge.specs.Underway.{IsPlannable}
use Rattle.lay_wedge.proofs.Started.{are_places}
use Rattle.lay_wedge.proofs.planning.plan.Goals as goal

pub new-requires-clause-plannable : goal.new-requires-clause-plannable
new-requires-clause-plannable c =
    subst (λ (drawing : List Point). IsPlannable c.args.mol.now drawing) (sym c.as_slice.ensures)
    (record { molecule = c.atom_count-atoms.ensures.well_formed; drawn = c.requires.drawn; places = are_places c.args.mol.now c.args.drawing.now c.requires.drawn; sound = c.requires.sound })

pub all-requires-clause-plannable : goal.all-requires-clause-plannable
all-requires-clause-plannable c =
    subst (λ (drawing : List Point). IsPlannable c.args.mol.now drawing) (sym c.as_slice-2.ensures)
    (record { molecule = c.atom_count-atoms.ensures.well_formed; drawn = c.requires.drawn; places = are_places c.args.mol.now c.args.drawing.now c.requires.drawn; sound = c.requires.sound })
