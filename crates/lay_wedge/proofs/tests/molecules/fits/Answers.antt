use Rattle.std.proofs.Common.{rules, ◌∙◌, List, sym, ap}
use Rattle.mc_mol.specs.declared.parts.HalfEdge.{HalfEdge}
use Rattle.lay_wedge.specs.Fitting.{may_be_list}
use Rattle.lay_wedge.proofs.Fitted.{list_fits}
use Rattle.lay_wedge.proofs.tests.molecules.fits.Goals as goal

pub returns : goal.returns
returns c = λ e. list_fits c.args.mol.now c.args.a.0 c.args.places.now c.atom_count-count.ensures.well_formed (search rules)
    (ap (λ (halves : List HalfEdge). may_be_list halves c.args.places.now) (sym c.bonds_of.ensures.value) ∙ (sym c.may_be_list.ensures ∙ e))
