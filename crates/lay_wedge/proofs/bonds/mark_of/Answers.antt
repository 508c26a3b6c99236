-- Where the up wedge says the other hand, the down wedge says this one.
use Rattle.std.proofs.Common.{◌∙◌, List, sym, ap}
use Rattle.mc_mol.specs.declared.parts.Slot.{Slot}
use Rattle.mc_mol.specs.Permutations.{is_even_permutation}
use Rattle.ct_geometry.specs.Drawn.{rays_from}
use Rattle.ct_geometry.proofs.Parity.{down_reads}
use Rattle.lay_wedge.proofs.bonds.mark_of.Goals as goal

pub returns-else-is_even_permutation-clause-even : goal.returns-else-is_even_permutation-clause-even
returns-else-is_even_permutation-clause-even c =
    down_reads c.args.places.now c.args.halves.now (rays_from c.args.drawing.now c.args.a.0) c.args.w c.requires.halves c.requires.leads c.requires.among
    (ap (λ (list : List Slot). is_even_permutation c.args.places.now list) (sym c.wedge_list-up.ensures) ∙ (sym c.is_even_permutation.ensures ∙ c.if-is_even_permutation.false))
