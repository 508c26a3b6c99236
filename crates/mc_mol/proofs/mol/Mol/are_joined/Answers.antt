use Rattle.std.proofs.Common.{◌==◌, ◌∙◌, List, ap}
use Rattle.std.specs.List.{list_any}
use Rattle.mc_mol.specs.declared.parts.HalfEdge.{HalfEdge as Half}
use Rattle.mc_mol.proofs.Halves.{are_joined-half_edges}
use Rattle.mc_mol.proofs.mol.Mol.are_joined.Goals as goal

pub returns : goal.returns
returns c =
    c.finds.ensures ∙ ap (λ (halves : List Half). list_any (λ (half : Half). half.to.0 == c.args.second.0) halves) c.bonds_of.ensures.value
    ∙ are_joined-half_edges c.args.self.now c.args.first.0 c.args.second.0 c.requires.different
