use Rattle.std.proofs.Common.{◌≡◌, ◌∙◌, ◌<◌, [], List, length, subst, sym}
use Rattle.smallvec.specs.SmallVec.{SmallVec as Items}
use Rattle.mc_mol.specs.declared.parts.HalfEdge.{HalfEdge as Half}
use Rattle.mc_mol.specs.HalfEdges.{half_edges, AllHaveTwins, LeadApart}
use Rattle.mc_mol.specs.Molecule.{Molecule}
use Rattle.mc_mol.specs.WellFormed.{IsMolecule}
use Rattle.mc_mol.proofs.Apart.{lead_apart}
use Rattle.mc_mol.proofs.Twins.{all_have_twins}
use Rattle.mc_mol.proofs.mol.Mol.bonds_of.Goals as goal

pub returns-clause-value : goal.returns-clause-value
returns-clause-value c =
    let none : Items Half = record { items = []; capacity = 0 } in
    let within : c.args.a.0 < length c.self.inside.atoms.items = subst (λ (m : Molecule). c.args.a.0 < length m.atoms) (sym c.self.view_is) c.requires in
    subst (λ (m : Molecule). c.of.result.now ≡ half_edges m c.args.a.0) c.self.view_is (c.of.ensures none ∙ c.self.invariant.1.each c.args.a.0 none within)

pub returns-clause-twins : goal.returns-clause-twins
returns-clause-twins c = subst (λ (m : Molecule). AllHaveTwins m c.args.a) c.self.view_is (all_have_twins _ c.args.a c.self.invariant.0)

pub returns-clause-apart : goal.returns-clause-apart
returns-clause-apart c = subst (λ (halves : List Half). LeadApart halves) (sym (returns-clause-value c)) (lead_apart _ c.args.a.0 (subst IsMolecule c.self.view_is c.self.invariant.0))
