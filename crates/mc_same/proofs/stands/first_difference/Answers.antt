use Rattle.std.proofs.Common.{◌∙◌, Bool, IfOk, List, ap, map, subst}
use Rattle.mc_mol.specs.declared.parts.Bond.{Bond}
use Rattle.smi_graph.specs.declared.text_bond.TextBond.{TextBond}
use Rattle.smi_graph.specs.Links.{bond_of}
use Rattle.smi_mean.specs.Barriers.{needs_of}
use Rattle.smi_mean.specs.Lying.{lying_of}
use Rattle.smi_mean.specs.Meant.{molecule_under}
use Rattle.mc_same.specs.Stands.{doubles_from, IsFitVerdict}
use Rattle.mc_same.proofs.stands.first_difference.Goals as goal

pub compare_text-requires-clause-double : goal.compare_text-requires-clause-double
compare_text-requires-clause-double c =
    let bonds = c.deref.ensures.value ∙ c.in_ok-bonds.ensures ∙ ap (λ (bonds : List TextBond). map bond_of bonds) c.bonds.ensures.value in
    c.deref-2.ensures.value ∙ c.in_ok-doubles.ensures.found ∙ ap (λ (bonds : List Bond). doubles_from c.args.input.now.candidates c.args.output.now.bonds c.args.map.now 0 bonds) bonds

pub returns : goal.returns
returns c = record {
  first =
      let bonds = c.deref.ensures.value ∙ c.in_ok-bonds.ensures ∙ ap (λ (bonds : List TextBond). map bond_of bonds) c.bonds.ensures.value in
      let doubles = c.deref-2.ensures.value ∙ c.in_ok-doubles.ensures.found ∙ ap (λ (bonds : List Bond). doubles_from c.args.input.now.candidates c.args.output.now.bonds c.args.map.now 0 bonds) bonds in
      subst (λ (d : List Bool). IfOk c.compare_text.result (IsFitVerdict (molecule_under c.args.input.now d)
      (needs_of c.args.input.now.atoms c.args.input.now.bonds) (lying_of c.args.input.now.atoms c.args.input.now.bonds d) c.args.output.now c.args.map.now))
      doubles c.compare_text.ensures;
}
