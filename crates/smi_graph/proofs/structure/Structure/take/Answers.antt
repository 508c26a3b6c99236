use Rattle.std.proofs.Common.{arith, ◌∙◌, ◌++◌, ◌+◌, ℕ, List, Option, refl, ap, sym}
use Rattle.std.specs.Prelude.{option_to_list}
use Rattle.smi_graph.specs.declared.ring_table.RingEnd.{RingEnd}
use Rattle.smi_graph.specs.declared.text_bond.TextBond.{TextBond}
use Rattle.smi_graph.specs.Bonds.{text_bonds}
use Rattle.smi_graph.proofs.structure.Structure.take.Goals as goal

pub returns-clause-reads : goal.returns-clause-reads
returns-clause-reads c = λ before bond reads. record {
  bonds = c.in_ok-push_some.ensures
      ∙ (ap (λ (x : List TextBond). x ++ option_to_list c.args.bond) reads.bonds ∙ ap (λ (o : Option TextBond). text_bonds before ++ option_to_list o) bond);
  tokens = let e = reads.tokens in omega arith;
  count = ap (λ (n : ℕ). n + c.atoms_of.result) reads.count ∙ sym (c.atoms_of.ensures.count before);
  latest = refl;
  branches = c.in_ok-read-2.ensures before reads.count reads.branches;
  rings = c.in_ok-read.ensures before (c.here-here.ensures before reads) reads.rings;
  neighbours = c.in_ok-read-3.ensures before (ap (λ (e : RingEnd). e.atom) (c.here-here.ensures before reads)) bond reads.neighbours;
}
