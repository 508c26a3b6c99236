use Rattle.std.proofs.Common.{◌≡◌, ◌∙◌, ◌-◌, refl}
use Rattle.smi_graph.specs.Bonds.{atom_count, text_bonds}
use Rattle.smi_graph.proofs.RisingBonds.{bonds_rise, to_latest}
use Rattle.smi_graph.proofs.structure.Structure.pairs_first.Goals as goal

pub returns-then-is_none : goal.returns-then-is_none
returns-then-is_none c = λ before none reads bond.
    let bonds : c.deref.result.now ≡ text_bonds before = c.deref.ensures.value ∙ reads.bonds in
    let same = rw c.in-Ring.is at bond in
    rw c.in-Ring.is (c.pairs_again.ensures (atom_count before - 1) (rw same (to_latest c.in-Ring.field-0 before)) (rw bonds (bonds_rise before)) ∙ rw (bonds, same) refl)
