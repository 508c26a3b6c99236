use Rattle.std.proofs.Common.{arith, ◌∙◌, Vec, Bool, sym, subst, ap}
use Rattle.std.specs.declared.alloc.Global.{Global}
use Rattle.smi_graph.specs.declared.atom_lists.AtomLists.{AtomLists}
use Rattle.smi_graph.specs.RingSlots.{HoldsNeighbours}
use Rattle.smi_graph.proofs.Lifting.{shows_wrong}
use Rattle.smi_graph.proofs.Plain.{plain_atoms, plain_bonds, reader_plain}
use Rattle.smi_graph.proofs.Together.{has_all, sound, few, few_found, few_within, aromatic, beyond, nothing, lists_of}
use Rattle.smi_graph.proofs.read.read_skeleton.Goals as goal

pub returns-in-Some-clause-err : goal.returns-in-Some-clause-err
returns-in-Some-clause-err c =
    let has = has_all c.args.text.now c.in-Ok.reader c.in-Ok.ensures.has c.in-Ok.ensures.all c.in-Ok.ensures.whole c.if-not-reader.false in
    rw (c.at-in-Some.ensures, c.byte_place-place.ensures) (shows_wrong c.args.text.now c.in-Some.fault has.whole has.built (rw c.in-Some.is at c.in_ok-fault.ensures))

pub aromatic_fault-requires-clause-few : goal.aromatic_fault-requires-clause-few
aromatic_fault-requires-clause-few c =
    let has = has_all c.args.text.now c.in-Ok.reader c.in-Ok.ensures.has c.in-Ok.ensures.all c.in-Ok.ensures.whole c.if-not-reader.false in
    let f = few_found c.args.text.now _ _ has in
    let n = c.in-Ok.ensures.few in
    let all = c.in-Ok.ensures.all in
    let short = c.requires in
    rw c.bonds-bonds.ensures (omega arith)

pub aromatic_fault-requires-clause-plain : goal.aromatic_fault-requires-clause-plain
aromatic_fault-requires-clause-plain c = λ plain.
    let has = has_all c.args.text.now c.in-Ok.reader c.in-Ok.ensures.has c.in-Ok.ensures.all c.in-Ok.ensures.whole c.if-not-reader.false in
    plain_bonds c.args.text.now c.as_slice-atoms.result.now c.bonds-bonds.result.now (c.bonds-bonds.ensures ∙ has.bonds) (reader_plain c.args.text.now c.in-Ok.reader c.in-Ok.ensures.has c.in-Ok.ensures.all plain)

pub returns-in-Some-aromatic_fault-clause-err : goal.returns-in-Some-aromatic_fault-clause-err
returns-in-Some-aromatic_fault-clause-err c =
    let has = has_all c.args.text.now c.in-Ok.reader c.in-Ok.ensures.has c.in-Ok.ensures.all c.in-Ok.ensures.whole c.if-not-reader.false in
    let right = rw c.in_default.is at c.in_ok-fault.ensures in
    rw c.at-in-Some-aromatic_fault.ensures (aromatic c.args.text.now _ _ c.in-Some-aromatic_fault.fault has right (rw (c.as_slice-atoms.ensures.value, c.bonds-bonds.ensures) at c.in-Some-aromatic_fault.ensures))

pub limit_fault-requires-clause-sound : goal.limit_fault-requires-clause-sound
limit_fault-requires-clause-sound c =
    let has = has_all c.args.text.now c.in-Ok.reader c.in-Ok.ensures.has c.in-Ok.ensures.all c.in-Ok.ensures.whole c.if-not-reader.false in
    let right = rw c.in_default.is at c.in_ok-fault.ensures in
    rw (c.as_slice-atoms.ensures.value, c.bonds-bonds.ensures) (sound c.args.text.now _ _ has right)

pub limit_fault-requires-clause-few_atoms : goal.limit_fault-requires-clause-few_atoms
limit_fault-requires-clause-few_atoms c =
    let has = has_all c.args.text.now c.in-Ok.reader c.in-Ok.ensures.has c.in-Ok.ensures.all c.in-Ok.ensures.whole c.if-not-reader.false in
    let f = few c.args.text.now _ _ has in
    let n = c.in-Ok.ensures.few in
    let all = c.in-Ok.ensures.all in
    let short = c.requires in
    rw c.as_slice-atoms.ensures.value (omega arith)

pub limit_fault-requires-clause-few_bonds : goal.limit_fault-requires-clause-few_bonds
limit_fault-requires-clause-few_bonds c =
    let has = has_all c.args.text.now c.in-Ok.reader c.in-Ok.ensures.has c.in-Ok.ensures.all c.in-Ok.ensures.whole c.if-not-reader.false in
    let f = few_found c.args.text.now _ _ has in
    let n = c.in-Ok.ensures.few in
    let all = c.in-Ok.ensures.all in
    let short = c.requires in
    rw c.bonds-bonds.ensures (omega arith)

pub returns-in-Some-2-clause-err : goal.returns-in-Some-2-clause-err
returns-in-Some-2-clause-err c =
    let has = has_all c.args.text.now c.in-Ok.reader c.in-Ok.ensures.has c.in-Ok.ensures.all c.in-Ok.ensures.whole c.if-not-reader.false in
    let right = rw c.in_default.is at c.in_ok-fault.ensures in
    let lower = rw (c.as_slice-atoms.ensures.value, c.bonds-bonds.ensures) at c.in_default-aromatic_fault.ensures in
    rw c.at-in-Some-2.ensures (beyond c.args.text.now _ _ c.in-Some-2.fault has right lower (rw (c.in-Some-2.is, c.as_slice-atoms.ensures.value, c.bonds-bonds.ensures) at c.in_ok-fault-2.ensures))

pub candidates-requires-clause-few_atoms : goal.candidates-requires-clause-few_atoms
candidates-requires-clause-few_atoms c =
    let within = rw (c.in_default-2.is, c.as_slice-atoms.ensures.value, c.bonds-bonds.ensures) at c.in_ok-fault-2.ensures in
    let few_ones = few_within c.args.text.now c.in-Ok.reader.structure.bonds.items c.in-Ok.reader.atoms.items within in
    rw c.as_slice-atoms.ensures.value few_ones.0

pub candidates-requires-clause-few_bonds : goal.candidates-requires-clause-few_bonds
candidates-requires-clause-few_bonds c =
    let within = rw (c.in_default-2.is, c.as_slice-atoms.ensures.value, c.bonds-bonds.ensures) at c.in_ok-fault-2.ensures in
    let few_ones = few_within c.args.text.now c.in-Ok.reader.structure.bonds.items c.in-Ok.reader.atoms.items within in
    rw c.bonds-bonds.ensures few_ones.1

pub candidates-requires-clause-sound : goal.candidates-requires-clause-sound
candidates-requires-clause-sound c =
    let has = has_all c.args.text.now c.in-Ok.reader c.in-Ok.ensures.has c.in-Ok.ensures.all c.in-Ok.ensures.whole c.if-not-reader.false in
    let right = rw c.in_default.is at c.in_ok-fault.ensures in
    rw (c.as_slice-atoms.ensures.value, c.bonds-bonds.ensures) (sound c.args.text.now _ _ has right)

pub candidates-requires-clause-plain : goal.candidates-requires-clause-plain
candidates-requires-clause-plain c = λ plain.
    let has = has_all c.args.text.now c.in-Ok.reader c.in-Ok.ensures.has c.in-Ok.ensures.all c.in-Ok.ensures.whole c.if-not-reader.false in
    plain_atoms c.args.text.now c.as_slice-atoms.result.now (c.as_slice-atoms.ensures.value ∙ has.atoms) (reader_plain c.args.text.now c.in-Ok.reader c.in-Ok.ensures.has c.in-Ok.ensures.all plain)

pub new-requires : goal.new-requires
new-requires c =
    let has = has_all c.args.text.now c.in-Ok.reader c.in-Ok.ensures.has c.in-Ok.ensures.all c.in-Ok.ensures.whole c.if-not-reader.false in
    let right = rw c.in_default.is at c.in_ok-fault.ensures in
    let lower = rw (c.as_slice-atoms.ensures.value, c.bonds-bonds.ensures) at c.in_default-aromatic_fault.ensures in
    let within = rw (c.in_default-2.is, c.as_slice-atoms.ensures.value, c.bonds-bonds.ensures) at c.in_ok-fault-2.ensures in
    let are = rw (c.as_slice-atoms.ensures.value, c.bonds-bonds.ensures) at c.in_ok-candidates.ensures in
    let lists = lists_of c.args.text.now c.in-Ok.reader _ _ c.in-Ok.ensures.has c.in-Ok.ensures.all has right
    (λ before holds. c.into_parts-neighbours.ensures.lists before (subst (λ (x : AtomLists). HoldsNeighbours x before) (sym c.into_parts-bonds.ensures.neighbours) holds))
    (ap (λ (x : Vec Bool Global). x.items) c.into_parts-neighbours.ensures.led ∙ ap (λ (x : AtomLists). x.led.items) c.into_parts-bonds.ensures.neighbours) in
    rw c.into_parts-bonds.ensures.bonds (nothing c.args.text.now _ _ c.in_ok-candidates.candidates.items has right lower within are _ _ lists).limits

pub returns-clause-ok : goal.returns-clause-ok
returns-clause-ok c =
    let has = has_all c.args.text.now c.in-Ok.reader c.in-Ok.ensures.has c.in-Ok.ensures.all c.in-Ok.ensures.whole c.if-not-reader.false in
    let right = rw c.in_default.is at c.in_ok-fault.ensures in
    let lower = rw (c.as_slice-atoms.ensures.value, c.bonds-bonds.ensures) at c.in_default-aromatic_fault.ensures in
    let within = rw (c.in_default-2.is, c.as_slice-atoms.ensures.value, c.bonds-bonds.ensures) at c.in_ok-fault-2.ensures in
    let are = rw (c.as_slice-atoms.ensures.value, c.bonds-bonds.ensures) at c.in_ok-candidates.ensures in
    let lists = lists_of c.args.text.now c.in-Ok.reader _ _ c.in-Ok.ensures.has c.in-Ok.ensures.all has right
    (λ before holds. c.into_parts-neighbours.ensures.lists before (subst (λ (x : AtomLists). HoldsNeighbours x before) (sym c.into_parts-bonds.ensures.neighbours) holds))
    (ap (λ (x : Vec Bool Global). x.items) c.into_parts-neighbours.ensures.led ∙ ap (λ (x : AtomLists). x.led.items) c.into_parts-bonds.ensures.neighbours) in
    rw (c.new.ensures, c.into_parts-bonds.ensures.bonds) (nothing c.args.text.now _ _ c.in_ok-candidates.candidates.items has right lower within are _ _ lists)
