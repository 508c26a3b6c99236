use Rattle.std.proofs.Common.{arith, ◌≡◌, ◌∙◌, ℕ, Bool, List, length, map, ap, sym, subst}
use Rattle.std.specs.List.{All}
use Rattle.std.proofs.lemmas.List.{length-map}
use Rattle.mc_mol.specs.declared.parts.Bond.{Bond}
use Rattle.mc_mol.specs.WellFormed.{IsBond}
use Rattle.mc_mol.specs.Molecule.{bond_sum}
use Rattle.smi_graph.specs.declared.skel_atom.SkelAtom.{SkelAtom}
use Rattle.smi_graph.specs.Links.{bond_of}
use Rattle.smi_mean.specs.Barriers.{needs_of}
use Rattle.smi_mean.specs.Lying.{agree, counted_once}
use Rattle.smi_mean.proofs.OnceEach.{sound_once, few_once, lying_by}
use Rattle.smi_mean.proofs.PlacedBonds.{length_needs}
use Rattle.smi_mean.proofs.lying.lying_once.Goals as goal

pub counted_once-requires : goal.counted_once-requires
counted_once-requires c =
    let bonds : c.deref.result.now ≡ map bond_of c.args.skeleton.now.bonds = c.deref.ensures.value ∙ c.in_ok-bonds.ensures ∙ ap (map bond_of) c.bonds.ensures.value in
    let size = ap (λ (x : List Bond). length x) bonds in
    let each = length-map c.args.skeleton.now.bonds bond_of in
    let marks = c.requires.double in
    omega arith

pub bond_sums-requires-clause-few_bonds : goal.bond_sums-requires-clause-few_bonds
bond_sums-requires-clause-few_bonds c =
    let once = ap (λ (x : List Bond). length x) (c.deref-2.ensures.value ∙ c.in_ok-once.ensures) in
    let few = few_once c.args.double.now c.deref.result.now in
    let bonds : c.deref.result.now ≡ map bond_of c.args.skeleton.now.bonds = c.deref.ensures.value ∙ c.in_ok-bonds.ensures ∙ ap (map bond_of) c.bonds.ensures.value in
    let size = ap (λ (x : List Bond). length x) bonds in
    let each = length-map c.args.skeleton.now.bonds bond_of in
    let limit = c.bonds.ensures.well_formed.few_bonds in
    omega arith

pub bond_sums-requires-clause-bonds : goal.bond_sums-requires-clause-bonds
bond_sums-requires-clause-bonds c =
    let bonds : c.deref.result.now ≡ map bond_of c.args.skeleton.now.bonds = c.deref.ensures.value ∙ c.in_ok-bonds.ensures ∙ ap (map bond_of) c.bonds.ensures.value in
    let once : c.deref-2.result.now ≡ counted_once c.args.double.now (map bond_of c.args.skeleton.now.bonds) = c.deref-2.ensures.value ∙ c.in_ok-once.ensures ∙ ap (counted_once c.args.double.now) bonds in
    subst (λ (x : List Bond). All (IsBond (length c.atoms.result.now)) x) (sym once)
    (subst (λ (atoms : List SkelAtom). All (IsBond (length atoms)) (counted_once c.args.double.now (map bond_of c.args.skeleton.now.bonds))) (sym c.atoms.ensures.value)
    (sound_once (length c.args.skeleton.now.atoms) c.args.double.now (map bond_of c.args.skeleton.now.bonds) c.bonds.ensures.well_formed.sound.each))

pub agree-requires : goal.agree-requires
agree-requires c =
    let counts = ap (λ (x : List ℕ). length x) c.deref-3.ensures.value in
    let atoms = ap (λ (x : List SkelAtom). length x) c.atoms.ensures.value in
    let needs = ap (λ (x : List Bool). length x) c.requires.needs in
    let each = length_needs (map bond_of c.args.skeleton.now.bonds) 0 c.args.skeleton.now.atoms in
    let count = c.in_ok-counts.ensures.count in
    omega arith

pub returns : goal.returns
returns c =
    let bonds : c.deref.result.now ≡ map bond_of c.args.skeleton.now.bonds = c.deref.ensures.value ∙ c.in_ok-bonds.ensures ∙ ap (map bond_of) c.bonds.ensures.value in
    let once : c.deref-2.result.now ≡ counted_once c.args.double.now (map bond_of c.args.skeleton.now.bonds) = c.deref-2.ensures.value ∙ c.in_ok-once.ensures ∙ ap (counted_once c.args.double.now) bonds in
    c.in_ok-found.ensures ∙ ap (λ (needs : List Bool). agree needs c.deref-3.result.now) c.requires.needs ∙ ap (agree (needs_of c.args.skeleton.now.atoms c.args.skeleton.now.bonds)) c.deref-3.ensures.value
    ∙ lying_by c.args.skeleton.now.atoms c.args.skeleton.now.bonds c.args.double.now c.in_ok-counts.counts.items (c.requires.double ∙ sym (length-map c.args.skeleton.now.bonds bond_of))
    (c.in_ok-counts.ensures.count ∙ ap (λ (x : List SkelAtom). length x) c.atoms.ensures.value)
    (λ k. c.in_ok-counts.ensures.each k ∙ ap (λ (x : List Bond). bond_sum x k) once)
