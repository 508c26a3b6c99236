use Rattle.std.proofs.Common.{arith, ◌≡◌, ◌∙◌, List, length, map, ap, sym, subst}
use Rattle.std.proofs.lemmas.List.{length-map}
use Rattle.mc_mol.specs.declared.parts.Bond.{Bond}
use Rattle.smi_graph.specs.Links.{bond_of}
use Rattle.smi_graph.specs.Skeletons.{AreBonds}
use Rattle.smi_mean.specs.Placements.{raised}
use Rattle.smi_mean.proofs.Placing.{length_raised, raised_sound}
use Rattle.smi_mean.proofs.placed.molecule_under.Goals as goal

pub raised-requires : goal.raised-requires
raised-requires c =
    let size = ap (λ (x : List Bond). length x) c.requires.bonds in
    let each = length-map c.args.skeleton.now.bonds bond_of in
    let count = c.requires.marks in
    omega arith

pub molecule-requires-clause-few_bonds : goal.molecule-requires-clause-few_bonds
molecule-requires-clause-few_bonds c =
    let same : c.in_ok-bonds.bonds.items ≡ raised c.args.placed.now (map bond_of c.args.skeleton.now.bonds) = c.in_ok-bonds.ensures ∙ ap (raised c.args.placed.now) c.requires.bonds in
    let size = ap (λ (x : List Bond). length x) same in
    let all = length_raised c.args.placed.now (map bond_of c.args.skeleton.now.bonds) in
    let each = length-map c.args.skeleton.now.bonds bond_of in
    let few = c.bonds-limits.ensures.well_formed.few_bonds in
    omega arith

pub molecule-requires-clause-sound : goal.molecule-requires-clause-sound
molecule-requires-clause-sound c =
    let same : c.in_ok-bonds.bonds.items ≡ raised c.args.placed.now (map bond_of c.args.skeleton.now.bonds) = c.in_ok-bonds.ensures ∙ ap (raised c.args.placed.now) c.requires.bonds in
    subst (λ (x : List Bond). AreBonds (length c.args.atoms.items) x) (sym same)
    (subst (λ n. AreBonds n (raised c.args.placed.now (map bond_of c.args.skeleton.now.bonds))) (sym c.requires.count)
    (raised_sound (length c.args.skeleton.now.atoms) c.args.placed.now (map bond_of c.args.skeleton.now.bonds) c.bonds-limits.ensures.well_formed.sound))
