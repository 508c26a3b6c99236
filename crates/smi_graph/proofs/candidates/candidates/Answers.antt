use Rattle.std.proofs.Common.{◌∙◌, List, Bool, length, subst, sym, ap}
use Rattle.mc_mol.specs.declared.parts.Bond.{Bond}
use Rattle.smi_graph.specs.Candidates.{is_lower_bond, AreCandidates}
use Rattle.smi_graph.specs.Skeletons.{AreBonds}
use Rattle.smi_graph.specs.Spreading.{spread, AreOnPaths}
use Rattle.smi_graph.proofs.CandidateMarks.{lower_sound, candidates_are}
use Rattle.smi_graph.proofs.candidates.candidates.Goals as goal

pub lie_on_closed_paths-requires-clause-sound : goal.lie_on_closed_paths-requires-clause-sound
lie_on_closed_paths-requires-clause-sound c =
    subst (λ (x : List Bond). AreBonds (length c.args.atoms.now) x) (sym (c.deref.ensures.value ∙ c.in_ok-lower.ensures))
    (lower_sound c.args.atoms.now c.args.bonds.now (length c.args.atoms.now) c.requires.sound)

pub returns : goal.returns
returns c =
    let on = subst (λ (x : List Bond). AreOnPaths x c.in_ok-on_paths.on_paths.items) (c.deref.ensures.value ∙ c.in_ok-lower.ensures) c.in_ok-on_paths.ensures in
    let found = c.in_ok-found.ensures ∙ ap (λ (x : List Bool). spread (is_lower_bond c.args.atoms.now) c.args.bonds.now x 0) c.deref-2.ensures.value in
    subst (λ (x : List Bool). AreCandidates c.args.atoms.now c.args.bonds.now x) (sym found) (candidates_are c.args.atoms.now c.args.bonds.now c.in_ok-on_paths.on_paths.items on)
