use Rattle.std.proofs.Common.{arith, ◌∙◌, ◌+◌, ◌<◌, ◌++◌, ℕ, List, ap}
use Rattle.ct_v2000.specs.declared.atom_line.AtomLine.{AtomLine}
use Rattle.ct_v2000.specs.AtomLines.{atom_lines_of}
use Rattle.ct_v2000.specs.Blocks.{still}
use Rattle.ct_v2000.proofs.Still.{atoms_give_more, atoms_show_more}
use Rattle.ct_v2000.proofs.blocks.read_atoms.Goals as goal

pub loop-n-preserved : goal.loop-n-preserved
loop-n-preserved c =
    let n : ℕ = c.loop-n.n in
    let count : ℕ = c.args.count in
    let lines : List (List ℕ) = c.args.given.now in
    let less : n < count = omega arith in
    record {
      within = omega arith;
      atoms = ap (λ (t : List AtomLine). t ++ atom_lines_of (5 + (n + 1)) (still 4 (n + 1) count lines)) c.in_ok-push.ensures.items
          ∙ atoms_give_more n count lines c.line.result.now c.loop-n.atoms.items (atom_lines_of 5 (still 4 0 count lines)) c.read-atom.result less c.requires.within c.line.ensures c.read-atom.ensures.value c.loop-n.invariant.atoms;
      shows = atoms_show_more n count lines c.line.result.now c.loop-n.faults.fault c.read-atom.new.faults.fault _ less c.requires.within c.line.ensures c.read-atom.ensures.shows c.loop-n.invariant.shows;
    }
