use Rattle.std.proofs.Common.{arith, ◌<◌, ℕ, length}
use Rattle.ct_geometry.proofs.Noted.{atom_more}
use Rattle.ct_geometry.proofs.table_faults.note_atoms.Goals as goal

pub loop-k-preserved : goal.loop-k-preserved
loop-k-preserved c =
    let k : ℕ = c.loop-k.k in
    let count : ℕ = length c.args.atoms.now in
    let less : k < count = omega arith in
    record {
      shows = atom_more c.args.bonds.now c.args.atoms.now k _ _ c.loop-k.faults.fault c.note_atom.new.faults.fault _ less (c.requires.sums k less) c.note_atom.ensures c.loop-k.invariant.shows;
    }
