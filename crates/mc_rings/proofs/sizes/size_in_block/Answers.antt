use Rattle.std.proofs.Common.{get_or, arith}
use Rattle.std.proofs.lemmas.Option.{slice_get-get_or}
use Rattle.mc_rings.proofs.LoneBonds.{lone_none}
use Rattle.mc_rings.proofs.sizes.size_in_block.Goals as goal

pub returns-then-counts-block-lt2 : goal.returns-then-counts-block-lt2
returns-then-counts-block-lt2 c =
    let within = c.requires.bond in
    let count = c.requires.blocks.count in
    let at = slice_get-get_or c.args.blocks.now c.args.b.0 0 (omega arith) in
    lone_none c.args.mol.now.bonds c.args.blocks.now c.args.counts.now c.args.b.0 (get_or c.args.blocks.now c.args.b.0 0) (get_or c.args.counts.now (get_or c.args.blocks.now c.args.b.0 0) 0)
    c.requires.blocks c.requires.counts at
    (slice_get-get_or c.args.counts.now (get_or c.args.blocks.now c.args.b.0 0) 0 (c.requires.below c.args.b.0 (get_or c.args.blocks.now c.args.b.0 0) at)) c.if-counts-block-lt2.true
