use Rattle.ct_v3000.proofs.Refusals.{all_read, all_first}
use Rattle.ct_v3000.proofs.reader.read_before.Goals as goal

pub accept-requires-clause-atoms : goal.accept-requires-clause-atoms
accept-requires-clause-atoms c =
    (all_read c.args.given.now c.args.end c.nothing-reading.result c.line.result.now c.is_other_file.result c.note_if.new.self c.read_lines.new.reading c.requires.end c.nothing-reading.ensures c.line.ensures c.is_other_file.ensures c.note_if.ensures c.in_ok-read_lines.ensures.after).atoms

pub accept-requires-clause-bonds : goal.accept-requires-clause-bonds
accept-requires-clause-bonds c =
    (all_read c.args.given.now c.args.end c.nothing-reading.result c.line.result.now c.is_other_file.result c.note_if.new.self c.read_lines.new.reading c.requires.end c.nothing-reading.ensures c.line.ensures c.is_other_file.ensures c.note_if.ensures c.in_ok-read_lines.ensures.after).bonds

pub accept-requires-clause-noted : goal.accept-requires-clause-noted
accept-requires-clause-noted c =
    all_first c.args.given.now c.read_lines.new.reading c.requires.end.long
    (all_read c.args.given.now c.args.end c.nothing-reading.result c.line.result.now c.is_other_file.result c.note_if.new.self c.read_lines.new.reading c.requires.end c.nothing-reading.ensures c.line.ensures c.is_other_file.ensures c.note_if.ensures c.in_ok-read_lines.ensures.after)
