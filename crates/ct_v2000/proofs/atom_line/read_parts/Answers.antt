use Rattle.ct_v2000.proofs.AtomLines.{four_parts}
use Rattle.ct_v2000.proofs.atom_line.read_parts.Goals as goal

pub returns : goal.returns
returns c = record {
  x = c.read_place-at.ensures.x;
  y = c.read_place-at.ensures.y;
  z = c.read_place-at.ensures.z;
  difference = c.read_middle-middle.ensures.difference;
  few_differences = c.read_middle-middle.ensures.few_differences;
  code = c.read_middle-middle.ensures.code;
  few_codes = c.read_middle-middle.ensures.few_codes;
  valence = c.read_middle-middle.ensures.valence;
  few_valences = c.read_middle-middle.ensures.few_valences;
  class = c.read_last-class.ensures.class;
  symbol = c.symbol_in-symbol.ensures;
  shows = four_parts c.args.place c.args.line.now c.symbol_in-symbol.result c.args.faults.now.fault c.read_place-at.new.faults.fault c.read_middle-middle.new.faults.fault c.read_last-class.new.faults.fault c.note.new.faults.fault
      c.symbol_in-symbol.ensures c.read_place-at.ensures.shows c.read_middle-middle.ensures.shows c.read_last-class.ensures.shows c.note.ensures;
}
