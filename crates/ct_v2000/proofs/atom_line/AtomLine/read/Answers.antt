use Rattle.ct_v2000.proofs.AtomLines.{atom_is, line_is}
use Rattle.ct_v2000.proofs.atom_line.AtomLine.read.Goals as goal

pub returns-clause-value : goal.returns-clause-value
returns-clause-value c = line_is c.args.place c.args.line.now c.read_parts-parts.result c.atom_of.result c.charge_of_code.result c.isotope_of.result
    (atom_is c.args.place c.args.line.now c.read_parts-parts.result c.atom_of.result c.atom_of.ensures
    c.read_parts-parts.ensures.symbol c.read_parts-parts.ensures.class c.read_parts-parts.ensures.valence
    c.read_parts-parts.ensures.x c.read_parts-parts.ensures.y c.read_parts-parts.ensures.z)
    c.charge_of_code.ensures c.read_parts-parts.ensures.code c.isotope_of.ensures c.read_parts-parts.ensures.symbol c.read_parts-parts.ensures.difference
