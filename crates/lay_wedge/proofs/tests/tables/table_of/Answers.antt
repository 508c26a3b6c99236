use Rattle.lay_wedge.proofs.TableRows.{are_table}
use Rattle.lay_wedge.proofs.tests.tables.table_of.Goals as goal

pub returns : goal.returns
returns c = are_table c.args.mol.now _ c.in_ok-atoms.atoms.items c.in_ok-rows.rows.items c.atom_count-count.ensures.well_formed c.from_vec.ensures c.in_ok-atoms.ensures c.from_vec-2.ensures c.in_ok-rows.ensures
