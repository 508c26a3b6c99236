use Rattle.lay_wedge.specs.TableRows.{AreRowsOf}
use Rattle.lay_wedge.proofs.tests.tables.rows_of.Given as goal

abbrev pub invariant-loop-k : goal.invariant-loop-k
invariant-loop-k l = AreRowsOf l.mol.bonds l.k l.rows.items
