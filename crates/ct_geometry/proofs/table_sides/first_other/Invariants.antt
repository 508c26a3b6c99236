use Rattle.std.proofs.Common.{◌≡◌, drop}
use Rattle.ct_geometry.specs.TableSides.{first_other}
use Rattle.ct_geometry.proofs.table_sides.first_other.Given as goal

abbrev pub invariant-loop-half : goal.invariant-loop-half
invariant-loop-half l = record {
  rest : first_other l.halves l.k.0 ≡ first_other (drop l.half-index l.halves) l.k.0;
}
