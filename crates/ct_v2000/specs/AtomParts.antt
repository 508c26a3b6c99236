-- The atom of the parts that a reader finds in its line.
use Rattle.std.specs.Prelude.{ℕ, pos}
use Rattle.ct_sd.specs.declared.table.TableAtom.{TableAtom}
use Rattle.ct_sd.specs.Symbols.{element_said, isotope_said}
use Rattle.ct_v2000.specs.declared.atom_line.Parts.{Parts}
use Rattle.ct_v2000.specs.AtomLines.{valence_marked}

abbrev pub atom_by : Parts → ℕ → TableAtom
atom_by parts k = record {
  element = element_said parts.symbol;
  isotope = isotope_said parts.symbol;
  charge = pos 0;
  class = parts.class;
  valence = valence_marked parts.middle.valence;
  x = parts.at.x;
  y = parts.at.y;
  z = parts.at.z;
  line = k;
}
