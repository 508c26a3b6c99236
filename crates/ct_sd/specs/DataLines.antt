-- The data lines of a record (CTfile formats, SD files): the lines behind its table.
use Rattle.std.specs.Prelude.{ℕ, List, [], ◌∷◌, if◌then◌else◌, drop}
use Rattle.ct_sd.specs.Columns.{is_end_line}

-- the lines behind the first that ends a table
abbrev pub behind_end : List (List ℕ) → List (List ℕ)
behind_end [] = []
behind_end (line ∷ lines) = if is_end_line line then lines else behind_end lines

-- those behind the first line behind line 4 that ends a table; none where there is no such line
abbrev pub data_lines : List (List ℕ) → List (List ℕ)
data_lines lines = behind_end (drop 4 lines)
