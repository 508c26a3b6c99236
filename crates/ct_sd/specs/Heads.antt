-- The header of a record (CTfile formats, header block and counts line): line 1 is the name, and line 4 has the version in
-- columns 34 to 39.
use Rattle.std.specs.Prelude.{ℕ, ◌-◌, Bool, ◌||◌, List, [], get_or, codes, nat_eq, if◌then◌else◌}
use Rattle.std.specs.List.{starts_with}
use Rattle.mc_base.specs.declared.kind.Kind.{Kind}
use Rattle.mc_base.specs.declared.kind.Kind.TheVariants.{ReactionFile}
use Rattle.ct_sd.specs.declared.head.Version.{Version}
use Rattle.ct_sd.specs.declared.head.Version.TheVariants.{V2000, V3000, Other}
use Rattle.ct_sd.specs.Columns.{columns, trim, equals}
use Rattle.ct_sd.specs.Faults.{shown_if}

-- line k, from 1; a line that isn't there is blank
abbrev pub line : ℕ → List (List ℕ) → List ℕ
line k lines = get_or lines (k - 1) []

-- a version as it is written, without the blanks around it; V2000 may be left out
abbrev pub version_named : List ℕ → Version
version_named text =
    if equals text [] || equals text (codes "V2000") then V2000 else if equals text (codes "V3000") then V3000 else Other

-- the version of a record
unfoldable pub version_of : List (List ℕ) → Version
version_of lines = version_named (trim (columns 34 39 (line 4 lines)))

-- how the first line of a reaction file, an RDfile or another file of this family begins
abbrev pub is_other_file : List ℕ → Bool
is_other_file name = starts_with nat_eq name (codes "$RXN") || starts_with nat_eq name (codes "$RDFILE") || starts_with nat_eq name (codes "$MDL")

-- what the name shows
abbrev pub name_shows : List (List ℕ) → List Kind
name_shows lines = shown_if (is_other_file (line 1 lines)) ReactionFile
