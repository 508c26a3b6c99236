-- The order of the joined lines of a V3000 record (CTfile formats, V3000 connection table): which line may stand where.
use Rattle.std.specs.Prelude.{ℕ, ◌-◌, ◌==◌, Bool, true, false, not, ◌&&◌, ◌||◌, if◌then◌else◌, List, [], ◌∷◌, Option, Some, None, codes, is_some}
use Rattle.ct_v3000.specs.declared.stage.Place.{Place}
use Rattle.ct_v3000.specs.declared.stage.Role.{Role}
use Rattle.ct_v3000.specs.declared.stage.Role.TheVariants as is
use Rattle.ct_v3000.specs.declared.stage.Stage.{Stage}
use Rattle.ct_v3000.specs.declared.stage.Stage.TheVariants.{Start, Counts, AtomBlock, Atoms, Between, Bonds, Sgroups, Collections, Objects, Done, Rest}
use Rattle.ct_v3000.specs.declared.stage.Step.{Step}
use Rattle.ct_v3000.specs.Joined.{Joined}
use Rattle.ct_v3000.specs.Words.{words_of, word, word_is, begins, is_line}
use Rattle.ct_v3000.specs.Numbers.{unsigned_of, or_none}

abbrev pub start : Place
start = record { stage = Start; left = 0; bonds = 0; bonds_stood = false; sgroups_stood = false; collections_stood = false }

abbrev pub at_stage : Stage → Place → Place
at_stage stage p = record p { stage = stage }

abbrev pub is_unsigned : List ℕ → Bool
is_unsigned text = is_some (unsigned_of text)

-- five numbers behind `COUNTS`, and any further words
abbrev pub is_counts : List (List ℕ) → Bool
is_counts words =
    word_is 0 (codes "COUNTS") words
    && (is_unsigned (word 1 words) && (is_unsigned (word 2 words) && (is_unsigned (word 3 words) && (is_unsigned (word 4 words) && is_unsigned (word 5 words)))))

-- a line, and the place behind it
abbrev pub step_to : Role → Place → Step
step_to role behind = record { role = role; behind = behind }

abbrev pub wrong : Place → Step
wrong p = step_to is.Wrong p

-- a line that must be this one
abbrev pub framed : Bool → Place → Place → Step
framed fits p behind = if fits then step_to is.Frame behind else wrong p

-- a line of a block that has so many of them: where none is left its end must come
abbrev pub counted_line : Role → List ℕ → List (List ℕ) → Place → Step
counted_line role block words p =
    if is_line (codes "END") block words then framed (p.left == 0) p (at_stage Between p)
    else if p.left == 0 then wrong p
    else step_to role (record p { left = p.left - 1 })

-- a line of a block that goes on up to its end
abbrev pub open_line : Role → List ℕ → List (List ℕ) → Place → Step
open_line role block words p = if is_line (codes "END") block words then step_to is.Frame (at_stage Between p) else step_to role p

-- behind the line that begins a block, which then has stood
abbrev pub in_bonds : Place → Place
in_bonds p = record p { stage = Bonds; left = p.bonds; bonds_stood = true }

abbrev pub in_sgroups : Place → Place
in_sgroups p = record p { stage = Sgroups; sgroups_stood = true }

abbrev pub in_collections : Place → Place
in_collections p = record p { stage = Collections; collections_stood = true }

-- a line between blocks
unfoldable pub between_blocks : List (List ℕ) → Place → Step
between_blocks words p =
    if is_line (codes "END") (codes "CTAB") words then framed (p.bonds == 0 || p.bonds_stood) p (at_stage Done p)
    else if word_is 0 (codes "LINKNODE") words then step_to is.Query p
    else if is_line (codes "BEGIN") (codes "OBJ3D") words then step_to is.Query (at_stage Objects p)
    else if is_line (codes "BEGIN") (codes "BOND") words then framed (not p.bonds_stood) p (in_bonds p)
    else if is_line (codes "BEGIN") (codes "SGROUP") words then framed (not p.sgroups_stood) p (in_sgroups p)
    else if is_line (codes "BEGIN") (codes "COLLECTION") words then framed (not p.collections_stood) p (in_collections p)
    else wrong p

-- behind the counts: a line for each atom, and later one for each bond
abbrev pub counted : List (List ℕ) → Place → Place
counted words p = record p { stage = AtomBlock; left = or_none (unsigned_of (word 1 words)); bonds = or_none (unsigned_of (word 2 words)) }

-- a line behind the table
abbrev pub behind_table : List (List ℕ) → Place → Step
behind_table words p = if begins (codes "BEGIN") (codes "RGROUP") words then step_to is.Query (at_stage Rest p) else wrong p

-- stage              line
unfoldable pub step_by : Stage → List (List ℕ) → Place → Step
step_by Start words p = framed (begins (codes "BEGIN") (codes "CTAB") words) p (at_stage Counts p)
step_by Counts words p = framed (is_counts words) p (counted words p)
step_by AtomBlock words p = framed (is_line (codes "BEGIN") (codes "ATOM") words) p (at_stage Atoms p)
step_by Atoms words p = counted_line is.Atom (codes "ATOM") words p
step_by Between words p = between_blocks words p
step_by Bonds words p = counted_line is.Bond (codes "BOND") words p
step_by Sgroups words p = open_line is.Sgroup (codes "SGROUP") words p
step_by Collections words p = open_line is.Collection (codes "COLLECTION") words p
step_by Objects words p = open_line is.Frame (codes "OBJ3D") words p
step_by Done words p = behind_table words p
step_by Rest words p = step_to is.Frame p

-- the table may end here
abbrev pub may_end : Stage → Bool
may_end Done = true
may_end Rest = true
may_end _ = false

-- ---- the whole record

-- a joined line: its number, what it is, and its words
pub record Item : Type 0 where
  pub at : ℕ
  pub role : Role
  pub words : List (List ℕ)

abbrev pub no_item : ℕ → Item
no_item k = record { at = k; role = is.Wrong; words = [] }

abbrev pub is_wrong : Role → Bool
is_wrong is.Wrong = true
is_wrong _ = false

abbrev pub is_rest : Stage → Bool
is_rest Rest = true
is_rest _ = false

-- an item, and where the reader is behind it; nothing behind a wrong line is looked at
pub record Passed : Type 0 where
  pub item : Item
  pub place : Option Place

abbrev pub passed_step : ℕ → List (List ℕ) → Step → Passed
passed_step k words step = record { item = record { at = k; role = step.role; words = words }; place = if is_wrong step.role then None else Some step.behind }

abbrev pub passed_words : ℕ → Option (List (List ℕ)) → Place → Passed
passed_words k None p = record { item = no_item k; place = None }
passed_words k (Some words) p = passed_step k words (step_by p.stage words p)

-- a line with this text; of what follows `BEGIN RGROUP` no words are read
unfoldable pub passed_text : ℕ → List ℕ → Place → Passed
passed_text k text p =
    if is_rest p.stage then record { item = record { at = k; role = is.Frame; words = [] }; place = Some p }
    else passed_words k (words_of text) p

abbrev pub passed : Joined → Place → Passed
passed line p = by_text line.text
  where
    by_text : Option (List ℕ) → Passed
    by_text None = record { item = no_item line.at; place = None }
    by_text (Some text) = passed_text line.at text p

-- The items of joined lines. The line behind the last of them, which has this number, ends the table.
abbrev pub items : ℕ → Option Place → List Joined → List Item
items end None lines = []
items end (Some p) [] = if may_end p.stage then [] else no_item end ∷ []
items end (Some p) (line ∷ lines) = (passed line p).item ∷ items end (passed line p).place lines
