-- The joined lines of a V3000 record (CTfile formats, V3000 connection table): each line has the prefix `M  V30 `, and a
-- line that ends with `-` goes on in the next.
use Rattle.std.specs.Prelude.{ℕ, ◌+◌, ◌-◌, ◌==◌, Bool, not, ◌&&◌, nat_lt, if◌then◌else◌, List, [], ◌∷◌, ◌++◌, drop, take, get_or, length, Option, Some, None, codes}
use Rattle.ct_sd.specs.Columns.{begins_with, is_end_line}

-- a joined line: the number of its first line, and its text; or the number of a line that should have the prefix, or
-- that should go on with a line before it
pub record Joined : Type 0 where
  pub at : ℕ
  pub text : Option (List ℕ)

abbrev pub prefix : List ℕ
prefix = codes "M  V30 "

unfoldable pub has_prefix : List ℕ → Bool
has_prefix line = begins_with prefix line

-- the text behind the prefix
unfoldable pub text_behind : List ℕ → List ℕ
text_behind line = drop 7 line

-- a text goes on where its last byte is `-`
unfoldable pub goes_on : List ℕ → Bool
goes_on text = nat_lt 0 (length text) && get_or text (length text - 1) 0 == 45

-- a line that is a joined line by itself
abbrev pub is_whole : List ℕ → Bool
is_whole line = has_prefix line && not (goes_on (text_behind line))

-- a text without its last byte
unfoldable pub without_last : List ℕ → List ℕ
without_last text = take (length text - 1) text

-- a line that goes on: the number of its first line, and its text so far
abbrev pub Begun : Type 0
Begun = ℕ × List ℕ

abbrev pub first_line : Option Begun → ℕ → ℕ
first_line None k = k
first_line (Some begun) k = begun.0

abbrev pub text_so_far : Option Begun → List ℕ
text_so_far None = []
text_so_far (Some begun) = begun.1

-- The joined lines from line k on, behind a line that goes on. Behind a line without the prefix, and behind an end where
-- a line should go on, there are no more. Whether a line goes on is said by its own text, not by the text so far.
abbrev pub joined_from : Option Begun → ℕ → List (List ℕ) → List Joined
joined_from None k [] = []
joined_from (Some begun) k [] = record { at = k; text = None } ∷ []
joined_from begun k (line ∷ lines) =
    if has_prefix line then
    (if goes_on (text_behind line)
    then joined_from (Some (first_line begun k, text_so_far begun ++ without_last (text_behind line))) (k + 1) lines
    else record { at = first_line begun k; text = Some (text_so_far begun ++ text_behind line) } ∷ joined_from None (k + 1) lines)
    else record { at = k; text = None } ∷ []

-- the lines before the one that ends the table
abbrev pub before_end : List (List ℕ) → List (List ℕ)
before_end [] = []
before_end (line ∷ lines) = if is_end_line line then [] else line ∷ before_end lines

-- the joined lines of a record begin at line 5
abbrev pub joined_lines : List (List ℕ) → List Joined
joined_lines lines = joined_from None 5 (before_end (drop 4 lines))

-- the number of the line that ends the table
abbrev pub end_place : List (List ℕ) → ℕ
end_place lines = 5 + length (before_end (drop 4 lines))
