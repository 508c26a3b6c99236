-- The lines of an input (this project's own): bytes are cut at line feeds.
use Rattle.std.specs.Prelude.{◌≡◌, ◌⊎◌, ℕ, ◌<◌, Bool, false, not, ◌&&◌, ◌==◌, nat_lt, if◌then◌else◌, List, [], ◌∷◌, ◌++◌, length, map, replicate, Option, Some, None}
use Rattle.std.specs.List.{list_all, list_any}

abbrev pub line_feed : ℕ
line_feed = 10

abbrev pub carriage_return : ℕ
carriage_return = 13

-- a byte before the first piece
abbrev pub onto_first : ℕ → List (List ℕ) → List (List ℕ)
onto_first b [] = (b ∷ []) ∷ []
onto_first b (piece ∷ pieces) = (b ∷ piece) ∷ pieces

-- the pieces that line feeds end; behind the last line feed a piece stands where it isn't empty
abbrev pub pieces : List ℕ → List (List ℕ)
pieces [] = []
pieces (b ∷ bytes) = if b == line_feed then [] ∷ pieces bytes else onto_first b (pieces bytes)

-- a byte before a text; a carriage return stands only before something
abbrev pub onto_text : ℕ → List ℕ → List ℕ
onto_text b [] = if b == carriage_return then [] else b ∷ []
onto_text b (c ∷ text) = b ∷ c ∷ text

-- a piece without the carriage returns at its end
abbrev pub text_of : List ℕ → List ℕ
text_of [] = []
text_of (b ∷ piece) = onto_text b (text_of piece)

-- the most bytes of a line, its carriage returns counted and its line feed not
abbrev pub most_bytes : ℕ
most_bytes = 1048576

-- carriage returns alone are an empty line, however many they are
abbrev pub is_long : List ℕ → Bool
is_long piece = nat_lt most_bytes (length piece) && not (list_all (λ b. b == carriage_return) piece)

-- a line: its text, or nothing where it is long
abbrev pub line_of : List ℕ → Option (List ℕ)
line_of piece = if is_long piece then None else Some (text_of piece)

abbrev pub lines_of : List ℕ → List (Option (List ℕ))
lines_of bytes = map line_of (pieces bytes)

-- ---- lines that have ended, whatever bytes come next

-- a byte before the first of the pieces that have ended, where there is one
abbrev pub onto_ended : ℕ → List (List ℕ) → List (List ℕ)
onto_ended b [] = []
onto_ended b (piece ∷ pieces) = (b ∷ piece) ∷ pieces

-- the pieces that line feeds end; what stands behind the last line feed is none
abbrev pub ended_pieces : List ℕ → List (List ℕ)
ended_pieces [] = []
ended_pieces (b ∷ bytes) = if b == line_feed then [] ∷ ended_pieces bytes else onto_ended b (ended_pieces bytes)

abbrev pub ended_lines : List ℕ → List (Option (List ℕ))
ended_lines bytes = map line_of (ended_pieces bytes)

-- ---- the same said of the whole

-- behind a piece stands a line feed, and the rest is cut into the later pieces
pub record FeedBehind (piece bytes : List ℕ) (IsCut : List ℕ → Type 0) : Type 0 where
  pub rest : List ℕ
  pub joined : bytes ≡ piece ++ (line_feed ∷ rest)
  pub later : IsCut rest

-- a piece without a line feed behind it is the last, and isn't empty
pub record IsLast (piece bytes : List ℕ) (later : List (List ℕ)) : Type 0 where
  pub none_later : later ≡ []
  pub is : bytes ≡ piece
  pub some : 0 < length piece

abbrev pub has_feed : List ℕ → Bool
has_feed piece = list_any (λ b. b == line_feed) piece

-- bytes that are cut into these pieces at the line feeds
abbrev pub AreCut : List (List ℕ) → List ℕ → Type 0
AreCut [] bytes = bytes ≡ []
AreCut (piece ∷ later) bytes = (has_feed piece ≡ false) × (FeedBehind piece bytes (AreCut later) ⊎ IsLast piece bytes later)

-- the text of a line: no line feed is in it, and no carriage return at its end
pub record IsLineText (text : List ℕ) : Type 0 where
  pub one : has_feed text ≡ false
  pub ends : text_of text ≡ text

-- a text, and the carriage returns behind it; the text itself ends with none
pub record IsTextOf (piece text : List ℕ) : Type 0 where
  pub returns : ℕ
  pub joined : piece ≡ text ++ replicate returns carriage_return
  pub ends : (front : List ℕ) → text ≡ front ++ carriage_return ∷ [] → ⊥
