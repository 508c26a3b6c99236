-- The words of a joined line (CTfile formats, V3000 connection table): they are parted by blanks; `(` takes everything up
-- to the next `)` into its word, and a quotation mark everything up to the next one.
use Rattle.std.specs.Prelude.{ℕ, ◌-◌, ◌≤◌, ◌==◌, Bool, true, false, ◌&&◌, if◌then◌else◌, List, [], ◌∷◌, ◌++◌, length, take, drop, map, get_or, Option, Some, None}
use Rattle.mc_digits.specs.Fields.{is_blank}
use Rattle.ct_sd.specs.Columns.{equals}
use Rattle.ct_v3000.specs.declared.splitting.Within.{Within}
use Rattle.ct_v3000.specs.declared.splitting.Within.TheVariants.{Gap, Word, Bracket, Quote}
use Rattle.ct_v3000.specs.declared.splitting.WordSpan.{WordSpan}

-- a blank parts words but where a bracket or a quotation mark is still to be closed
abbrev pub parts : Within → ℕ → Bool
parts Gap b = is_blank b
parts Word b = is_blank b
parts Bracket b = false
parts Quote b = false

-- where a reader stands behind a byte that doesn't part
abbrev pub begun_by : ℕ → Within
begun_by b = if b == 40 then Bracket else if b == 34 then Quote else Word

abbrev pub behind : Within → ℕ → Within
behind Gap b = begun_by b
behind Word b = begun_by b
behind Bracket b = if b == 41 then Word else Bracket
behind Quote b = if b == 34 then Word else Quote

-- a word that a blank or the end of the text ends, and none in a gap
abbrev pub ended : Within → List ℕ → List (List ℕ)
ended Word word = word ∷ []
ended _ word = []

abbrev pub is_closed : Within → Bool
is_closed Gap = true
is_closed Word = true
is_closed Bracket = false
is_closed Quote = false

abbrev pub onto_words : List (List ℕ) → Option (List (List ℕ)) → Option (List (List ℕ))
onto_words words None = None
onto_words words (Some later) = Some (words ++ later)

-- the words that follow, behind the first bytes of a word; none where a bracket or a quotation mark isn't closed
abbrev pub words_from : Within → List ℕ → List ℕ → Option (List (List ℕ))
words_from within word [] = if is_closed within then Some (ended within word) else None
words_from within word (b ∷ text) =
    if parts within b then onto_words (ended within word) (words_from Gap [] text) else words_from (behind within b) (word ++ b ∷ []) text

unfoldable pub words_of : List ℕ → Option (List (List ℕ))
words_of text = words_from Gap [] text

-- word n, from 0; a word that isn't there is empty
abbrev pub word : ℕ → List (List ℕ) → List ℕ
word n words = get_or words n []

abbrev pub word_is : ℕ → List ℕ → List (List ℕ) → Bool
word_is n text words = equals (word n words) text

-- the line begins with these two words
abbrev pub begins : List ℕ → List ℕ → List (List ℕ) → Bool
begins first second words = word_is 0 first words && word_is 1 second words

-- the line is these two words
abbrev pub is_line : List ℕ → List ℕ → List (List ℕ) → Bool
is_line first second words = length words == 2 && begins first second words

-- ---- words as parts of a text

abbrev pub part : List ℕ → WordSpan → List ℕ
part text span = take (span.to - span.from) (drop span.from text)

abbrev pub IsPart : List ℕ → WordSpan → Type 0
IsPart text span = (span.from ≤ span.to) × (span.to ≤ length text)

-- the words that a reader found, where it found all marks closed
abbrev pub found_words : List ℕ → Bool → List WordSpan → Option (List (List ℕ))
found_words text true spans = Some (map (part text) spans)
found_words text false spans = None

-- where a word stands that ends
abbrev pub ended_spans : Within → ℕ → ℕ → List WordSpan
ended_spans Word from to = record { from = from; to = to } ∷ []
ended_spans _ from to = []
