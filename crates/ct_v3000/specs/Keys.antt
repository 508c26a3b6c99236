-- The key words of atom lines and of bond lines (CTfile formats, V3000 atom block and bond block): a name, `=`, and a value.
use Rattle.std.specs.Prelude.{ℕ, ◌+◌, ◌==◌, Bool, false, not, ◌||◌, nat_eq, nat_lt, if◌then◌else◌, List, [], ◌∷◌, ◌++◌, length, take, drop, position, Option, Some, None, ℤ, pos, codes}
use Rattle.std.specs.List.{list_any, starts_with}
use Rattle.std.specs.Ordering.{int_eq}
use Rattle.mc_base.specs.declared.kind.Kind.{Kind}
use Rattle.mc_base.specs.declared.kind.Kind.TheVariants.{BadField, Query, Radical, Reaction}
use Rattle.ct_sd.specs.Columns.{equals}
use Rattle.ct_sd.specs.Faults.{shown_if}
use Rattle.ct_v3000.specs.declared.number.Grammar.{Grammar}
use Rattle.ct_v3000.specs.declared.number.Grammar.TheVariants.{Any, Unsigned, Signed, Valence, Configuration}
use Rattle.ct_v3000.specs.declared.key.Keys.{Keys}
use Rattle.ct_v3000.specs.declared.key.Keys.TheVariants.{OfAtoms, OfBonds}
use Rattle.ct_v3000.specs.declared.key.Rule.{Rule}
use Rattle.ct_v3000.specs.Numbers.{value_of}

-- how the value is written, and the kind that stands where it isn't 0, or always where it may be anything
abbrev pub by_rule : Grammar → Option Kind → Option Rule
by_rule grammar shows = Some (record { grammar = grammar; shows = shows })

-- atom key                      rule
unfoldable pub atom_rule : List ℕ → Option Rule
atom_rule name =
    if equals name (codes "CHG") then by_rule Signed None
    else if equals name (codes "RAD") then by_rule Unsigned (Some Radical)
    else if equals name (codes "MASS") then by_rule Unsigned None
    else if equals name (codes "VAL") then by_rule Valence None
    else if equals name (codes "HCOUNT") || equals name (codes "SUBST") || equals name (codes "UNSAT") || equals name (codes "RBCNT") then by_rule Signed (Some Query)
    else if equals name (codes "ATTCHPT") || equals name (codes "RGROUPS") then by_rule Any (Some Query)
    else if equals name (codes "INVRET") || equals name (codes "EXACHG") then by_rule Unsigned (Some Reaction)
    else if equals name (codes "CFG") || equals name (codes "STBOX") || equals name (codes "ATTCHORD") || equals name (codes "CLASS") || equals name (codes "SEQID") then by_rule Any None
    else None

-- bond key                      rule
unfoldable pub bond_rule : List ℕ → Option Rule
bond_rule name =
    if equals name (codes "CFG") then by_rule Configuration None
    else if equals name (codes "TOPO") then by_rule Unsigned (Some Query)
    else if equals name (codes "RXCTR") then by_rule Signed (Some Reaction)
    else if equals name (codes "ENDPTS") || equals name (codes "ATTACH") then by_rule Any (Some Query)
    else if equals name (codes "STBOX") || equals name (codes "DISP") then by_rule Any None
    else None

abbrev pub rule_of : Keys → List ℕ → Option Rule
rule_of OfAtoms name = atom_rule name
rule_of OfBonds name = bond_rule name

-- how many keys there are
abbrev pub key_count : Keys → ℕ
key_count OfAtoms = 17
key_count OfBonds = 7

-- ---- what key words show

abbrev pub is_zero : Grammar → ℤ → Bool
is_zero Any n = false
is_zero _ n = int_eq n (pos 0)

abbrev pub unless_zero : Bool → Option Kind → List Kind
unless_zero zero None = []
unless_zero zero (Some kind) = shown_if (not zero) kind

abbrev pub number_shows : Rule → Option ℤ → List Kind
number_shows rule None = BadField ∷ []
number_shows rule (Some n) = unless_zero (is_zero rule.grammar n) rule.shows

-- a key that isn't listed isn't of the format
abbrev pub value_shows : Option Rule → List ℕ → List Kind
value_shows None value = BadField ∷ []
value_shows (Some rule) value = number_shows rule (value_of rule.grammar value)

-- one of the words begins so
abbrev pub some_begins : List ℕ → List (List ℕ) → Bool
some_begins head words = list_any (λ word. starts_with nat_eq word head) words

-- a word with its `=` at this place: its key may not stand before
abbrev pub named_shows : Keys → List (List ℕ) → List ℕ → Option ℕ → List Kind
named_shows keys before word None = BadField ∷ []
named_shows keys before word (Some n) = shown_if (some_begins (take (n + 1) word) before) BadField ++ value_shows (rule_of keys (take n word)) (drop (n + 1) word)

-- what a key word shows behind the key words before it
unfoldable pub key_shows : Keys → List (List ℕ) → List ℕ → List Kind
key_shows keys before word = named_shows keys before word (position (λ b. b == 61) word)

abbrev pub each_key_shows : Keys → List (List ℕ) → List (List ℕ) → List Kind
each_key_shows keys before [] = []
each_key_shows keys before (word ∷ words) = key_shows keys before word ++ each_key_shows keys (before ++ word ∷ []) words

-- What the key words of a line show. Of more words than there are keys one is no key or stands twice.
unfoldable pub keys_show : Keys → List (List ℕ) → List Kind
keys_show keys words = if nat_lt (key_count keys) (length words) then BadField ∷ [] else each_key_shows keys [] words

-- ---- what a key says

-- the number of a key, whose name and `=` are given, where it stands
abbrev pub said : List ℕ → Grammar → List (List ℕ) → Option ℤ
said head grammar [] = None
said head grammar (word ∷ words) = if starts_with nat_eq word head then value_of grammar (drop (length head) word) else said head grammar words
