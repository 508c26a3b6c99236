-- The numbers of a line: each field has its columns, its grammar, its least and greatest number, and the kind that stands
-- where it isn't 0.
use Rattle.std.specs.Prelude.{ℕ, Bool, ◌&&◌, if◌then◌else◌, List, [], ◌∷◌, Option, Some, None, ℤ, pos, negsuc, int_le, nat_le}
use Rattle.std.specs.Ordering.{int_eq}
use Rattle.std.specs.List.{flat_map}
use Rattle.mc_base.specs.declared.kind.Kind.{Kind}
use Rattle.mc_base.specs.declared.kind.Kind.TheVariants.{BadField}
use Rattle.mc_digits.specs.Fronts.{count_of, fixed_of}
use Rattle.ct_sd.specs.declared.fault.Fault.{Fault}
use Rattle.ct_sd.specs.declared.field.Field.{Field}
use Rattle.ct_sd.specs.Faults.{first_of, faults_at}
use Rattle.ct_sd.specs.declared.field.Grammar.{Grammar}
use Rattle.ct_sd.specs.declared.field.Grammar.TheVariants.{Count, Fixed}
use Rattle.ct_sd.specs.Columns.{columns}

-- a number as a grammar reads it
abbrev pub number_of : Grammar → List ℕ → Option ℤ
number_of Count text = count_of text
number_of Fixed text = fixed_of text

-- no number of a field is beyond these
abbrev pub lowest : ℤ
lowest = negsuc 9223372036854775807

abbrev pub highest : ℤ
highest = pos 9223372036854775807

abbrev pub field : ℕ → ℕ → Grammar → ℤ → ℤ → Option Kind → Field
field from to grammar least most shows = record { from = from; to = to; grammar = grammar; least = least; most = most; shows = shows }

-- the rows of a table of fields: `count`, in a range, at least 0, and with a kind where it isn't 0
abbrev pub count : ℕ → ℕ → Field
count from to = field from to Count lowest highest None

abbrev pub count_within : ℕ → ℕ → ℤ → ℤ → Field
count_within from to least most = field from to Count least most None

abbrev pub count_up : ℕ → ℕ → Field
count_up from to = field from to Count (pos 0) highest None

abbrev pub count_showing : ℕ → ℕ → Kind → Field
count_showing from to kind = field from to Count lowest highest (Some kind)

abbrev pub count_up_showing : ℕ → ℕ → Kind → Field
count_up_showing from to kind = field from to Count (pos 0) highest (Some kind)

abbrev pub fixed : ℕ → ℕ → Field
fixed from to = field from to Fixed lowest highest None

abbrev pub fixed_showing : ℕ → ℕ → Kind → Field
fixed_showing from to kind = field from to Fixed lowest highest (Some kind)

-- ---- the meaning of a row

abbrev pub is_within : Field → ℤ → Bool
is_within f n = int_le f.least n && int_le n f.most

abbrev pub within : Field → Option ℤ → Option ℤ
within f None = None
within f (Some n) = if is_within f n then Some n else None

-- the number of a field, where its columns have one in its range
abbrev pub read : Field → List ℕ → Option ℤ
read f line = within f (number_of f.grammar (columns f.from f.to line))

-- the number, and 0 where there is none
abbrev pub or_zero : Option ℤ → ℤ
or_zero None = pos 0
or_zero (Some n) = n

unfoldable pub value : Field → List ℕ → ℤ
value f line = or_zero (read f line)

abbrev pub unless_zero : ℤ → Option Kind → List Kind
unless_zero n None = []
unless_zero n (Some kind) = if int_eq n (pos 0) then [] else kind ∷ []

abbrev pub shown_by : Field → Option ℤ → List Kind
shown_by f None = BadField ∷ []
shown_by f (Some n) = unless_zero n f.shows

unfoldable pub field_shows : Field → List ℕ → List Kind
field_shows f line = shown_by f (read f line)

-- what the fields of a line show
abbrev pub fields_show : List Field → List ℕ → List Kind
fields_show fields line = flat_map (λ f. field_shows f line) fields

-- columns count from 1, and a field has at least one
abbrev pub has_columns : Field → Bool
has_columns f = nat_le 1 f.from && nat_le f.from f.to

-- the first fault behind the fields of a line, one after the other
abbrev pub after_fields : ℕ → List ℕ → Option Fault → List Field → Option Fault
after_fields k line first [] = first
after_fields k line first (f ∷ fields) = after_fields k line (first_of first (faults_at k (field_shows f line))) fields
