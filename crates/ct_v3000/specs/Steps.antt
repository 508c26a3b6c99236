-- How far a reader is in the lines of a record.
use Rattle.std.specs.Prelude.{◌≡◌, ℕ, ◌+◌, ◌-◌, ◌≤◌, ◌<◌, Bool, true, false, not, List, [], ◌∷◌, ◌++◌, length, take, drop, Option, Some, None}
use Rattle.std.specs.List.{list_any}
use Rattle.mc_base.specs.declared.kind.Kind.{Kind}
use Rattle.ct_sd.specs.Faults.{first_of, faults_at}
use Rattle.ct_sd.specs.Columns.{is_end_line}
use Rattle.ct_sd.specs.declared.fault.FirstFault.{FirstFault}
use Rattle.ct_v3000.specs.declared.joining.Found.{Found}
use Rattle.ct_v3000.specs.declared.joining.Found.TheVariants.{Whole, Broken}
use Rattle.ct_v3000.specs.declared.items.Next.{Next}
use Rattle.ct_v3000.specs.declared.reading.Reading.{Reading}
use Rattle.ct_v3000.specs.declared.stage.Place.{Place}
use Rattle.ct_v3000.specs.declared.stage.Role.{Role}
use Rattle.ct_v3000.specs.declared.stage.Role.TheVariants as is
use Rattle.ct_v3000.specs.Joined.{joined_from, before_end, end_place}
use Rattle.ct_v3000.specs.Blocks.{Item, items}
use Rattle.ct_v3000.specs.AtomLines.{number_in, atom_of}
use Rattle.ct_v3000.specs.BondLines.{ends_in, pair_list, bond_of}
use Rattle.ct_v3000.specs.Table.{with_index, item_shows, is_short}

-- ---- what is read so far

abbrev pub nothing_read : Reading
nothing_read = record { indices = []; joined = []; atoms = []; bonds = []; faults = record { fault = None } }

abbrev pub noted : ℕ → List Kind → FirstFault → FirstFault
noted k kinds faults = record { fault = first_of faults.fault (faults_at k kinds) }

abbrev pub after : Role → ℕ → List (List ℕ) → Reading → Reading
after is.Atom k words r = record r {
  indices = with_index (number_in 0 words) r.indices;
  atoms = r.atoms ++ atom_of k words ∷ [];
  faults = noted k (item_shows is.Atom r.indices r.joined words) r.faults;
}
after is.Bond k words r = record r {
  joined = r.joined ++ pair_list (ends_in r.indices words);
  bonds = r.bonds ++ bond_of k r.indices words ∷ [];
  faults = noted k (item_shows is.Bond r.indices r.joined words) r.faults;
}
after is.Frame k words r = r
after role k words r = record r { faults = noted k (item_shows role r.indices r.joined words) r.faults }

abbrev pub after_item : Item → Reading → Reading
after_item item r = after item.role item.at item.words r

abbrev pub after_items : List Item → Reading → Reading
after_items [] r = r
after_items (item ∷ later) r = after_items later (after_item item r)

-- ---- the lines to come

-- the lines from one, counted from 0, up to another
abbrev pub lines_between : ℕ → ℕ → List (List ℕ) → List (List ℕ)
lines_between from to lines = take (to - from) (drop from lines)

abbrev pub to_come : List (List ℕ) → ℕ → ℕ → Option Place → List Item
to_come lines end k at = items (end + 1) at (joined_from None (k + 1) (lines_between k end lines))

-- no line from this one on, counted from 0, ends the table
abbrev pub is_short_behind : ℕ → List (List ℕ) → Bool
is_short_behind k lines = not (list_any is_end_line (drop k lines))

-- the first line behind line 4 that ends the table, counted from 0
pub record IsEndAt (lines : List (List ℕ)) (end : ℕ) : Type 0 where
  pub header : 4 ≤ end
  pub within : end < length lines
  pub place : end_place lines ≡ end + 1
  pub body : before_end (drop 4 lines) ≡ lines_between 4 end lines
  pub long : is_short lines ≡ false

abbrev pub IsEnd : List (List ℕ) → Option ℕ → Type 0
IsEnd lines None = is_short lines ≡ true
IsEnd lines (Some end) = IsEndAt lines end

-- a joined line begins at line k, and the next at a later one; or one breaks off
abbrev pub IsFound : List (List ℕ) → ℕ → ℕ → Found → List ℕ → Type 0
IsFound lines end k (Whole next) text =
    (k < next) × (next ≤ end)
    × (joined_from None (k + 1) (lines_between k end lines) ≡ record { at = k + 1; text = Some text } ∷ joined_from None (next + 1) (lines_between next end lines))
IsFound lines end k (Broken place) text = joined_from None (k + 1) (lines_between k end lines) ≡ record { at = place; text = None } ∷ []

-- at most so many atoms and bonds are read
pub record IsFew (n : ℕ) (r : Reading) : Type 0 where
  pub indices : length r.indices ≤ n
  pub atoms : length r.atoms ≤ n
  pub bonds : length r.bonds ≤ n

-- at most one atom and one bond more are read
abbrev pub HasOneMore : Reading → Reading → Type 0
HasOneMore r0 r1 = (n : ℕ) → IsFew n r0 → IsFew (n + 1) r1

pub record IsNext (lines : List (List ℕ)) (end k : ℕ) (at : Place) (r0 : Reading) (next : Next) (r1 : Reading) : Type 0 where
  pub further : k < next.line
  pub within : next.line ≤ end
  pub same : after_items (to_come lines end next.line (Some next.at)) r1 ≡ after_items (to_come lines end k (Some at)) r0

-- one joined line more is read; or the last
abbrev pub IsStep : List (List ℕ) → ℕ → ℕ → Place → Reading → Option Next → Reading → Type 0
IsStep lines end k at r0 None r1 = r1 ≡ after_items (to_come lines end k (Some at)) r0
IsStep lines end k at r0 (Some next) r1 = IsNext lines end k at r0 next r1
