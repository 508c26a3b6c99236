-- Which atoms the tokens of a text join: OpenSMILES 1.0, sections 3.2 (bonds), 3.3 (branches) and 3.4 (rings).
-- `before` is always the list of the tokens before a place, the latest first.
use Rattle.std.specs.Prelude.{ℕ, zero, suc, ◌+◌, ◌-◌, Bool, true, not, ◌&&◌, List, [], ◌∷◌, ◌++◌, Option, Some, None, ◌==◌, nat_le, length, option_to_list, if◌then◌else◌}
use Rattle.smi_lex.specs.declared.token.BondMark.{BondMark}
use Rattle.smi_graph.specs.declared.ring_table.RingEnd.{RingEnd}
use Rattle.smi_graph.specs.declared.role.Role.{Role}
use Rattle.smi_graph.specs.declared.role.Role.TheVariants.{Atom, Bond, Ring, Enter, Leave, Dot}
use Rattle.smi_graph.specs.declared.text_bond.TextBond.{TextBond}

-- how many atoms there are; so the number of the next atom, from 0
abbrev pub atom_count : List Role → ℕ
atom_count [] = 0
atom_count (Atom lower ∷ before) = atom_count before + 1
atom_count (Bond mark ∷ before) = atom_count before
atom_count (Ring number ∷ before) = atom_count before
atom_count (Enter ∷ before) = atom_count before
atom_count (Leave ∷ before) = atom_count before
atom_count (Dot ∷ before) = atom_count before

-- how many `(` and `)` there are
abbrev pub openers : List Role → ℕ
openers [] = 0
openers (Enter ∷ ks) = openers ks + 1
openers (Atom lower ∷ ks) = openers ks
openers (Bond mark ∷ ks) = openers ks
openers (Ring number ∷ ks) = openers ks
openers (Leave ∷ ks) = openers ks
openers (Dot ∷ ks) = openers ks

abbrev pub closers : List Role → ℕ
closers [] = 0
closers (Leave ∷ ks) = closers ks + 1
closers (Atom lower ∷ ks) = closers ks
closers (Bond mark ∷ ks) = closers ks
closers (Ring number ∷ ks) = closers ks
closers (Enter ∷ ks) = closers ks
closers (Dot ∷ ks) = closers ks

-- Behind an atom, over these tokens (the latest first), the depth never falls below the atom's:
-- up to each of them there are no more `)` than `(`.
abbrev pub never_falls : List Role → Bool
never_falls [] = true
never_falls (k ∷ later) = never_falls later && nat_le (closers (k ∷ later)) (openers (k ∷ later))

-- The latest atom that is still open behind the tokens `later`, going back: the first behind which the depth
-- never falls below its own.
abbrev pub latest_open : List Role → List Role → Option ℕ
latest_open later [] = None
latest_open later (Atom lower ∷ before) = if never_falls later then Some (atom_count before) else latest_open (later ++ Atom lower ∷ []) before
latest_open later (Bond mark ∷ before) = latest_open (later ++ Bond mark ∷ []) before
latest_open later (Ring number ∷ before) = latest_open (later ++ Ring number ∷ []) before
latest_open later (Enter ∷ before) = latest_open (later ++ Enter ∷ []) before
latest_open later (Leave ∷ before) = latest_open (later ++ Leave ∷ []) before
latest_open later (Dot ∷ before) = latest_open (later ++ Dot ∷ []) before

-- The predecessor of an atom: the latest earlier atom that is open there, and none directly behind a dot.
abbrev pub predecessor : List Role → Option ℕ
predecessor [] = None
predecessor (Dot ∷ before) = None
predecessor (k ∷ before) = latest_open [] (k ∷ before)

-- the bond symbol that stands directly before
abbrev pub mark_of : List Role → Option BondMark
mark_of [] = None
mark_of (Bond mark ∷ before) = Some mark
mark_of (Atom lower ∷ before) = None
mark_of (Ring number ∷ before) = None
mark_of (Enter ∷ before) = None
mark_of (Leave ∷ before) = None
mark_of (Dot ∷ before) = None

-- Ring numbers

-- how often a ring number stands
abbrev pub ring_count : ℕ → List Role → ℕ
ring_count n [] = 0
ring_count n (Ring number ∷ before) = if number == n then suc (ring_count n before) else ring_count n before
ring_count n (Atom lower ∷ before) = ring_count n before
ring_count n (Bond mark ∷ before) = ring_count n before
ring_count n (Enter ∷ before) = ring_count n before
ring_count n (Leave ∷ before) = ring_count n before
ring_count n (Dot ∷ before) = ring_count n before

abbrev pub is_even : ℕ → Bool
is_even zero = true
is_even (suc n) = not (is_even n)

-- A ring number behind these tokens: which token it is, the latest atom, beside which it stands, and the symbol before it.
abbrev pub ring_end : List Role → RingEnd
ring_end before = record { token = length before; atom = atom_count before - 1; mark = mark_of before }

-- where a ring number stood last
abbrev pub latest_end : ℕ → List Role → Option RingEnd
latest_end n [] = None
latest_end n (Ring number ∷ before) = if number == n then Some (ring_end before) else latest_end n before
latest_end n (Atom lower ∷ before) = latest_end n before
latest_end n (Bond mark ∷ before) = latest_end n before
latest_end n (Enter ∷ before) = latest_end n before
latest_end n (Leave ∷ before) = latest_end n before
latest_end n (Dot ∷ before) = latest_end n before

-- Where a ring number is open: a number that an even count of equal numbers precedes opens, and the next one closes it.
abbrev pub open_end : ℕ → List Role → Option RingEnd
open_end n before = if is_even (ring_count n before) then None else latest_end n before

-- The bonds

abbrev pub text_bond : ℕ → ℕ → Option BondMark → Option BondMark → TextBond
text_bond u v opening closing = record { first = record { 0 = u }; second = record { 0 = v }; opening = opening; closing = closing }

-- The bond from an atom's predecessor, where it has one: the symbol stands at the predecessor, as one at an opening
-- number does.
abbrev pub chain_bond : Option ℕ → ℕ → Option BondMark → Option TextBond
chain_bond None a mark = None
chain_bond (Some p) a mark = Some (text_bond p a mark None)

-- the bond that a closing number completes, from the atom of the opening number
abbrev pub ring_bond : Option RingEnd → RingEnd → Option TextBond
ring_bond None here = None
ring_bond (Some other) here = Some (text_bond other.atom here.atom other.mark here.mark)

-- the bond that a token completes, behind the tokens before it
abbrev pub completed : List Role → Role → Option TextBond
completed before (Atom lower) = chain_bond (predecessor before) (atom_count before) (mark_of before)
completed before (Ring number) = ring_bond (open_end number before) (ring_end before)
completed before (Bond mark) = None
completed before Enter = None
completed before Leave = None
completed before Dot = None

-- the bonds of the tokens so far, in the order of the tokens that complete them
abbrev pub text_bonds : List Role → List TextBond
text_bonds [] = []
text_bonds (k ∷ before) = text_bonds before ++ option_to_list (completed before k)
