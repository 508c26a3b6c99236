-- Which tokens may stand where: OpenSMILES 1.0, section 2 (grammar), as a table of what may follow what.
-- `before` is always the list of the tokens before a place, the latest first.
use Rattle.std.specs.Prelude.{ℕ, ◌+◌, zero, suc, Bool, true, false, not, ◌&&◌, ◌||◌, List, [], ◌∷◌, Option, Some, None, slice_get, take, drop, reverse, is_none}
use Rattle.smi_graph.specs.declared.role.Role.{Role}
use Rattle.smi_graph.specs.declared.role.Role.TheVariants.{Atom, Bond, Ring, Enter, Leave, Dot}

-- What may stand behind an atom or a ring number, at the start, and so on; None is the end.
abbrev pub after_atom : Option Role → Bool
after_atom next = true

abbrev pub after_start : Option Role → Bool
after_start None = true
after_start (Some (Atom lower)) = true
after_start (Some (Bond mark)) = false
after_start (Some (Ring number)) = false
after_start (Some Enter) = false
after_start (Some Leave) = false
after_start (Some Dot) = false

abbrev pub after_bond : Option Role → Bool
after_bond None = false
after_bond (Some (Atom lower)) = true
after_bond (Some (Bond mark)) = false
after_bond (Some (Ring number)) = true
after_bond (Some Enter) = false
after_bond (Some Leave) = false
after_bond (Some Dot) = false

abbrev pub after_enter : Option Role → Bool
after_enter None = false
after_enter (Some (Atom lower)) = true
after_enter (Some (Bond mark)) = true
after_enter (Some (Ring number)) = false
after_enter (Some Enter) = false
after_enter (Some Leave) = false
after_enter (Some Dot) = true

abbrev pub after_leave : Option Role → Bool
after_leave None = true
after_leave (Some (Atom lower)) = true
after_leave (Some (Bond mark)) = true
after_leave (Some (Ring number)) = false
after_leave (Some Enter) = true
after_leave (Some Leave) = true
after_leave (Some Dot) = true

abbrev pub after_dot : Option Role → Bool
after_dot None = false
after_dot (Some (Atom lower)) = true
after_dot (Some (Bond mark)) = false
after_dot (Some (Ring number)) = false
after_dot (Some Enter) = false
after_dot (Some Leave) = false
after_dot (Some Dot) = false

-- whether a token, or the end, may stand behind the latest token; None before is the start
abbrev pub may_follow : Option Role → Option Role → Bool
may_follow None next = after_start next
may_follow (Some (Atom lower)) next = after_atom next
may_follow (Some (Ring number)) next = after_atom next
may_follow (Some (Bond mark)) next = after_bond next
may_follow (Some Enter) next = after_enter next
may_follow (Some Leave) next = after_leave next
may_follow (Some Dot) next = after_dot next

abbrev pub latest : List Role → Option Role
latest [] = None
latest (k ∷ before) = Some k

-- a ring number may stand behind it, also with a bond symbol between
abbrev pub holds_ring : Option Role → Bool
holds_ring (Some (Atom lower)) = true
holds_ring (Some (Ring number)) = true
holds_ring other = false

abbrev pub is_bond : Role → Bool
is_bond (Bond mark) = true
is_bond (Atom lower) = false
is_bond (Ring number) = false
is_bond Enter = false
is_bond Leave = false
is_bond Dot = false

-- a bond symbol stands directly before, and not behind an atom or a ring number
abbrev pub is_stray_bond : List Role → Bool
is_stray_bond [] = false
is_stray_bond (k ∷ before) = is_bond k && not (holds_ring (latest before))

abbrev pub is_ring : Option Role → Bool
is_ring (Some (Ring number)) = true
is_ring next = false

-- the depth behind one more token; None behind a `)` that closes nothing
abbrev pub depth_behind : Option ℕ → Role → Option ℕ
depth_behind None k = None
depth_behind (Some d) (Atom lower) = Some d
depth_behind (Some d) (Bond mark) = Some d
depth_behind (Some d) (Ring number) = Some d
depth_behind (Some d) Dot = Some d
depth_behind (Some d) Enter = Some (d + 1)
depth_behind (Some zero) Leave = None
depth_behind (Some (suc d)) Leave = Some d

-- the depth behind the tokens so far
abbrev pub depth : List Role → Option ℕ
depth [] = Some 0
depth (k ∷ before) = depth_behind (depth before) k

abbrev pub closes_nothing : List Role → Option Role → Bool
closes_nothing before None = false
closes_nothing before (Some k) = is_none (depth (k ∷ before))

-- the next token, or the end, may not stand there
abbrev pub is_misplaced : List Role → Option Role → Bool
is_misplaced before next = (not (may_follow (latest before) next) || closes_nothing before next) || (is_ring next && is_stray_bond before)

-- the tokens before place i, the latest first
abbrev pub tokens_before : List Role → ℕ → List Role
tokens_before ks i = reverse (take i ks)

-- what stands at place i, a token or the end, may not stand there
abbrev pub misplaced_at : List Role → ℕ → Bool
misplaced_at ks i = is_misplaced (tokens_before ks i) (slice_get ks i)

-- no `)` among these tokens closes a branch that was open before them and `level` more
abbrev pub stays_open : ℕ → List Role → Bool
stays_open level [] = true
stays_open level (Atom lower ∷ ks) = stays_open level ks
stays_open level (Bond mark ∷ ks) = stays_open level ks
stays_open level (Ring number ∷ ks) = stays_open level ks
stays_open level (Dot ∷ ks) = stays_open level ks
stays_open level (Enter ∷ ks) = stays_open (suc level) ks
stays_open zero (Leave ∷ ks) = false
stays_open (suc level) (Leave ∷ ks) = stays_open level ks

abbrev pub is_enter : Option Role → Bool
is_enter (Some Enter) = true
is_enter next = false

-- a `(` stands at place i that no later `)` closes
abbrev pub unclosed_at : List Role → ℕ → Bool
unclosed_at ks i = is_enter (slice_get ks i) && stays_open 0 (drop (i + 1) ks)
