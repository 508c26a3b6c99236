-- The faults of a record (this project's own): each kind that stands, at each place where it stands. A record is refused
-- with the first of them: the least kind, at its least place.
use Rattle.std.specs.Prelude.{◌≡◌, ℕ, ◌+◌, Bool, ◌&&◌, ◌||◌, ◌==◌, nat_lt, if◌then◌else◌, List, [], ◌∷◌, ◌++◌, Option, Some, None, ◌⊎◌}
use Rattle.mc_base.specs.declared.ids.AtomId.{AtomId}
use Rattle.mc_base.specs.declared.kind.Kind.{Kind}
use Rattle.mc_base.specs.declared.refusal.Refusal.{Refusal}
use Rattle.mc_base.specs.declared.refusal.Stop.{Stop}
use Rattle.mc_base.specs.declared.refusal.Stop.TheVariants.{Refused, NoMemory}
use Rattle.mc_base.specs.Kinds.{number}
use Rattle.mc_base.specs.Shown.{IsFirst}
use Rattle.ct_sd.specs.declared.fault.Fault.{Fault}

-- a fault is one of these
abbrev pub IsAmong : List Fault → Fault → Type 0
IsAmong [] fault = ⊥
IsAmong (other ∷ others) fault = (other ≡ fault) ⊎ IsAmong others fault

-- a kind stands at a place where the faults have it there
abbrev pub StandsIn : List Fault → Kind → ℕ → Type 0
StandsIn faults kind place = IsAmong faults (record { kind = kind; place = place })

-- no kind of a connection table has a barrier
abbrev pub IsNoBarrier : List AtomId → ℕ → Type 0
IsNoBarrier barrier odd = (barrier ≡ []) × (odd ≡ 0)

-- no kind stands
abbrev pub AreNone : List Fault → Type 0
AreNone faults = (kind : Kind) (place : ℕ) → StandsIn faults kind place → ⊥

-- a refusal is the first fault; want of memory is free
abbrev pub IsRefused : List Fault → Stop → Type 0
IsRefused faults (Refused refusal) = IsFirst (StandsIn faults) IsNoBarrier refusal
IsRefused faults NoMemory = Unit {0}

-- ---- lists of faults

-- the kinds that a line shows, each at its number
abbrev pub faults_at : ℕ → List Kind → List Fault
faults_at place [] = []
faults_at place (kind ∷ kinds) = record { kind = kind; place = place } ∷ faults_at place kinds

-- what lines show, from the number of the first of them
abbrev pub faults_of_lines : (List ℕ → List Kind) → ℕ → List (List ℕ) → List Fault
faults_of_lines shows k [] = []
faults_of_lines shows k (line ∷ lines) = faults_at k (shows line) ++ faults_of_lines shows (k + 1) lines

-- a kind where a test holds
abbrev pub shown_if : Bool → Kind → List Kind
shown_if test kind = if test then kind ∷ [] else []

-- ---- the first of them, as it computes

-- the least kind comes before, and of one kind the least place
abbrev pub comes_before : Fault → Fault → Bool
comes_before fault other =
    nat_lt (number fault.kind) (number other.kind) || (number fault.kind == number other.kind && nat_lt fault.place other.place)

abbrev pub sooner : Option Fault → Fault → Option Fault
sooner None fault = Some fault
sooner (Some first) fault = if comes_before fault first then Some fault else Some first

-- the first of a fault, where there is one, and of these
abbrev pub first_of : Option Fault → List Fault → Option Fault
first_of first [] = first
first_of first (fault ∷ faults) = first_of (sooner first fault) faults

abbrev pub refusal_of : Fault → Refusal
refusal_of fault = record { kind = fault.kind; place = fault.place; barrier = []; odd = 0 }

-- the first fault is a refusal that the faults show; without one no kind stands
abbrev pub IsShown : List Fault → Option Fault → Type 0
IsShown faults None = AreNone faults
IsShown faults (Some fault) = IsFirst (StandsIn faults) IsNoBarrier (refusal_of fault)
