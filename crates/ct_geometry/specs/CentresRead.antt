-- Centres and sides as they are read one by one (this project's own).
use Rattle.std.specs.Prelude.{◌≡◌, ℕ, zero, suc, ◌+◌, ◌<◌, Bool, true, false, List, [], ◌∷◌, ◌++◌, Option, Some, None, slice_set}
use Rattle.mc_base.specs.declared.kind.Kind.TheVariants.{AmbiguousCentre}
use Rattle.mc_base.specs.declared.refusal.Stop.{Stop}
use Rattle.mc_base.specs.declared.refusal.Stop.TheVariants.{Refused, NoMemory}
use Rattle.mc_mol.specs.declared.parts.Slot.{Slot}
use Rattle.ct_geometry.specs.declared.wedge_read.WedgeRead.{WedgeRead}
use Rattle.ct_geometry.specs.declared.wedge_read.WedgeRead.TheVariants as read

-- what a function gives for the first n numbers
abbrev pub up_to : {A : Type 0} → (ℕ → A) → ℕ → List A
up_to f zero = []
up_to f (suc n) = up_to f n ++ f n ∷ []

-- what is there at a place is set, where there is something to be set
abbrev pub set_if : {A : Type 0} → List (Option A) → ℕ → Option A → List (Option A)
set_if xs n None = xs
set_if xs n (Some x) = slice_set xs n (Some x)

-- the list of places that wedges give, where they make a centre
abbrev pub centre_given : WedgeRead → Option (List Slot)
centre_given read.None = None
centre_given read.Ambiguous = None
centre_given (read.Centre places) = Some places

abbrev pub is_ambiguous : WedgeRead → Bool
is_ambiguous read.None = false
is_ambiguous read.Ambiguous = true
is_ambiguous (read.Centre places) = false

-- the first of n atoms whose wedges are ambiguous is refused; want of memory is free
abbrev pub IsAmbiguity : (ℕ → WedgeRead) → ℕ → Stop → Type 0
IsAmbiguity reads n (Refused refusal) = (a : ℕ) × (a < n) × (refusal ≡ record { kind = AmbiguousCentre; place = a + 1; barrier = []; odd = 0 })
    × (is_ambiguous (reads a) ≡ true) × ((b : ℕ) → b < a → is_ambiguous (reads b) ≡ false)
IsAmbiguity reads n NoMemory = Unit {0}
