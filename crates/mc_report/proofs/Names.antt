-- No name of a kind has a space.
use Rattle.std.proofs.Common.{◌≡◌, ◌==◌, ℕ, Bool, false, List, refl}
use Rattle.std.specs.List.{list_any}
use Rattle.mc_base.specs.declared.kind.Kind.{Kind}
use Rattle.mc_base.specs.declared.kind.Kind.TheVariants.{NotBuilt, LineTooLong, RecordTooLong, BadToken, Wildcard, OtherChirality, ShortRecord, ReactionFile, Version, BadField, Query, BondType, Radical, Reaction, Sgroup, Alias, Stext, EnhancedStereo, MassDifference, ThreeD, BadOrder, ParenOpen, RingOpen, RingClash, RingPair, AromaticBond, AtomNumber, BondPair, LimitAtoms, LimitBonds, LimitRings, LimitIsotope, LimitClass, LimitCharge, LimitCoordinate, LimitHydrogens, ValenceShort, LimitValence, HydrogenOnHydrogen, NoPlacement, NotACentre, DirectionConflict, AmbiguousCentre, Quadruple, RingSides, Crowded, Name}
use Rattle.mc_base.specs.Kinds.{kind_name}

abbrev pub has_space : List ℕ → Bool
has_space text = list_any (λ b. b == 32) text

pub no_space : (kind : Kind) → has_space (kind_name kind) ≡ false
no_space NotBuilt = refl
no_space LineTooLong = refl
no_space RecordTooLong = refl
no_space BadToken = refl
no_space Wildcard = refl
no_space OtherChirality = refl
no_space ShortRecord = refl
no_space ReactionFile = refl
no_space Version = refl
no_space BadField = refl
no_space Query = refl
no_space BondType = refl
no_space Radical = refl
no_space Reaction = refl
no_space Sgroup = refl
no_space Alias = refl
no_space Stext = refl
no_space EnhancedStereo = refl
no_space MassDifference = refl
no_space ThreeD = refl
no_space BadOrder = refl
no_space ParenOpen = refl
no_space RingOpen = refl
no_space RingClash = refl
no_space RingPair = refl
no_space AromaticBond = refl
no_space AtomNumber = refl
no_space BondPair = refl
no_space LimitAtoms = refl
no_space LimitBonds = refl
no_space LimitRings = refl
no_space LimitIsotope = refl
no_space LimitClass = refl
no_space LimitCharge = refl
no_space LimitCoordinate = refl
no_space LimitHydrogens = refl
no_space ValenceShort = refl
no_space LimitValence = refl
no_space HydrogenOnHydrogen = refl
no_space NoPlacement = refl
no_space NotACentre = refl
no_space DirectionConflict = refl
no_space AmbiguousCentre = refl
no_space Quadruple = refl
no_space RingSides = refl
no_space Crowded = refl
no_space Name = refl
