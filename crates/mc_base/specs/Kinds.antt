-- The kinds of refusal: their names and the order in which they are looked for (this project's own).
use Rattle.std.specs.Prelude.{ℕ, List, codes}
use Rattle.mc_base.specs.declared.kind.Kind.{Kind}
use Rattle.mc_base.specs.declared.kind.Kind.TheVariants.{NotBuilt, LineTooLong, RecordTooLong, BadToken, Wildcard, OtherChirality, ShortRecord, ReactionFile, Version, BadField, Query, BondType, Radical, Reaction, Sgroup, Alias, Stext, EnhancedStereo, MassDifference, ThreeD, BadOrder, ParenOpen, RingOpen, RingClash, RingPair, AromaticBond, AtomNumber, BondPair, LimitAtoms, LimitBonds, LimitRings, LimitIsotope, LimitClass, LimitCharge, LimitCoordinate, LimitHydrogens, ValenceShort, LimitValence, HydrogenOnHydrogen, NoPlacement, NotACentre, DirectionConflict, AmbiguousCentre, Quadruple, RingSides, Crowded, Name}

-- the place of a kind in the order; a record is refused with the least that stands
abbrev pub number : Kind → ℕ
number NotBuilt = 0
number LineTooLong = 1
number RecordTooLong = 2
number BadToken = 3
number Wildcard = 4
number OtherChirality = 5
number ShortRecord = 6
number ReactionFile = 7
number Version = 8
number BadField = 9
number Query = 10
number BondType = 11
number Radical = 12
number Reaction = 13
number Sgroup = 14
number Alias = 15
number Stext = 16
number EnhancedStereo = 17
number MassDifference = 18
number ThreeD = 19
number BadOrder = 20
number ParenOpen = 21
number RingOpen = 22
number RingClash = 23
number RingPair = 24
number AromaticBond = 25
number AtomNumber = 26
number BondPair = 27
number LimitAtoms = 28
number LimitBonds = 29
number LimitRings = 30
number LimitIsotope = 31
number LimitClass = 32
number LimitCharge = 33
number LimitCoordinate = 34
number LimitHydrogens = 35
number ValenceShort = 36
number LimitValence = 37
number HydrogenOnHydrogen = 38
number NoPlacement = 39
number NotACentre = 40
number DirectionConflict = 41
number AmbiguousCentre = 42
number Quadruple = 43
number RingSides = 44
number Crowded = 45
number Name = 46

-- the name of a kind, as a report line has it
abbrev pub kind_name : Kind → List ℕ
kind_name NotBuilt = codes "NotBuilt"
kind_name LineTooLong = codes "LineTooLong"
kind_name RecordTooLong = codes "RecordTooLong"
kind_name BadToken = codes "BadToken"
kind_name Wildcard = codes "Wildcard"
kind_name OtherChirality = codes "OtherChirality"
kind_name ShortRecord = codes "ShortRecord"
kind_name ReactionFile = codes "ReactionFile"
kind_name Version = codes "Version"
kind_name BadField = codes "BadField"
kind_name Query = codes "Query"
kind_name BondType = codes "BondType"
kind_name Radical = codes "Radical"
kind_name Reaction = codes "Reaction"
kind_name Sgroup = codes "Sgroup"
kind_name Alias = codes "Alias"
kind_name Stext = codes "Stext"
kind_name EnhancedStereo = codes "EnhancedStereo"
kind_name MassDifference = codes "MassDifference"
kind_name ThreeD = codes "ThreeD"
kind_name BadOrder = codes "BadOrder"
kind_name ParenOpen = codes "ParenOpen"
kind_name RingOpen = codes "RingOpen"
kind_name RingClash = codes "RingClash"
kind_name RingPair = codes "RingPair"
kind_name AromaticBond = codes "AromaticBond"
kind_name AtomNumber = codes "AtomNumber"
kind_name BondPair = codes "BondPair"
kind_name LimitAtoms = codes "LimitAtoms"
kind_name LimitBonds = codes "LimitBonds"
kind_name LimitRings = codes "LimitRings"
kind_name LimitIsotope = codes "LimitIsotope"
kind_name LimitClass = codes "LimitClass"
kind_name LimitCharge = codes "LimitCharge"
kind_name LimitCoordinate = codes "LimitCoordinate"
kind_name LimitHydrogens = codes "LimitHydrogens"
kind_name ValenceShort = codes "ValenceShort"
kind_name LimitValence = codes "LimitValence"
kind_name HydrogenOnHydrogen = codes "HydrogenOnHydrogen"
kind_name NoPlacement = codes "NoPlacement"
kind_name NotACentre = codes "NotACentre"
kind_name DirectionConflict = codes "DirectionConflict"
kind_name AmbiguousCentre = codes "AmbiguousCentre"
kind_name Quadruple = codes "Quadruple"
kind_name RingSides = codes "RingSides"
kind_name Crowded = codes "Crowded"
kind_name Name = codes "Name"
