-- Every kind has its place in the list of all kinds.
use Rattle.std.proofs.Common.{arith, ◌≡◌, ◌∙◌, ◌<◌, ℕ, List, [], ◌∷◌, get_or, refl, ap, sym}
use Rattle.mc_base.specs.declared.kind.Kind.{Kind}
use Rattle.mc_base.specs.declared.kind.Kind.TheVariants.{NotBuilt, LineTooLong, RecordTooLong, BadToken, Wildcard, OtherChirality, ShortRecord, ReactionFile, Version, BadField, Query, BondType, Radical, Reaction, Sgroup, Alias, Stext, EnhancedStereo, MassDifference, ThreeD, BadOrder, ParenOpen, RingOpen, RingClash, RingPair, AromaticBond, AtomNumber, BondPair, LimitAtoms, LimitBonds, LimitRings, LimitIsotope, LimitClass, LimitCharge, LimitCoordinate, LimitHydrogens, ValenceShort, LimitValence, HydrogenOnHydrogen, NoPlacement, NotACentre, DirectionConflict, AmbiguousCentre, Quadruple, RingSides, Crowded, Name}
use Rattle.mc_base.specs.Kinds.{number, kind_name}

abbrev pub all_kinds : List Kind
all_kinds = NotBuilt ∷ LineTooLong ∷ RecordTooLong ∷ BadToken ∷ Wildcard ∷ OtherChirality ∷ ShortRecord ∷ ReactionFile ∷ Version ∷ BadField ∷ Query ∷ BondType ∷ Radical ∷ Reaction ∷ Sgroup ∷ Alias ∷ Stext ∷ EnhancedStereo ∷ MassDifference ∷ ThreeD ∷ BadOrder ∷ ParenOpen ∷ RingOpen ∷ RingClash ∷ RingPair ∷ AromaticBond ∷ AtomNumber ∷ BondPair ∷ LimitAtoms ∷ LimitBonds ∷ LimitRings ∷ LimitIsotope ∷ LimitClass ∷ LimitCharge ∷ LimitCoordinate ∷ LimitHydrogens ∷ ValenceShort ∷ LimitValence ∷ HydrogenOnHydrogen ∷ NoPlacement ∷ NotACentre ∷ DirectionConflict ∷ AmbiguousCentre ∷ Quadruple ∷ RingSides ∷ Crowded ∷ Name ∷ []

-- a name that none of the listed kinds has is no kind's
pub unnamed : (name : List ℕ) → ((j : ℕ) → j < 47 → kind_name (get_or all_kinds j NotBuilt) ≡ name → ⊥)
    → (kind : Kind) → kind_name kind ≡ name → ⊥
unnamed name others NotBuilt is = others 0 (omega arith) is
unnamed name others LineTooLong is = others 1 (omega arith) is
unnamed name others RecordTooLong is = others 2 (omega arith) is
unnamed name others BadToken is = others 3 (omega arith) is
unnamed name others Wildcard is = others 4 (omega arith) is
unnamed name others OtherChirality is = others 5 (omega arith) is
unnamed name others ShortRecord is = others 6 (omega arith) is
unnamed name others ReactionFile is = others 7 (omega arith) is
unnamed name others Version is = others 8 (omega arith) is
unnamed name others BadField is = others 9 (omega arith) is
unnamed name others Query is = others 10 (omega arith) is
unnamed name others BondType is = others 11 (omega arith) is
unnamed name others Radical is = others 12 (omega arith) is
unnamed name others Reaction is = others 13 (omega arith) is
unnamed name others Sgroup is = others 14 (omega arith) is
unnamed name others Alias is = others 15 (omega arith) is
unnamed name others Stext is = others 16 (omega arith) is
unnamed name others EnhancedStereo is = others 17 (omega arith) is
unnamed name others MassDifference is = others 18 (omega arith) is
unnamed name others ThreeD is = others 19 (omega arith) is
unnamed name others BadOrder is = others 20 (omega arith) is
unnamed name others ParenOpen is = others 21 (omega arith) is
unnamed name others RingOpen is = others 22 (omega arith) is
unnamed name others RingClash is = others 23 (omega arith) is
unnamed name others RingPair is = others 24 (omega arith) is
unnamed name others AromaticBond is = others 25 (omega arith) is
unnamed name others AtomNumber is = others 26 (omega arith) is
unnamed name others BondPair is = others 27 (omega arith) is
unnamed name others LimitAtoms is = others 28 (omega arith) is
unnamed name others LimitBonds is = others 29 (omega arith) is
unnamed name others LimitRings is = others 30 (omega arith) is
unnamed name others LimitIsotope is = others 31 (omega arith) is
unnamed name others LimitClass is = others 32 (omega arith) is
unnamed name others LimitCharge is = others 33 (omega arith) is
unnamed name others LimitCoordinate is = others 34 (omega arith) is
unnamed name others LimitHydrogens is = others 35 (omega arith) is
unnamed name others ValenceShort is = others 36 (omega arith) is
unnamed name others LimitValence is = others 37 (omega arith) is
unnamed name others HydrogenOnHydrogen is = others 38 (omega arith) is
unnamed name others NoPlacement is = others 39 (omega arith) is
unnamed name others NotACentre is = others 40 (omega arith) is
unnamed name others DirectionConflict is = others 41 (omega arith) is
unnamed name others AmbiguousCentre is = others 42 (omega arith) is
unnamed name others Quadruple is = others 43 (omega arith) is
unnamed name others RingSides is = others 44 (omega arith) is
unnamed name others Crowded is = others 45 (omega arith) is
unnamed name others Name is = others 46 (omega arith) is

kind_at : (kind : Kind) → get_or all_kinds (number kind) NotBuilt ≡ kind
kind_at NotBuilt = refl
kind_at LineTooLong = refl
kind_at RecordTooLong = refl
kind_at BadToken = refl
kind_at Wildcard = refl
kind_at OtherChirality = refl
kind_at ShortRecord = refl
kind_at ReactionFile = refl
kind_at Version = refl
kind_at BadField = refl
kind_at Query = refl
kind_at BondType = refl
kind_at Radical = refl
kind_at Reaction = refl
kind_at Sgroup = refl
kind_at Alias = refl
kind_at Stext = refl
kind_at EnhancedStereo = refl
kind_at MassDifference = refl
kind_at ThreeD = refl
kind_at BadOrder = refl
kind_at ParenOpen = refl
kind_at RingOpen = refl
kind_at RingClash = refl
kind_at RingPair = refl
kind_at AromaticBond = refl
kind_at AtomNumber = refl
kind_at BondPair = refl
kind_at LimitAtoms = refl
kind_at LimitBonds = refl
kind_at LimitRings = refl
kind_at LimitIsotope = refl
kind_at LimitClass = refl
kind_at LimitCharge = refl
kind_at LimitCoordinate = refl
kind_at LimitHydrogens = refl
kind_at ValenceShort = refl
kind_at LimitValence = refl
kind_at HydrogenOnHydrogen = refl
kind_at NoPlacement = refl
kind_at NotACentre = refl
kind_at DirectionConflict = refl
kind_at AmbiguousCentre = refl
kind_at Quadruple = refl
kind_at RingSides = refl
kind_at Crowded = refl
kind_at Name = refl

-- two kinds of one number are one kind
pub same_number : (a b : Kind) → number a ≡ number b → a ≡ b
same_number a b same = sym (kind_at a) ∙ ap (λ (n : ℕ). get_or all_kinds n NotBuilt) same ∙ kind_at b
