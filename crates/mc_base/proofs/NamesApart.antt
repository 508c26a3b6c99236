-- Different kinds have different names.
use Rattle.std.proofs.Common.{◌≡◌, ◌∙◌, ◌==◌, ◌&&◌, ℕ, Bool, true, false, List, [], ◌∷◌, Option, Some, None, if◌then◌else◌, refl, ap, sym}
use Rattle.std.proofs.lemmas.Option.{same_Some}
use Rattle.mc_base.specs.declared.kind.Kind.{Kind}
use Rattle.mc_base.specs.declared.kind.Kind.TheVariants.{NotBuilt, LineTooLong, RecordTooLong, BadToken, Wildcard, OtherChirality, ShortRecord, ReactionFile, Version, BadField, Query, BondType, Radical, Reaction, Sgroup, Alias, Stext, EnhancedStereo, MassDifference, ThreeD, BadOrder, ParenOpen, RingOpen, RingClash, RingPair, AromaticBond, AtomNumber, BondPair, LimitAtoms, LimitBonds, LimitRings, LimitIsotope, LimitClass, LimitCharge, LimitCoordinate, LimitHydrogens, ValenceShort, LimitValence, HydrogenOnHydrogen, NoPlacement, NotACentre, DirectionConflict, AmbiguousCentre, Quadruple, RingSides, Crowded, Name}
use Rattle.mc_base.specs.Kinds.{kind_name}
use Rattle.mc_base.proofs.AllKinds.{all_kinds}

abbrev same_name : List ℕ → List ℕ → Bool
same_name [] [] = true
same_name (b ∷ bytes) (c ∷ others) = (b == c) && same_name bytes others
same_name _ _ = false

-- the first of some kinds that has a name
abbrev first_named : List ℕ → List Kind → Option Kind
first_named name [] = None
first_named name (kind ∷ kinds) = if same_name (kind_name kind) name then Some kind else first_named name kinds

is_first : (kind : Kind) → first_named (kind_name kind) all_kinds ≡ Some kind
is_first NotBuilt = refl
is_first LineTooLong = refl
is_first RecordTooLong = refl
is_first BadToken = refl
is_first Wildcard = refl
is_first OtherChirality = refl
is_first ShortRecord = refl
is_first ReactionFile = refl
is_first Version = refl
is_first BadField = refl
is_first Query = refl
is_first BondType = refl
is_first Radical = refl
is_first Reaction = refl
is_first Sgroup = refl
is_first Alias = refl
is_first Stext = refl
is_first EnhancedStereo = refl
is_first MassDifference = refl
is_first ThreeD = refl
is_first BadOrder = refl
is_first ParenOpen = refl
is_first RingOpen = refl
is_first RingClash = refl
is_first RingPair = refl
is_first AromaticBond = refl
is_first AtomNumber = refl
is_first BondPair = refl
is_first LimitAtoms = refl
is_first LimitBonds = refl
is_first LimitRings = refl
is_first LimitIsotope = refl
is_first LimitClass = refl
is_first LimitCharge = refl
is_first LimitCoordinate = refl
is_first LimitHydrogens = refl
is_first ValenceShort = refl
is_first LimitValence = refl
is_first HydrogenOnHydrogen = refl
is_first NoPlacement = refl
is_first NotACentre = refl
is_first DirectionConflict = refl
is_first AmbiguousCentre = refl
is_first Quadruple = refl
is_first RingSides = refl
is_first Crowded = refl
is_first Name = refl

pub names_apart : (kind other : Kind) → kind_name kind ≡ kind_name other → kind ≡ other
names_apart kind other same = same_Some kind other (sym (is_first kind) ∙ ap (λ (name : List ℕ). first_named name all_kinds) same ∙ is_first other)

-- the one kind of a name
pub one_named : (name : List ℕ) (kind : Kind) → kind_name kind ≡ name → (other : Kind) → kind_name other ≡ name → Some kind ≡ Some other
one_named name kind is other also = ap (λ (k : Kind). Some k) (names_apart kind other (is ∙ sym also))
