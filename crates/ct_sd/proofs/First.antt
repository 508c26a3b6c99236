-- The first of the faults is a refusal that they show.
use Rattle.std.proofs.Common.{arith, ◌≡◌, ◌∙◌, ℕ, ◌≤◌, ◌<◌, ◌==◌, ◌&&◌, ◌||◌, List, [], ◌∷◌, ◌++◌, Bool, true, false, Option, Some, None, refl, ap, sym, subst, inl, inr, ◌⊎◌, if◌then◌else◌}
use Rattle.std.specs.Prelude.{nat_lt}
use Rattle.std.proofs.lemmas.Bool.Decides.{nat_tests}
use Rattle.mc_base.specs.declared.kind.Kind.{Kind}
use Rattle.mc_base.specs.declared.kind.Kind.TheVariants.{NoPlacement}
use Rattle.mc_base.specs.declared.refusal.Refusal.{Refusal}
use Rattle.mc_base.specs.Kinds.{number}
use Rattle.mc_base.specs.Shown.{HasReason, IsFirst}
use Rattle.ct_sd.specs.declared.fault.Fault.{Fault}
use Rattle.ct_sd.specs.declared.field.Field.{Field}
use Rattle.ct_sd.specs.Fields.{field_shows, fields_show, after_fields}
use Rattle.ct_sd.specs.Faults.{IsAmong, comes_before, sooner, first_of, faults_at, IsNoBarrier, IsShown, StandsIn, AreNone, refusal_of}

-- the first of those that have a property
abbrev IsFirstOf : (Fault → Type 0) → Option Fault → Type 0
IsFirstOf Held None = (g : Fault) → Held g → ⊥
IsFirstOf Held (Some f) = Held f × ((g : Fault) → Held g → comes_before g f ≡ false)

-- of three faults by their numbers and places
never_before_itself : (k p : ℕ) → (nat_lt k k || (k == k && nat_lt p p)) ≡ false
never_before_itself k p = grind (arith, nat_tests)

before_the_sooner : (k p l q m r : ℕ) → (nat_lt k l || (k == l && nat_lt p q)) ≡ true → (nat_lt m l || (m == l && nat_lt r q)) ≡ false → (nat_lt m k || (m == k && nat_lt r p)) ≡ false
before_the_sooner k p l q m r sooner later = grind (arith, nat_tests)

one_more : (Held : Fault → Type 0) (first : Option Fault) (fault : Fault) → IsFirstOf Held first → IsFirstOf (λ g. Held g ⊎ (fault ≡ g)) (sooner first fault)
one_more Held None fault is = (
  inr refl,
  λ g held. elim held [
    | inl h ↦ absurd (is g h)
    | inr same ↦ subst (λ (x : Fault). comes_before x fault ≡ false) same (never_before_itself (number fault.kind) fault.place)
  ],
)
one_more Held (Some first) fault is = by_test (comes_before fault first) refl
  where
    by_test : (t : Bool) → comes_before fault first ≡ t → IsFirstOf (λ g. Held g ⊎ (fault ≡ g)) (if t then Some fault else Some first)
    by_test true t = (
      inr refl,
      λ g held. elim held [
        | inl h ↦ before_the_sooner (number fault.kind) fault.place (number first.kind) first.place (number g.kind) g.place t (is.1 g h)
        | inr same ↦ subst (λ (x : Fault). comes_before x fault ≡ false) same (never_before_itself (number fault.kind) fault.place)
      ],
    )
    by_test false t = (
      inl is.0,
      λ g held. elim held [
        | inl h ↦ is.1 g h
        | inr same ↦ subst (λ (x : Fault). comes_before x first ≡ false) same t
      ],
    )

-- the property may be said otherwise
said_otherwise : (P Q : Fault → Type 0) (first : Option Fault) → ((g : Fault) → P g → Q g) → ((g : Fault) → Q g → P g) → IsFirstOf P first → IsFirstOf Q first
said_otherwise P Q None there back is = λ g q. is g (back g q)
said_otherwise P Q (Some f) there back is = (there f is.0, λ g q. is.1 g (back g q))

first_of_all : (Held : Fault → Type 0) (first : Option Fault) (faults : List Fault) → IsFirstOf Held first → IsFirstOf (λ g. Held g ⊎ IsAmong faults g) (first_of first faults)
first_of_all Held first [] is = said_otherwise Held (λ g. Held g ⊎ IsAmong [] g) first (λ g h. inl h) (λ g h. elim h [ inl held ↦ held | inr no_one ↦ absurd no_one ]) is
first_of_all Held first (fault ∷ faults) is =
    said_otherwise (λ g. (Held g ⊎ (fault ≡ g)) ⊎ IsAmong faults g) (λ g. Held g ⊎ IsAmong (fault ∷ faults) g) (first_of (sooner first fault) faults)
    (λ g h. elim h [ inl early ↦ elim early [ inl held ↦ inl held | inr same ↦ inr (inl same) ] | inr late ↦ inr (inr late) ])
    (λ g h. elim h [ inl held ↦ inl (inl held) | inr at ↦ elim at [ inl same ↦ inl (inr same) | inr late ↦ inr late ] ])
    (first_of_all (λ g. Held g ⊎ (fault ≡ g)) (sooner first fault) faults (one_more Held first fault is))

no_reason : (kind : Kind) → HasReason IsNoBarrier kind [] 0
no_reason NoPlacement = (refl, refl)
no_reason _ = (refl, refl)

lesser_place : (k p q : ℕ) → (nat_lt k k || (k == k && nat_lt q p)) ≡ false → p ≤ q
lesser_place k p q is = grind (arith, nat_tests)

lesser_kind : (k l p q : ℕ) → l < k → (nat_lt l k || (l == k && nat_lt q p)) ≡ false → ⊥
lesser_kind k l p q less is = grind (arith, nat_tests)

shown : (faults : List Fault) (first : Option Fault) → IsFirstOf (λ g. ⊥ ⊎ IsAmong faults g) first → IsShown faults first
shown faults None is = λ kind place stands. is (record { kind = kind; place = place }) (inr stands)
shown faults (Some f) is = record {
  stands = elim is.0 [ inl no_one ↦ absurd no_one | inr at ↦ at ];
  least = λ place stands. lesser_place (number f.kind) f.place place (is.1 (record { kind = f.kind; place = place }) (inr stands));
  first = λ kind place less stands. lesser_kind (number f.kind) (number kind) f.place place less (is.1 (record { kind = kind; place = place }) (inr stands));
  reason = no_reason f.kind;
}

pub first_is_shown : (faults : List Fault) → IsShown faults (first_of None faults)
first_is_shown faults = shown faults (first_of None faults) (first_of_all (λ g. ⊥) None faults (λ g h. h))

-- the first fault as a refusal, and none
pub refusal_is_shown : (faults : List Fault) (fault : Fault) (refusal : Refusal) → refusal ≡ refusal_of fault → first_of None faults ≡ Some fault
    → IsFirst (StandsIn faults) IsNoBarrier refusal
refusal_is_shown faults fault refusal same is =
    subst (λ (r : Refusal). IsFirst (StandsIn faults) IsNoBarrier r) (sym same) (subst (λ (first : Option Fault). IsShown faults first) is (first_is_shown faults))

pub nothing_shown : (faults : List Fault) → first_of None faults ≡ None → AreNone faults
nothing_shown faults is = subst (λ (first : Option Fault). IsShown faults first) is (first_is_shown faults)

-- ---- faults one behind the other

pub first_of_joined : (first : Option Fault) (xs ys : List Fault) → first_of first (xs ++ ys) ≡ first_of (first_of first xs) ys
first_of_joined first [] ys = refl
first_of_joined first (x ∷ xs) ys = first_of_joined (sooner first x) xs ys

pub faults_at_joined : (k : ℕ) (xs ys : List Kind) → faults_at k (xs ++ ys) ≡ faults_at k xs ++ faults_at k ys
faults_at_joined k [] ys = refl
faults_at_joined k (x ∷ xs) ys = ap (λ t. record { kind = x; place = k } ∷ t) (faults_at_joined k xs ys)

pub four_lists : (f : Option Fault) (xs bs cs ds : List Fault) → first_of f (xs ++ (bs ++ (cs ++ ds))) ≡ first_of (first_of (first_of (first_of f xs) bs) cs) ds
four_lists f xs bs cs ds = first_of_joined f xs (bs ++ (cs ++ ds)) ∙ (first_of_joined (first_of f xs) bs (cs ++ ds) ∙ first_of_joined (first_of (first_of f xs) bs) cs ds)

-- what stands behind the first parts of a line
pub first_of_two : (k : ℕ) (first : Option Fault) (xs ys : List Kind) → first_of first (faults_at k (xs ++ ys)) ≡ first_of (first_of first (faults_at k xs)) (faults_at k ys)
first_of_two k first xs ys = ap (λ t. first_of first t) (faults_at_joined k xs ys) ∙ first_of_joined first (faults_at k xs) (faults_at k ys)

-- ---- the fields of a line, one after the other

pub fields_first : (k : ℕ) (line : List ℕ) (first : Option Fault) (fields : List Field) → first_of first (faults_at k (fields_show fields line)) ≡ after_fields k line first fields
fields_first k line first [] = refl
fields_first k line first (f ∷ fields) =
    first_of_two k first (field_shows f line) (fields_show fields line) ∙ fields_first k line (first_of first (faults_at k (field_shows f line))) fields

pub line_first : (k : ℕ) (line : List ℕ) (first : Option Fault) (fields : List Field) (rest : List Kind)
    → first_of first (faults_at k (fields_show fields line ++ rest)) ≡ first_of (after_fields k line first fields) (faults_at k rest)
line_first k line first fields rest =
    first_of_two k first (fields_show fields line) rest ∙ ap (λ (f : Option Fault). first_of f (faults_at k rest)) (fields_first k line first fields)
