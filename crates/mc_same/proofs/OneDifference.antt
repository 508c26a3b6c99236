-- The first difference is one, whatever is compared: each verdict says that the points before its own hold, and that its own
-- fails.
use Rattle.std.proofs.Common.{arith, ◌≡◌, ◌-◌, ◌<◌, ℕ, zero, suc, List, [], ◌∷◌, refl, ap, inl, inr}
use Rattle.std.proofs.lemmas.Bool.{cases_eq, cases_lt}
use Rattle.mc_base.specs.declared.verdict.Verdict.{Verdict}
use Rattle.mc_base.specs.declared.verdict.Verdict.TheVariants.{True, Length, Range, Repeat, Atom, Bonds, Bond, Centre, Sides}
use Rattle.mc_same.specs.Differences.{Holds, FailsFirst}

-- what is looked at, for so many entries of a map and so many bonds
pub record Points : Type 1 where
  pub same_length : Type 0
  pub entries : ℕ
  pub in_range : ℕ → Type 0
  pub is_new : ℕ → Type 0
  pub atom : ℕ → Type 0
  pub same_bonds : Type 0
  pub bonds : ℕ
  pub bond : ℕ → Type 0
  pub centre : ℕ → Type 0
  pub sides : ℕ → Type 0

abbrev pub Mapped : Points → Type 0
Mapped p = p.same_length × Holds p.entries p.in_range × Holds p.entries p.is_new

abbrev pub Joined : Points → Type 0
Joined p = Mapped p × Holds p.entries p.atom × p.same_bonds × Holds p.bonds p.bond

-- the first point that fails
abbrev pub IsDifference : Points → Verdict → Type 0
IsDifference p True = Joined p × Holds p.entries p.centre × Holds p.bonds p.sides
IsDifference p Length = p.same_length → ⊥
IsDifference p (Range k) = p.same_length × FailsFirst p.entries p.in_range k
IsDifference p (Repeat k) = p.same_length × Holds p.entries p.in_range × FailsFirst p.entries p.is_new k
IsDifference p (Atom k) = Mapped p × FailsFirst p.entries p.atom k
IsDifference p Bonds = Mapped p × Holds p.entries p.atom × (p.same_bonds → ⊥)
IsDifference p (Bond k) = Mapped p × Holds p.entries p.atom × p.same_bonds × FailsFirst p.bonds p.bond k
IsDifference p (Centre k) = Joined p × FailsFirst p.entries p.centre k
IsDifference p (Sides k) = Joined p × Holds p.entries p.centre × FailsFirst p.bonds p.sides k

-- two numbers at which a rule fails first are one
fails_once : (count : ℕ) (P : ℕ → Type 0) (k l : ℕ) → FailsFirst count P k → FailsFirst count P l → k ≡ l
fails_once count P k l at_k at_l = elim (cases_eq k l) [
  | inl same ↦ same
  | inr other ↦ elim (cases_lt k l) [
    | inl less ↦ absurd (at_k.fails (at_l.before (k - 1) (let some = at_k.from_one in omega arith)))
    | inr more ↦ absurd (at_l.fails (at_k.before (l - 1) (let some = at_l.from_one in omega arith)))
  ]
]

-- a rule that fails somewhere doesn't hold
pub not_held : (count : ℕ) (P : ℕ → Type 0) (k : ℕ) → FailsFirst count P k → Holds count P → ⊥
not_held count P k at all = at.fails (all (k - 1) (let some = at.from_one in let within = at.within in omega arith))

-- the points in the order in which they are looked at
points : Points → List (Type 0)
points p = p.same_length ∷ Holds p.entries p.in_range ∷ Holds p.entries p.is_new ∷ Holds p.entries p.atom ∷ p.same_bonds ∷ Holds p.bonds p.bond ∷ Holds p.entries p.centre ∷ Holds p.bonds p.sides ∷ []

-- a point by its number; none is behind the last
abbrev at_point : List (Type 0) → ℕ → Type 0
at_point [] i = ⊥
at_point (P ∷ Ps) zero = P
at_point (P ∷ Ps) (suc i) = at_point Ps i

-- all points before one
abbrev before : List (Type 0) → ℕ → Type 0
before Ps zero = Unit
before [] (suc k) = ⊥
before (P ∷ Ps) (suc k) = P × before Ps k

earlier : (Ps : List (Type 0)) (i k : ℕ) → i < k → before Ps k → at_point Ps i
earlier Ps i zero less all = absurd (omega arith)
earlier [] i (suc k) less all = absurd all
earlier (P ∷ Ps) zero (suc k) less all = all.0
earlier (P ∷ Ps) (suc i) (suc k) less all = earlier Ps i k (omega arith) all.1

-- the point that a verdict is about
level : Verdict → ℕ
level Length = 0
level (Range k) = 1
level (Repeat k) = 2
level (Atom k) = 3
level Bonds = 4
level (Bond k) = 5
level (Centre k) = 6
level (Sides k) = 7
level True = 8

all_before : (p : Points) (v : Verdict) → IsDifference p v → before (points p) (level v)
unfolding points level
all_before p Length is = tt
all_before p (Range k) is = (is.0, tt)
all_before p (Repeat k) is = (is.0, (is.1, tt))
all_before p (Atom k) is = (is.0.0, (is.0.1, (is.0.2, tt)))
all_before p Bonds is = (is.0.0, (is.0.1, (is.0.2, (is.1, tt))))
all_before p (Bond k) is = (is.0.0, (is.0.1, (is.0.2, (is.1, (is.2, tt)))))
all_before p (Centre k) is = (is.0.0.0, (is.0.0.1, (is.0.0.2, (is.0.1, (is.0.2, (is.0.3, tt))))))
all_before p (Sides k) is = (is.0.0.0, (is.0.0.1, (is.0.0.2, (is.0.1, (is.0.2, (is.0.3, (is.1, tt)))))))
all_before p True is = (is.0.0.0, (is.0.0.1, (is.0.0.2, (is.0.1, (is.0.2, (is.0.3, (is.1, (is.2, tt))))))))

own_fails : (p : Points) (v : Verdict) → IsDifference p v → at_point (points p) (level v) → ⊥
unfolding points level
own_fails p Length is held = is held
own_fails p (Range k) is held = not_held p.entries p.in_range k is.1 held
own_fails p (Repeat k) is held = not_held p.entries p.is_new k is.2 held
own_fails p (Atom k) is held = not_held p.entries p.atom k is.1 held
own_fails p Bonds is held = is.2 held
own_fails p (Bond k) is held = not_held p.bonds p.bond k is.3 held
own_fails p (Centre k) is held = not_held p.entries p.centre k is.1 held
own_fails p (Sides k) is held = not_held p.bonds p.sides k is.2 held
own_fails p True is held = held

-- no verdict is about an earlier point than another one
not_less : (p : Points) (v w : Verdict) → IsDifference p v → IsDifference p w → level v < level w → ⊥
not_less p v w is also less = own_fails p v is (earlier (points p) (level v) (level w) less (all_before p w also))

same_level : (p : Points) (v w : Verdict) → IsDifference p v → IsDifference p w → level v ≡ level w → v ≡ w
unfolding level
same_level p Length Length is also e = refl
same_level p (Range k) (Range l) is also e = ap Range (fails_once p.entries p.in_range k l is.1 also.1)
same_level p (Repeat k) (Repeat l) is also e = ap Repeat (fails_once p.entries p.is_new k l is.2 also.2)
same_level p (Atom k) (Atom l) is also e = ap Atom (fails_once p.entries p.atom k l is.1 also.1)
same_level p Bonds Bonds is also e = refl
same_level p (Bond k) (Bond l) is also e = ap Bond (fails_once p.bonds p.bond k l is.3 also.3)
same_level p (Centre k) (Centre l) is also e = ap Centre (fails_once p.entries p.centre k l is.1 also.1)
same_level p (Sides k) (Sides l) is also e = ap Sides (fails_once p.bonds p.sides k l is.2 also.2)
same_level p True True is also e = refl
same_level p _ _ is also e = absurd (omega arith)

pub difference_once : (p : Points) (v w : Verdict) → IsDifference p v → IsDifference p w → v ≡ w
difference_once p v w is also = elim (cases_eq (level v) (level w)) [
  | inl same ↦ same_level p v w is also same
  | inr other ↦ elim (cases_lt (level v) (level w)) [
    | inl less ↦ absurd (not_less p v w is also less)
    | inr more ↦ absurd (not_less p w v also is (omega arith))
  ]
]
