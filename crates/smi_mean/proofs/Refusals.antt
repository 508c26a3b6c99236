-- The first kind that stands in a text.
use Rattle.std.proofs.Common.{arith, ◌≡◌, ◌∙◌, ℕ, ◌+◌, ◌≤◌, ◌<◌, List, [], length, Bool, false, Option, Some, None, refl, sym, ap, subst, inl, inr}
use Rattle.std.specs.Prelude.{map, ◌⊎◌}
use Rattle.std.proofs.lemmas.Bool.{cases_lt}
use Rattle.std.proofs.lemmas.Option.{slice_get_past}
use Rattle.mc_base.specs.declared.kind.Kind.{Kind}
use Rattle.mc_base.specs.declared.ids.AtomId.{AtomId}
use Rattle.mc_base.specs.declared.kind.Kind.TheVariants.{NotBuilt, BadToken, Wildcard, OtherChirality, BadOrder, ParenOpen, RingOpen, RingClash, RingPair, AromaticBond, LimitAtoms, LimitBonds, LimitRings, LimitIsotope, LimitClass, LimitCharge, LimitValence, HydrogenOnHydrogen, NoPlacement, NotACentre}
use Rattle.mc_base.specs.declared.refusal.Refusal.{Refusal}
use Rattle.mc_base.specs.declared.refusal.Stop.{Stop}
use Rattle.mc_base.specs.declared.refusal.Stop.TheVariants.{Refused, NoMemory}
use Rattle.mc_base.specs.Kinds.{number}
use Rattle.mc_base.specs.Shown.{HasReason, IsFirst}
use Rattle.mc_mol.specs.declared.parts.Bond.{Bond}
use Rattle.mc_mol.specs.declared.parts.Slot.{Slot}
use Rattle.mc_mol.specs.Molecule.{Molecule}
use Rattle.mc_mol.specs.Limits.{overvalent_at, hydrogen_on_hydrogen_at}
use Rattle.smi_graph.specs.declared.skel_atom.SkelAtom.{SkelAtom}
use Rattle.smi_graph.specs.Firsts.{IsFirstOf}
use Rattle.smi_graph.specs.Rules.{atoms_in, bonds_in, text_bonds_in, BreaksAt}
use Rattle.smi_graph.specs.declared.text_bond.TextBond.{TextBond}
use Rattle.smi_graph.specs.Links.{bond_of}
use Rattle.smi_graph.specs.Skeletons.{TextGraph, IsSkeleton, IsNoBarrier, IsBroken}
use Rattle.smi_graph.proofs.TokenFaults.{not_both, earliest}
use Rattle.smi_mean.specs.Meaning.{meaning_of, with_centres}
use Rattle.smi_mean.specs.MeantCentres.{text_centres}
use Rattle.smi_mean.specs.Placements.{IsPlacement, HasNoPlacement, meaning_under}
use Rattle.smi_mean.specs.Barriers.{IsBarrierIn, IsTextBarrier}
use Rattle.smi_mean.specs.Rules.{IsWrongAtom, IsWrongIn, StandsAt, NoneStands, SmilesStands, IsRefused}
use Rattle.smi_mean.specs.Meant.{IsRight, IsMeantBy, IsMarkedWrongly, IsRefusedBy, IsFaulty}
use Rattle.smi_mean.specs.WrongCentres.{NotACentreAt}
use Rattle.smi_mean.proofs.CentresRead.{centres_read}
use Rattle.smi_mean.proofs.Needing.{overvalent_same}
use Rattle.smi_mean.proofs.WrongMarks.{none_before, right_nowhere, wrong_stands as mark_stands}

-- what breaks the tokens of a text stands in it
breaks_stands : (text : List ℕ) (kind : Kind) (place : ℕ) → BreaksAt text kind place → StandsAt text kind place
breaks_stands text NoPlacement place h = absurd h
breaks_stands text NotACentre place h = absurd h
breaks_stands text LimitValence place h = absurd h
breaks_stands text HydrogenOnHydrogen place h = absurd h
breaks_stands text _ place h = h

-- an atom of a skeleton is wrong where it is in the molecule without placed bonds
to_skeleton : (atoms : List SkelAtom) (bonds : List Bond) (kind : Kind) (place : ℕ) → IsWrongAtom (meaning_of atoms bonds) kind place → IsWrongIn atoms bonds kind place
to_skeleton atoms bonds LimitValence place (k, at, bad) = (k, at, overvalent_same atoms bonds k ∙ bad)
to_skeleton atoms bonds HydrogenOnHydrogen place h = h
to_skeleton atoms bonds _ place h = absurd h

to_molecule : (atoms : List SkelAtom) (bonds : List Bond) (kind : Kind) (place : ℕ) → IsWrongIn atoms bonds kind place → IsWrongAtom (meaning_of atoms bonds) kind place
to_molecule atoms bonds LimitValence place (k, at, bad) = (k, at, sym (overvalent_same atoms bonds k) ∙ bad)
to_molecule atoms bonds HydrogenOnHydrogen place h = h
to_molecule atoms bonds _ place h = absurd h

-- what is wrong with an atom of its skeleton stands in it
wrong_stands : (text : List ℕ) (kind : Kind) (place : ℕ) → IsWrongIn (atoms_in text) (bonds_in text) kind place → StandsAt text kind place
wrong_stands text LimitValence place h = h
wrong_stands text HydrogenOnHydrogen place h = h
wrong_stands text _ place h = absurd h

-- there is no placement
record IsNowhere (text : List ℕ) (kind : Kind) : Type 0 where
  number_is : number kind ≡ 39
  none : HasNoPlacement (atoms_in text) (text_bonds_in text)

-- a mark is wrong
record IsMarkedAt (text : List ℕ) (kind : Kind) (place : ℕ) : Type 0 where
  number_is : number kind ≡ 40
  stands : NotACentreAt text place

abbrev IsLate : List ℕ → Kind → ℕ → Type 0
IsLate text kind place = IsNowhere text kind ⊎ IsMarkedAt text kind place

late : (text : List ℕ) (kind : Kind) (place : ℕ) → IsLate text kind place → 39 ≤ number kind
late text kind place (inl p) = let is = p.number_is in omega arith
late text kind place (inr p) = let is = p.number_is in omega arith

cases : (text : List ℕ) (kind : Kind) (place : ℕ) → StandsAt text kind place → BreaksAt text kind place ⊎ (IsWrongIn (atoms_in text) (bonds_in text) kind place ⊎ IsLate text kind place)
cases text NoPlacement place h = inr (inr (inl (record { number_is = refl; none = h.1 })))
cases text NotACentre place h = inr (inr (inr (record { number_is = refl; stands = h })))
cases text LimitValence place h = inr (inl h)
cases text HydrogenOnHydrogen place h = inr (inl h)
cases text _ place h = inl h

wrong_late : (atoms : List SkelAtom) (bonds : List Bond) (kind : Kind) (place : ℕ) → IsWrongIn atoms bonds kind place → 37 ≤ number kind
wrong_late atoms bonds LimitValence place w = omega arith
wrong_late atoms bonds HydrogenOnHydrogen place w = omega arith
wrong_late atoms bonds _ place w = absurd w

wrong_early : (atoms : List SkelAtom) (bonds : List Bond) (kind : Kind) (place : ℕ) → IsWrongIn atoms bonds kind place → number kind < 39
wrong_early atoms bonds LimitValence place w = omega arith
wrong_early atoms bonds HydrogenOnHydrogen place w = omega arith
wrong_early atoms bonds _ place w = absurd w

-- what is said beside a kind that has no barrier is said whatever the barriers are
reason_kept : (P : List AtomId → ℕ → Type 0) (kind : Kind) (barrier : List AtomId) (odd : ℕ) → HasReason IsNoBarrier kind barrier odd → HasReason P kind barrier odd
reason_kept P NoPlacement barrier odd h = absurd h
reason_kept P _ barrier odd h = h

-- only the kinds of the tokens' rules break them
few_break : (text : List ℕ) (kind : Kind) (place : ℕ) → BreaksAt text kind place → number kind < 37
few_break text NotBuilt place h = omega arith
few_break text BadToken place h = omega arith
few_break text Wildcard place h = omega arith
few_break text OtherChirality place h = omega arith
few_break text BadOrder place h = omega arith
few_break text ParenOpen place h = omega arith
few_break text RingOpen place h = omega arith
few_break text RingClash place h = omega arith
few_break text RingPair place h = omega arith
few_break text AromaticBond place h = omega arith
few_break text LimitAtoms place h = omega arith
few_break text LimitBonds place h = omega arith
few_break text LimitRings place h = omega arith
few_break text LimitIsotope place h = omega arith
few_break text LimitClass place h = omega arith
few_break text LimitCharge place h = omega arith
few_break text _ place h = absurd h

first_stands : (text : List ℕ) (r : Refusal) → IsFirst (BreaksAt text) IsNoBarrier r → IsFirst (StandsAt text) (IsTextBarrier text) r
first_stands text r f =
    let few = few_break text r.kind r.place f.stands in
    record {
      stands = breaks_stands text r.kind r.place f.stands;
      least = λ place h. elim (cases text r.kind place h) [
        | inl b ↦ f.least place b
        | inr later ↦ elim later [
          | inl w ↦ let after = wrong_late (atoms_in text) (bonds_in text) r.kind place w in absurd (omega arith)
          | inr p ↦ let after = late text r.kind place p in absurd (omega arith)
        ]
      ];
      first = λ kind place less h. elim (cases text kind place h) [
        | inl b ↦ f.first kind place less b
        | inr later ↦ elim later [
          | inl w ↦ let after = wrong_late (atoms_in text) (bonds_in text) kind place w in absurd (omega arith)
          | inr p ↦ let after = late text kind place p in absurd (omega arith)
        ]
      ];
      reason = reason_kept (IsTextBarrier text) r.kind r.barrier r.odd f.reason;
    }

-- a refusal of the skeleton is one of the text
pub refused_of_broken : (text : List ℕ) (stop : Stop) → IsBroken text stop → IsRefused text stop
refused_of_broken text (Refused r) h = first_stands text r h
refused_of_broken text NoMemory h = tt

-- a test that fails at each atom fails everywhere
overvalent_past : (m : Molecule) (k : ℕ) → length m.atoms ≤ k → overvalent_at m k ≡ false
overvalent_past m k le = rw (slice_get_past m.atoms k le) refl

hydrogen_past : (m : Molecule) (k : ℕ) → length m.atoms ≤ k → hydrogen_on_hydrogen_at m k ≡ false
hydrogen_past m k le = rw (slice_get_past m.atoms k le) refl

everywhere : (p : ℕ → Bool) (n : ℕ) → ((k : ℕ) → n ≤ k → p k ≡ false) → IsFirstOf p n None → (k : ℕ) → p k ≡ false
everywhere p n past none k = elim (cases_lt k n) [
  | inl less ↦ none k less
  | inr more ↦ past k (omega arith)
]

pub never_overvalent : (m : Molecule) → IsFirstOf (overvalent_at m) (length m.atoms) None → (k : ℕ) → overvalent_at m k ≡ false
never_overvalent m none = everywhere (overvalent_at m) (length m.atoms) (overvalent_past m) none

pub never_on_hydrogen : (m : Molecule) → IsFirstOf (hydrogen_on_hydrogen_at m) (length m.atoms) None → (k : ℕ) → hydrogen_on_hydrogen_at m k ≡ false
never_on_hydrogen m none = everywhere (hydrogen_on_hydrogen_at m) (length m.atoms) (hydrogen_past m) none

before_valence : (m : Molecule) (kind : Kind) (place : ℕ) → number kind < 37 → IsWrongAtom m kind place → ⊥
before_valence m LimitValence place less w = omega arith
before_valence m HydrogenOnHydrogen place less w = omega arith
before_valence m _ place less w = w

pub shows_valence : (m : Molecule) (i : ℕ) → IsFirstOf (overvalent_at m) (length m.atoms) (Some i)
    → IsFirst (IsWrongAtom m) IsNoBarrier (record { kind = LimitValence; place = i + 1; barrier = []; odd = 0 })
shows_valence m i h = record {
  stands = (i, refl, h.1);
  least = λ place (k, at, bad). let le = earliest (overvalent_at m) (length m.atoms) i k h bad in omega arith;
  first = before_valence m;
  reason = (refl, refl);
}

before_hydrogen : (m : Molecule) → ((k : ℕ) → overvalent_at m k ≡ false) → (kind : Kind) (place : ℕ) → number kind < 38 → IsWrongAtom m kind place → ⊥
before_hydrogen m fine LimitValence place less (k, at, bad) = not_both (overvalent_at m k) bad (fine k)
before_hydrogen m fine HydrogenOnHydrogen place less w = omega arith
before_hydrogen m fine _ place less w = w

pub shows_hydrogen : (m : Molecule) (i : ℕ) → ((k : ℕ) → overvalent_at m k ≡ false) → IsFirstOf (hydrogen_on_hydrogen_at m) (length m.atoms) (Some i)
    → IsFirst (IsWrongAtom m) IsNoBarrier (record { kind = HydrogenOnHydrogen; place = i + 1; barrier = []; odd = 0 })
shows_hydrogen m i fine h = record {
  stands = (i, refl, h.1);
  least = λ place (k, at, bad). let le = earliest (hydrogen_on_hydrogen_at m) (length m.atoms) i k h bad in omega arith;
  first = before_hydrogen m fine;
  reason = (refl, refl);
}

-- no kind stands at an atom of a molecule
none_wrong : (m : Molecule) → ((k : ℕ) → overvalent_at m k ≡ false) → ((k : ℕ) → hydrogen_on_hydrogen_at m k ≡ false) → (kind : Kind) (place : ℕ) → IsWrongAtom m kind place → ⊥
none_wrong m valences hydrogens LimitValence place (k, at, bad) = not_both (overvalent_at m k) bad (valences k)
none_wrong m valences hydrogens HydrogenOnHydrogen place (k, at, bad) = not_both (hydrogen_on_hydrogen_at m k) bad (hydrogens k)
none_wrong m valences hydrogens _ place w = w

-- The skeleton's parts are those of the text

abbrev SkeletonFaulty : List SkelAtom → List Bond → Refusal → Type 0
SkeletonFaulty atoms bonds r = IsFirst (IsWrongIn atoms bonds) IsNoBarrier r

of_molecule : (atoms : List SkelAtom) (bonds : List Bond) (r : Refusal) → IsFirst (IsWrongAtom (meaning_of atoms bonds)) IsNoBarrier r → SkeletonFaulty atoms bonds r
of_molecule atoms bonds r f = record {
  stands = to_skeleton atoms bonds r.kind r.place f.stands;
  least = λ place w. f.least place (to_molecule atoms bonds r.kind place w);
  first = λ kind place less w. f.first kind place less (to_molecule atoms bonds kind place w);
  reason = f.reason;
}

-- a relation of a skeleton's parts, of the text
at_text : (P : List SkelAtom → List Bond → Type 0) (text : List ℕ) (skeleton : TextGraph) → IsSkeleton text skeleton → P skeleton.atoms (map bond_of skeleton.bonds) → P (atoms_in text) (bonds_in text)
at_text P text skeleton s h =
    subst (λ (x : List TextBond). P (atoms_in text) (map bond_of x)) s.bonds (subst (λ (x : List SkelAtom). P x (map bond_of skeleton.bonds)) s.atoms h)

at_bonds : (P : List SkelAtom → List TextBond → Type 0) (text : List ℕ) (skeleton : TextGraph) → IsSkeleton text skeleton → P skeleton.atoms skeleton.bonds → P (atoms_in text) (text_bonds_in text)
at_bonds P text skeleton s h = subst (λ (x : List TextBond). P (atoms_in text) x) s.bonds (subst (λ (x : List SkelAtom). P x skeleton.bonds) s.atoms h)

shows_faulty : (text : List ℕ) (r : Refusal) → ((kind : Kind) (place : ℕ) → BreaksAt text kind place → ⊥) → SkeletonFaulty (atoms_in text) (bonds_in text) r → IsFirst (StandsAt text) (IsTextBarrier text) r
shows_faulty text r accepted f =
    let early = wrong_early (atoms_in text) (bonds_in text) r.kind r.place f.stands in
    record {
      stands = wrong_stands text r.kind r.place f.stands;
      least = λ place h. elim (cases text r.kind place h) [
        | inl b ↦ absurd (accepted r.kind place b)
        | inr later ↦ elim later [
          | inl w ↦ f.least place w
          | inr p ↦ let after = late text r.kind place p in absurd (omega arith)
        ]
      ];
      first = λ kind place less h. elim (cases text kind place h) [
        | inl b ↦ accepted kind place b
        | inr later ↦ elim later [
          | inl w ↦ f.first kind place less w
          | inr p ↦ let after = late text kind place p in absurd (omega arith)
        ]
      ];
      reason = reason_kept (IsTextBarrier text) r.kind r.barrier r.odd f.reason;
    }

right_at_text : (text : List ℕ) (skeleton : TextGraph) → IsSkeleton text skeleton → IsRight skeleton.atoms (map bond_of skeleton.bonds) → IsRight (atoms_in text) (bonds_in text)
right_at_text text skeleton s h = at_text IsRight text skeleton s h

-- no kind stands at an atom of a skeleton
none_wrong_in : (atoms : List SkelAtom) (bonds : List Bond) → IsRight atoms bonds → (kind : Kind) (place : ℕ) → IsWrongIn atoms bonds kind place → ⊥
none_wrong_in atoms bonds right kind place w = none_wrong (meaning_of atoms bonds) right.valences right.hydrogens kind place (to_molecule atoms bonds kind place w)

abbrev unplaced : List AtomId → ℕ → Refusal
unplaced barrier odd = record { kind = NoPlacement; place = 0; barrier = barrier; odd = odd }

shows_unplaced : (text : List ℕ) (barrier : List AtomId) (odd : ℕ) → ((kind : Kind) (place : ℕ) → BreaksAt text kind place → ⊥) → IsRight (atoms_in text) (bonds_in text)
    → IsTextBarrier text barrier odd → HasNoPlacement (atoms_in text) (text_bonds_in text) → IsFirst (StandsAt text) (IsTextBarrier text) (unplaced barrier odd)
shows_unplaced text barrier odd accepted right barrier_is none = record {
  stands = (refl, none);
  least = λ place h. omega arith;
  first = λ kind place less h. elim (cases text kind place h) [
    | inl b ↦ accepted kind place b
    | inr later ↦ elim later [
      | inl w ↦ none_wrong_in (atoms_in text) (bonds_in text) right kind place w
      | inr p ↦ let after = late text kind place p in absurd (omega arith)
    ]
  ];
  reason = barrier_is;
}

unplaced_is : (r : Refusal) → r.kind ≡ NoPlacement → r.place ≡ 0 → unplaced r.barrier r.odd ≡ r
unplaced_is r kind place = made r.kind r.place r.barrier r.odd kind place
  where
    made : (k : Kind) (p : ℕ) (barrier : List AtomId) (odd : ℕ) → k ≡ NoPlacement → p ≡ 0 → unplaced barrier odd ≡ record { kind = k; place = p; barrier = barrier; odd = odd }
    made k p barrier odd e f = rw (e, f) refl

-- a refusal of the skeleton's molecules is one of the text
refused_of_faulty : (text : List ℕ) (skeleton : TextGraph) (stop : Stop) → IsSkeleton text skeleton → IsFaulty skeleton stop → IsRefused text stop
refused_of_faulty text skeleton (Refused r) s (inl h) =
    shows_faulty text r s.accepted (at_text (λ atoms bonds. SkeletonFaulty atoms bonds r) text skeleton s (of_molecule skeleton.atoms (map bond_of skeleton.bonds) r h))
refused_of_faulty text skeleton (Refused r) s (inr u) =
    subst (IsFirst (StandsAt text) (IsTextBarrier text)) (unplaced_is r u.unplaced.kind u.unplaced.place)
    (shows_unplaced text r.barrier r.odd s.accepted (right_at_text text skeleton s u.right)
    (at_bonds (λ atoms bonds. IsBarrierIn atoms bonds r.barrier r.odd) text skeleton s u.unplaced.barred.barrier_is)
    (at_bonds HasNoPlacement text skeleton s u.unplaced.barred.none))
refused_of_faulty text skeleton NoMemory s h = tt

-- the first wrong mark is the first kind that stands
shows_marked : (text : List ℕ) (skeleton : TextGraph) (r : Refusal) → IsSkeleton text skeleton → IsMarkedWrongly skeleton r → IsFirst (StandsAt text) (IsTextBarrier text) r
shows_marked text skeleton r s is =
    let m : Molecule = is.m in
    let under = is.unmarked.under in
    let rings = is.marked.rings in
    let wrong = is.marked.wrong in
    let placement : IsPlacement (atoms_in text) (text_bonds_in text) under.placed = at_bonds (λ atoms bonds. IsPlacement atoms bonds under.placed) text skeleton s under.placement in
    subst (IsFirst (StandsAt text) (IsTextBarrier text)) (sym wrong.is) (record {
      stands = mark_stands text skeleton m rings wrong.k s under is.marked.are_rings wrong.wrong;
      least = λ place h. none_before text skeleton m rings wrong.k s under is.marked.are_rings wrong.before place h;
      first = λ kind place less h. elim (cases text kind place h) [
        | inl b ↦ s.accepted kind place b
        | inr later ↦ elim later [
          | inl w ↦ none_wrong_in (atoms_in text) (bonds_in text) (right_at_text text skeleton s is.unmarked.right) kind place w
          | inr p ↦ elim p [
            | inl nowhere ↦ nowhere.none under.placed placement
            | inr marked ↦ let after = marked.number_is in absurd (omega arith)
          ]
        ]
      ];
      reason = (refl, refl);
    })

-- a refusal of the skeleton is one of the text
pub refused_of_skeleton : (text : List ℕ) (skeleton : TextGraph) (stop : Stop) → IsSkeleton text skeleton → IsRefusedBy skeleton stop → IsRefused text stop
refused_of_skeleton text skeleton (Refused r) s (inl h) = refused_of_faulty text skeleton (Refused r) s h
refused_of_skeleton text skeleton (Refused r) s (inr h) = shows_marked text skeleton r s h
refused_of_skeleton text skeleton NoMemory s h = tt

-- A text with no broken token and no wrong atom stands for the molecule of its skeleton under a placement.
pub stands_of : (text : List ℕ) (skeleton : TextGraph) (m : Molecule) → IsSkeleton text skeleton → IsMeantBy skeleton m → SmilesStands text m
stands_of text skeleton m s h =
    let placement : IsPlacement (atoms_in text) (text_bonds_in text) h.under.placed = at_bonds (λ atoms bonds. IsPlacement atoms bonds h.under.placed) text skeleton s h.under.placement in
    record {
      accepted = λ kind place w. elim (cases text kind place w) [
        | inl b ↦ s.accepted kind place b
        | inr later ↦ elim later [
          | inl a ↦ none_wrong_in (atoms_in text) (bonds_in text) (right_at_text text skeleton s h.right) kind place a
          | inr p ↦ elim p [
            | inl nowhere ↦ nowhere.none h.under.placed placement
            | inr marked ↦ right_nowhere text skeleton m place s h.under h.marks marked.stands
          ]
        ]
      ];
      molecule = record {
        placed = h.under.placed;
        placement = placement;
        molecule = at_bonds (λ atoms bonds. m ≡ with_centres (text_centres text) (meaning_under atoms (map bond_of bonds) h.under.placed)) text skeleton s
            (h.under.molecule ∙ ap (λ (centres : List (Option (List Slot))). with_centres centres (meaning_under skeleton.atoms (map bond_of skeleton.bonds) h.under.placed)) (centres_read text skeleton s));
      };
    }

-- a text in which no kind stands is refused for want of memory alone
pub none_refused : (text : List ℕ) (stop : Stop) → IsRefused text stop → NoneStands text → stop ≡ NoMemory
none_refused text (Refused r) shown none = absurd (none r.kind r.place shown.stands)
none_refused text NoMemory shown none = refl

-- a skeleton that is read of the front of a line
pub skeleton_of_line : (front text : List ℕ) (skeleton : TextGraph) → front ≡ text → IsSkeleton front skeleton → IsSkeleton text skeleton
skeleton_of_line front text skeleton same s = subst (λ (x : List ℕ). IsSkeleton x skeleton) same s

pub broken_line : (front text : List ℕ) (stop : Stop) → front ≡ text → IsBroken front stop → IsBroken text stop
broken_line front text stop same h = subst (λ (x : List ℕ). IsBroken x stop) same h

-- a text without a placement has a skeleton
pub not_broken : (text : List ℕ) (refusal broken : Refusal) → ((kind : Kind) (place : ℕ) → number kind < number refusal.kind → StandsAt text kind place → ⊥) → refusal.kind ≡ NoPlacement
    → IsBroken text (Refused broken) → ⊥
not_broken text refusal broken first kind h =
    let few = few_break text broken.kind broken.place h.stands in
    let at = ap number kind in
    first broken.kind broken.place (omega arith) (breaks_stands text broken.kind broken.place h.stands)
