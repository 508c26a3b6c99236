-- The first limit that a text exceeds.
use Rattle.std.proofs.Common.{arith, ◌≡◌, ℕ, zero, suc, ◌+◌, ◌≤◌, ◌<◌, List, [], ◌∷◌, length, Bool, true, false, Some, None, refl, ap, inl, inr}
use Rattle.std.specs.List.{list_all}
use Rattle.std.specs.Prelude.{slice_get, not, ◌&&◌, ◌||◌, if◌then◌else◌}
use Rattle.std.proofs.lemmas.Bool.{cases_lt}
use Rattle.std.proofs.lemmas.Option.{slice_get_past}
use Rattle.mc_base.specs.declared.kind.Kind.{Kind}
use Rattle.mc_base.specs.declared.kind.Kind.TheVariants.{LimitAtoms, LimitBonds, LimitRings, LimitIsotope, LimitClass, LimitCharge}
use Rattle.mc_base.specs.Kinds.{number}
use Rattle.mc_mol.specs.declared.parts.Bond as bond
use Rattle.mc_mol.specs.Parts.{count_below, independent_rings}
use Rattle.mc_mol.specs.declared.limits.TheConstants.{ATOM_LIMIT, BOND_LIMIT, RING_LIMIT}
use Rattle.smi_graph.specs.declared.skel_atom.SkelAtom.{SkelAtom}
use Rattle.smi_graph.specs.Firsts.{IsFirstOf}
use Rattle.smi_graph.specs.Reading.{is_within_limits}
use Rattle.smi_graph.specs.Rules.{fails, has_high_isotope, has_high_class, has_high_charge, IsAbove, AtomFails, BeyondAt}
use Rattle.smi_graph.specs.Faults.{IsFirstFault}
use Rattle.smi_graph.proofs.TokenFaults.{not_both}

above_limit : (count most place : ℕ) → count ≤ most → IsAbove count most place → ⊥
above_limit count most place few w = let more = w.1 in omega arith

fails_past : (all : List SkelAtom) (p : SkelAtom → Bool) (k : ℕ) → length all ≤ k → fails p (slice_get all k) ≡ false
fails_past all p k le = ap (fails p) (slice_get_past all k le)

no_atom : (all : List SkelAtom) (p : SkelAtom → Bool) (place : ℕ) → IsFirstOf (λ k. fails p (slice_get all k)) (length all) None → AtomFails all p place → ⊥
no_atom all p place none (k, at, holds) = elim (cases_lt k (length all)) [
  | inl less ↦ not_both _ holds (none k less)
  | inr more ↦ not_both _ holds (fails_past all p k (omega arith))
]

first_atom : (all : List SkelAtom) (p : SkelAtom → Bool) (i place : ℕ) → IsFirstOf (λ k. fails p (slice_get all k)) (length all) (Some i) → AtomFails all p place → i + 1 ≤ place
first_atom all p i place first (k, at, holds) = elim (cases_lt k i) [
  | inl less ↦ absurd (not_both _ holds (first.2 k less))
  | inr more ↦ omega arith
]

before_atoms : (all : List SkelAtom) (bs : List bond.Bond) → (kind : Kind) (place : ℕ) → number kind < 28 → BeyondAt all bs kind place → ⊥
before_atoms all bs LimitAtoms place less w = omega arith
before_atoms all bs LimitBonds place less w = omega arith
before_atoms all bs LimitRings place less w = omega arith
before_atoms all bs LimitIsotope place less w = omega arith
before_atoms all bs LimitClass place less w = omega arith
before_atoms all bs LimitCharge place less w = omega arith
before_atoms all bs _ place less w = w

pub shows_atoms : (all : List SkelAtom) (bs : List bond.Bond) (n : ℕ) → (n ≡ length all) × (ATOM_LIMIT < n) → IsFirstFault (BeyondAt all bs) (Some (record { kind = LimitAtoms; place = n }))
shows_atoms all bs n h = record {
  stands = (h.0, let e = h.0 in let m = h.1 in omega arith);
  least = λ place w. let e = w.0 in let e' = h.0 in omega arith;
  first = before_atoms all bs;
  reason = (refl, refl);
}

before_bonds : (all : List SkelAtom) (bs : List bond.Bond) → length all ≤ ATOM_LIMIT → (kind : Kind) (place : ℕ) → number kind < 29 → BeyondAt all bs kind place → ⊥
before_bonds all bs a LimitAtoms place less w = above_limit _ _ place a w
before_bonds all bs a LimitBonds place less w = omega arith
before_bonds all bs a LimitRings place less w = omega arith
before_bonds all bs a LimitIsotope place less w = omega arith
before_bonds all bs a LimitClass place less w = omega arith
before_bonds all bs a LimitCharge place less w = omega arith
before_bonds all bs a _ place less w = w

pub shows_bonds : (all : List SkelAtom) (bs : List bond.Bond) (n : ℕ) → length all ≤ ATOM_LIMIT → (n ≡ length bs) × (BOND_LIMIT < n) → IsFirstFault (BeyondAt all bs) (Some (record { kind = LimitBonds; place = n }))
shows_bonds all bs n a h = record {
  stands = (h.0, let e = h.0 in let m = h.1 in omega arith);
  least = λ place w. let e = w.0 in let e' = h.0 in omega arith;
  first = before_bonds all bs a;
  reason = (refl, refl);
}

before_rings : (all : List SkelAtom) (bs : List bond.Bond) → length all ≤ ATOM_LIMIT → length bs ≤ BOND_LIMIT → (kind : Kind) (place : ℕ) → number kind < 30 → BeyondAt all bs kind place → ⊥
before_rings all bs a b LimitAtoms place less w = above_limit _ _ place a w
before_rings all bs a b LimitBonds place less w = above_limit _ _ place b w
before_rings all bs a b LimitRings place less w = omega arith
before_rings all bs a b LimitIsotope place less w = omega arith
before_rings all bs a b LimitClass place less w = omega arith
before_rings all bs a b LimitCharge place less w = omega arith
before_rings all bs a b _ place less w = w

pub shows_rings : (all : List SkelAtom) (bs : List bond.Bond) (n : ℕ) → length all ≤ ATOM_LIMIT → length bs ≤ BOND_LIMIT → (n ≡ independent_rings bs (length all)) × (RING_LIMIT < n) → IsFirstFault (BeyondAt all bs) (Some (record { kind = LimitRings; place = n }))
shows_rings all bs n a b h = record {
  stands = (h.0, let e = h.0 in let m = h.1 in omega arith);
  least = λ place w. let e = w.0 in let e' = h.0 in omega arith;
  first = before_rings all bs a b;
  reason = (refl, refl);
}

before_isotope : (all : List SkelAtom) (bs : List bond.Bond) → length all ≤ ATOM_LIMIT → length bs ≤ BOND_LIMIT → independent_rings bs (length all) ≤ RING_LIMIT → (kind : Kind) (place : ℕ) → number kind < 31 → BeyondAt all bs kind place → ⊥
before_isotope all bs a b c LimitAtoms place less w = above_limit _ _ place a w
before_isotope all bs a b c LimitBonds place less w = above_limit _ _ place b w
before_isotope all bs a b c LimitRings place less w = above_limit _ _ place c w
before_isotope all bs a b c LimitIsotope place less w = omega arith
before_isotope all bs a b c LimitClass place less w = omega arith
before_isotope all bs a b c LimitCharge place less w = omega arith
before_isotope all bs a b c _ place less w = w

pub shows_isotope : (all : List SkelAtom) (bs : List bond.Bond) (n : ℕ) → length all ≤ ATOM_LIMIT → length bs ≤ BOND_LIMIT → independent_rings bs (length all) ≤ RING_LIMIT → IsFirstOf (λ k. fails has_high_isotope (slice_get all k)) (length all) (Some n) → IsFirstFault (BeyondAt all bs) (Some (record { kind = LimitIsotope; place = n + 1 }))
shows_isotope all bs n a b c h = record {
  stands = (n, refl, h.1);
  least = λ place w. first_atom all has_high_isotope n place h w;
  first = before_isotope all bs a b c;
  reason = (refl, refl);
}

before_class : (all : List SkelAtom) (bs : List bond.Bond) → length all ≤ ATOM_LIMIT → length bs ≤ BOND_LIMIT → independent_rings bs (length all) ≤ RING_LIMIT → IsFirstOf (λ k. fails has_high_isotope (slice_get all k)) (length all) None → (kind : Kind) (place : ℕ) → number kind < 32 → BeyondAt all bs kind place → ⊥
before_class all bs a b c d LimitAtoms place less w = above_limit _ _ place a w
before_class all bs a b c d LimitBonds place less w = above_limit _ _ place b w
before_class all bs a b c d LimitRings place less w = above_limit _ _ place c w
before_class all bs a b c d LimitIsotope place less w = no_atom all has_high_isotope place d w
before_class all bs a b c d LimitClass place less w = omega arith
before_class all bs a b c d LimitCharge place less w = omega arith
before_class all bs a b c d _ place less w = w

pub shows_class : (all : List SkelAtom) (bs : List bond.Bond) (n : ℕ) → length all ≤ ATOM_LIMIT → length bs ≤ BOND_LIMIT → independent_rings bs (length all) ≤ RING_LIMIT → IsFirstOf (λ k. fails has_high_isotope (slice_get all k)) (length all) None → IsFirstOf (λ k. fails has_high_class (slice_get all k)) (length all) (Some n) → IsFirstFault (BeyondAt all bs) (Some (record { kind = LimitClass; place = n + 1 }))
shows_class all bs n a b c d h = record {
  stands = (n, refl, h.1);
  least = λ place w. first_atom all has_high_class n place h w;
  first = before_class all bs a b c d;
  reason = (refl, refl);
}

before_charge : (all : List SkelAtom) (bs : List bond.Bond) → length all ≤ ATOM_LIMIT → length bs ≤ BOND_LIMIT → independent_rings bs (length all) ≤ RING_LIMIT → IsFirstOf (λ k. fails has_high_isotope (slice_get all k)) (length all) None → IsFirstOf (λ k. fails has_high_class (slice_get all k)) (length all) None → (kind : Kind) (place : ℕ) → number kind < 33 → BeyondAt all bs kind place → ⊥
before_charge all bs a b c d e LimitAtoms place less w = above_limit _ _ place a w
before_charge all bs a b c d e LimitBonds place less w = above_limit _ _ place b w
before_charge all bs a b c d e LimitRings place less w = above_limit _ _ place c w
before_charge all bs a b c d e LimitIsotope place less w = no_atom all has_high_isotope place d w
before_charge all bs a b c d e LimitClass place less w = no_atom all has_high_class place e w
before_charge all bs a b c d e LimitCharge place less w = omega arith
before_charge all bs a b c d e _ place less w = w

pub shows_charge : (all : List SkelAtom) (bs : List bond.Bond) (n : ℕ) → length all ≤ ATOM_LIMIT → length bs ≤ BOND_LIMIT → independent_rings bs (length all) ≤ RING_LIMIT → IsFirstOf (λ k. fails has_high_isotope (slice_get all k)) (length all) None → IsFirstOf (λ k. fails has_high_class (slice_get all k)) (length all) None → IsFirstOf (λ k. fails has_high_charge (slice_get all k)) (length all) (Some n) → IsFirstFault (BeyondAt all bs) (Some (record { kind = LimitCharge; place = n + 1 }))
shows_charge all bs n a b c d e h = record {
  stands = (n, refl, h.1);
  least = λ place w. first_atom all has_high_charge n place h w;
  first = before_charge all bs a b c d e;
  reason = (refl, refl);
}

pub shows_no_limit : (all : List SkelAtom) (bs : List bond.Bond) → length all ≤ ATOM_LIMIT → length bs ≤ BOND_LIMIT → independent_rings bs (length all) ≤ RING_LIMIT → IsFirstOf (λ k. fails has_high_isotope (slice_get all k)) (length all) None → IsFirstOf (λ k. fails has_high_class (slice_get all k)) (length all) None → IsFirstOf (λ k. fails has_high_charge (slice_get all k)) (length all) None → IsFirstFault (BeyondAt all bs) None
shows_no_limit all bs a b c d e f LimitAtoms place w = above_limit _ _ place a w
shows_no_limit all bs a b c d e f LimitBonds place w = above_limit _ _ place b w
shows_no_limit all bs a b c d e f LimitRings place w = above_limit _ _ place c w
shows_no_limit all bs a b c d e f LimitIsotope place w = no_atom all has_high_isotope place d w
shows_no_limit all bs a b c d e f LimitClass place w = no_atom all has_high_class place e w
shows_no_limit all bs a b c d e f LimitCharge place w = no_atom all has_high_charge place f w
shows_no_limit all bs a b c d e f _ place w = w

-- the values of all atoms are within their limits
pub record AreWithinLimits (all : List SkelAtom) : Type 0 where
  pub isotopes : IsFirstOf (λ k. fails has_high_isotope (slice_get all k)) (length all) None
  pub classes : IsFirstOf (λ k. fails has_high_class (slice_get all k)) (length all) None
  pub charges : IsFirstOf (λ k. fails has_high_charge (slice_get all k)) (length all) None

none_of : (p : SkelAtom → Bool) → ((atom : SkelAtom) → is_within_limits atom ≡ true → p atom ≡ false) → (all : List SkelAtom) → list_all is_within_limits all ≡ true → (k : ℕ) → k < length all → fails p (slice_get all k) ≡ false
none_of p within [] each k less = absurd (omega arith)
none_of p within (atom ∷ all) each zero less = within atom (first (is_within_limits atom) (list_all is_within_limits all) each)
  where
    first : (t u : Bool) → (t && u) ≡ true → t ≡ true
    first true u h = refl
    first false u h = h
none_of p within (atom ∷ all) each (suc k) less = none_of p within all (later (is_within_limits atom) (list_all is_within_limits all) each) k (omega arith)
  where
    later : (t u : Bool) → (t && u) ≡ true → u ≡ true
    later true u h = h
    later false u h = cc

pub all_within_limits : (all : List SkelAtom) → list_all is_within_limits all ≡ true → AreWithinLimits all
all_within_limits all each = record {
  isotopes = none_of has_high_isotope (λ atom h. first (has_high_isotope atom) (has_high_class atom || has_high_charge atom) h) all each;
  classes = none_of has_high_class (λ atom h. middle (has_high_isotope atom) (has_high_class atom) (has_high_charge atom) h) all each;
  charges = none_of has_high_charge (λ atom h. last (has_high_isotope atom) (has_high_class atom) (has_high_charge atom) h) all each;
}
  where
    first : (t u : Bool) → not (t || u) ≡ true → t ≡ false
    first true u h = cc
    first false u h = refl

    middle : (t u v : Bool) → not (t || (u || v)) ≡ true → u ≡ false
    middle true u v h = cc
    middle false true v h = cc
    middle false false v h = refl

    last : (t u v : Bool) → not (t || (u || v)) ≡ true → v ≡ false
    last true u v h = cc
    last false true v h = cc
    last false false true h = cc
    last false false false h = refl
