-- A molecule with one more atom, and with one more bond.
use Rattle.std.proofs.Common.{◌≡◌, ◌≢◌, ℕ, zero, suc, ◌+◌, ◌<◌, ◌≤◌, ◌↔◌, Bool, true, false, ◌||◌, ◌==◌, List, [], ◌∷◌, ◌++◌, Option, Some, None, Contains, length, reverse, take, get_or, slice_get, subst, sym, ap, ◌∙◌, arith, refl, inl, inr}
use Rattle.std.proofs.Math.Bool.{or-false}
use Rattle.std.specs.List.{All, list_any}
use Rattle.std.proofs.lemmas.Bool.{cases_eq, or_parts, ne_eqb}
use Rattle.std.proofs.lemmas.Option.{slice_get_within}
use Rattle.std.proofs.lemmas.List.Folds.{list_any-append}
use Rattle.std.proofs.lemmas.List.{length-append, length-reverse, take_more, append-nil, get_or_append_left}
use Rattle.std.proofs.Math.Seq.{get_or-append_seam}
use Rattle.std.proofs.lemmas.List.Elements.{All-append}
use Rattle.std.proofs.lemmas.List.Quantifiers.{all_pairs_push}
use Rattle.mc_base.specs.declared.ids.BondId.{BondId}
use Rattle.smallvec.specs.SmallVec.{SmallVec}
use Rattle.mc_mol.specs.declared.parts.Atom.{Atom}
use Rattle.mc_mol.specs.declared.parts.Bond.{Bond}
use Rattle.mc_mol.specs.declared.parts.Sides.{Sides}
use Rattle.mc_mol.specs.declared.parts.Slot.{Slot}
use Rattle.mc_mol.specs.declared.parts.Slot.TheVariants.{At}
use Rattle.mc_mol.specs.declared.parts.HalfEdge.{HalfEdge}
use Rattle.mc_mol.specs.Molecule.{Molecule, joins, are_joined}
use Rattle.mc_mol.specs.HalfEdges.{half_edge, half_edges_by, degree}
use Rattle.mc_mol.specs.WellFormed.{IsBond, IsMolecule, IsPlaceList, IsSides}
use Rattle.mc_mol.specs.Stored.{HoldsHalfEdges}
use Rattle.mc_mol.proofs.Lists.{reverse_push, All-reverse, slice_get-append_left, slice_get-push_none}
use Rattle.mc_mol.proofs.Halves.{half_edges_by-none, half_edge-first, half_edge-second, half_edge-other, length-half_edges_by, degree_le, and_false}

length_push : {A : Type 0} (xs : List A) (x : A) → length (xs ++ x ∷ []) ≡ length xs + 1
length_push xs x = length-append xs (x ∷ [])

wider : (n more : ℕ) (bond : Bond) → n ≤ more → IsBond n bond → IsBond more bond
wider n more bond le is = record {
  first = let h = is.first in omega arith;
  second = let h = is.second in omega arith;
  different = is.different;
  order_low = is.order_low;
  order_high = is.order_high;
}

abbrev pub with_atom : Molecule → Atom → Molecule
with_atom m atom = record m { atoms = m.atoms ++ atom ∷ []; centres = m.centres ++ None ∷ [] }

with_atom-IsMolecule : (m : Molecule) (atom : Atom) → IsMolecule m → length m.atoms ≢ 999 → IsMolecule (with_atom m atom)
with_atom-IsMolecule m atom is room =
    let one : length (m.atoms ++ atom ∷ []) ≡ length m.atoms + 1 = length_push m.atoms atom in
    let other : length (m.centres ++ None ∷ []) ≡ length m.centres + 1 = length_push m.centres None in
    record {
      few_atoms = omega (arith, is.few_atoms);
      few_bonds = is.few_bonds;
      centre_count = omega (arith, is.centre_count);
      side_count = is.side_count;
      bonds = λ k d h. wider _ _ _ (omega arith) (is.bonds k d h);
      once = is.once;
      centres = λ a places at. is.centres a places (slice_get-push_none m.centres a places at);
      sides = is.sides;
    }

with_atom-HoldsHalfEdges : (m : Molecule) (lists : List (SmallVec HalfEdge)) (atom : Atom) (list : SmallVec HalfEdge) → IsMolecule m → HoldsHalfEdges (length m.atoms) m.bonds lists
    → list.items ≡ [] → HoldsHalfEdges (length (m.atoms ++ atom ∷ [])) m.bonds (lists ++ list ∷ [])
with_atom-HoldsHalfEdges m lists atom list is holds empty =
    let one : length (m.atoms ++ atom ∷ []) ≡ length m.atoms + 1 = length_push m.atoms atom in
    let other : length (lists ++ list ∷ []) ≡ length lists + 1 = length_push lists list in
    record {
      count = omega (arith, holds.count);
      each = λ a d h. each_with_atom a d (omega arith);
    }
  where
    last : (d : SmallVec HalfEdge) → get_or (lists ++ list ∷ []) (length m.atoms) d ≡ list
    last d = subst (λ (n : ℕ). get_or (lists ++ list ∷ []) n d ≡ list) holds.count (get_or-append_seam lists list [] d)

    each_with_atom : (a : ℕ) (d : SmallVec HalfEdge) → a < length m.atoms + 1 → (get_or (lists ++ list ∷ []) a d).items ≡ half_edges_by (reverse m.bonds) a
    each_with_atom a d h = elim (cases_eq a (length m.atoms)) [
      | inl here ↦ rw (here, last d, empty) (sym (half_edges_by-none (reverse m.bonds) (length m.atoms) (length m.atoms) (All-reverse (IsBond (length m.atoms)) m.bonds is.bonds) (omega arith)))
      | inr less ↦
          let below : a < length m.atoms = omega arith in
          let within : a < length lists = omega (arith, holds.count) in
          ap (λ (l : SmallVec HalfEdge). l.items) (get_or_append_left lists (list ∷ []) d a within) ∙ holds.each a d below
    ]

abbrev pub with_bond : Molecule → Bond → Molecule
with_bond m bond = record m { bonds = m.bonds ++ bond ∷ []; sides = m.sides ++ None ∷ [] }

one_bond : (n : ℕ) (bond : Bond) → IsBond n bond → All (IsBond n) (bond ∷ [])
one_bond n bond is zero d h = is
one_bond n bond is (suc k) d h = absurd (omega arith)

none_joins : (u v : ℕ) (bonds : List Bond) → are_joined bonds u v ≡ false → All (λ (bond : Bond). joins bond u v ≡ false) bonds
none_joins u v [] e k d h = absurd (omega arith)
none_joins u v (bond ∷ bonds) e zero d h = (or_parts (joins bond u v) (are_joined bonds u v) e).0
none_joins u v (bond ∷ bonds) e (suc k) d h = none_joins u v bonds (or_parts (joins bond u v) (are_joined bonds u v) e).1 k d (omega arith)

-- a bond changes nothing of whether other atoms are joined
joins_other : (bond : Bond) (a v : ℕ) → a ≢ bond.first.0 → a ≢ bond.second.0 → joins bond a v ≡ false
joins_other bond a v first second = rw (ne_eqb bond.first.0 a (λ e. first (sym e)), ne_eqb bond.second.0 a (λ e. second (sym e))) (sym (and_false (bond.first.0 == v)))

are_joined-push : (bonds : List Bond) (bond : Bond) (a v : ℕ) → a ≢ bond.first.0 → a ≢ bond.second.0 → are_joined (bonds ++ bond ∷ []) a v ≡ are_joined bonds a v
are_joined-push bonds bond a v first second =
    list_any-append (λ (b : Bond). joins b a v) bonds (bond ∷ []) ∙ ap (λ b. are_joined bonds a v || (b || false)) (joins_other bond a v first second) ∙ or-false (are_joined bonds a v)

are_joined-more : (bonds : List Bond) (bond : Bond) (u v : ℕ) → are_joined bonds u v ≡ true → are_joined (bonds ++ bond ∷ []) u v ≡ true
are_joined-more bonds bond u v e = list_any-append (λ (b : Bond). joins b u v) bonds (bond ∷ []) ∙ ap (λ b. b || list_any (λ (b : Bond). joins b u v) (bond ∷ [])) e

centre_is_other : (m : Molecule) (a u : ℕ) (places : List Slot) → slice_get m.centres a ≡ Some (Some places) → slice_get m.centres u ≡ Some None → a ≢ u
centre_is_other m a u places at free e = let same : slice_get m.centres a ≡ slice_get m.centres u = ap (λ (n : ℕ). slice_get m.centres n) e in cc

with_bond-IsPlaceList : (m : Molecule) (bond : Bond) (a : ℕ) (places : List Slot) → a ≢ bond.first.0 → a ≢ bond.second.0 → IsPlaceList m.bonds a places
    → IsPlaceList (m.bonds ++ bond ∷ []) a places
with_bond-IsPlaceList m bond a places first second is = record {
  four = is.four;
  different = is.different;
  neighbours = λ v. subst (λ (b : Bool). Contains places (At (record { 0 = v })) ↔ (b ≡ true)) (sym (are_joined-push m.bonds bond a v first second)) (is.neighbours v);
}

with_bond-IsSides : (bonds : List Bond) (more bond : Bond) (s : Sides) → IsSides bonds bond s → IsSides (bonds ++ more ∷ []) bond s
with_bond-IsSides bonds more bond s is = record {
  double = is.double;
  at_first = are_joined-more bonds more bond.first.0 s.first.0 is.at_first;
  at_second = are_joined-more bonds more bond.second.0 s.second.0 is.at_second;
  first = is.first;
  second = is.second;
}

with_bond-IsMolecule : (m : Molecule) (bond : Bond) → IsMolecule m → IsBond (length m.atoms) bond → are_joined m.bonds bond.first.0 bond.second.0 ≡ false
    → slice_get m.centres bond.first.0 ≡ Some None → slice_get m.centres bond.second.0 ≡ Some None
    → length m.bonds ≢ 999 → IsMolecule (with_bond m bond)
with_bond-IsMolecule m bond is fits free first_free second_free room =
    let one : length (m.bonds ++ bond ∷ []) ≡ length m.bonds + 1 = length_push m.bonds bond in
    let other : length (m.sides ++ None ∷ []) ≡ length m.sides + 1 = length_push m.sides None in
    record {
      few_atoms = is.few_atoms;
      few_bonds = omega (arith, is.few_bonds);
      centre_count = is.centre_count;
      side_count = omega (arith, is.side_count);
      bonds = All-append (IsBond (length m.atoms)) m.bonds (bond ∷ []) is.bonds (one_bond (length m.atoms) bond fits);
      once = all_pairs_push (λ (b c : Bond). joins b c.first.0 c.second.0 ≡ false) m.bonds bond is.once (none_joins bond.first.0 bond.second.0 m.bonds free);
      centres = λ a places at. with_bond-IsPlaceList m bond a places (centre_is_other m a bond.first.0 places at first_free) (centre_is_other m a bond.second.0 places at second_free)
          (is.centres a places at);
      sides = λ k b s b_at s_at.
          let s_before : slice_get m.sides k ≡ Some (Some s) = slice_get-push_none m.sides k s s_at in
          let within : k < length m.bonds = omega (arith, slice_get_within m.sides k (Some s) s_before, is.side_count) in
          with_bond-IsSides m.bonds bond b s (is.sides k b s (sym (slice_get-append_left m.bonds (bond ∷ []) k within) ∙ b_at) s_before);
    }

-- the lists are the half-edges of these bonds, for so many atoms
abbrev pub HoldAt : ℕ → List Bond → List (SmallVec HalfEdge) → Type 0
HoldAt atoms bonds lists = (a : ℕ) (d : SmallVec HalfEdge) → a < atoms → (get_or lists a d).items ≡ half_edges_by (reverse bonds) a

-- what the lists of half-edges are with one more bond
pub record Gains (bonds : List Bond) (old new : List (SmallVec HalfEdge)) (bond : Bond) (id : BondId) : Type 0 where
  pub number : id.0 ≡ length bonds
  pub at_first : (d e : SmallVec HalfEdge) → (get_or new bond.first.0 d).items
      ≡ (get_or old bond.first.0 d).items ++ record { bond = id; to = bond.second; twin = length (get_or old bond.second.0 e).items } ∷ []
  pub at_second : (d e : SmallVec HalfEdge) → (get_or new bond.second.0 d).items
      ≡ (get_or old bond.second.0 d).items ++ record { bond = id; to = bond.first; twin = length (get_or old bond.first.0 e).items } ∷ []
  pub others : (k : ℕ) (d : SmallVec HalfEdge) → k ≢ bond.first.0 → k ≢ bond.second.0 → (get_or new k d).items ≡ (get_or old k d).items

-- the same where room was taken before, which changes no item
pub gains_of : (bonds : List Bond) (old room new : List (SmallVec HalfEdge)) (bond : Bond) (id : BondId) → id.0 ≡ length bonds
    → ((k : ℕ) (d : SmallVec HalfEdge) → (get_or room k d).items ≡ (get_or old k d).items)
    → ((d e : SmallVec HalfEdge) → (get_or new bond.first.0 d).items
    ≡ (get_or room bond.first.0 d).items ++ record { bond = id; to = bond.second; twin = length (get_or room bond.second.0 e).items } ∷ [])
    → ((d e : SmallVec HalfEdge) → (get_or new bond.second.0 d).items
    ≡ (get_or room bond.second.0 d).items ++ record { bond = id; to = bond.first; twin = length (get_or room bond.first.0 e).items } ∷ [])
    → ((k : ℕ) (d : SmallVec HalfEdge) → k ≢ bond.first.0 → k ≢ bond.second.0 → get_or new k d ≡ get_or room k d)
    → Gains bonds old new bond id
gains_of bonds old room new bond id number same at_first at_second others = record {
  number = number;
  at_first = λ d e. rw (← same bond.first.0 d, ← same bond.second.0 e) (at_first d e);
  at_second = λ d e. rw (← same bond.second.0 d, ← same bond.first.0 e) (at_second d e);
  others = λ k d first second. ap (λ (l : SmallVec HalfEdge). l.items) (others k d first second) ∙ same k d;
}

abbrev wanted : List Bond → Bond → ℕ → List HalfEdge
wanted bonds bond a = half_edges_by (reverse bonds) a ++ half_edge bond (reverse bonds) a

hold_one_more : (n : ℕ) (bonds : List Bond) (old new : List (SmallVec HalfEdge)) (bond : Bond) (id : BondId) → HoldAt n bonds old → IsBond n bond
    → Gains bonds old new bond id → HoldAt n (bonds ++ bond ∷ []) new
hold_one_more n bonds old new bond id holds fits gains = each_with_bond
  where
    none : SmallVec HalfEdge
    none = record { items = []; capacity = 0 }

    twin_of : (a : ℕ) → a < n → length (get_or old a none).items ≡ degree (reverse bonds) a
    twin_of a h = ap (λ (xs : List HalfEdge). length xs) (holds a none h) ∙ length-half_edges_by (reverse bonds) a

    number : id ≡ record { 0 = length (reverse bonds) }
    number = ap (λ (n : ℕ). let made : BondId = record { 0 = n } in made) (gains.number ∙ sym (length-reverse bonds))

    here_first : (d : SmallVec HalfEdge) → (get_or new bond.first.0 d).items ≡ wanted bonds bond bond.first.0
    here_first d = rw (gains.at_first d none, twin_of bond.second.0 fits.second, number, holds bond.first.0 d fits.first, half_edge-first bond (reverse bonds)) refl

    here_second : (d : SmallVec HalfEdge) → (get_or new bond.second.0 d).items ≡ wanted bonds bond bond.second.0
    here_second d = rw (gains.at_second d none, twin_of bond.first.0 fits.first, number, holds bond.second.0 d fits.second, half_edge-second bond (reverse bonds) fits.different) refl

    elsewhere : (a : ℕ) (d : SmallVec HalfEdge) → a < n → a ≢ bond.first.0 → a ≢ bond.second.0 → (get_or new a d).items ≡ wanted bonds bond a
    elsewhere a d h first second = rw (gains.others a d first second, holds a d h, half_edge-other bond (reverse bonds) a (λ e. first (sym e)) (λ e. second (sym e)), append-nil (half_edges_by (reverse bonds) a)) refl

    by_cases : (a : ℕ) (d : SmallVec HalfEdge) → a < n → (get_or new a d).items ≡ wanted bonds bond a
    by_cases a d h = elim (cases_eq a bond.first.0) [
      | inl first ↦ subst (λ (k : ℕ). (get_or new k d).items ≡ wanted bonds bond k) (sym first) (here_first d)
      | inr first ↦ elim (cases_eq a bond.second.0) [
        | inl second ↦ subst (λ (k : ℕ). (get_or new k d).items ≡ wanted bonds bond k) (sym second) (here_second d)
        | inr second ↦ elsewhere a d h first second
      ]
    ]

    each_with_bond : (a : ℕ) (d : SmallVec HalfEdge) → a < n → (get_or new a d).items ≡ half_edges_by (reverse (bonds ++ bond ∷ [])) a
    each_with_bond a d h = rw (reverse_push bonds bond) (by_cases a d h)

-- the next bond of a list
pub hold_next : (n : ℕ) (bonds : List Bond) (i : ℕ) (d : Bond) (old new : List (SmallVec HalfEdge)) → All (IsBond n) bonds → i < length bonds
    → HoldAt n (take i bonds) old → Gains (take i bonds) old new (get_or bonds i d) (record { 0 = i }) → HoldAt n (take (i + 1) bonds) new
hold_next n bonds i d old new all within holds gains =
    rw (take_more bonds i d within) (hold_one_more n (take i bonds) old new (get_or bonds i d) (record { 0 = i }) holds (all i d within) gains)

with_bond-HoldsHalfEdges : (m : Molecule) (old new : List (SmallVec HalfEdge)) (bond : Bond) (id : BondId) → HoldsHalfEdges (length m.atoms) m.bonds old → IsBond (length m.atoms) bond
    → length new ≡ length old → Gains m.bonds old new bond id → HoldsHalfEdges (length m.atoms) (m.bonds ++ bond ∷ []) new
with_bond-HoldsHalfEdges m old new bond id holds fits count gains = record {
  count = count ∙ holds.count;
  each = hold_one_more (length m.atoms) m.bonds old new bond id holds.each fits gains;
}

pub adds_atom : (m : Molecule) (lists more : List (SmallVec HalfEdge)) (atom : Atom) (atoms : List Atom) (centres : List (Option (List Slot))) (capacity : ℕ)
    → IsMolecule m × HoldsHalfEdges (length m.atoms) m.bonds lists → length m.atoms ≢ 999 → atoms ≡ m.atoms ++ atom ∷ [] → centres ≡ m.centres ++ None ∷ []
    → more ≡ lists ++ record { items = []; capacity = capacity } ∷ []
    → IsMolecule (record m { atoms = atoms; centres = centres }) × HoldsHalfEdges (length atoms) m.bonds more
adds_atom m lists more atom atoms centres capacity holds room e f g =
    rw (e, f, g) (with_atom-IsMolecule m atom holds.0 room, with_atom-HoldsHalfEdges m lists atom (record { items = []; capacity = capacity }) holds.0 holds.1 refl)

pub adds_bond : (m : Molecule) (old new : List (SmallVec HalfEdge)) (bond : Bond) (id : BondId) (bonds : List Bond) (sides : List (Option Sides))
    → IsMolecule m × HoldsHalfEdges (length m.atoms) m.bonds old → IsBond (length m.atoms) bond → are_joined m.bonds bond.first.0 bond.second.0 ≡ false
    → slice_get m.centres bond.first.0 ≡ Some None → slice_get m.centres bond.second.0 ≡ Some None
    → length m.bonds ≢ 999 → bonds ≡ m.bonds ++ bond ∷ [] → sides ≡ m.sides ++ None ∷ []
    → length new ≡ length old → Gains m.bonds old new bond id
    → IsMolecule (record m { bonds = bonds; sides = sides }) × HoldsHalfEdges (length m.atoms) bonds new
adds_bond m old new bond id bonds sides holds fits free first_free second_free room e f count gains =
    rw (e, f) (with_bond-IsMolecule m bond holds.0 fits free first_free second_free room, with_bond-HoldsHalfEdges m old new bond id holds.1 fits count gains)

-- no atom has more half-edges than there are bonds
pub few_held : (n : ℕ) (bonds : List Bond) (lists : List (SmallVec HalfEdge)) → HoldAt n bonds lists → (a : ℕ) (d : SmallVec HalfEdge) → a < n
    → length (get_or lists a d).items ≤ length bonds
few_held n bonds lists holds a d h =
    let each : length (get_or lists a d).items ≡ degree (reverse bonds) a = ap (λ (xs : List HalfEdge). length xs) (holds a d h) ∙ length-half_edges_by (reverse bonds) a in
    omega (arith, each, degree_le (reverse bonds) a, length-reverse bonds)

pub few_half_edges : (m : Molecule) (lists : List (SmallVec HalfEdge)) → IsMolecule m × HoldsHalfEdges (length m.atoms) m.bonds lists → (a : ℕ) (d : SmallVec HalfEdge) → a < length m.atoms
    → length (get_or lists a d).items ≤ 999
few_half_edges m lists holds a d h = omega (arith, few_held (length m.atoms) m.bonds lists holds.1.each a d h, holds.0.few_bonds)
