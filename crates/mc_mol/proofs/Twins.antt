-- Each half-edge has its twin, and each bond has a half-edge at both of its atoms.
use Rattle.std.proofs.Common.{◌≡◌, ◌≢◌, ℕ, ◌<◌, ◌≤◌, true, ◌&&◌, ◌==◌, List, [], ◌∷◌, ◌++◌, Some, length, reverse, slice_get, subst, sym, ap, ◌∙◌, arith, refl, inl, inr}
use Rattle.std.proofs.Math.Bool.{or_comm}
use Rattle.std.specs.List.{All}
use Rattle.std.proofs.lemmas.Bool.{cases_eq, cases_lt}
use Rattle.std.proofs.lemmas.Option.{slice_get_within}
use Rattle.std.proofs.lemmas.List.{append-nil, length-reverse, reverse-reverse}
use Rattle.mc_base.specs.declared.ids.AtomId.{AtomId}
use Rattle.mc_mol.specs.declared.parts.Bond.{Bond}
use Rattle.mc_mol.specs.declared.parts.HalfEdge.{HalfEdge}
use Rattle.mc_mol.specs.Molecule.{Molecule, joins, touches}
use Rattle.mc_mol.specs.WellFormed.{IsBond, IsMolecule}
use Rattle.mc_mol.specs.HalfEdges.{half_edge, half_edges_by, degree, other_end, AllHaveTwins}
use Rattle.mc_mol.proofs.Lists.{All-head, All-tail, All-reverse, reverse_cons, slice_get-append_left, slice_get-append_seam, slice_get-append_past}
use Rattle.mc_mol.proofs.Halves.{half_edge-first, half_edge-second, half_edge-other, length-half_edges_by, same_test}

-- `HasTwin` by the bonds so far, the latest first
pub record TwinBy (bonds : List Bond) (atoms : ℕ) (a : AtomId) (place : ℕ) (half : HalfEdge) : Type 0 where
  pub to : half.to.0 < atoms
  pub different : half.to.0 ≢ a.0
  pub bond : Bond
  pub is_bond : slice_get (reverse bonds) half.bond.0 ≡ Some bond
  pub joined : joins bond a.0 half.to.0 ≡ true
  pub twin : slice_get (half_edges_by bonds half.to.0) half.twin ≡ Some (record { bond = half.bond; to = a; twin = place })

pub joins_first : (bond : Bond) → joins bond bond.first.0 bond.second.0 ≡ true
joins_first bond = rw (same_test bond.first.0, same_test bond.second.0) refl

pub joins_second : (bond : Bond) → joins bond bond.second.0 bond.first.0 ≡ true
joins_second bond = or_comm (bond.first.0 == bond.second.0 && bond.second.0 == bond.first.0) (bond.first.0 == bond.first.0 && bond.second.0 == bond.second.0) ∙ rw (same_test bond.first.0, same_test bond.second.0) refl

number_kept : (bond : Bond) (bonds : List Bond) (k : ℕ) (was : Bond) → slice_get (reverse bonds) k ≡ Some was → slice_get (reverse (bond ∷ bonds)) k ≡ Some was
number_kept bond bonds k was at =
    ap (λ (bs : List Bond). slice_get bs k) (reverse_cons bond bonds) ∙ slice_get-append_left (reverse bonds) (bond ∷ []) k (slice_get_within (reverse bonds) k was at) ∙ at

number_latest : (bond : Bond) (bonds : List Bond) → slice_get (reverse (bond ∷ bonds)) (length bonds) ≡ Some bond
number_latest bond bonds =
    ap (λ (bs : List Bond). slice_get bs (length bonds)) (reverse_cons bond bonds) ∙ slice_get-append_seam (reverse bonds) bond (length bonds) (sym (length-reverse bonds))

-- a twin that was there stays
kept : (bond : Bond) (bonds : List Bond) (n : ℕ) (a : AtomId) (place : ℕ) (half : HalfEdge) → TwinBy bonds n a place half → TwinBy (bond ∷ bonds) n a place half
kept bond bonds n a place half old = record {
  to = old.to;
  different = old.different;
  bond = old.bond;
  is_bond = number_kept bond bonds half.bond.0 old.bond old.is_bond;
  joined = old.joined;
  twin = slice_get-append_left (half_edges_by bonds half.to.0) (half_edge bond bonds half.to.0) half.twin (slice_get_within _ _ _ old.twin) ∙ old.twin;
}

-- the place behind the half-edges of the earlier bonds
latest : (bond : Bond) (bonds : List Bond) (a : ℕ) (half : HalfEdge) → half_edge bond bonds a ≡ half ∷ []
    → slice_get (half_edges_by (bond ∷ bonds) a) (degree bonds a) ≡ Some half
latest bond bonds a half e =
    ap (λ (hs : List HalfEdge). slice_get (half_edges_by bonds a ++ hs) (degree bonds a)) e
    ∙ slice_get-append_seam (half_edges_by bonds a) half (degree bonds a) (sym (length-half_edges_by bonds a))

made : Bond → List Bond → AtomId → HalfEdge
made bond bonds to = record { bond = record { 0 = length bonds }; to = to; twin = degree bonds to.0 }

-- the twins of the latest bond, from its first atom and from its second
twin_first : (bond : Bond) (bonds : List Bond) (n : ℕ) → IsBond n bond
    → TwinBy (bond ∷ bonds) n bond.first (degree bonds bond.first.0) (record { bond = record { 0 = length bonds }; to = bond.second; twin = degree bonds bond.second.0 })
twin_first bond bonds n is = record {
  to = is.second;
  different = λ e. is.different (sym e);
  bond = bond;
  is_bond = number_latest bond bonds;
  joined = joins_first bond;
  twin = latest bond bonds bond.second.0 _ (half_edge-second bond bonds is.different);
}

twin_second : (bond : Bond) (bonds : List Bond) (n : ℕ) → IsBond n bond
    → TwinBy (bond ∷ bonds) n bond.second (degree bonds bond.second.0) (record { bond = record { 0 = length bonds }; to = bond.first; twin = degree bonds bond.first.0 })
twin_second bond bonds n is = record {
  to = is.first;
  different = is.different;
  bond = bond;
  is_bond = number_latest bond bonds;
  joined = joins_second bond;
  twin = latest bond bonds bond.first.0 _ (half_edge-first bond bonds);
}

pub same_atom : (a b : AtomId) → a.0 ≡ b.0 → a ≡ b
same_atom a b e = ap (λ (n : ℕ). let atom : AtomId = record { 0 = n } in atom) e

twin_latest : (bond : Bond) (bonds : List Bond) (n : ℕ) (a : AtomId) (place : ℕ) (half : HalfEdge) → IsBond n bond
    → length (half_edges_by bonds a.0) ≤ place → slice_get (half_edges_by (bond ∷ bonds) a.0) place ≡ Some half → TwinBy (bond ∷ bonds) n a place half
twin_latest bond bonds n a place half is past at = elim (cases_eq bond.first.0 a.0) [
  | inl first ↦ subst (λ (b : AtomId). P b) (same_atom bond.first a first) (λ past at. at_first past at) past at
  | inr first ↦ elim (cases_eq bond.second.0 a.0) [
    | inl second ↦ subst (λ (b : AtomId). P b) (same_atom bond.second a second) (λ past at. at_second past at) past at
    | inr second ↦ absurd (nowhere first second)
  ]
]
  where
    P : AtomId → Type 0
    P b = length (half_edges_by bonds b.0) ≤ place → slice_get (half_edges_by (bond ∷ bonds) b.0) place ≡ Some half → TwinBy (bond ∷ bonds) n b place half

    ends_at : (b : AtomId) (right was : HalfEdge) → place ≡ length (half_edges_by bonds b.0) → was ≡ right → TwinBy (bond ∷ bonds) n b (degree bonds b.0) right → TwinBy (bond ∷ bonds) n b place was
    ends_at b right was e f t =
        let place_is : degree bonds b.0 ≡ place = sym (e ∙ length-half_edges_by bonds b.0) in
        subst (λ (h : HalfEdge). TwinBy (bond ∷ bonds) n b place h) (sym f) (subst (λ (k : ℕ). TwinBy (bond ∷ bonds) n b k right) place_is t)

    at_first : P bond.first
    at_first past at =
        let found = slice_get-append_past (half_edges_by bonds bond.first.0) _ half place past
        (ap (λ (hs : List HalfEdge). slice_get (half_edges_by bonds bond.first.0 ++ hs) place) (sym (half_edge-first bond bonds)) ∙ at) in
        ends_at bond.first _ half found.0 found.1 (twin_first bond bonds n is)

    at_second : P bond.second
    at_second past at =
        let found = slice_get-append_past (half_edges_by bonds bond.second.0) _ half place past
        (ap (λ (hs : List HalfEdge). slice_get (half_edges_by bonds bond.second.0 ++ hs) place) (sym (half_edge-second bond bonds is.different)) ∙ at) in
        ends_at bond.second _ half found.0 found.1 (twin_second bond bonds n is)

    nowhere : bond.first.0 ≢ a.0 → bond.second.0 ≢ a.0 → ⊥
    nowhere first second =
        let list : half_edges_by (bond ∷ bonds) a.0 ≡ half_edges_by bonds a.0 = ap (λ (hs : List HalfEdge). half_edges_by bonds a.0 ++ hs) (half_edge-other bond bonds a.0 first second) ∙ append-nil (half_edges_by bonds a.0) in
        let within = slice_get_within (half_edges_by bonds a.0) place half (ap (λ (hs : List HalfEdge). slice_get hs place) (sym list) ∙ at) in
        omega (arith, within, past)

pub twins_by : (bonds : List Bond) (n : ℕ) (a : AtomId) (place : ℕ) (half : HalfEdge) → All (IsBond n) bonds → slice_get (half_edges_by bonds a.0) place ≡ Some half
    → TwinBy bonds n a place half
twins_by [] n a place half all at = cc
twins_by (bond ∷ bonds) n a place half all at = elim (cases_lt place (length (half_edges_by bonds a.0))) [
  | inl less ↦ kept bond bonds n a place half
      (twins_by bonds n a place half (All-tail (IsBond n) bond bonds all) (sym (slice_get-append_left (half_edges_by bonds a.0) (half_edge bond bonds a.0) place less) ∙ at))
  | inr more ↦ twin_latest bond bonds n a place half (All-head (IsBond n) bond bonds all) more at
]

pub all_have_twins : (m : Molecule) (a : AtomId) → IsMolecule m → AllHaveTwins m a
all_have_twins m a is place half at =
    let t = twins_by (reverse m.bonds) (length m.atoms) a place half (All-reverse (IsBond (length m.atoms)) m.bonds is.bonds) at in
    record {
      to = t.to;
      different = t.different;
      bond = t.bond;
      is_bond = ap (λ (bs : List Bond). slice_get bs half.bond.0) (sym (reverse-reverse m.bonds)) ∙ t.is_bond;
      joined = t.joined;
      twin = t.twin;
    }

-- a bond has a half-edge at each atom that it touches
pub record HalfOf (bonds : List Bond) (a k : ℕ) (bond : Bond) : Type 0 where
  pub place : ℕ
  pub half : HalfEdge
  pub at : slice_get (half_edges_by bonds a) place ≡ Some half
  pub bond_is : half.bond.0 ≡ k
  pub to_is : half.to ≡ other_end bond a

half_latest : (bond : Bond) (bonds : List Bond) (a : ℕ) → touches bond a ≡ true → HalfOf (bond ∷ bonds) a (length bonds) bond
half_latest bond bonds a t = record {
  place = degree bonds a;
  half = record { bond = record { 0 = length bonds }; to = other_end bond a; twin = degree bonds (other_end bond a).0 };
  at = latest bond bonds a _ (rw t refl);
  bond_is = refl;
  to_is = refl;
}

half_kept : (latest bond : Bond) (bonds : List Bond) (a k : ℕ) → HalfOf bonds a k bond → HalfOf (latest ∷ bonds) a k bond
half_kept more bond bonds a k h = record {
  place = h.place;
  half = h.half;
  at = slice_get-append_left (half_edges_by bonds a) (half_edge more bonds a) h.place (slice_get_within (half_edges_by bonds a) h.place h.half h.at) ∙ h.at;
  bond_is = h.bond_is;
  to_is = h.to_is;
}

pub half_of : (bonds : List Bond) (a k : ℕ) (bond : Bond) → slice_get (reverse bonds) k ≡ Some bond → touches bond a ≡ true → HalfOf bonds a k bond
half_of [] a k bond at t = cc
half_of (more ∷ bonds) a k bond at t = elim (cases_lt k (length bonds)) [
  | inl less ↦
      let before : k < length (reverse bonds) = omega (arith, length-reverse bonds) in
      half_kept more bond bonds a k (half_of bonds a k bond (sym (slice_get-append_left (reverse bonds) (more ∷ []) k before) ∙ (ap (λ (bs : List Bond). slice_get bs k) (sym (reverse_cons more bonds)) ∙ at)) t)
  | inr past ↦
      let behind : length (reverse bonds) ≤ k = omega (arith, length-reverse bonds) in
      let found = slice_get-append_past (reverse bonds) more bond k behind (ap (λ (bs : List Bond). slice_get bs k) (sym (reverse_cons more bonds)) ∙ at) in
      let last : k ≡ length bonds = found.0 ∙ length-reverse bonds in
      subst (λ (b : Bond). HalfOf (more ∷ bonds) a k b) (sym found.1) (subst (λ (n : ℕ). HalfOf (more ∷ bonds) a n more) (sym last)
      (half_latest more bonds a (subst (λ (b : Bond). touches b a ≡ true) found.1 t)))
]
