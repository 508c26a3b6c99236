-- The sides that a drawing gives a bond are by neighbours of its ends.
use Rattle.std.proofs.Common.{arith, ◌≡◌, ◌≢◌, ◌∙◌, ℕ, zero, suc, ◌==◌, ◌&&◌, not, Bool, true, false, List, [], ◌∷◌, Option, None, Some, if◌then◌else◌, slice_get, refl, sym, ap, subst}
use Rattle.std.proofs.lemmas.Bool.Decides.{nat_tests}
use Rattle.ct_sd.specs.declared.table.DrawMark.{DrawMark}
use Rattle.mc_base.specs.declared.ids.AtomId.{AtomId}
use Rattle.mc_mol.specs.declared.drawing.Point.{Point}
use Rattle.mc_mol.specs.declared.parts.Bond.{Bond}
use Rattle.mc_mol.specs.declared.parts.HalfEdge.{HalfEdge}
use Rattle.mc_mol.specs.declared.parts.Sides.{Sides}
use Rattle.mc_mol.specs.Molecule.{Molecule, joins, are_joined}
use Rattle.mc_mol.specs.HalfEdges.{half_edges}
use Rattle.mc_mol.specs.WellFormed.{IsMolecule, IsSides, SidesFit}
use Rattle.mc_mol.proofs.Apart.{one_bond}
use Rattle.mc_mol.proofs.Twins.{all_have_twins, joins_first, joins_second}
use Rattle.mc_rings.specs.SidePlaces.{may_have_sides, sides_at, size_allows_sides, is_side_end}
use Rattle.ct_geometry.specs.TableSides.{drawn_sides, first_other, is_specified, on_one_side, sides_by, sides_of}
use Rattle.ct_geometry.proofs.Usable.{joined_of}

-- one of the half-edges, by another bond than number k
record OtherHalf (halves : List HalfEdge) (k : ℕ) (c : AtomId) : Type 0 where
  place : ℕ
  half : HalfEdge
  is_half : slice_get halves place ≡ Some half
  other : half.bond.0 ≢ k
  leads : half.to ≡ c

other_half : (halves : List HalfEdge) (k : ℕ) (c : AtomId) → first_other halves k ≡ Some c → OtherHalf halves k c
other_half [] k c e = cc
other_half (half ∷ halves) k c e = by_test (half.bond.0 == k) refl (λ rest. other_half halves k c rest) e
  where
    same : (a c : AtomId) → Some a ≡ Some c → a ≡ c
    same a c e = cc

    by_test : (b : Bool) → (half.bond.0 == k) ≡ b → (first_other halves k ≡ Some c → OtherHalf halves k c) → (if b then first_other halves k else Some half.to) ≡ Some c → OtherHalf (half ∷ halves) k c
    by_test true t more e = (let rest = more e in record { place = suc rest.place; half = rest.half; is_half = rest.is_half; other = rest.other; leads = rest.leads })
    by_test false t more e = record { place = 0; half = half; is_half = refl; other = λ is. grind (arith, nat_tests); leads = same half.to c e }

-- a neighbour by another bond isn't the end across
module _ (m : Molecule) (is : IsMolecule m) (k : ℕ) (bond : Bond) (at : slice_get m.bonds k ≡ Some bond) where
  not_across : (u w : ℕ) (c : AtomId) → joins bond u w ≡ true → OtherHalf (half_edges m u) k c → c.0 ≢ w
  not_across u w c joined h same =
      let twin = all_have_twins m (record { 0 = u }) is h.place h.half h.is_half in
      let to_w : h.half.to.0 ≡ w = ap (λ (x : AtomId). x.0) h.leads ∙ same in
      h.other (one_bond m.bonds is.once h.half.bond.0 k u w twin.bond bond twin.is_bond at (subst (λ (x : ℕ). joins twin.bond u x ≡ true) to_w twin.joined) joined)

  neighbour : (u : ℕ) (c : AtomId) → OtherHalf (half_edges m u) k c → are_joined m.bonds u c.0 ≡ true
  neighbour u c h = subst (λ (x : AtomId). are_joined m.bonds u x.0 ≡ true) h.leads (joined_of m u h.place h.half is h.is_half)

  fits : (drawing : List Point) (sides : Sides) → bond.order ≡ 2
      → sides_by drawing bond.first.0 bond.second.0 (first_other (half_edges m bond.first.0) k) (first_other (half_edges m bond.second.0) k) ≡ Some sides → IsSides m.bonds bond sides
  fits drawing sides double e = by_others (first_other (half_edges m bond.first.0) k) (first_other (half_edges m bond.second.0) k) refl refl e
    where
      found : (x y : Sides) → Some x ≡ Some y → x ≡ y
      found x y e = cc

      by_others : (x y : Option AtomId) → first_other (half_edges m bond.first.0) k ≡ x → first_other (half_edges m bond.second.0) k ≡ y
          → sides_by drawing bond.first.0 bond.second.0 x y ≡ Some sides → IsSides m.bonds bond sides
      by_others None y p q e = cc
      by_others (Some c) None p q e = cc
      by_others (Some c) (Some d) p q e =
          let first = other_half (half_edges m bond.first.0) k c p in
          let second = other_half (half_edges m bond.second.0) k d q in
          subst (λ (s : Sides). IsSides m.bonds bond s) (found _ sides e) (record {
            double = double;
            at_first = neighbour bond.first.0 c first;
            at_second = neighbour bond.second.0 d second;
            first = not_across bond.first.0 bond.second.0 c (joins_first bond) first;
            second = not_across bond.second.0 bond.first.0 d (joins_second bond) second;
          })

left_true : (a b : Bool) → (a && b) ≡ true → a ≡ true
left_true true b e = refl
left_true false b e = absurd (cc)

first_true : (a b c d : Bool) → (a && b && c && d) ≡ true → a ≡ true
first_true true b c d e = refl
first_true false b c d e = absurd (cc)

double_of : (m : Molecule) (sizes : List (Option ℕ)) (k : ℕ) (bond : Bond) → slice_get m.bonds k ≡ Some bond → may_have_sides m sizes k ≡ true → bond.order ≡ 2
double_of m sizes k bond at e =
    let here : sides_at m sizes k (Some bond) ≡ true = ap (λ (o : Option Bond). sides_at m sizes k o) (sym at) ∙ e in
    let test : (bond.order == 2) ≡ true = first_true (bond.order == 2) (size_allows_sides (slice_get sizes k)) (is_side_end m k bond.first.0) (is_side_end m k bond.second.0) here in
    grind (arith, nat_tests)

-- what a specified bond may have
pub specified_may : (m : Molecule) (sizes : List (Option ℕ)) (drawing : List Point) (marks : List DrawMark) (k : ℕ) (bond : Bond) → is_specified m sizes drawing marks k bond ≡ true
    → may_have_sides m sizes k ≡ true
specified_may m sizes drawing marks k bond e = left_true (may_have_sides m sizes k) _ e

record IsGiven (m : Molecule) (sizes : List (Option ℕ)) (drawing : List Point) (marks : List DrawMark) (k : ℕ) (bond : Bond) (sides : Sides) : Type 0 where
  specified : is_specified m sizes drawing marks k bond ≡ true
  given : sides_by drawing bond.first.0 bond.second.0 (first_other (half_edges m bond.first.0) k) (first_other (half_edges m bond.second.0) k) ≡ Some sides

given : (m : Molecule) (sizes : List (Option ℕ)) (drawing : List Point) (marks : List DrawMark) (k : ℕ) (bond : Bond) (sides : Sides) → sides_of m sizes drawing marks k (Some bond) ≡ Some sides
    → IsGiven m sizes drawing marks k bond sides
given m sizes drawing marks k bond sides e = by_test (is_specified m sizes drawing marks k bond) refl e
  where
    by_test : (b : Bool) → is_specified m sizes drawing marks k bond ≡ b
        → (if b then sides_by drawing bond.first.0 bond.second.0 (first_other (half_edges m bond.first.0) k) (first_other (half_edges m bond.second.0) k) else None) ≡ Some sides
        → IsGiven m sizes drawing marks k bond sides
    by_test true t e = record { specified = t; given = e }
    by_test false t e = cc

pub sides_fit : (m : Molecule) (sizes : List (Option ℕ)) (drawing : List Point) (marks : List DrawMark) (k : ℕ) (sides : Sides) → IsMolecule m
    → drawn_sides m sizes drawing marks k ≡ Some sides → SidesFit m.bonds k sides
sides_fit m sizes drawing marks k sides is e bond at =
    let here : sides_of m sizes drawing marks k (Some bond) ≡ Some sides = ap (λ (o : Option Bond). sides_of m sizes drawing marks k o) (sym at) ∙ e in
    let found = given m sizes drawing marks k bond sides here in
    fits m is k bond at drawing sides (double_of m sizes k bond at (specified_may m sizes drawing marks k bond found.specified)) found.given

-- a bond that is given sides may have them
pub sides_may : (m : Molecule) (sizes : List (Option ℕ)) (drawing : List Point) (marks : List DrawMark) (k : ℕ) (sides : Sides) → drawn_sides m sizes drawing marks k ≡ Some sides
    → may_have_sides m sizes k ≡ true
sides_may m sizes drawing marks k sides e = by_bond (slice_get m.bonds k) e
  where
    by_bond : (o : Option Bond) → sides_of m sizes drawing marks k o ≡ Some sides → may_have_sides m sizes k ≡ true
    by_bond None e = cc
    by_bond (Some bond) e = specified_may m sizes drawing marks k bond (given m sizes drawing marks k bond sides e).specified
