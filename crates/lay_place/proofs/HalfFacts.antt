-- Half-edges in range, as loops over them see it.
use Rattle.std.proofs.lemmas.Bool.{cases_lt, cases_eq, ne_eqb}
use Rattle.std.specs.Prelude.{is_some, IfNone}
use Rattle.lay_place.specs.Curve.{has_place}
use Rattle.lay_place.specs.declared.asking.Named.{Named}
use Rattle.lay_place.specs.Wanted.{named_at}
use Rattle.mc_mol.specs.Numbered.{Mark}
use Rattle.lay_place.specs.Search.{FoundPlaced, leads_to_placed, FoundTwo, IsPartedBy, NoParted, IsEndWish, NoEnd, FoundAsking, NoSide, NoTold, NotTold, asks_here, is_free}
use Rattle.lay_place.specs.declared.wish.Wish.{Wish}
use Rattle.lay_place.specs.declared.wish.Wish.TheVariants.{Anywhere, Beside, Parting}
use Rattle.std.proofs.Common.{◌≡◌, ◌∙◌, ◌<◌, ◌≤◌, ◌+◌, inl, inr, Bool, false, ℕ, true, refl, sym, ap, subst, arith, List, Option, Some, None, ◌==◌, ◌&&◌, not, length, get_or, slice_get}
use Rattle.std.proofs.lemmas.Option.{slice_get_within, slice_get-get_or, same_Some}
use Rattle.mc_base.specs.declared.ids.AtomId.{AtomId}
use Rattle.mc_mol.specs.declared.parts.HalfEdge.{HalfEdge}
use Rattle.mc_mol.specs.Molecule.{Molecule}
use Rattle.mc_mol.specs.HalfEdges.{half_edges, AllHaveTwins}

pub there : (m : Molecule) (a : ℕ) (halves : List HalfEdge) (i : ℕ) (d : HalfEdge) → halves ≡ half_edges m a → i < length halves → slice_get (half_edges m a) i ≡ Some (get_or halves i d)
there m a halves i d are within = ap (λ (xs : List HalfEdge). slice_get xs i) (sym are) ∙ slice_get-get_or halves i d within

pub bond_within : (m : Molecule) (a : AtomId) (halves : List HalfEdge) (i : ℕ) (d : HalfEdge) → halves ≡ half_edges m a.0 → AllHaveTwins m a → i < length halves → (get_or halves i d).bond.0 < length m.bonds
bond_within m a halves i d are twins within = let t = twins i (get_or halves i d) (there m a.0 halves i d are within) in slice_get_within m.bonds (get_or halves i d).bond.0 t.bond t.is_bond

pub atom_within : (m : Molecule) (a : AtomId) (halves : List HalfEdge) (i : ℕ) (d : HalfEdge) → halves ≡ half_edges m a.0 → AllHaveTwins m a → i < length halves → (get_or halves i d).to.0 < length m.atoms
atom_within m a halves i d are twins within = let t = twins i (get_or halves i d) (there m a.0 halves i d are within) in t.to

-- one more half-edge fails a test
pub one_more : (test : HalfEdge → Bool) (halves : List HalfEdge) (n : ℕ) (d : HalfEdge) → n < length halves → ((i : ℕ) (half : HalfEdge) → i < n → slice_get halves i ≡ Some half → test half ≡ false) → test (get_or halves n d) ≡ false
    → (i : ℕ) (half : HalfEdge) → i < n + 1 → slice_get halves i ≡ Some half → test half ≡ false
one_more test halves n d within before now i half less at = elim (cases_lt i n) [
  | inl earlier ↦ before i half earlier at
  | inr later ↦
      let same : n ≡ i = omega arith in
      let is : get_or halves n d ≡ half = same_Some (get_or halves n d) half (sym (slice_get-get_or halves n d within) ∙ ap (slice_get halves) same ∙ at) in
      sym (ap test is) ∙ now
]

-- all fail it
pub all_fail : (test : HalfEdge → Bool) (halves all : List HalfEdge) (n : ℕ) → halves ≡ all → length halves ≤ n → ((i : ℕ) (half : HalfEdge) → i < n → slice_get halves i ≡ Some half → test half ≡ false)
    → (i : ℕ) (half : HalfEdge) → slice_get all i ≡ Some half → test half ≡ false
all_fail test halves all n are end before i half at =
    let at_here = ap (λ (xs : List HalfEdge). slice_get xs i) are ∙ at in
    let within = slice_get_within halves i half at_here in
    before i half (omega arith) at_here

-- the default of loops
abbrev pub no_half : HalfEdge
no_half = record { bond = record { 0 = 0 }; to = record { 0 = 0 }; twin = 0 }

pub found_passes : (halves : List HalfEdge) (places : List (Option ℕ)) (k skip a p : ℕ) (f : FoundPlaced halves places k skip a p) → leads_to_placed places k skip f.half ≡ true
found_passes halves places k skip a p f =
    rw (ne_eqb f.half.bond.0 k f.other, ap (λ (x : ℕ). x == skip) f.leads ∙ ne_eqb a skip f.apart, ap (λ (x : ℕ). has_place (slice_get places x)) f.leads ∙ ap has_place f.mark) refl

-- no other placed neighbour, then no two
pub no_first : (halves : List HalfEdge) (places : List (Option ℕ)) (k u c at : ℕ) → ((i : ℕ) (half : HalfEdge) → slice_get halves i ≡ Some half → leads_to_placed places k u half ≡ false) → FoundPlaced halves places k u c at → ⊥
no_first halves places k u c at none f = let p = found_passes halves places k u c at f in let q = none f.i f.half f.is_half in cc

pub not_parted : (halves : List HalfEdge) (places : List (Option ℕ)) (k u : ℕ) → ((i : ℕ) (half : HalfEdge) → slice_get halves i ≡ Some half → leads_to_placed places k u half ≡ false) → NoParted halves places k u
not_parted halves places k u none at_c at_d f = no_first halves places k u f.c at_c none f.first

pub parted_by_none : (halves : List HalfEdge) (places : List (Option ℕ)) (k u e : ℕ) → ((i : ℕ) (half : HalfEdge) → slice_get halves i ≡ Some half → leads_to_placed places k e half ≡ false) → NoParted halves places k u
parted_by_none halves places k u e none at_c at_d f = elim (cases_eq f.c e) [
  | inl same ↦
      let g = f.second in
      no_first halves places k e f.d at_d none (record { i = g.i; half = g.half; is_half = g.is_half; other = g.other; leads = g.leads; apart = λ x. g.apart (x ∙ sym same); mark = g.mark })
  | inr other ↦
      let g = f.first in
      no_first halves places k e f.c at_c none (record { i = g.i; half = g.half; is_half = g.is_half; other = g.other; leads = g.leads; apart = other; mark = g.mark })
]

-- an atom has no place
clash : (o : Option (Option ℕ)) (p : ℕ) → has_place o ≡ false → o ≡ Some (Some p) → ⊥
clash o p off is = let on : has_place o ≡ true = ap has_place is in cc

pub end_unplaced : (m : Molecule) (sizes places : List (Option ℕ)) (k u : ℕ) → has_place (slice_get places u) ≡ false → NoEnd m sizes places k u
end_unplaced m sizes places k u none name place named free mark at_c at_d f = clash (slice_get places u) place none mark

pub end_unfree : (m : Molecule) (sizes places : List (Option ℕ)) (k u : ℕ) → is_free m sizes k ≡ false → NoEnd m sizes places k u
end_unfree m sizes places k u off name place named free mark at_c at_d f = cc

pub end_unnamed : (m : Molecule) (sizes places : List (Option ℕ)) (k u : ℕ) → named_at m k u ≡ None → NoEnd m sizes places k u
end_unnamed m sizes places k u none name place named free mark at_c at_d f = cc

end_unparted : (m : Molecule) (sizes places : List (Option ℕ)) (k u : ℕ) (halves : List HalfEdge) → halves ≡ half_edges m u → NoParted halves places k u → NoEnd m sizes places k u
end_unparted m sizes places k u halves are none name place named free mark = subst (λ (xs : List HalfEdge). NoParted xs places k u) are none

pub unless_parted : (m : Molecule) (sizes places : List (Option ℕ)) (k u : ℕ) (halves : List HalfEdge) → halves ≡ half_edges m u → (wish : Option Wish) → IfNone wish (NoParted halves places k u) → IfNone wish (NoEnd m sizes places k u)
unless_parted m sizes places k u halves are None none = end_unparted m sizes places k u halves are none
unless_parted m sizes places k u halves are (Some wish) none = none

pub end_parted : (m : Molecule) (sizes places : List (Option ℕ)) (k u end : ℕ) (halves : List HalfEdge) (name : Named) (wish : Wish) → halves ≡ half_edges m u → named_at m k u ≡ Some name → is_free m sizes k ≡ true → Mark places u end
    → IsPartedBy halves places k u end wish → IsEndWish m sizes places k u wish
end_parted m sizes places k u end halves name Anywhere are named free mark f = absurd f
end_parted m sizes places k u end halves name (Beside near far inside) are named free mark f = absurd f
end_parted m sizes places k u end halves name (Parting from one other) are named free mark f =
    record { name = name; named = named; free = free; mark = subst (Mark places u) (sym f.0) mark; two = subst (λ (xs : List HalfEdge). FoundTwo xs places k u one other) are f.1 }

pub told_alone : (m : Molecule) (places : List (Option ℕ)) (k f : ℕ) (halves : List HalfEdge) → halves ≡ half_edges m f
    → ((i : ℕ) (half : HalfEdge) → slice_get halves i ≡ Some half → leads_to_placed places k f half ≡ false) → NoTold m places k f
told_alone m places k f halves are none name atom place named found = no_first halves places k f atom place none (subst (λ (xs : List HalfEdge). FoundPlaced xs places k f atom place) (sym are) found)

pub side_untold : (m : Molecule) (sizes places : List (Option ℕ)) (k e : ℕ) (half : HalfEdge) → FoundAsking m sizes places k e half → NotTold m places half.bond.0 e half.to.0 → NoSide m sizes places k e
side_untold m sizes places k e half asking none other near mark found unique =
    let same = unique half asking in
    subst (λ (z : ℕ). NotTold m places other.bond.0 e z) same.1 (subst (λ (b : ℕ). NotTold m places b e half.to.0) same.0 none)

both_pass : (p q r s : Bool) → (p && (q && (r && s))) ≡ true → (r ≡ true) × (s ≡ true)
both_pass true true true true e = (refl, refl)
both_pass true true true false e = cc
both_pass true true false s e = cc
both_pass true false r s e = cc
both_pass false q r s e = cc

pub asks_placed : (m : Molecule) (sizes places : List (Option ℕ)) (k e : ℕ) (half : HalfEdge) → FoundAsking m sizes places k e half → (has_place (slice_get places half.to.0) ≡ true) × (is_some (named_at m half.bond.0 e) ≡ true)
asks_placed m sizes places k e half f = both_pass (not (half.bond.0 == k)) (is_free m sizes half.bond.0) (has_place (slice_get places half.to.0)) (is_some (named_at m half.bond.0 e)) f.asks

pub side_unplaced : (m : Molecule) (sizes places : List (Option ℕ)) (k e : ℕ) → has_place (slice_get places e) ≡ false → NoSide m sizes places k e
side_unplaced m sizes places k e none other near mark found unique = absurd (clash (slice_get places e) near none mark)

pub side_far_unplaced : (m : Molecule) (sizes places : List (Option ℕ)) (k e : ℕ) (half : HalfEdge) → FoundAsking m sizes places k e half → has_place (slice_get places half.to.0) ≡ false → NoSide m sizes places k e
side_far_unplaced m sizes places k e half asking none other near mark found unique = let p = (asks_placed m sizes places k e half asking).0 in cc

pub side_unnamed : (m : Molecule) (sizes places : List (Option ℕ)) (k e : ℕ) (half : HalfEdge) → FoundAsking m sizes places k e half → named_at m half.bond.0 e ≡ None → NoSide m sizes places k e
side_unnamed m sizes places k e half asking none other near mark found unique =
    let p = (asks_placed m sizes places k e half asking).1 in
    let off : is_some (named_at m half.bond.0 e) ≡ false = ap is_some none in
    cc

pub side_unasked : (m : Molecule) (sizes places : List (Option ℕ)) (k e : ℕ) → ((i : ℕ) (half : HalfEdge) → slice_get (half_edges m e) i ≡ Some half → asks_here m sizes places k e half ≡ false) → NoSide m sizes places k e
side_unasked m sizes places k e none other near mark found unique = let p = none found.i other found.is_half in let q = found.asks in cc

-- the same of statements
pub each_more : (P : HalfEdge → Type 0) (halves : List HalfEdge) (n : ℕ) (d : HalfEdge) → n < length halves → ((i : ℕ) (half : HalfEdge) → i < n → slice_get halves i ≡ Some half → P half) → P (get_or halves n d)
    → (i : ℕ) (half : HalfEdge) → i < n + 1 → slice_get halves i ≡ Some half → P half
each_more P halves n d within before now i half less at = elim (cases_lt i n) [
  | inl earlier ↦ before i half earlier at
  | inr later ↦
      let same : n ≡ i = omega arith in
      subst P (same_Some (get_or halves n d) half (sym (slice_get-get_or halves n d within) ∙ ap (slice_get halves) same ∙ at)) now
]

pub each_all : (P : HalfEdge → Type 0) (halves all : List HalfEdge) (n : ℕ) → halves ≡ all → length halves ≤ n → ((i : ℕ) (half : HalfEdge) → i < n → slice_get halves i ≡ Some half → P half)
    → (i : ℕ) (half : HalfEdge) → slice_get all i ≡ Some half → P half
each_all P halves all n are end before i half at =
    let at_here = ap (λ (xs : List HalfEdge). slice_get xs i) are ∙ at in
    let within = slice_get_within halves i half at_here in
    before i half (omega arith) at_here
