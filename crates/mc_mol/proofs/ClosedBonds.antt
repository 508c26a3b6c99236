-- Which bonds of a depth-first forest lie on a closed path.
use Rattle.std.proofs.Common.{Bool, IsTrue, List, Some, [], ap, arith, get_or, inl, inr, length, length-append, nat_lt, refl, slice_get, subst, suc, sym, true, zero, ℕ, ◌++◌, ◌+◌, ◌<◌, ◌↔◌, ◌∙◌, ◌∷◌, ◌≡◌, ◌≤◌, ◌⊎◌}
use Rattle.std.proofs.lemmas.Bool.{cases_eq, cases_lt, lt-ltb, ltb-true}
use Rattle.std.proofs.lemmas.Option.{slice_get_within}
use Rattle.mc_mol.proofs.Climbs.{IsRooted, Rooted, climb_next, climb_ring, later_up, up_earlier}
use Rattle.mc_mol.proofs.LeastPlaces.{low_there, not_parent, one_mark, up_places}
use Rattle.mc_mol.proofs.Lists.{slice_get-append_left, slice_get-append_past}
use Rattle.mc_mol.proofs.Neighbours.{bond_joined, joined_back, joined_ends}
use Rattle.mc_mol.proofs.Numbered.{made}
use Rattle.mc_mol.proofs.Paths.{last_in}
use Rattle.mc_mol.proofs.Roots.{above_trans, one_parent, same_listed}
use Rattle.mc_mol.proofs.Rounds.{Goes, SamePair, closed_by, goes_back, long_way}
use Rattle.mc_mol.specs.ClosedPaths.{IsClosedPath, LiesOnClosedPath}
use Rattle.mc_mol.specs.Forests.{IsAbove, IsLater, Parent, Up}
use Rattle.mc_mol.specs.Lows.{AreLows, LeadsPast, LowFrom, LowIs}
use Rattle.mc_mol.specs.Molecule.{are_joined}
use Rattle.mc_mol.specs.Numbered.{Mark}
use Rattle.mc_mol.specs.Paths.{Chain, In, LastIs, OpenPath}
use Rattle.mc_mol.specs.declared.parts.Bond.{Bond}

module _ (t : Rooted) (is : IsRooted t) where
  -- Where a bond leads past x, the way up from it and that bond are a closed path, which goes from x to its parent.
  pub past_closed : (x p : ℕ) → Parent t.parents x p → LeadsPast t.bonds t.places t.parents x → (path : List ℕ) × (IsClosedPath t.bonds path) × (Goes path x p)
  past_closed x p parent r =
      let w : ℕ = r.from.from in
      let a : ℕ = r.from.to in
      let ends = joined_ends t.atoms t.bonds w a is.forest.fit r.from.joined in
      let at_w = is.forest.all w ends.first in
      let below = r.from.below in
      let earlier = r.earlier in
      let most = up_places t.bonds t.atoms t.order t.places t.parents t.roots is.forest below.0 w x at_w.0 r.place below.1 at_w.1 r.at in
      let joined = joined_back t.bonds w a r.from.joined in
      let up = is.forest.found.related a w r.low at_w.0 r.from.at at_w.1 (omega arith) joined in
      let ring = climb_ring t is up.0 w a x p up.1 (climb_next t is below.0 up.0 w x p a r.place r.low up.1 below.1 parent r.at r.from.at earlier) in
      let closed = closed_by t.bonds a w x p joined apart ring in
      (closed.path, closed.closed, closed.second)
    where
      apart : SamePair r.from.to r.from.from x p → ⊥
      apart (inl (same, _)) = let e = one_mark t.places x r.low r.place (subst (λ (m : ℕ). Mark t.places m r.low) same r.from.at) r.at in let earlier = r.earlier in omega arith
      apart (inr (to_parent, own)) = r.from.other own (subst (λ (m : ℕ). Parent t.parents x m) (sym to_parent) parent)

  -- A bond between an atom and one above it that isn't its parent closes a path with the way up.
  pub across_closed : (u v : ℕ) → are_joined t.bonds u v ≡ true → (Parent t.parents v u → ⊥) → IsLater t.places u v → (path : List ℕ) × (IsClosedPath t.bonds path) × (Goes path u v)
  across_closed u v joined no_child (i, j, at_u, at_v, less) = up_and_back (later_up t.bonds t.atoms t.order t.places t.parents t.roots is.forest u v joined (i, j, at_u, at_v, less))
    where
      apart : (p : ℕ) → Parent t.parents v p → SamePair u v v p → ⊥
      apart p parent (inl (same, _)) = let e = one_mark t.places v i j (subst (λ (m : ℕ). Mark t.places m i) same at_u) at_v in omega arith
      apart p parent (inr (to_parent, _)) = no_child (subst (λ (m : ℕ). Parent t.parents v m) (sym to_parent) parent)

      up_and_back : (k : ℕ) × (Up t.parents (suc k) v u) → (path : List ℕ) × (IsClosedPath t.bonds path) × (Goes path u v)
      up_and_back (k, (p, parent, up)) =
          let ring = climb_ring t is (suc k) v u v p (p, parent, up) (climb_next t is 0 (suc k) v v p u j i (p, parent, up) refl parent at_v at_u less) in
          let closed = closed_by t.bonds u v v p joined (apart p parent) ring in
          (closed.path, closed.closed, closed.first)

  -- Of two atoms above w the one that was found no earlier is below the other or is it.
  between : (k m w x a i j : ℕ) → Up t.parents k w x → Up t.parents m w a → Mark t.places x i → Mark t.places a j → i ≤ j → IsAbove t.parents x a
  between k zero w x a i j up_x same at_x at_a less = (k, subst (λ (n : ℕ). Up t.parents k n x) same up_x)
  between zero (suc m) w x a i j same up_a at_x at_a less =
      let earlier = up_earlier t is m w a i j up_a (subst (λ (n : ℕ). Mark t.places n i) (sym same) at_x) at_a in absurd (omega arith)
  between (suc k) (suc m) w x a i j (p, parent, up_x) (q, also, up_a) at_x at_a less =
      between k m p x a i j up_x (subst (λ (n : ℕ). Up t.parents m n a) (one_parent t.parents w q p also parent) up_a) at_x at_a less

  module _ (x p low place : ℕ) (parent : Parent t.parents x p) (found : LowIs t.bonds t.places t.parents x low) (at : Mark t.places x place) (none : place ≤ low) where
    -- Where no bond leads past x, each bond from x or below it, but that to its parent, stays there.
    inside : (w a : ℕ) → IsAbove t.parents x w → are_joined t.bonds w a ≡ true → (w ≡ x → Parent t.parents x a → ⊥) → IsAbove t.parents x a
    inside w a below joined other =
        let ends = joined_ends t.atoms t.bonds w a is.forest.fit joined in
        let at_w = is.forest.all w ends.first in
        let at_a = is.forest.all a ends.second in
        let least = found.least w a at_a.0 below joined other at_a.1 in
        elim (cases_lt at_w.0 at_a.0) [
          | inl later ↦ let up = is.forest.found.related w a at_w.0 at_a.0 at_w.1 at_a.1 later joined in above_trans t.parents up.0 a w x up.1 below
          | inr earlier ↦ elim (cases_eq at_w.0 at_a.0) [
            | inl same ↦ absurd (ends.different (same_listed t.bonds t.atoms t.order t.places t.parents t.roots is.forest.found w a at_w.0 at_a.0 at_w.1 at_a.1 same))
            | inr differ ↦
                let up = is.forest.found.related a w at_a.0 at_w.0 at_a.1 at_w.1 (omega arith) (joined_back t.bonds w a joined) in
                between below.0 up.0 w x a place at_a.0 below.1 up.1 at at_a.1 (omega arith)
          ]
        ]

    stays : (w : ℕ) (rest : List ℕ) (last : ℕ) → IsAbove t.parents x w → (¬ In x (w ∷ rest)) → Chain t.bonds (w ∷ rest) → LastIs (w ∷ rest) last → IsAbove t.parents x last
    stays w [] last below away chain is_last = subst (λ (m : ℕ). IsAbove t.parents x m) is_last below
    stays w (a ∷ rest) last below away (step, chain) is_last =
        stays a rest last (inside w a below (step a refl) (λ same. absurd (away (inl (sym same))))) (λ h. away (inr h)) chain is_last

    no_way : (path : List ℕ) → OpenPath t.bonds path x p → 3 ≤ length path → ⊥
    no_way [] way long = omega arith
    no_way (a ∷ []) way long = omega arith
    no_way (a ∷ b ∷ []) way long = omega arith
    no_way (a ∷ b ∷ c ∷ rest) way long =
        let joined : are_joined t.bonds x b ≡ true = subst (λ (m : ℕ). are_joined t.bonds m b ≡ true) way.head (way.chain.0 b refl) in
        let first : IsAbove t.parents x b = inside x b (0, refl) joined (λ same up. way.distinct.1.0 (subst (λ (m : ℕ). In m (c ∷ rest)) (one_parent t.parents x p b parent up) (last_in (c ∷ rest) p way.last))) in
        let away : ¬ In x (b ∷ c ∷ rest) = λ h. way.distinct.0 (subst (λ (m : ℕ). In m (b ∷ c ∷ rest)) (sym way.head) h) in
        let end = stays b (c ∷ rest) p first away way.chain.1 way.last in
        not_parent t.bonds t.atoms t.order t.places t.parents t.roots is.forest end.0 p x parent end.1

    pub not_closed : (path : List ℕ) → IsClosedPath t.bonds path → Goes path x p → ⊥
    not_closed path closed goes = let way = long_way t.bonds path x p closed goes in no_way way.path way.is way.long

-- ---- what a look at the forest says of a bond

pub child_closed : (t : Rooted) → IsRooted t → (lows : List ℕ) → AreLows t.bonds t.atoms t.places t.parents lows t.atoms → (x p d place : ℕ) → Parent t.parents x p → Mark t.places x place
    → (IsTrue (nat_lt (get_or lows x d) place) → (path : List ℕ) × (IsClosedPath t.bonds path) × (Goes path x p))
    × ((path : List ℕ) → IsClosedPath t.bonds path → Goes path x p → IsTrue (nat_lt (get_or lows x d) place))
child_closed t is lows are x p d place parent at = (
  (λ less. past_closed t is x p parent (leads (ltb-true (get_or lows x d) place less) low.reached)),
  (λ path closed goes. elim (cases_lt (get_or lows x d) place) [
    | inl less ↦ lt-ltb (get_or lows x d) place less
    | inr more ↦ absurd (not_closed t is x p (get_or lows x d) place parent low at more path closed goes)
  ]),
)
  where
    low : LowIs t.bonds t.places t.parents x (get_or lows x d)
    low =
        let within = slice_get_within t.order place (made x) (is.forest.found.placed x place at) in
        let total = is.forest.found.total in
        low_there t.bonds t.places t.parents lows x d (are.each x place at (omega arith))

    leads : get_or lows x d < place → Mark t.places x (get_or lows x d) ⊎ LowFrom t.bonds t.places t.parents x (get_or lows x d) → LeadsPast t.bonds t.places t.parents x
    leads less (inl own) = absurd (let e = one_mark t.places x (get_or lows x d) place own at in omega arith)
    leads less (inr from) = record { low = get_or lows x d; place = place; from = from; at = at; earlier = less }

pub other_closed : (t : Rooted) → IsRooted t → (u v : ℕ) → are_joined t.bonds u v ≡ true → (Parent t.parents v u → ⊥) → (Parent t.parents u v → ⊥) → (path : List ℕ) × (IsClosedPath t.bonds path) × (Goes path u v)
other_closed t is u v joined no_child no_parent =
    let ends = joined_ends t.atoms t.bonds u v is.forest.fit joined in
    let at_u = is.forest.all u ends.first in
    let at_v = is.forest.all v ends.second in
    elim (cases_lt at_u.0 at_v.0) [
      | inl less ↦ across_closed t is u v joined no_child (at_u.0, at_v.0, at_u.1, at_v.1, less)
      | inr more ↦ elim (cases_eq at_u.0 at_v.0) [
        | inl same ↦ absurd (ends.different (same_listed t.bonds t.atoms t.order t.places t.parents t.roots is.forest.found u v at_u.0 at_v.0 at_u.1 at_v.1 same))
        | inr other ↦
            let back = across_closed t is v u (joined_back t.bonds u v joined) no_parent (at_v.0, at_u.0, at_v.1, at_u.1, omega arith) in
            (back.0, back.1, goes_back back.0 v u back.2)
      ]
    ]

-- the bond of an atom with its parent, whichever end the atom is
pub first_below : (t : Rooted) → IsRooted t → (lows : List ℕ) → AreLows t.bonds t.atoms t.places t.parents lows t.atoms → (here bond : Bond) (d place : ℕ) → here ≡ bond
    → Parent t.parents here.first.0 here.second.0 → ((i : ℕ) → Mark t.places here.first.0 i → place ≡ i)
    → IsTrue (nat_lt (get_or lows here.first.0 d) place) ↔ LiesOnClosedPath t.bonds bond
first_below t is lows are here bond d place same parent placed =
    let child = is.forest.found.parent here.first.0 here.second.0 parent in
    let at : Mark t.places here.first.0 place = subst (λ (k : ℕ). Mark t.places here.first.0 k) (sym (placed child.place child.placed)) child.placed in
    let closed = child_closed t is lows are here.first.0 here.second.0 d place parent at in
    subst (λ (b : Bond). IsTrue (nat_lt (get_or lows here.first.0 d) place) ↔ LiesOnClosedPath t.bonds b) same (
      (λ less. let found = closed.0 less in (found.0, record { closed_path = found.1; uses = found.2 })),
      (λ lies. closed.1 lies.0 lies.1.closed_path lies.1.uses),
    )

pub second_below : (t : Rooted) → IsRooted t → (lows : List ℕ) → AreLows t.bonds t.atoms t.places t.parents lows t.atoms → (here bond : Bond) (d place : ℕ) → here ≡ bond
    → Parent t.parents here.second.0 here.first.0 → ((i : ℕ) → Mark t.places here.second.0 i → place ≡ i)
    → IsTrue (nat_lt (get_or lows here.second.0 d) place) ↔ LiesOnClosedPath t.bonds bond
second_below t is lows are here bond d place same parent placed =
    let child = is.forest.found.parent here.second.0 here.first.0 parent in
    let at : Mark t.places here.second.0 place = subst (λ (k : ℕ). Mark t.places here.second.0 k) (sym (placed child.place child.placed)) child.placed in
    let closed = child_closed t is lows are here.second.0 here.first.0 d place parent at in
    subst (λ (b : Bond). IsTrue (nat_lt (get_or lows here.second.0 d) place) ↔ LiesOnClosedPath t.bonds b) same (
      (λ less. let found = closed.0 less in (found.0, record { closed_path = found.1; uses = goes_back found.0 here.second.0 here.first.0 found.2 })),
      (λ lies. closed.1 lies.0 lies.1.closed_path (goes_back lies.0 here.first.0 here.second.0 lies.1.uses)),
    )

-- every other bond
pub neither_below : (t : Rooted) → IsRooted t → (here bond : Bond) → here ≡ bond → (k : ℕ) → slice_get t.bonds k ≡ Some bond → (Parent t.parents here.second.0 here.first.0 → ⊥)
    → (Parent t.parents here.first.0 here.second.0 → ⊥) → LiesOnClosedPath t.bonds bond
neither_below t is here bond same k at no_child no_parent =
    let joined = subst (λ (b : Bond). are_joined t.bonds b.first.0 b.second.0 ≡ true) (sym same) (bond_joined t.bonds k bond at) in
    let found = other_closed t is here.first.0 here.second.0 joined no_child no_parent in
    subst (λ (b : Bond). LiesOnClosedPath t.bonds b) same (found.0, record { closed_path = found.1; uses = found.2 })

-- the first bonds, each with the answer whether it lies on a closed path
abbrev pub AreMarked : List Bond → List Bool → Type 0
AreMarked bonds marks = (k : ℕ) (bond : Bond) (lies : Bool) → slice_get bonds k ≡ Some bond → slice_get marks k ≡ Some lies → (lies ≡ true) ↔ LiesOnClosedPath bonds bond

pub marks_more : (bonds : List Bond) (old new : List Bool) (k : ℕ) (lies : Bool) → length old ≡ k → new ≡ old ++ lies ∷ [] → AreMarked bonds old
    → ((bond : Bond) → slice_get bonds k ≡ Some bond → IsTrue lies ↔ LiesOnClosedPath bonds bond) → (length new ≡ k + 1) × AreMarked bonds new
marks_more bonds old new k lies count e each here = rw e (
  (let long = length-append old (lies ∷ []) in omega arith),
  (λ i bond mark at_bond at_mark. elim (cases_lt i (length old)) [
    | inl less ↦ each i bond mark at_bond (sym (slice_get-append_left old (lies ∷ []) i less) ∙ at_mark)
    | inr past ↦
        let found = slice_get-append_past old lies mark i past at_mark in
        subst (λ (b : Bool). (b ≡ true) ↔ LiesOnClosedPath bonds bond) (sym found.1) (here bond (ap (λ (n : ℕ). slice_get bonds n) (sym (found.0 ∙ count)) ∙ at_bond))
  ]),
)
