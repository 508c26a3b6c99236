-- Connected atoms: the least relation that holds of each atom with itself and is kept along each bond.
use Rattle.std.proofs.Common.{arith, ◌≡◌, ◌⊎◌, ◌&&◌, ◌||◌, ◌==◌, ℕ, Bool, true, false, List, [], ◌∷◌, refl, subst, inl, inr}
use Rattle.mc_mol.proofs.Twins.{joins_first, joins_second}
use Rattle.std.proofs.lemmas.Bool.{or_cases, or_left, or_right, and_from, and_parts, eqb-true}
use Rattle.std.proofs.lemmas.Bool.Decides.{nat_tests}
use Rattle.mc_mol.specs.declared.parts.Bond.{Bond}
use Rattle.mc_mol.specs.Molecule.{joins, are_joined}
use Rattle.mc_mol.specs.Parts.{are_connected}
use Rattle.mc_mol.proofs.Halves.{same_test}

-- a path that leads from u to v
abbrev pub Leads : List Bond → ℕ → ℕ → Type 0
Leads bonds u v = are_connected bonds u v ≡ true

-- a path that crosses this bond once, from its first end or from its second
abbrev pub Crosses : Bond → List Bond → ℕ → ℕ → Type 0
Crosses bond bonds u v = (Leads bonds u bond.first.0 × Leads bonds bond.second.0 v) ⊎ (Leads bonds u bond.second.0 × Leads bonds bond.first.0 v)

path_cases : (bond : Bond) (bonds : List Bond) (u v : ℕ) → Leads (bond ∷ bonds) u v → Leads bonds u v ⊎ Crosses bond bonds u v
path_cases bond bonds u v is = elim (or_cases (are_connected bonds u v) _ is) [
  | inl past ↦ inl past
  | inr across ↦ elim (or_cases (are_connected bonds u bond.first.0 && are_connected bonds bond.second.0 v) (are_connected bonds u bond.second.0 && are_connected bonds bond.first.0 v) across) [
    | inl forth ↦ inr (inl (and_parts (are_connected bonds u bond.first.0) (are_connected bonds bond.second.0 v) forth))
    | inr back ↦ inr (inr (and_parts (are_connected bonds u bond.second.0) (are_connected bonds bond.first.0 v) back))
  ]
]

past : (bond : Bond) (bonds : List Bond) (u v : ℕ) → Leads bonds u v → Leads (bond ∷ bonds) u v
past bond bonds u v is = or_left (are_connected bonds u v) _ is

forth : (bond : Bond) (bonds : List Bond) (u v : ℕ) → Leads bonds u bond.first.0 → Leads bonds bond.second.0 v → Leads (bond ∷ bonds) u v
forth bond bonds u v before after =
    or_right (are_connected bonds u v) _
    (or_left (are_connected bonds u bond.first.0 && are_connected bonds bond.second.0 v) _ (and_from (are_connected bonds u bond.first.0) (are_connected bonds bond.second.0 v) before after))

back : (bond : Bond) (bonds : List Bond) (u v : ℕ) → Leads bonds u bond.second.0 → Leads bonds bond.first.0 v → Leads (bond ∷ bonds) u v
back bond bonds u v before after =
    or_right (are_connected bonds u v) _
    (or_right (are_connected bonds u bond.first.0 && are_connected bonds bond.second.0 v) _ (and_from (are_connected bonds u bond.second.0) (are_connected bonds bond.first.0 v) before after))

pub connected_self : (bonds : List Bond) (u : ℕ) → Leads bonds u u
connected_self [] u = same_test u
connected_self (bond ∷ bonds) u = past bond bonds u u (connected_self bonds u)

pub connected_back : (bonds : List Bond) (u v : ℕ) → Leads bonds u v → Leads bonds v u
connected_back [] u v is = let same : u ≡ v = eqb-true u v is in subst (λ (x : ℕ). (x == u) ≡ true) same (same_test u)
connected_back (bond ∷ bonds) u v is = elim (path_cases bond bonds u v is) [
  | inl there ↦ past bond bonds v u (connected_back bonds u v there)
  | inr across ↦ elim across [
    | inl way ↦ back bond bonds v u (connected_back bonds bond.second.0 v way.1) (connected_back bonds u bond.first.0 way.0)
    | inr way ↦ forth bond bonds v u (connected_back bonds bond.first.0 v way.1) (connected_back bonds u bond.second.0 way.0)
  ]
]

pub connected_on : (bonds : List Bond) (u v w : ℕ) → Leads bonds u v → Leads bonds v w → Leads bonds u w
connected_on [] u v w is also = subst (λ (x : ℕ). (u == x) ≡ true) (eqb-true v w also) is
connected_on (bond ∷ bonds) u v w is also = elim (path_cases bond bonds u v is) [
  | inl there ↦ elim (path_cases bond bonds v w also) [
    | inl on ↦ past bond bonds u w (connected_on bonds u v w there on)
    | inr across ↦ elim across [
      | inl way ↦ forth bond bonds u w (connected_on bonds u v bond.first.0 there way.0) way.1
      | inr way ↦ back bond bonds u w (connected_on bonds u v bond.second.0 there way.0) way.1
    ]
  ]
  | inr first ↦ elim first [
    | inl way ↦ elim (path_cases bond bonds v w also) [
      | inl on ↦ forth bond bonds u w way.0 (connected_on bonds bond.second.0 v w way.1 on)
      | inr across ↦ elim across [
        | inl other ↦ forth bond bonds u w way.0 other.1
        | inr other ↦ past bond bonds u w (connected_on bonds u bond.first.0 w way.0 other.1)
      ]
    ]
    | inr way ↦ elim (path_cases bond bonds v w also) [
      | inl on ↦ back bond bonds u w way.0 (connected_on bonds bond.first.0 v w way.1 on)
      | inr across ↦ elim across [
        | inl other ↦ past bond bonds u w (connected_on bonds u bond.second.0 w way.0 other.1)
        | inr other ↦ back bond bonds u w way.0 other.1
      ]
    ]
  ]
]

pub joined_connected : (bonds : List Bond) (u v : ℕ) → are_joined bonds u v ≡ true → Leads bonds u v
joined_connected [] u v is = cc
joined_connected (bond ∷ bonds) u v is = elim (or_cases (joins bond u v) (are_joined bonds u v) is) [
  | inl here ↦ elim (or_cases (bond.first.0 == u && bond.second.0 == v) (bond.first.0 == v && bond.second.0 == u) here) [
    | inl t ↦
        let ends = and_parts (bond.first.0 == u) (bond.second.0 == v) t in
        forth bond bonds u v (at bond.first.0 u bond.first.0 (eqb-true bond.first.0 u ends.0) (connected_self bonds bond.first.0)) (to bond.second.0 bond.second.0 v (eqb-true bond.second.0 v ends.1) (connected_self bonds bond.second.0))
    | inr t ↦
        let ends = and_parts (bond.first.0 == v) (bond.second.0 == u) t in
        back bond bonds u v (at bond.second.0 u bond.second.0 (eqb-true bond.second.0 u ends.1) (connected_self bonds bond.second.0)) (to bond.first.0 bond.first.0 v (eqb-true bond.first.0 v ends.0) (connected_self bonds bond.first.0))
  ]
  | inr there ↦ past bond bonds u v (joined_connected bonds u v there)
]
  where
    at : (x y z : ℕ) → x ≡ y → Leads bonds x z → Leads bonds y z
    at x y z same leads = subst (λ (n : ℕ). Leads bonds n z) same leads

    to : (x y z : ℕ) → y ≡ z → Leads bonds x y → Leads bonds x z
    to x y z same leads = subst (λ (n : ℕ). Leads bonds x n) same leads

-- what is kept along each bond is kept along a path
pub kept_along : (P : ℕ → Type 0) (bonds : List Bond) → ((u v : ℕ) → are_joined bonds u v ≡ true → P u → P v) → (u v : ℕ) → Leads bonds u v → P u → P v
kept_along P [] keeps u v is at_u = subst P (eqb-true u v is) at_u
kept_along P (bond ∷ bonds) keeps u v is at_u =
    let less : (x y : ℕ) → are_joined bonds x y ≡ true → P x → P y = λ x y joined. keeps x y (or_right (joins bond x y) (are_joined bonds x y) joined) in
    elim (path_cases bond bonds u v is) [
      | inl there ↦ kept_along P bonds less u v there at_u
      | inr across ↦ elim across [
        | inl way ↦ kept_along P bonds less bond.second.0 v way.1
            (keeps bond.first.0 bond.second.0 (or_left (joins bond bond.first.0 bond.second.0) (are_joined bonds bond.first.0 bond.second.0) (joins_first bond)) (kept_along P bonds less u bond.first.0 way.0 at_u))
        | inr way ↦ kept_along P bonds less bond.first.0 v way.1
            (keeps bond.second.0 bond.first.0 (or_left (joins bond bond.second.0 bond.first.0) (are_joined bonds bond.second.0 bond.first.0) (joins_second bond)) (kept_along P bonds less u bond.second.0 way.0 at_u))
      ]
    ]
