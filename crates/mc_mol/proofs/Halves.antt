-- The half-edges of an atom: how many there are, what one more bond adds, and that they find the joined pairs.
use Rattle.std.proofs.Common.{◌≡◌, ◌≢◌, ℕ, ◌+◌, ◌≤◌, Bool, true, false, ◌&&◌, ◌||◌, ◌==◌, List, [], ◌∷◌, length, reverse, if◌then◌else◌, ap, ◌∙◌, arith, refl}
use Rattle.std.proofs.lemmas.Bool.{ne_eqb, eq-eqb}
use Rattle.std.proofs.Math.Bool.{or-false, or_comm}
use Rattle.std.specs.List.{All, list_any}
use Rattle.std.proofs.lemmas.Bool.Decides.{nat_tests}
use Rattle.std.proofs.lemmas.List.{length-append, reverse-append}
use Rattle.std.proofs.lemmas.List.Folds.{list_any-append}
use Rattle.mc_mol.specs.declared.parts.Bond.{Bond}
use Rattle.mc_mol.specs.declared.parts.HalfEdge.{HalfEdge}
use Rattle.mc_mol.specs.Molecule.{Molecule, joins, touches, are_joined}
use Rattle.mc_mol.specs.HalfEdges.{half_edge, half_edges, half_edges_in, half_edges_by, degree}
use Rattle.mc_mol.specs.WellFormed.{IsBond}
use Rattle.mc_mol.proofs.Lists.{All-head, All-tail}

pub same_test : (a : ℕ) → (a == a) ≡ true
same_test a = eq-eqb a a refl

length_if : {A : Type 0} (t : Bool) (x : A) → length (if t then x ∷ [] else []) ≡ (if t then 1 else 0)
length_if true x = refl
length_if false x = refl

pub length-half_edges_by : (bonds : List Bond) (a : ℕ) → length (half_edges_by bonds a) ≡ degree bonds a
length-half_edges_by [] a = refl
length-half_edges_by (bond ∷ bonds) a =
    length-append (half_edges_by bonds a) (half_edge bond bonds a)
    ∙ ap (λ n. n + length (half_edge bond bonds a)) (length-half_edges_by bonds a)
    ∙ ap (λ n. degree bonds a + n) (length_if (touches bond a) _)

if_le : (t : Bool) → (if t then 1 else 0) ≤ 1
if_le true = omega arith
if_le false = omega arith

pub degree_le : (bonds : List Bond) (a : ℕ) → degree bonds a ≤ length bonds
degree_le [] a = omega arith
degree_le (bond ∷ bonds) a = let h = degree_le bonds a in let t = if_le (touches bond a) in omega arith

-- what one more bond adds at its first atom, at its second and elsewhere
pub half_edge-first : (bond : Bond) (earlier : List Bond) → half_edge bond earlier bond.first.0
    ≡ record { bond = record { 0 = length earlier }; to = bond.second; twin = degree earlier bond.second.0 } ∷ []
half_edge-first bond earlier = rw (same_test bond.first.0) refl

pub half_edge-second : (bond : Bond) (earlier : List Bond) → bond.first.0 ≢ bond.second.0 → half_edge bond earlier bond.second.0
    ≡ record { bond = record { 0 = length earlier }; to = bond.first; twin = degree earlier bond.first.0 } ∷ []
half_edge-second bond earlier different = rw (ne_eqb bond.first.0 bond.second.0 different, same_test bond.second.0) refl

pub half_edge-other : (bond : Bond) (earlier : List Bond) (a : ℕ) → bond.first.0 ≢ a → bond.second.0 ≢ a → half_edge bond earlier a ≡ []
half_edge-other bond earlier a first second = rw (ne_eqb bond.first.0 a first, ne_eqb bond.second.0 a second) refl

-- an atom past those of the bonds has none
pub half_edges_by-none : (bonds : List Bond) (n a : ℕ) → All (IsBond n) bonds → n ≤ a → half_edges_by bonds a ≡ []
half_edges_by-none [] n a all le = refl
half_edges_by-none (bond ∷ bonds) n a all le =
    let here = All-head (IsBond n) bond bonds all in
    let first : bond.first.0 ≢ a = omega (arith, here.first) in
    let second : bond.second.0 ≢ a = omega (arith, here.second) in
    rw (half_edges_by-none bonds n a (All-tail (IsBond n) bond bonds all) le, half_edge-other bond bonds a first second) refl

and_true : (b : Bool) → (b || false) ≡ (b && true)
and_true true = refl
and_true false = refl

pub and_false : (b : Bool) → false ≡ (b && false)
and_false true = refl
and_false false = refl

finds_by : (bond : Bond) (earlier : List Bond) (u v : ℕ) (p q : Bool) → (bond.first.0 == u) ≡ p → (bond.second.0 == u) ≡ q → u ≢ v
    → list_any (λ (half : HalfEdge). half.to.0 == v) (half_edge bond earlier u) ≡ joins bond u v
finds_by bond earlier u v true q e f ne =
    let away : (bond.first.0 == v) ≡ false = grind (arith, nat_tests) in
    rw (e, away) refl
finds_by bond earlier u v false true e f ne = rw (e, f) (and_true (bond.first.0 == v))
finds_by bond earlier u v false false e f ne = rw (e, f) (and_false (bond.first.0 == v))

-- the half-edges of one atom tell to which atoms it is joined
pub are_joined-half_edges_by : (bonds : List Bond) (u v : ℕ) → u ≢ v
    → list_any (λ (half : HalfEdge). half.to.0 == v) (half_edges_by bonds u) ≡ are_joined bonds u v
are_joined-half_edges_by [] u v ne = refl
are_joined-half_edges_by (bond ∷ bonds) u v ne =
    list_any-append (λ (half : HalfEdge). half.to.0 == v) (half_edges_by bonds u) (half_edge bond bonds u)
    ∙ ap (λ b. b || list_any (λ (half : HalfEdge). half.to.0 == v) (half_edge bond bonds u)) (are_joined-half_edges_by bonds u v ne)
    ∙ ap (λ b. are_joined bonds u v || b) (finds_by bond bonds u v _ _ refl refl ne)
    ∙ or_comm (are_joined bonds u v) (joins bond u v)

pub any_reverse : (p : Bond → Bool) (bonds : List Bond) → list_any p (reverse bonds) ≡ list_any p bonds
any_reverse p [] = refl
any_reverse p (bond ∷ bonds) =
    ap (λ xs. list_any p xs) (reverse-append (bond ∷ []) bonds) ∙ list_any-append p (reverse bonds) (bond ∷ [])
    ∙ ap (λ b. b || (p bond || false)) (any_reverse p bonds) ∙ ap (λ b. list_any p bonds || b) (or-false (p bond)) ∙ or_comm (list_any p bonds) (p bond)

-- the same by the bonds in order, and of a molecule
pub are_joined-half_edges_in : (bonds : List Bond) (u v : ℕ) → u ≢ v → list_any (λ (half : HalfEdge). half.to.0 == v) (half_edges_in bonds u) ≡ are_joined bonds u v
are_joined-half_edges_in bonds u v ne = are_joined-half_edges_by (reverse bonds) u v ne ∙ any_reverse (λ bond. joins bond u v) bonds

pub are_joined-half_edges : (m : Molecule) (u v : ℕ) → u ≢ v → list_any (λ (half : HalfEdge). half.to.0 == v) (half_edges m u) ≡ are_joined m.bonds u v
are_joined-half_edges m u v ne = are_joined-half_edges_in m.bonds u v ne
