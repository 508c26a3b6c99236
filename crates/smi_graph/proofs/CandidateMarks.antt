-- The marks of the lower-case bonds say which of all bonds are candidates.
use Rattle.std.proofs.Common.{arith, ◌≡◌, ◌∙◌, ℕ, zero, suc, ◌+◌, ◌≤◌, List, [], ◌∷◌, length, get_or, Bool, true, false, Some, refl, ap, sym, subst}
use Rattle.std.specs.List.{All, AllPairs, filter}
use Rattle.std.specs.Prelude.{map, slice_get, ◌&&◌, ◌↔◌, if◌then◌else◌, cond}
use Rattle.std.proofs.lemmas.Bool.{false≢true}
use Rattle.std.proofs.lemmas.List.{length-map}
use Rattle.std.proofs.lemmas.List.Elements.{All-filter, All-map}
use Rattle.std.proofs.lemmas.List.Kept.{AllPairs-filter}
use Rattle.std.proofs.lemmas.Option.{slice_get-get_or, slice_get_within}
use Rattle.mc_mol.specs.declared.parts.Bond as bond
use Rattle.mc_mol.specs.ClosedPaths.{LiesOnClosedPath}
use Rattle.mc_mol.specs.Molecule.{joins}
use Rattle.mc_mol.specs.WellFormed.{IsBond}
use Rattle.smi_graph.specs.declared.skel_atom.SkelAtom.{SkelAtom}
use Rattle.smi_graph.specs.declared.text_bond.TextBond.{TextBond}
use Rattle.smi_graph.specs.Links.{bond_of, symbol}
use Rattle.smi_graph.specs.Candidates.{is_lower, is_unmarked_or_aromatic, is_lower_bond, lower_bonds, marked, AreCandidates}
use Rattle.smi_graph.specs.Skeletons.{AreBonds}
use Rattle.smi_graph.specs.Spreading.{spread, AreOnPaths}
use Rattle.smi_graph.proofs.Ahead.{map_here}

-- Some of the bonds are bonds, no pair twice

unmap : {A B : Type 0} (P : B → Type 0) (f : A → B) (xs : List A) → All P (map f xs) → All (λ x. P (f x)) xs
unmap P f xs all = λ k d less. subst P (map_here f xs k (f d) d less) (all k (f d) (let e = length-map xs f in omega arith))

unmap_pairs : {A B : Type 0} (R : B → B → Type 0) (f : A → B) (xs : List A) → AllPairs R (map f xs) → AllPairs (λ x y. R (f x) (f y)) xs
unmap_pairs R f xs all = λ i j d less within.
    let e = length-map xs f in
    subst (λ y. R (f (get_or xs i d)) y) (map_here f xs j (f d) d within)
    (subst (λ x. R x (get_or (map f xs) j (f d))) (map_here f xs i (f d) d (omega arith)) (all i j (f d) less (omega arith)))

map_pairs : {A B : Type 0} (R : B → B → Type 0) (f : A → B) (xs : List A) → AllPairs (λ x y. R (f x) (f y)) xs → AllPairs R (map f xs)
map_pairs R f [] all = λ i j d less within. absurd (omega arith)
map_pairs R f (x ∷ xs) all = λ i j d less within.
    let e = length-map (x ∷ xs) f in
    subst (λ y. R (get_or (map f (x ∷ xs)) i d) y) (sym (map_here f (x ∷ xs) j d x (omega arith)))
    (subst (λ y. R y (f (get_or (x ∷ xs) j x))) (sym (map_here f (x ∷ xs) i d x (omega arith))) (all i j x less (omega arith)))

pub lower_sound : (atoms : List SkelAtom) (bonds : List TextBond) (n : ℕ) → AreBonds n (map bond_of bonds) → AreBonds n (lower_bonds atoms bonds)
lower_sound atoms bonds n sound =
    let p : TextBond → Bool = is_lower_bond atoms in
    record {
      each = All-map (IsBond n) bond_of (filter p bonds) (All-filter p (λ b. IsBond n (bond_of b)) bonds (unmap (IsBond n) bond_of bonds sound.each));
      once = map_pairs (λ (b c : bond.Bond). joins b c.first.0 c.second.0 ≡ false) bond_of (filter p bonds)
          (AllPairs-filter (λ (b c : TextBond). joins (bond_of b) c.first.0 c.second.0 ≡ false) p bonds
          (unmap_pairs (λ (b c : bond.Bond). joins b c.first.0 c.second.0 ≡ false) bond_of bonds sound.once));
    }

few_kept : (p : TextBond → Bool) (bonds : List TextBond) → length (filter p bonds) ≤ length bonds
few_kept p [] = omega arith
few_kept p (b ∷ bonds) = by_test (p b) (few_kept p bonds)
  where
    by_test : (t : Bool) → length (filter p bonds) ≤ length bonds → length (cond t (b ∷ filter p bonds) (filter p bonds)) ≤ suc (length bonds)
    by_test true few = omega arith
    by_test false few = omega arith

pub few_lower : (atoms : List SkelAtom) (bonds : List TextBond) → length (lower_bonds atoms bonds) ≤ length bonds
few_lower atoms bonds = let a = length-map (filter (is_lower_bond atoms) bonds) bond_of in let b = few_kept (is_lower_bond atoms) bonds in omega arith

-- The marks at their places

abbrev SaysFrom : (TextBond → Type 0) → List TextBond → List Bool → ℕ → Type 0
SaysFrom Q kept marks next = (j : ℕ) (b : TextBond) → slice_get kept j ≡ Some b → (marked marks (next + j) ≡ true) ↔ Q b

pub spread_says : (Q : TextBond → Type 0) (p : TextBond → Bool) (bonds : List TextBond) (marks : List Bool) (next : ℕ) → SaysFrom Q (filter p bonds) marks next
    → (k : ℕ) (b : TextBond) → slice_get bonds k ≡ Some b → (marked (spread p bonds marks next) k ≡ true) ↔ ((p b ≡ true) × Q b)
spread_says Q p [] marks next says k b is = cc
spread_says Q p (x ∷ bonds) marks next says k b is = by_place k is (λ j there. spread_says Q p bonds marks (next + (if p x then 1 else 0)) (later (p x) says) j b there)
  where
    same : (x y : TextBond) → Some x ≡ Some y → x ≡ y
    same x y h = cc

    here : (t : Bool) → p x ≡ t → SaysFrom Q (cond t (x ∷ filter p bonds) (filter p bonds)) marks next → ((t && marked marks next) ≡ true) ↔ ((p x ≡ true) × Q x)
    here true e says =
        let n : next + 0 ≡ next = omega arith in
        let one = says 0 x refl in
        (λ h. (e, one.0 (ap (marked marks) n ∙ h)), λ q. sym (ap (marked marks) n) ∙ one.1 q.1)
    here false e says = (λ h. absurd (false≢true h), λ q. absurd (false≢true (sym e ∙ q.0)))

    later : (t : Bool) → SaysFrom Q (cond t (x ∷ filter p bonds) (filter p bonds)) marks next → SaysFrom Q (filter p bonds) marks (next + (if t then 1 else 0))
    later true says = λ j c is.
        let n : next + 1 + j ≡ next + suc j = omega arith in
        let one = says (suc j) c is in
        (λ h. one.0 (sym (ap (marked marks) n) ∙ h), λ q. ap (marked marks) n ∙ one.1 q)
    later false says = λ j c is.
        let n : next + 0 + j ≡ next + j = omega arith in
        let one = says j c is in
        (λ h. one.0 (sym (ap (marked marks) n) ∙ h), λ q. ap (marked marks) n ∙ one.1 q)

    by_place : (k : ℕ) → slice_get (x ∷ bonds) k ≡ Some b
        → ((j : ℕ) → slice_get bonds j ≡ Some b → (marked (spread p bonds marks (next + (if p x then 1 else 0))) j ≡ true) ↔ ((p b ≡ true) × Q b))
        → (marked ((p x && marked marks next) ∷ spread p bonds marks (next + (if p x then 1 else 0))) k ≡ true) ↔ ((p b ≡ true) × Q b)
    by_place zero is rest = subst (λ (y : TextBond). ((p x && marked marks next) ≡ true) ↔ ((p y ≡ true) × Q y)) (same x b is) (here (p x) refl says)
    by_place (suc k) is rest = rest k is

map_get : {A B : Type 0} (f : A → B) (xs : List A) (k : ℕ) (x : A) → slice_get xs k ≡ Some x → slice_get (map f xs) k ≡ Some (f x)
map_get f [] k x is = cc
map_get f (y ∷ xs) zero x is = ap (λ z. Some (f z)) (same y x is)
  where
    same : {A : Type 0} (x y : A) → Some x ≡ Some y → x ≡ y
    same x y h = cc
map_get f (y ∷ xs) (suc k) x is = map_get f xs k x is

pub candidates_are : (atoms : List SkelAtom) (bonds : List TextBond) (marks : List Bool) → AreOnPaths (lower_bonds atoms bonds) marks
    → AreCandidates atoms bonds (spread (is_lower_bond atoms) bonds marks 0)
candidates_are atoms bonds marks on = λ k b is.
    let both = spread_says (λ c. LiesOnClosedPath (lower_bonds atoms bonds) (bond_of c)) (is_lower_bond atoms) bonds marks 0 says k b is in
    (λ h. let found = both.0 h in record { lower = found.0; on_path = found.1 }, λ c. both.1 (c.lower, c.on_path))
  where
    says : SaysFrom (λ c. LiesOnClosedPath (lower_bonds atoms bonds) (bond_of c)) (filter (is_lower_bond atoms) bonds) marks 0
    says j b is =
        let there = map_get bond_of (filter (is_lower_bond atoms) bonds) j b is in
        let within = slice_get_within (lower_bonds atoms bonds) j (bond_of b) there in
        let count = on.count in
        let start : j ≡ 0 + j = omega arith in
        subst (λ (n : ℕ). (marked marks n ≡ true) ↔ LiesOnClosedPath (lower_bonds atoms bonds) (bond_of b)) start
        (on.each j (bond_of b) (marked marks j) there (slice_get-get_or marks j false (omega arith)))

-- where no atom is in lower case, there are none
pub none_are : (atoms : List SkelAtom) (bonds : List TextBond) → ((k : ℕ) → is_lower atoms k ≡ false) → AreCandidates atoms bonds []
none_are atoms bonds none = λ k b is. (λ h. absurd (false≢true h), λ c. absurd (false≢true (sym (never b) ∙ c.lower)))
  where
    with_false : (t : Bool) → (t && false) ≡ false
    with_false true = refl
    with_false false = refl

    never : (b : TextBond) → is_lower_bond atoms b ≡ false
    never b = ap (λ (t : Bool). is_unmarked_or_aromatic (symbol b) && (t && is_lower atoms b.second.0)) (none b.first.0) ∙ with_false (is_unmarked_or_aromatic (symbol b))
