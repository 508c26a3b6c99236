-- A bond that is alone in its block lies in no ring.
use Rattle.std.proofs.Common.{Bool, List, Option, Some, [], arith, false, get_or, inl, inr, length, refl, slice_get, slice_set, subst, sym, true, ℕ, ◌++◌, ◌+◌, ◌<◌, ◌∙◌, ◌∷◌, ◌≡◌, ◌≢◌, ◌≤◌, ◌⊎◌}
use Rattle.std.proofs.lemmas.Bool.{cases_eq, cases_lt}
use Rattle.std.proofs.lemmas.List.{length-append}
use Rattle.std.proofs.lemmas.Option.{slice_get-get_or, slice_get_within, same_Some}
use Rattle.mc_mol.proofs.Apart.{joins_cases}
use Rattle.mc_mol.proofs.Lists.{slice_get-append_left, slice_get-append_past}
use Rattle.mc_mol.proofs.Neighbours.{bond_number}
use Rattle.mc_mol.proofs.Numbered.{set_here, set_other}
use Rattle.mc_mol.specs.ClosedPaths.{IsClosedPath, IsRingOf, Uses}
use Rattle.mc_mol.specs.Molecule.{joins}
use Rattle.mc_mol.specs.declared.parts.Bond.{Bond}
use Rattle.mc_rings.specs.Counts.{AtLeast, Counted}
use Rattle.mc_rings.specs.RingSizes.{RingSizeAt}
use Rattle.mc_rings.specs.Rings.{AreBlocks}

one_value : (xs : List ℕ) (i x y : ℕ) → slice_get xs i ≡ Some x → slice_get xs i ≡ Some y → x ≡ y
one_value xs i x y e f = cc

-- one more bond is counted
at_least_more : (counts : List ℕ) (block n more k least : ℕ) → slice_get counts block ≡ Some n → n ≤ more → AtLeast counts k least → AtLeast (slice_set counts block more) k least
at_least_more counts block n more k least at grows (m, at_k, few) = elim (cases_eq k block) [
  | inl same ↦
      let m_is : m ≡ n = one_value counts block m n (subst (λ (i : ℕ). slice_get counts i ≡ Some m) same at_k) at in
      (more, subst (λ (i : ℕ). slice_get (slice_set counts block more) i ≡ Some more) (sym same) (set_here counts block n more at), omega arith)
  | inr other ↦ (m, set_other counts block k more other ∙ at_k, few)
]

pub counted_more : (blocks counts new : List ℕ) (done block n more : ℕ) → slice_get blocks done ≡ Some block → slice_get counts block ≡ Some n → n ≤ more → 1 ≤ more → (1 ≤ n → 2 ≤ more)
    → new ≡ slice_set counts block more → Counted blocks counts done → Counted blocks new (done + 1)
counted_more blocks counts new done block n more at_done at grows some two e are = rw e (record {
  one = λ i b less at_i. elim (cases_lt i done) [
    | inl before ↦ at_least_more counts block n more b 1 at grows (are.one i b before at_i)
    | inr past ↦
        let i_is : i ≡ done = omega arith in
        let b_is : block ≡ b = one_value blocks done block b at_done (subst (λ (k : ℕ). slice_get blocks k ≡ Some b) i_is at_i) in
        subst (λ (k : ℕ). AtLeast (slice_set counts block more) k 1) b_is (more, set_here counts block n more at, some)
  ];
  two = λ i j b less within at_i at_j. elim (cases_lt j done) [
    | inl before ↦ at_least_more counts block n more b 2 at grows (are.two i j b less before at_i at_j)
    | inr past ↦
        let j_is : j ≡ done = omega arith in
        let b_is : block ≡ b = one_value blocks done block b at_done (subst (λ (k : ℕ). slice_get blocks k ≡ Some b) j_is at_j) in
        let was = are.one i b (omega arith) at_i in
        let n_is : was.0 ≡ n = one_value counts b was.0 n was.1 (subst (λ (k : ℕ). slice_get counts k ≡ Some n) b_is at) in
        let low = was.2 in
        subst (λ (k : ℕ). AtLeast (slice_set counts block more) k 2) b_is (more, set_here counts block n more at, two (omega arith))
  ];
})

pub counted_none : (blocks counts : List ℕ) → Counted blocks counts 0
counted_none blocks counts = record { one = λ i b less. absurd (omega arith); two = λ i j b less within. absurd (omega arith) }

-- a closed path goes along another bond too
record Other (bonds : List Bond) (path : List ℕ) (i : ℕ) : Type 0 where
  number : ℕ
  bond : Bond
  is_bond : slice_get bonds number ≡ Some bond
  differs : i ≢ number
  uses : Uses path bond

step_uses : (path : List ℕ) (k : ℕ) (bond : Bond) → k + 1 < length path → ((bond.first.0 ≡ get_or path k 0) × (bond.second.0 ≡ get_or path (k + 1) 0)) ⊎ ((bond.first.0 ≡ get_or path (k + 1) 0) × (bond.second.0 ≡ get_or path k 0))
    → Uses path bond
step_uses path k bond within (inl (e, f)) = inl (inl (k, within, sym e, sym f))
step_uses path k bond within (inr (e, f)) = inr (inl (k, within, sym f, sym e))

step_other : (bonds : List Bond) (path : List ℕ) (i k : ℕ) (bond : Bond) → IsClosedPath bonds path → slice_get bonds i ≡ Some bond → k + 1 < length path
    → (joins bond (get_or path k 0) (get_or path (k + 1) 0) ≡ true → ⊥) → Other bonds path i
step_other bonds path i k bond closed at within not_it =
    let b = bond_number bonds (get_or path k 0) (get_or path (k + 1) 0) (closed.joined k within) in
    record {
      number = b.0;
      bond = b.1;
      is_bond = b.2;
      differs = λ same.
          let is : b.1 ≡ bond = same_Some b.1 bond (sym b.2 ∙ subst (λ (m : ℕ). slice_get bonds m ≡ Some bond) same at) in
          not_it (subst (λ (c : Bond). joins c (get_or path k 0) (get_or path (k + 1) 0) ≡ true) is b.3);
      uses = step_uses path k b.1 within (joins_cases b.1 (get_or path k 0) (get_or path (k + 1) 0) b.3);
    }

other_bond : (bonds : List Bond) (path : List ℕ) (i : ℕ) (bond : Bond) → IsClosedPath bonds path → slice_get bonds i ≡ Some bond → Other bonds path i
other_bond bonds path i bond closed at = cases (joins_or bond (get_or path 0 0) (get_or path (0 + 1) 0))
  where
    joins_or : (b : Bond) (u v : ℕ) → (joins b u v ≡ true) ⊎ (joins b u v ≡ true → ⊥)
    joins_or b u v = bool_or (joins b u v)
      where
        bool_or : (t : Bool) → (t ≡ true) ⊎ (t ≡ true → ⊥)
        bool_or true = inl refl
        bool_or false = inr (λ e. cc)

    long : 3 ≤ length path
    long = closed.long

    not_first_third : get_or path 0 0 ≢ get_or path (1 + 1) 0
    not_first_third = let l = closed.long in closed.different 0 (1 + 1) (omega arith) (omega arith)

    not_second : get_or path 0 0 ≢ get_or path (0 + 1) 0
    not_second = let l = closed.long in closed.different 0 (0 + 1) (omega arith) (omega arith)

    both : ((bond.first.0 ≡ get_or path 0 0) × (bond.second.0 ≡ get_or path (0 + 1) 0)) ⊎ ((bond.first.0 ≡ get_or path (0 + 1) 0) × (bond.second.0 ≡ get_or path 0 0))
        → ((bond.first.0 ≡ get_or path 1 0) × (bond.second.0 ≡ get_or path (1 + 1) 0)) ⊎ ((bond.first.0 ≡ get_or path (1 + 1) 0) × (bond.second.0 ≡ get_or path 1 0)) → ⊥
    both (inl (a, b)) (inl (c, d)) = not_second (sym a ∙ c)
    both (inl (a, b)) (inr (c, d)) = not_first_third (sym a ∙ c)
    both (inr (a, b)) (inl (c, d)) = not_first_third (sym b ∙ d)
    both (inr (a, b)) (inr (c, d)) = not_second (sym b ∙ d)

    cases : (joins bond (get_or path 0 0) (get_or path (0 + 1) 0) ≡ true) ⊎ (joins bond (get_or path 0 0) (get_or path (0 + 1) 0) ≡ true → ⊥) → Other bonds path i
    cases (inr not_it) = let l = closed.long in step_other bonds path i 0 bond closed at (omega arith) not_it
    cases (inl it) = let l = closed.long in step_other bonds path i 1 bond closed at (omega arith)
        (λ also. both (joins_cases bond (get_or path 0 0) (get_or path (0 + 1) 0) it) (joins_cases bond (get_or path 1 0) (get_or path (1 + 1) 0) also))

pub lone_none : (bonds : List Bond) (blocks counts : List ℕ) (i block n : ℕ) → AreBlocks bonds blocks → Counted blocks counts (length blocks) → slice_get blocks i ≡ Some block
    → slice_get counts block ≡ Some n → n < 2 → (bond : Bond) → slice_get bonds i ≡ Some bond → (path : List ℕ) → ¬ IsRingOf bonds bond path
lone_none bonds blocks counts i block n are counted at_i at_n few bond at path ring =
    let o = other_bond bonds path i bond ring.closed_path at in
    let within : o.number < length blocks = let w = slice_get_within bonds o.number o.bond o.is_bond in let c = are.count in omega arith in
    let l : ℕ = get_or blocks o.number 0 in
    let at_l : slice_get blocks o.number ≡ Some l = slice_get-get_or blocks o.number 0 within in
    let same : block ≡ l = (are.same i o.number bond o.bond block l o.differs at o.is_bond at_i at_l).1 (record { path = path; closed_path = ring.closed_path; first = ring.uses; second = o.uses }) in
    let at_block : slice_get blocks o.number ≡ Some block = subst (λ (m : ℕ). slice_get blocks o.number ≡ Some m) (sym same) at_l in
    let i_in = slice_get_within blocks i block at_i in
    let differs = o.differs in
    elim (cases_lt i o.number) [
      | inl less ↦ (let two = counted.two i o.number block less within at_i at_block in let m = one_value counts block two.0 n two.1 at_n in let low = two.2 in omega arith)
      | inr more ↦ (let two = counted.two o.number i block (omega arith) i_in at_block at_i in let m = one_value counts block two.0 n two.1 at_n in let low = two.2 in omega arith)
    ]

-- one more bond has its size
pub sizes_more : (bonds : List Bond) (old new : List (Option ℕ)) (k : ℕ) (size : Option ℕ) → length old ≡ k → new ≡ old ++ size ∷ []
    → ((i : ℕ) (s : Option ℕ) → slice_get old i ≡ Some s → RingSizeAt bonds i s) → RingSizeAt bonds k size
    → (length new ≡ k + 1) × ((i : ℕ) (s : Option ℕ) → slice_get new i ≡ Some s → RingSizeAt bonds i s)
sizes_more bonds old new k size count e each here = rw e (
  (let long = length-append old (size ∷ []) in omega arith),
  (λ i s at. elim (cases_lt i (length old)) [
    | inl less ↦ each i s (sym (slice_get-append_left old (size ∷ []) i less) ∙ at)
    | inr past ↦
        let found = slice_get-append_past old size s i past at in
        subst (λ (m : ℕ). RingSizeAt bonds m s) (sym (found.0 ∙ count)) (subst (λ (o : Option ℕ). RingSizeAt bonds k o) (sym found.1) here)
  ]),
)
