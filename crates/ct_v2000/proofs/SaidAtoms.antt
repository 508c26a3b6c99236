-- The atoms with what is kept of the property lines are the atoms with what these say.
use Rattle.std.proofs.Common.{arith, ◌≡◌, ◌∙◌, ◌||◌, ℕ, zero, suc, ◌+◌, ◌≤◌, ◌<◌, List, [], ◌∷◌, ◌++◌, length, drop, get_or, Bool, true, false, Option, None, ℤ, refl, ap, sym, subst, append_assoc}
use Rattle.std.specs.Prelude.{replicate}
use Rattle.std.proofs.Math.Seq.{drop-cons}
use Rattle.ct_sd.specs.declared.fault.Fault.{Fault}
use Rattle.ct_sd.specs.Faults.{first_of, faults_at}
use Rattle.ct_sd.proofs.First.{first_of_joined}
use Rattle.ct_sd.specs.declared.table.TableAtom.{TableAtom}
use Rattle.ct_v2000.specs.declared.atom_line.AtomLine.{AtomLine}
use Rattle.ct_v2000.specs.declared.said.Said.{Said}
use Rattle.ct_v2000.specs.Properties.{Numbered, property_faults}
use Rattle.ct_v2000.specs.Replaced.{replaces_codes, replaces_differences, says_charges, some_line, last_said}
use Rattle.ct_v2000.specs.Table.{charge_with, isotope_with, atom_with, atoms_from, late_shows, late_faults}
use Rattle.ct_v2000.specs.Blocks.{IsSaid, IsWholeRest, atom_by_said, atoms_by_said}

atom_is : (lines : List Numbered) (said : Said) (k : ℕ) (given : AtomLine) → IsSaid lines said → k < length said.charges.items → atom_by_said said k given ≡ atom_with lines (k + 1) given
atom_is lines said k given is less =
    ap (λ (c : ℤ). record given.atom { charge = c; isotope = isotope_with said.differences_replaced (get_or said.masses.items k None) given.atom.isotope given.isotope })
    (ap (λ (r : Bool). charge_with r (get_or said.charges.items k None) given.charge) is.codes ∙ ap (λ (v : Option ℤ). charge_with (some_line replaces_codes lines) v given.charge) (is.charges k less))
    ∙ ap (λ (i : ℕ). record given.atom { charge = charge_with (some_line replaces_codes lines) (last_said says_charges (k + 1) None lines) given.charge; isotope = i })
    (ap (λ (r : Bool). isotope_with r (get_or said.masses.items k None) given.atom.isotope given.isotope) is.differences
    ∙ ap (λ (v : Option ℤ). isotope_with (some_line replaces_differences lines) v given.atom.isotope given.isotope) (is.masses k less))

pub atoms_are : (lines : List Numbered) (said : Said) (k : ℕ) (given : List AtomLine) → IsSaid lines said → k + length given ≤ length said.charges.items → atoms_by_said said k given ≡ atoms_from lines (k + 1) given
atoms_are lines said k [] is few = refl
atoms_are lines said k (line ∷ more) is few =
    ap (λ (a : TableAtom). a ∷ atoms_by_said said (k + 1) more) (atom_is lines said k line is (omega arith))
    ∙ ap (λ (t : List TableAtom). atom_with lines (k + 1) line ∷ t) (atoms_are lines said (k + 1) more is (omega arith))

-- ---- one more atom

line_more : (k : ℕ) (lines : List AtomLine) (d : AtomLine) → k < length lines → drop k lines ≡ get_or lines k d ∷ drop (k + 1) lines
line_more k lines d less = drop-cons lines k d less ∙ ap (λ (m : ℕ). get_or lines k d ∷ drop m lines) (let e : suc k ≡ k + 1 = omega arith in e)

pub atoms_more : (said : Said) (lines : List AtomLine) (k : ℕ) (d : AtomLine) (made all : List TableAtom) (atom : TableAtom) → k < length lines
    → atom ≡ atom_by_said said k (get_or lines k d)
    → made ++ atoms_by_said said k (drop k lines) ≡ all
    → (made ++ atom ∷ []) ++ atoms_by_said said (k + 1) (drop (k + 1) lines) ≡ all
atoms_more said lines k d made all atom less is before =
    append_assoc made (atom ∷ []) (atoms_by_said said (k + 1) (drop (k + 1) lines))
    ∙ (ap (λ (a : TableAtom). made ++ a ∷ atoms_by_said said (k + 1) (drop (k + 1) lines)) is
    ∙ (sym (ap (λ (t : List AtomLine). made ++ atoms_by_said said k t) (line_more k lines d less)) ∙ before))

pub late_more : (charges masses : Bool) (lines : List AtomLine) (k : ℕ) (d : AtomLine) (f0 f1 all : Option Fault) → k < length lines
    → f1 ≡ first_of f0 (faults_at (5 + k) (late_shows charges masses (get_or lines k d)))
    → first_of f0 (late_faults charges masses (5 + k) (drop k lines)) ≡ all
    → first_of f1 (late_faults charges masses (5 + (k + 1)) (drop (k + 1) lines)) ≡ all
late_more charges masses lines k d f0 f1 all less noted before =
    ap (λ (f : Option Fault). first_of f (late_faults charges masses (5 + (k + 1)) (drop (k + 1) lines))) noted
    ∙ (sym (first_of_joined f0 (faults_at (5 + k) (late_shows charges masses (get_or lines k d))) (late_faults charges masses (5 + (k + 1)) (drop (k + 1) lines)))
    ∙ (ap (λ (m : ℕ). first_of f0 (faults_at (5 + k) (late_shows charges masses (get_or lines k d)) ++ late_faults charges masses m (drop (k + 1) lines))) (let e : 5 + (k + 1) ≡ 5 + k + 1 = omega arith in e)
    ∙ (sym (ap (λ (t : List AtomLine). first_of f0 (late_faults charges masses (5 + k) t)) (line_more k lines d less)) ∙ before)))

-- ---- the property block, read whole

abbrev no_value : Option ℤ
no_value = None

nothing_at : (n k : ℕ) → get_or (replicate n no_value) k None ≡ no_value
nothing_at zero k = refl
nothing_at (suc n) zero = refl
nothing_at (suc n) (suc k) = nothing_at n k

pub said_is : (rest : List Numbered) (count : ℕ) (said0 said : Said)
    → said0.charges.items ≡ replicate count None → said0.masses.items ≡ replicate count None → said0.codes_replaced ≡ false → said0.differences_replaced ≡ false
    → length said.charges.items ≡ length said0.charges.items
    → said.codes_replaced ≡ (said0.codes_replaced || some_line replaces_codes rest)
    → said.differences_replaced ≡ (said0.differences_replaced || some_line replaces_differences rest)
    → ((k : ℕ) → k < length said0.charges.items → get_or said.charges.items k None ≡ last_said says_charges (k + 1) (get_or said0.charges.items k None) rest)
    → ((k : ℕ) → k < length said0.charges.items → get_or said.masses.items k None ≡ last_said replaces_differences (k + 1) (get_or said0.masses.items k None) rest)
    → IsSaid rest said
said_is rest count said0 said c0 m0 r0 d0 n codes differences charges masses = record {
  codes = codes ∙ ap (λ (r : Bool). r || some_line replaces_codes rest) r0;
  differences = differences ∙ ap (λ (r : Bool). r || some_line replaces_differences rest) d0;
  charges = λ k below. charges k (subst (λ (m : ℕ). k < m) n below)
      ∙ ap (λ (v : Option ℤ). last_said says_charges (k + 1) v rest) (ap (λ (t : List (Option ℤ)). get_or t k None) c0 ∙ nothing_at count k);
  masses = λ k below. masses k (subst (λ (m : ℕ). k < m) n below)
      ∙ ap (λ (v : Option ℤ). last_said replaces_differences (k + 1) v rest) (ap (λ (t : List (Option ℤ)). get_or t k None) m0 ∙ nothing_at count k);
}

pub whole_rest : (rest : List Numbered) (ends : Bool) (count : ℕ) (given : List AtomLine) (said : Said) (f0 f1 f2 : Option Fault) (atoms : List TableAtom)
    → ends ≡ true
    → IsSaid rest said
    → length given ≤ length said.charges.items
    → f1 ≡ first_of f0 (property_faults count rest)
    → atoms ≡ atoms_by_said said 0 given
    → f2 ≡ first_of f1 (late_faults said.codes_replaced said.differences_replaced 5 given)
    → IsWholeRest rest ends count given f0 atoms f2
whole_rest rest ends count given said f0 f1 f2 atoms e is few p a l = record {
  end = e;
  atoms_are = a ∙ atoms_are rest said 0 given is (let n : ℕ = length given in let m : ℕ = length said.charges.items in let h : n ≤ m = few in let e : 0 + n ≤ m = omega arith in e);
  shows = l
      ∙ (ap (λ (f : Option Fault). first_of f (late_faults said.codes_replaced said.differences_replaced 5 given)) p
      ∙ (ap (λ (r : Bool). first_of (first_of f0 (property_faults count rest)) (late_faults r said.differences_replaced 5 given)) is.codes
      ∙ ap (λ (r : Bool). first_of (first_of f0 (property_faults count rest)) (late_faults (some_line replaces_codes rest) r 5 given)) is.differences));
}
