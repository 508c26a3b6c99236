-- What follows from a need, and where there is none.
use Rattle.std.proofs.Common.{arith, ◌≡◌, ◌∙◌, ℕ, zero, suc, ◌+◌, ◌≤◌, List, [], ◌∷◌, length, Bool, true, false, Option, Some, None, refl, ap, sym, inl, inr}
use Rattle.std.specs.Prelude.{slice_get, not, ◌&&◌, ◌||◌, ◌==◌, nat_lt, if◌then◌else◌, ℤ, pos, negsuc}
use Rattle.std.proofs.lemmas.Bool.{and_parts, cases_Bool, cases_lt, false≢true}
use Rattle.std.proofs.lemmas.Bool.Decides.{nat_tests}
use Rattle.std.proofs.lemmas.Option.{slice_get_past}
use Rattle.mc_elements.specs.declared.element.Element.{Element}
use Rattle.mc_elements.specs.declared.element.Element.TheVariants.{B, C, N, O, P, S, As, Se}
use Rattle.mc_elements.specs.Valences.{aromatic_valences, by_charge}
use Rattle.mc_mol.specs.declared.parts.Atom.{Atom}
use Rattle.mc_mol.specs.declared.parts.Bond.{Bond}
use Rattle.mc_mol.specs.Molecule.{bond_sum}
use Rattle.smi_graph.specs.declared.skel_atom.SkelAtom.{SkelAtom}
use Rattle.smi_graph.specs.Candidates.{lower, is_lower}
use Rattle.smi_graph.specs.Firsts.{IsFirstOf}
use Rattle.smi_mean.specs.Meaning.{hydrogens_of, meant_atom, atoms_with, meaning_of}
use Rattle.smi_mean.specs.Needs.{has_valence, is_one_short, needs_double, needs_in, needs}
use Rattle.mc_mol.specs.Limits.{is_over, overvalent_at}
use Rattle.smi_mean.specs.Rules.{overvalent_in}
use Rattle.smi_mean.proofs.MeantAtoms.{meant_at}

-- An aromatic valence is no more than 6

abbrev AreLow : List ℕ → Type 0
AreLow [] = Unit {0}
AreLow (valence ∷ valences) = (valence ≤ 6) × AreLow valences

by_charge_low : (charge : ℤ) (neutral cation anion : List ℕ) → AreLow neutral → AreLow cation → AreLow anion → AreLow (by_charge charge neutral cation anion)
by_charge_low (pos zero) neutral cation anion a b c = a
by_charge_low (pos (suc zero)) neutral cation anion a b c = b
by_charge_low (pos (suc (suc n))) neutral cation anion a b c = tt
by_charge_low (negsuc zero) neutral cation anion a b c = c
by_charge_low (negsuc (suc n)) neutral cation anion a b c = tt

aromatic_low : (e : Element) (charge : ℤ) → AreLow (aromatic_valences e charge)
aromatic_low B charge = by_charge_low charge _ _ _ (omega arith, tt) tt (omega arith, tt)
aromatic_low C charge = by_charge_low charge _ _ _ (omega arith, tt) (omega arith, tt) (omega arith, tt)
aromatic_low N charge = by_charge_low charge _ _ _ (omega arith, (omega arith, tt)) (omega arith, tt) (omega arith, tt)
aromatic_low P charge = by_charge_low charge _ _ _ (omega arith, (omega arith, tt)) (omega arith, tt) (omega arith, tt)
aromatic_low As charge = by_charge_low charge _ _ _ (omega arith, (omega arith, tt)) (omega arith, tt) (omega arith, tt)
aromatic_low O charge = by_charge_low charge _ _ _ (omega arith, tt) (omega arith, tt) (omega arith, tt)
aromatic_low S charge = by_charge_low charge _ _ _ (omega arith, (omega arith, (omega arith, tt))) (omega arith, (omega arith, tt)) (omega arith, tt)
aromatic_low Se charge = by_charge_low charge _ _ _ (omega arith, (omega arith, (omega arith, tt))) (omega arith, (omega arith, tt)) (omega arith, tt)
aromatic_low _ charge = tt

valence_low : (valences : List ℕ) (x : ℕ) → AreLow valences → has_valence valences x ≡ true → x ≤ 6
valence_low [] x low h = absurd (false≢true h)
valence_low (valence ∷ valences) x low h = by_test (valence == x) refl (λ rest. valence_low valences x low.1 rest) h
  where
    equal : (a b : ℕ) → (a == b) ≡ true → a ≡ b
    equal a b h = grind (arith, nat_tests)

    by_test : (t : Bool) → (valence == x) ≡ t → (has_valence valences x ≡ true → x ≤ 6) → (t || has_valence valences x) ≡ true → x ≤ 6
    by_test true e rest h = let same = equal valence x e in let few = low.0 in omega arith
    by_test false e rest h = rest h

-- so an atom with a need is far below the limit, with the need and without it
need_low : (atom : SkelAtom) (sum : ℕ) → needs_double atom sum ≡ true → sum + hydrogens_of atom sum + 1 ≤ 6
need_low atom sum h =
    let x : ℕ = sum + hydrogens_of atom sum in
    let valences : List ℕ = aromatic_valences atom.element atom.charge in
    let short = (and_parts atom.lower (is_one_short valences x) h).1 in
    valence_low valences (x + 1) (aromatic_low atom.element atom.charge) (and_parts (not (has_valence valences x)) (has_valence valences (x + 1)) short).1

within : (n : ℕ) → n ≤ 6 → nat_lt 14 n ≡ false
within n few = grind (arith, nat_tests)

over_same : (atom : SkelAtom) (sum : ℕ) → is_over (Some (meant_atom atom sum)) (sum + (if needs_double atom sum then 1 else 0)) ≡ is_over (Some (meant_atom atom sum)) sum
over_same atom sum = elim (cases_Bool (needs_double atom sum)) [
  | inl needing ↦
      let few = need_low atom sum needing in
      let more : nat_lt 14 (sum + 1 + hydrogens_of atom sum) ≡ false = within (sum + 1 + hydrogens_of atom sum) (omega arith) in
      let less : nat_lt 14 (sum + hydrogens_of atom sum) ≡ false = within (sum + hydrogens_of atom sum) (omega arith) in
      ap (λ (t : Bool). nat_lt 14 (sum + (if t then 1 else 0) + hydrogens_of atom sum)) needing ∙ (more ∙ sym less)
  | inr other ↦
      let e : sum + 0 ≡ sum = omega arith in
      ap (λ (t : Bool). nat_lt 14 (sum + (if t then 1 else 0) + hydrogens_of atom sum)) other ∙ ap (λ (n : ℕ). nat_lt 14 (n + hydrogens_of atom sum)) e
]

-- a need never takes an atom above the limit
pub overvalent_same : (atoms : List SkelAtom) (bonds : List Bond) (k : ℕ) → overvalent_in atoms bonds k ≡ overvalent_at (meaning_of atoms bonds) k
overvalent_same atoms bonds k =
    let none : 0 + k ≡ k = omega arith in
    let at : slice_get (atoms_with bonds 0 atoms) k ≡ made (slice_get atoms k) = meant_at bonds 0 atoms k ∙ ap (λ (n : ℕ). made_with n (slice_get atoms k)) none in
    ap (λ (o : Option Atom). is_over o (bond_sum bonds k + (if needs atoms bonds k then 1 else 0))) at
    ∙ (by_atom (slice_get atoms k) ∙ sym (ap (λ (o : Option Atom). is_over o (bond_sum bonds k)) at))
  where
    made_with : ℕ → Option SkelAtom → Option Atom
    made_with n None = None
    made_with n (Some a) = Some (meant_atom a (bond_sum bonds n))

    made : Option SkelAtom → Option Atom
    made o = made_with k o

    by_atom : (o : Option SkelAtom) → is_over (made o) (bond_sum bonds k + (if needs_in o (bond_sum bonds k) then 1 else 0)) ≡ is_over (made o) (bond_sum bonds k)
    by_atom None = refl
    by_atom (Some atom) = over_same atom (bond_sum bonds k)

-- No atom needs a double bond

pub never_needs : (atoms : List SkelAtom) (bonds : List Bond) → IsFirstOf (needs atoms bonds) (length atoms) None → (k : ℕ) → needs atoms bonds k ≡ false
never_needs atoms bonds none k = elim (cases_lt k (length atoms)) [
  | inl less ↦ none k less
  | inr more ↦ ap (λ (o : Option SkelAtom). needs_in o (bond_sum bonds k)) (slice_get_past atoms k (omega arith))
]

-- an atom in upper case needs none
pub upper_needs_none : (atoms : List SkelAtom) (bonds : List Bond) (k : ℕ) → is_lower atoms k ≡ false → needs atoms bonds k ≡ false
upper_needs_none atoms bonds k upper = by_atom (slice_get atoms k) refl
  where
    by_atom : (o : Option SkelAtom) → slice_get atoms k ≡ o → needs_in o (bond_sum bonds k) ≡ false
    by_atom None at = refl
    by_atom (Some atom) at =
        ap (λ (t : Bool). t && is_one_short (aromatic_valences atom.element atom.charge) (bond_sum bonds k + hydrogens_of atom (bond_sum bonds k))) (sym (ap lower at) ∙ upper)
