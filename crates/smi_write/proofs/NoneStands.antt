-- No kind stands in a text that is read as a molecule within the limits.
use Rattle.std.proofs.Common.{arith, ◌≡◌, ◌<◌, ◌≤◌, ◌+◌, ℕ, zero, suc, Bool, true, false, List, [], ◌∷◌, length, Option, Some, None, refl, sym, ap, ◌∙◌, inl, inr}
use Rattle.std.specs.Prelude.{slice_get, nat_abs, is_some, not, option_map, reverse, ◌||◌}
use Rattle.std.proofs.lemmas.Bool.{and_parts, cases_lt, both_ways, false≢true, le-ltb, not-true}
use Rattle.std.proofs.lemmas.Option.{slice_get_past, slice_get_within, slice_get-map}
use Rattle.mc_base.specs.declared.kind.Kind.{Kind}
use Rattle.mc_base.specs.declared.kind.Kind.TheVariants.{NotBuilt, BadToken, Wildcard, OtherChirality, BadOrder, ParenOpen, RingOpen, RingClash, RingPair, AromaticBond, LimitAtoms, LimitBonds, LimitRings, LimitIsotope, LimitClass, LimitCharge, LimitValence, HydrogenOnHydrogen, NoPlacement, NotACentre}
use Rattle.mc_mol.specs.declared.parts.Atom.{Atom}
use Rattle.mc_mol.specs.declared.parts.Bond as bond
use Rattle.mc_mol.specs.declared.parts.Slot.{Slot}
use Rattle.mc_mol.specs.Molecule.{Molecule, bond_sum}
use Rattle.mc_mol.specs.WellFormed.{IsMolecule}
use Rattle.mc_mol.specs.Limits.{overvalent_at, hydrogen_on_hydrogen_at, is_hydrogen_with_more, is_over, IsAtomWithinLimits}
use Rattle.mc_mol.specs.declared.limits.TheConstants.{ATOM_LIMIT, BOND_LIMIT, RING_LIMIT, ISOTOPE_LIMIT, CLASS_LIMIT, CHARGE_LIMIT}
use Rattle.mc_rings.specs.Centres.{hydrogens_of, may_be_centre}
use Rattle.smi_lex.specs.Tokens.{unread}
use Rattle.smi_graph.specs.declared.skel_atom.SkelAtom.{SkelAtom}
use Rattle.smi_graph.specs.declared.role.Role.{Role}
use Rattle.smi_graph.specs.Links.{bonds_of}
use Rattle.smi_graph.specs.Order.{unclosed_at}
use Rattle.smi_graph.specs.RingRules.{clash_at, pair_again_at}
use Rattle.smi_graph.specs.Candidates.{is_lower}
use Rattle.smi_graph.specs.Rules.{atoms_in, bonds_in, text_bonds_in, roles_in, fails, has_high_isotope, has_high_class, has_high_charge}
use Rattle.smi_graph.proofs.TokenFaults.{unclosed_past, clash_past, pair_past}
use Rattle.smi_graph.proofs.Plain.{plain_bonds, upper_atoms}
use Rattle.smi_mean.proofs.Needing.{overvalent_same, upper_needs_none}
use Rattle.smi_mean.proofs.Placing.{none_placed, nothing_placed}
use Rattle.smi_mean.specs.Needs.{needs}
use Rattle.smi_mean.specs.Meaning.{atoms_with, meaning, meant_atom}
use Rattle.smi_mean.specs.MeantCentres.{is_wrong_centre}
use Rattle.smi_mean.specs.Order.{Graph, graph_of, at, rank_of}
use Rattle.smi_mean.specs.Rules.{StandsAt}
use Rattle.smi_mean.specs.Sound.{IsSound}
use Rattle.smi_mean.specs.Written.{atom_token, bond_symbol}
use Rattle.smi_mean.specs.WrittenPlaces.{atom_mark, list_of, parity_mark, written_places}
use Rattle.smi_mean.specs.WrongCentres.{NotACentreAt}
use Rattle.smi_write.proofs.CentreStays.{may_stay, read_bonds}
use Rattle.smi_write.proofs.MarksRead.{Says, atom_says}
use Rattle.smi_write.proofs.PlacesRead.{back}
use Rattle.smi_write.proofs.StructureLaw.{tokens_are}
use Rattle.smi_write.proofs.TokensWritten.{role_of_atom}
use Rattle.smi_write.proofs.Structured.{IsRead, length_with}

-- an atom of the skeleton, and the one that it means
atom_with : (bonds : List bond.Bond) (j : ℕ) (atoms : List SkelAtom) (k : ℕ) (atom : SkelAtom) → slice_get atoms k ≡ Some atom
    → (sum : ℕ) × (slice_get (atoms_with bonds j atoms) k ≡ Some (meant_atom atom sum))
atom_with bonds j [] k atom is = cc
atom_with bonds j (a ∷ atoms) zero atom is = (bond_sum bonds j, ap (λ (x : SkelAtom). Some (meant_atom x (bond_sum bonds j))) (same a atom is))
  where
    same : (a b : SkelAtom) → Some a ≡ Some b → a ≡ b
    same a b h = cc
atom_with bonds j (a ∷ atoms) (suc k) atom is = atom_with bonds (j + 1) atoms k atom is

-- each atom of the skeleton is within the limits
within : (m : Molecule) (text : List ℕ) → IsSound m → IsRead m text → (k : ℕ) (atom : SkelAtom) → slice_get (atoms_in text) k ≡ Some atom
    → (sum : ℕ) × IsAtomWithinLimits (meant_atom atom sum)
within m text sound read k atom is =
    let inside = slice_get_within (atoms_in text) k atom is in
    let count = read.count in
    let meant = atom_with (bonds_in text) 0 (atoms_in text) k atom is in
    (meant.0, sound.within.atoms (at (graph_of m) k) (meant_atom atom meant.0) (sym (read.same_atoms k (omega arith)) ∙ meant.1))

no_atom_fails : (m : Molecule) (text : List ℕ) → IsSound m → IsRead m text → (p : SkelAtom → Bool)
    → ((atom : SkelAtom) (sum : ℕ) → IsAtomWithinLimits (meant_atom atom sum) → p atom ≡ false) → (k : ℕ) → fails p (slice_get (atoms_in text) k) ≡ false
no_atom_fails m text sound read p passes k = by_atom (slice_get (atoms_in text) k) refl
  where
    by_atom : (o : Option SkelAtom) → slice_get (atoms_in text) k ≡ o → fails p o ≡ false
    by_atom None is = refl
    by_atom (Some atom) is = let limits = within m text sound read k atom is in passes atom limits.0 limits.1

-- an atom of the text has the valence and the hydrogens of its atom of the molecule

none_past : (m : Molecule) (text : List ℕ) → IsRead m text → (k : ℕ) → length m.atoms ≤ k → slice_get (meaning text).atoms k ≡ None
none_past m text read k past =
    let count = read.count in
    let size : length (atoms_with (bonds_in text) 0 (atoms_in text)) ≡ length (atoms_in text) = length_with (bonds_in text) 0 (atoms_in text) in
    slice_get_past (atoms_with (bonds_in text) 0 (atoms_in text)) k (omega arith)

no_valence : (m : Molecule) (text : List ℕ) → IsSound m → IsRead m text → (k : ℕ) → overvalent_at (meaning text) k ≡ false
no_valence m text sound read k = elim (cases_lt k (length m.atoms)) [
  | inl less ↦
      ap (λ (o : Option Atom). is_over o (bond_sum (bonds_in text) k)) (read.same_atoms k less)
      ∙ ap (is_over (slice_get m.atoms (at (graph_of m) k))) (read.reads.sums k less)
      ∙ sound.within.valences (at (graph_of m) k)
  | inr past ↦ ap (λ (o : Option Atom). is_over o (bond_sum (bonds_in text) k)) (none_past m text read k (omega arith))
]

no_hydrogen : (m : Molecule) (text : List ℕ) → IsSound m → IsRead m text → (k : ℕ) → hydrogen_on_hydrogen_at (meaning text) k ≡ false
no_hydrogen m text sound read k = elim (cases_lt k (length m.atoms)) [
  | inl less ↦ ap is_hydrogen_with_more (read.same_atoms k less) ∙ sound.within.hydrogens (at (graph_of m) k)
  | inr past ↦ ap is_hydrogen_with_more (none_past m text read k (omega arith))
]

-- an atom in upper case needs no double bond
pub no_need : (text : List ℕ) → ((k : ℕ) → is_lower (atoms_in text) k ≡ false) → (k : ℕ) → needs (atoms_in text) (bonds_in text) k ≡ false
no_need text upper k = upper_needs_none (atoms_in text) (bonds_in text) k (upper k)

no_rest : (m : Molecule) (text : List ℕ) → IsRead m text → 0 < length (unread text) → ⊥
no_rest m text read some = let none = ap (λ (t : List ℕ). length t) read.nothing_left in omega arith

above_limit : (n k most : ℕ) → n ≡ k → k ≤ most → most < n → ⊥
above_limit n k most same few more = omega arith

-- a test that fails at each token and behind them
nowhere : (p : ℕ → Bool) (n i : ℕ) → ((i : ℕ) → n ≤ i → p i ≡ false) → ((i : ℕ) → i ≤ n → p i ≡ false) → p i ≡ true → ⊥
nowhere p n i past fails holds = elim (cases_lt i n) [
  | inl less ↦ both_ways (p i) (fails i (omega arith)) holds
  | inr more ↦ both_ways (p i) (past i (omega arith)) holds
]

-- A mark stands only at an atom that may be a centre

abbrev said_by : Option Says → Says
said_by None = (true, None)
said_by (Some s) = s

marked_centre : (c : Option (Option (List Slot))) (list : List Slot) → is_some (parity_mark (list_of c) list) ≡ true → (places : List Slot) × (c ≡ Some (Some places))
marked_centre None list h = absurd (false≢true h)
marked_centre (Some None) list h = absurd (false≢true h)
marked_centre (Some (Some places)) list h = (places, refl)

-- an atom in upper case that has a mark is wrong only where it may be no centre
wrong_is : (atom : SkelAtom) (may : Bool) → atom.lower ≡ false → is_wrong_centre (Some atom) may ≡ true → (is_some atom.chiral ≡ true) × (may ≡ false)
wrong_is atom may upper wrong =
    let both = and_parts (is_some atom.chiral) (atom.lower || not may) wrong in
    (both.0, not-true may (ap (λ (t : Bool). t || not may) (sym upper) ∙ both.1))

no_wrong : (m : Molecule) (text : List ℕ) → IsMolecule m → IsSound m → IsRead m text → (place : ℕ) → NotACentreAt text place → ⊥
no_wrong m text is sound read place h = by_atom (slice_get (atoms_in text) h.k) refl h.wrong
  where
    by_atom : (o : Option SkelAtom) → slice_get (atoms_in text) h.k ≡ o → is_wrong_centre o (may_be_centre (meaning text) h.sizes h.k) ≡ true → ⊥
    by_atom None found wrong = false≢true wrong
    by_atom (Some atom) found wrong =
        let g : Graph = graph_of m in
        let inside = slice_get_within (atoms_in text) h.k atom found in
        let count = read.count in
        let less : h.k < length m.atoms = omega arith in
        let u : ℕ = at g h.k in
        let says : atom_says atom ≡ (false, atom_mark m u) =
        ap said_by (sym (ap (option_map atom_says) found) ∙ sym (slice_get-map atom_says (atoms_in text) h.k) ∙ read.said h.k less) in
        let bad = wrong_is atom (may_be_centre (meaning text) h.sizes h.k) (ap (λ (s : Says). s.0) says) wrong in
        let (places, is_centre) = marked_centre (slice_get m.centres u) (written_places g (rank_of g u) (hydrogens_of (slice_get m.atoms u)))
        (ap (λ (s : Says). is_some s.1) (sym says) ∙ bad.0) in
        let may = sound.centres u places is_centre in
        let bonds : (meaning text).bonds ≡ read_bonds m =
        ap (λ (ks : List Role). bonds_of (reverse ks)) (read.roles ∙ tokens_are g (λ j l. bond_symbol g j l) (atom_token m) (role_of_atom m)) ∙ ap bonds_of (back g (λ j l. bond_symbol g j l)) in
        both_ways _ bad.1 (may_stay m (meaning text) may.sizes h.sizes h.k is less bonds (ap hydrogens_of (read.same_atoms h.k less)) may.are h.are may.may)

pub none_stands : (m : Molecule) (text : List ℕ) → IsMolecule m → IsSound m → IsRead m text → (kind : Kind) (place : ℕ) → StandsAt text kind place → ⊥
none_stands m text is sound read NotBuilt place h = both_ways _ h.2 read.built
none_stands m text is sound read BadToken place h = no_rest m text read h.0
none_stands m text is sound read Wildcard place h = no_rest m text read h.0
none_stands m text is sound read OtherChirality place h = no_rest m text read h.0
none_stands m text is sound read BadOrder place (i, (inside, bad), there) = both_ways _ (read.reads.placed i inside) bad
none_stands m text is sound read ParenOpen place (i, bad, there) = nowhere (unclosed_at (roles_in text)) (length (roles_in text)) i (unclosed_past (roles_in text)) read.reads.closed bad
none_stands m text is sound read RingOpen place (i, (n, other, stays, there), at) = let shut = read.reads.rings n in cc
none_stands m text is sound read RingClash place (i, bad, there) = nowhere (clash_at (roles_in text)) (length (roles_in text)) i (clash_past (roles_in text)) read.reads.clashes bad
none_stands m text is sound read RingPair place (i, bad, there) = nowhere (pair_again_at (roles_in text)) (length (roles_in text)) i (pair_past (roles_in text)) read.reads.pairs bad
none_stands m text is sound read AromaticBond place (k, there, bad) = both_ways _ (plain_bonds text (atoms_in text) (text_bonds_in text) refl read.plain k) bad
none_stands m text is sound read LimitAtoms place h = above_limit (length (atoms_in text)) (length m.atoms) ATOM_LIMIT read.count is.few_atoms h.1
none_stands m text is sound read LimitBonds place h = above_limit (length (bonds_in text)) (length m.bonds) BOND_LIMIT read.reads.count is.few_bonds h.1
none_stands m text is sound read LimitRings place h = above_limit _ _ RING_LIMIT refl read.few_rings h.1
none_stands m text is sound read LimitIsotope place (k, there, bad) =
    both_ways _ (no_atom_fails m text sound read has_high_isotope (λ atom sum limits. le-ltb ISOTOPE_LIMIT atom.isotope limits.isotope) k) bad
none_stands m text is sound read LimitClass place (k, there, bad) =
    both_ways _ (no_atom_fails m text sound read has_high_class (λ atom sum limits. le-ltb CLASS_LIMIT atom.class limits.class) k) bad
none_stands m text is sound read LimitCharge place (k, there, bad) =
    both_ways _ (no_atom_fails m text sound read has_high_charge (λ atom sum limits. le-ltb CHARGE_LIMIT (nat_abs atom.charge) limits.charge) k) bad
none_stands m text is sound read LimitValence place (k, there, bad) = both_ways _ (overvalent_same (atoms_in text) (bonds_in text) k ∙ no_valence m text sound read k) bad
none_stands m text is sound read HydrogenOnHydrogen place (k, there, bad) = both_ways _ (no_hydrogen m text sound read k) bad
none_stands m text is sound read NoPlacement place h =
    h.1 (none_placed (text_bonds_in text)) (nothing_placed (atoms_in text) (text_bonds_in text) (no_need text (upper_atoms text read.plain)))
none_stands m text is sound read NotACentre place h = no_wrong m text is sound read place h
none_stands m text is sound read _ place h = h
