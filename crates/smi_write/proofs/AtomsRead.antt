-- The atoms of a text, by the kinds of its tokens.
use Rattle.std.proofs.Common.{arith, ◌≡◌, ◌<◌, ◌+◌, ◌==◌, ℕ, zero, suc, Bool, true, false, List, [], ◌∷◌, ◌++◌, length, get_or, map, Some, refl, sym, ap, ◌∙◌, inl, inr}
use Rattle.std.specs.Prelude.{slice_get, ℤ, pos, negsuc, nat_abs}
use Rattle.std.proofs.lemmas.Bool.{cases_Bool, and_parts, eqb-true}
use Rattle.mc_base.specs.declared.span.Span.{Span}
use Rattle.mc_elements.specs.declared.element.Element.{Element}
use Rattle.mc_elements.specs.declared.element.Element.TheVariants.{C}
use Rattle.mc_elements.specs.Valences.{smiles_valences, implied}
use Rattle.mc_mol.specs.declared.parts.Atom.{Atom}
use Rattle.mc_mol.specs.declared.parts.Bond.{Bond}
use Rattle.mc_mol.specs.Molecule.{bond_sum}
use Rattle.smi_lex.specs.Grammar.{may_be_bare}
use Rattle.smi_lex.specs.declared.token.Token.{Token}
use Rattle.smi_lex.specs.declared.token.TokenKind.{TokenKind}
use Rattle.smi_lex.specs.declared.token.TokenKind.TheVariants as kind
use Rattle.smi_graph.specs.declared.role.Role.TheVariants as doing
use Rattle.smi_graph.specs.declared.skel_atom.SkelAtom.{SkelAtom}
use Rattle.smi_graph.specs.Roles.{role_of, bare_atom, bracket_atom, atom_of, atoms_of}
use Rattle.smi_mean.specs.Meaning.{meant_atom, atoms_with}
use Rattle.std.specs.Prelude.{Option, is_none, ◌&&◌}
use Rattle.smi_lex.specs.declared.token.BondMark.{BondMark}
use Rattle.smi_mean.specs.RingNumbers.{opening}
use Rattle.smi_mean.specs.Written.{before_atom, is_bare, ring_tokens, text_from, token_of}
use Rattle.smi_write.proofs.EachToken.{Each, HoldsBetween, any_numbers, any_symbols, each_before, each_ring}

-- ---- the atoms of tokens

-- the tokens of atoms among tokens
abbrev pub atom_tokens : List TokenKind → List TokenKind
atom_tokens [] = []
atom_tokens (kind.Bare element lower ∷ ks) = kind.Bare element lower ∷ atom_tokens ks
atom_tokens (kind.Bracket element lower isotope chiral hydrogens charge class ∷ ks) =
    kind.Bracket element lower isotope chiral hydrogens charge class ∷ atom_tokens ks
atom_tokens (kind.Bond mark ∷ ks) = atom_tokens ks
atom_tokens (kind.Ring number ∷ ks) = atom_tokens ks
atom_tokens (kind.Enter ∷ ks) = atom_tokens ks
atom_tokens (kind.Leave ∷ ks) = atom_tokens ks
atom_tokens (kind.Dot ∷ ks) = atom_tokens ks

abbrev nowhere : Span
nowhere = record { from = 0; to = 0 }

-- the atom that a token means, with this bond sum; a token of no atom stands for a carbon atom
abbrev pub meant_by : TokenKind → ℕ → Atom
meant_by (kind.Bare element lower) sum = meant_atom (bare_atom element lower nowhere) sum
meant_by (kind.Bracket element lower isotope chiral hydrogens charge class) sum =
    meant_atom (bracket_atom element lower isotope chiral hydrogens charge class nowhere) sum
meant_by (kind.Bond mark) sum = meant_atom (bare_atom C false nowhere) sum
meant_by (kind.Ring number) sum = meant_atom (bare_atom C false nowhere) sum
meant_by kind.Enter sum = meant_atom (bare_atom C false nowhere) sum
meant_by kind.Leave sum = meant_atom (bare_atom C false nowhere) sum
meant_by kind.Dot sum = meant_atom (bare_atom C false nowhere) sum

-- the atoms that these tokens mean, from number k on
abbrev pub meant_atoms : List Bond → ℕ → List TokenKind → List Atom
meant_atoms bonds k [] = []
meant_atoms bonds k (t ∷ ts) = meant_by t (bond_sum bonds k) ∷ meant_atoms bonds (k + 1) ts

one_meant : (bonds : List Bond) (k : ℕ) (t : TokenKind) (span : Span) (more : List SkelAtom) (ts : List TokenKind)
    → ((j : ℕ) → atoms_with bonds j more ≡ meant_atoms bonds j (atom_tokens ts))
    → atoms_with bonds k (atom_of t span ++ more) ≡ meant_atoms bonds k (atom_tokens (t ∷ ts))
one_meant bonds k (kind.Bare element lower) span more ts later =
    ap (λ (atoms : List Atom). meant_by (kind.Bare element lower) (bond_sum bonds k) ∷ atoms) (later (k + 1))
one_meant bonds k (kind.Bracket element lower isotope chiral hydrogens charge class) span more ts later =
    ap (λ (atoms : List Atom). meant_by (kind.Bracket element lower isotope chiral hydrogens charge class) (bond_sum bonds k) ∷ atoms) (later (k + 1))
one_meant bonds k (kind.Bond mark) span more ts later = later k
one_meant bonds k (kind.Ring number) span more ts later = later k
one_meant bonds k kind.Enter span more ts later = later k
one_meant bonds k kind.Leave span more ts later = later k
one_meant bonds k kind.Dot span more ts later = later k

-- the atoms of tokens are those that their kinds mean
pub atoms_meant : (bonds : List Bond) (k : ℕ) (tokens : List Token)
    → atoms_with bonds k (atoms_of tokens) ≡ meant_atoms bonds k (atom_tokens (map (λ token. token.kind) tokens))
atoms_meant bonds k [] = refl
atoms_meant bonds k (token ∷ tokens) =
    one_meant bonds k token.kind token.span (atoms_of tokens) (map (λ t. t.kind) tokens) (λ j. atoms_meant bonds j tokens)

pub meant_at : (bonds : List Bond) (token : ℕ → TokenKind) (us : List ℕ) (k i : ℕ) → i < length us
    → slice_get (meant_atoms bonds k (map token us)) i ≡ Some (meant_by (token (get_or us i 0)) (bond_sum bonds (k + i)))
meant_at bonds token [] k i less = absurd (omega arith)
meant_at bonds token (u ∷ us) k zero less =
    let same : k ≡ k + 0 = omega arith in ap (λ (n : ℕ). Some (meant_by (token u) (bond_sum bonds n))) same
meant_at bonds token (u ∷ us) k (suc i) less =
    let same : k + 1 + i ≡ k + suc i = omega arith in
    meant_at bonds token us (k + 1) i (omega arith) ∙ ap (λ (n : ℕ). Some (meant_by (token (get_or us i 0)) (bond_sum bonds n))) same

pub length_meant : (bonds : List Bond) (k : ℕ) (token : ℕ → TokenKind) (us : List ℕ) → length (meant_atoms bonds k (map token us)) ≡ length us
length_meant bonds k token [] = refl
length_meant bonds k token (u ∷ us) = ap suc (length_meant bonds (k + 1) token us)

-- ---- the atoms of the written tokens

atoms_append : (ks later : List TokenKind) → atom_tokens (ks ++ later) ≡ atom_tokens ks ++ atom_tokens later
atoms_append [] later = refl
atoms_append (kind.Bare element lower ∷ ks) later = ap (λ (ts : List TokenKind). kind.Bare element lower ∷ ts) (atoms_append ks later)
atoms_append (kind.Bracket element lower isotope chiral hydrogens charge class ∷ ks) later =
    ap (λ (ts : List TokenKind). kind.Bracket element lower isotope chiral hydrogens charge class ∷ ts) (atoms_append ks later)
atoms_append (kind.Bond mark ∷ ks) later = atoms_append ks later
atoms_append (kind.Ring number ∷ ks) later = atoms_append ks later
atoms_append (kind.Enter ∷ ks) later = atoms_append ks later
atoms_append (kind.Leave ∷ ks) later = atoms_append ks later
atoms_append (kind.Dot ∷ ks) later = atoms_append ks later

-- tokens of no atom in front
no_atoms : (ks later : List TokenKind) → atom_tokens ks ≡ [] → atom_tokens (ks ++ later) ≡ atom_tokens later
no_atoms ks later none = atoms_append ks later ∙ ap (λ (ts : List TokenKind). ts ++ atom_tokens later) none

abbrev IsNoAtom : TokenKind → Type 0
IsNoAtom k = atom_tokens (k ∷ []) ≡ []

none_between : HoldsBetween IsNoAtom (λ m. Unit {0}) (λ n. Unit {0})
none_between = record { mark = λ mark is. refl; ring = λ number is. refl; enter = refl; leave = refl; dot = refl }

none_each : (ks : List TokenKind) → Each IsNoAtom ks → atom_tokens ks ≡ []
none_each [] none = refl
none_each (k ∷ ks) none = no_atoms (k ∷ []) ks none.0 ∙ none_each ks none.1

none_before : (symbols : ℕ → ℕ → Option BondMark) (k p : ℕ) (qs : List ℕ) → atom_tokens (before_atom symbols k p qs) ≡ []
none_before symbols k p qs = none_each (before_atom symbols k p qs) (each_before IsNoAtom (λ m. Unit {0}) (λ n. Unit {0}) symbols k p qs none_between (any_symbols symbols))

none_rings : (symbols : ℕ → ℕ → Option BondMark) (rings : ℕ → ℕ → Bool) (n k : ℕ) → atom_tokens (ring_tokens symbols rings n k) ≡ []
none_rings symbols rings n k =
    none_each (ring_tokens symbols rings n k)
    (each_ring IsNoAtom (λ m. Unit {0}) (λ n. Unit {0}) symbols rings n k none_between (any_symbols symbols) (λ j. any_numbers (opening symbols rings n j)))

atom_first : (t : TokenKind) (ks : List TokenKind) → role_of t ≡ doing.Atom false → atom_tokens (t ∷ ks) ≡ t ∷ atom_tokens ks
atom_first (kind.Bare element lower) ks is = refl
atom_first (kind.Bracket element lower isotope chiral hydrogens charge class) ks is = refl
atom_first (kind.Bond mark) ks is = cc
atom_first (kind.Ring number) ks is = cc
atom_first kind.Enter ks is = cc
atom_first kind.Leave ks is = cc
atom_first kind.Dot ks is = cc

-- the tokens of atoms are those that were given
pub atoms_of_text : (symbols : ℕ → ℕ → Option BondMark) (rings : ℕ → ℕ → Bool) (n k : ℕ) (token : ℕ → TokenKind) (us qs : List ℕ)
    → ((u : ℕ) → role_of (token u) ≡ doing.Atom false) → length us ≡ length qs
    → atom_tokens (text_from symbols rings n k (map token us) qs) ≡ map token us
atoms_of_text symbols rings n k token [] qs atom same = refl
atoms_of_text symbols rings n k token (u ∷ us) [] atom same = absurd (omega arith)
atoms_of_text symbols rings n k token (u ∷ us) (p ∷ qs) atom same =
    let later = text_from symbols rings n (suc k) (map token us) qs in
    no_atoms (before_atom symbols k p qs) (token u ∷ (ring_tokens symbols rings n k ++ later)) (none_before symbols k p qs)
    ∙ atom_first (token u) (ring_tokens symbols rings n k ++ later) (atom u)
    ∙ ap (λ (ts : List TokenKind). token u ∷ ts)
    (no_atoms (ring_tokens symbols rings n k) later (none_rings symbols rings n k)
    ∙ atoms_of_text symbols rings n (suc k) token us qs atom (omega arith))

-- ---- an atom's token means the atom

record IsBareAtom (atom : Atom) (sum : ℕ) : Type 0 where
  isotope : atom.isotope ≡ 0
  charge : atom.charge ≡ pos 0
  class : atom.class ≡ 0
  hydrogens : atom.hydrogens ≡ implied (smiles_valences atom.element) sum

no_charge : (charge : ℤ) → nat_abs charge ≡ 0 → charge ≡ pos 0
no_charge (pos n) is = ap pos is
no_charge (negsuc n) is = absurd (omega arith)

bare_is : (atom : Atom) (sum : ℕ) → is_bare atom sum ≡ true → IsBareAtom atom sum
bare_is atom sum bare =
    let may = and_parts (may_be_bare atom.element false) _ bare in
    let isotope = and_parts (atom.isotope == 0) _ may.1 in
    let charge = and_parts (nat_abs atom.charge == 0) _ isotope.1 in
    let class = and_parts (atom.class == 0) _ charge.1 in
    record {
      isotope = eqb-true atom.isotope 0 isotope.0;
      charge = no_charge atom.charge (eqb-true (nat_abs atom.charge) 0 charge.0);
      class = eqb-true atom.class 0 class.0;
      hydrogens = eqb-true atom.hydrogens (implied (smiles_valences atom.element) sum) class.1;
    }

abbrev made : Element → ℕ → ℤ → ℕ → ℕ → Atom
made element isotope charge hydrogens class = record { element = element; isotope = isotope; charge = charge; hydrogens = hydrogens; class = class }

bare_means : (atom : Atom) (sum : ℕ) → IsBareAtom atom sum → made atom.element 0 (pos 0) (implied (smiles_valences atom.element) sum) 0 ≡ atom
bare_means atom sum bare =
    ap (λ (n : ℕ). made atom.element n (pos 0) (implied (smiles_valences atom.element) sum) 0) (sym bare.isotope)
    ∙ ap (λ (q : ℤ). made atom.element atom.isotope q (implied (smiles_valences atom.element) sum) 0) (sym bare.charge)
    ∙ ap (λ (n : ℕ). made atom.element atom.isotope atom.charge n 0) (sym bare.hydrogens)
    ∙ ap (λ (n : ℕ). made atom.element atom.isotope atom.charge atom.hydrogens n) (sym bare.class)

pub token_means : (atom : Atom) (sum : ℕ) (mark : Option Bool) → meant_by (token_of atom sum mark) sum ≡ atom
token_means atom sum mark = elim (cases_Bool (is_bare atom sum && is_none mark)) [
  | inl bare ↦ rw bare (bare_means atom sum (bare_is atom sum (and_parts (is_bare atom sum) (is_none mark) bare).0))
  | inr bracket ↦ rw bracket refl
]
