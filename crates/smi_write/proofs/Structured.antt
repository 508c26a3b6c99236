-- What is known of a written text once its tokens are read as the structure of its molecule.
use Rattle.std.proofs.Common.{arith, ◌≡◌, ◌<◌, ◌≤◌, ◌+◌, ℕ, zero, suc, true, false, List, [], ◌∷◌, length, map, reverse, Option, Some, refl, sym, ap, subst, ◌∙◌}
use Rattle.std.specs.Prelude.{slice_get, not}
use Rattle.std.specs.List.{list_all}
use Rattle.std.proofs.lemmas.List.Folds.{list_all-map}
use Rattle.mc_mol.specs.declared.parts.Atom.{Atom}
use Rattle.mc_mol.specs.declared.parts.Bond as bond
use Rattle.mc_mol.specs.declared.parts.Slot.{Slot}
use Rattle.mc_mol.specs.Molecule.{Molecule, bond_sum}
use Rattle.mc_mol.specs.Parts.{independent_rings}
use mathlib.Core.List.{reverse_aux}
use Rattle.smi_lex.specs.declared.token.BondMark.{BondMark}
use Rattle.smi_lex.specs.declared.token.BondMark.TheVariants.{Single, Double, Triple, Quadruple, Aromatic, Slash, Backslash}
use Rattle.smi_lex.specs.declared.token.Token.{Token}
use Rattle.smi_lex.specs.declared.token.TokenKind.{TokenKind}
use Rattle.smi_lex.specs.declared.token.TokenKind.TheVariants.{Bare, Bracket, Bond, Ring, Enter, Leave, Dot}
use Rattle.smi_lex.specs.Tokens.{tokens, unread}
use Rattle.smi_lex.proofs.Reading.{reads_from}
use Rattle.smi_graph.specs.declared.role.Role.{Role}
use Rattle.smi_graph.specs.declared.role.Role.TheVariants as doing
use Rattle.smi_graph.specs.declared.skel_atom.SkelAtom.{SkelAtom}
use Rattle.smi_graph.specs.Links.{bonds_of}
use Rattle.smi_graph.specs.Roles.{role_of, roles}
use Rattle.smi_graph.specs.Reading.{is_plain, all_plain}
use Rattle.smi_graph.specs.Rules.{atoms_in, bonds_in, is_built, is_built_kind, is_built_mark, roles_in}
use Rattle.mc_rings.specs.Centres.{hydrogens_of}
use Rattle.smi_mean.specs.CentrePlaces.{centre_of, places}
use Rattle.smi_mean.specs.Meaning.{atoms_with, meaning}
use Rattle.smi_mean.specs.MeantCentres.{text_centres}
use Rattle.smi_mean.specs.Order.{Graph, graph_of, order, atoms, parents, at, has_ring}
use Rattle.smi_mean.specs.Sound.{IsSound}
use Rattle.smi_mean.specs.Written.{atom_token, bond_symbol, token_in, written_text, written_tokens}
use Rattle.smi_mean.specs.WrittenPlaces.{atom_mark}
use Rattle.smi_write.specs.Structure.{ReadsAs, IsOrder}
use Rattle.smi_write.proofs.Walk.{length_parents}
use Rattle.smi_write.proofs.Once.{length_atoms}
use Rattle.smi_write.proofs.TokenSpelled.{is_written_mark, IsWritten}
use Rattle.smi_write.proofs.KindsRead.{AreWritten, kinds_read, unread_none}
use Rattle.smi_write.proofs.TokensWritten.{RingsFit, role_of_atom, tokens_written}
use Rattle.smi_write.proofs.MarksRead.{Says, all_said, atom_says, centre_at, centres_meant, meant_centre, meant_centres, said_at, token_centre, token_said, token_says}
use Rattle.smi_write.proofs.AtomsRead.{atom_tokens, atoms_meant, atoms_of_text, length_meant, meant_at, meant_atoms, meant_by, token_means}

-- the structure of the tokens that are written for a molecule
pub record Structured (m : Molecule) : Type 0 where
  pub reads : ReadsAs m (λ j l. bond_symbol (graph_of m) j l) (map role_of (written_tokens m))
  pub order : IsOrder m (atoms (order (graph_of m)))
  pub numbers : RingsFit (written_tokens m)
  pub rings : independent_rings (bonds_of (reverse (map role_of (written_tokens m)))) (length m.atoms) ≤ 99

-- what the text of a molecule is read as
pub record IsRead (m : Molecule) (text : List ℕ) : Type 0 where
  pub nothing_left : unread text ≡ []
  pub built : is_built text ≡ true
  pub plain : all_plain (reverse (roles_in text)) ≡ true
  pub reads : ReadsAs m (λ j l. bond_symbol (graph_of m) j l) (roles_in text)
  pub count : length (atoms_in text) ≡ length m.atoms
  pub same_atoms : (k : ℕ) → k < length m.atoms → slice_get (meaning text).atoms k ≡ slice_get m.atoms (at (graph_of m) k)
  pub few_rings : independent_rings (bonds_in text) (length (atoms_in text)) ≤ 99
  pub roles : roles_in text ≡ map role_of (written_tokens m)
  pub centres : (k : ℕ) → k < length m.atoms
      → slice_get (text_centres text) k ≡ Some (centre_of (atom_mark m (at (graph_of m) k)) (places (roles_in text) k (hydrogens_of (slice_get m.atoms (at (graph_of m) k)))))
  pub said : (k : ℕ) → k < length m.atoms → slice_get (map atom_says (atoms_in text)) k ≡ Some (false, atom_mark m (at (graph_of m) k))

-- every token is one that is read today

mark_built : (mark : BondMark) → is_written_mark mark ≡ true → is_built_mark mark ≡ true
mark_built Double is = refl
mark_built Triple is = refl
mark_built Quadruple is = refl
mark_built Single is = refl
mark_built Aromatic is = refl
mark_built Slash is = cc
mark_built Backslash is = cc

one_built : (kind : TokenKind) → IsWritten kind → is_built_kind kind ≡ true
one_built (Bare element true) is = cc
one_built (Bare element false) is = refl
one_built (Bracket element lower isotope chiral hydrogens charge class) is = refl
one_built (Bond mark) is = mark_built mark is
one_built (Ring number) is = refl
one_built Enter is = refl
one_built Leave is = refl
one_built Dot is = refl

all_built : (ks : List TokenKind) → AreWritten ks → list_all is_built_kind ks ≡ true
all_built [] are = refl
all_built (k ∷ ks) are = rw (one_built k are.0, all_built ks are.1) refl

-- and none is a lower-case atom or `:`

mark_plain : (mark : BondMark) → is_written_mark mark ≡ true → is_plain (doing.Bond mark) ≡ true
mark_plain Aromatic is = cc
mark_plain _ is = refl

one_plain : (kind : TokenKind) → IsWritten kind → is_plain (role_of kind) ≡ true
one_plain (Bare element lower) is = ap not is.0
one_plain (Bracket element lower isotope chiral hydrogens charge class) is = ap not is.upper
one_plain (Bond mark) is = mark_plain mark is
one_plain (Ring number) is = refl
one_plain Enter is = refl
one_plain Leave is = refl
one_plain Dot is = refl

plain_onto : (ks : List TokenKind) (before : List Role) → AreWritten ks → all_plain before ≡ true → all_plain (reverse_aux (map role_of ks) before) ≡ true
plain_onto [] before are plain = plain
plain_onto (k ∷ ks) before are plain = plain_onto ks (role_of k ∷ before) are.1 (rw (plain, one_plain k are.0) refl)

-- the roles of tokens are those of their kinds
roles_by_kind : (ts : List Token) → roles ts ≡ map role_of (map (λ token. token.kind) ts)
roles_by_kind [] = refl
roles_by_kind (t ∷ ts) = ap (λ (rs : List Role). role_of t.kind ∷ rs) (roles_by_kind ts)

pub length_with : (bonds : List bond.Bond) (k : ℕ) (atoms : List SkelAtom) → length (atoms_with bonds k atoms) ≡ length atoms
length_with bonds k [] = refl
length_with bonds k (atom ∷ atoms) = ap suc (length_with bonds (k + 1) atoms)

-- the tokens of the molecule's atoms, as they stand
atoms_written : (m : Molecule) → atom_tokens (written_tokens m) ≡ map (atom_token m) (atoms (order (graph_of m)))
atoms_written m =
    let g : Graph = graph_of m in
    atoms_of_text (λ j l. bond_symbol g j l) (λ j l. has_ring g j l) g.count 0 (atom_token m) (atoms (order g)) (parents (order g))
    (role_of_atom m) (length_atoms (order g) ∙ sym (length_parents (order g)))

some_atom : (atoms : List Atom) (k : ℕ) → k < length atoms → (atom : Atom) × (slice_get atoms k ≡ Some atom)
some_atom [] k less = absurd (omega arith)
some_atom (atom ∷ atoms) zero less = (atom, refl)
some_atom (atom ∷ atoms) (suc k) less = some_atom atoms k (omega arith)

-- an atom's token means the atom
token_at : (m : Molecule) (u : ℕ) → u < length m.atoms → ◌≡◌ {A = Option Atom} (Some (meant_by (atom_token m u) (bond_sum m.bonds u))) (slice_get m.atoms u)
token_at m u inside =
    let (atom, found) = some_atom m.atoms u inside in
    ap (λ (o : Option Atom). Some (meant_by (token_in o (bond_sum m.bonds u) (atom_mark m u)) (bond_sum m.bonds u))) found
    ∙ ap (λ (x : Atom). Some x) (token_means atom (bond_sum m.bonds u) (atom_mark m u)) ∙ sym found

-- and says its centre, its case and its mark
centre_said : (m : Molecule) (ks : List Role) (k u : ℕ) → u < length m.atoms
    → ◌≡◌ {A = Option (Option (List Slot))} (Some (meant_centre ks k (atom_token m u))) (Some (centre_of (atom_mark m u) (places ks k (hydrogens_of (slice_get m.atoms u)))))
centre_said m ks k u inside =
    let (atom, found) = some_atom m.atoms u inside in
    ap (λ (o : Option Atom). Some (meant_centre ks k (token_in o (bond_sum m.bonds u) (atom_mark m u)))) found
    ∙ ap (λ (c : Option (List Slot)). Some c) (token_centre ks k atom (bond_sum m.bonds u) (atom_mark m u))
    ∙ ap (λ (o : Option Atom). Some (centre_of (atom_mark m u) (places ks k (hydrogens_of o)))) (sym found)

mark_said : (m : Molecule) (u : ℕ) → u < length m.atoms → ◌≡◌ {A = Option Says} (Some (token_says (atom_token m u))) (Some (false, atom_mark m u))
mark_said m u inside =
    let (atom, found) = some_atom m.atoms u inside in
    ap (λ (o : Option Atom). Some (token_says (token_in o (bond_sum m.bonds u) (atom_mark m u)))) found
    ∙ ap (λ (x : Says). Some x) (token_said atom (bond_sum m.bonds u) (atom_mark m u))

read_as : (m : Molecule) (text : List ℕ) → Structured m → AreWritten (written_tokens m) → unread text ≡ []
    → map (λ token. token.kind) (tokens text) ≡ written_tokens m → IsRead m text
read_as m text structured are left same =
    let g : Graph = graph_of m in
    let us : List ℕ = atoms (order g) in
    let bonds : List bond.Bond = bonds_in text in
    let same_roles : roles_in text ≡ map role_of (written_tokens m) = roles_by_kind (tokens text) ∙ ap (map role_of) same in
    let reads : ReadsAs m (λ j l. bond_symbol g j l) (roles_in text) = subst (λ (rs : List Role). ReadsAs m (λ j l. bond_symbol g j l) rs) (sym same_roles) structured.reads in
    let meant : atoms_with bonds 0 (atoms_in text) ≡ meant_atoms bonds 0 (map (atom_token m) us) =
    atoms_meant bonds 0 (tokens text) ∙ ap (λ (ks : List TokenKind). meant_atoms bonds 0 (atom_tokens ks)) same
    ∙ ap (meant_atoms bonds 0) (atoms_written m) in
    let listed : text_centres text ≡ meant_centres (roles_in text) 0 (map (atom_token m) us) =
    centres_meant (roles_in text) 0 (tokens text) ∙ ap (λ (ks : List TokenKind). meant_centres (roles_in text) 0 (atom_tokens ks)) same
    ∙ ap (meant_centres (roles_in text) 0) (atoms_written m) in
    let says : map atom_says (atoms_in text) ≡ map token_says (map (atom_token m) us) =
    all_said (tokens text) ∙ ap (λ (ks : List TokenKind). map token_says (atom_tokens ks)) same ∙ ap (map token_says) (atoms_written m) in
    let whole : length us ≡ length m.atoms = structured.order.whole in
    let count : length (atoms_in text) ≡ length m.atoms =
    sym (length_with bonds 0 (atoms_in text)) ∙ ap (λ (xs : List Atom). length xs) meant ∙ length_meant bonds 0 (atom_token m) us ∙ whole in
    record {
      nothing_left = left;
      built = sym (list_all-map is_built_kind (λ token. token.kind) (tokens text)) ∙ ap (list_all is_built_kind) same ∙ all_built (written_tokens m) are;
      plain = ap (λ (rs : List Role). all_plain (reverse rs)) same_roles ∙ plain_onto (written_tokens m) [] are refl;
      reads = reads;
      count = count;
      same_atoms = λ k less.
          let from_none : 0 + k ≡ k = omega arith in
          ap (λ (xs : List Atom). slice_get xs k) meant
          ∙ meant_at bonds (atom_token m) us 0 k (omega arith)
          ∙ ap (λ (n : ℕ). Some (meant_by (atom_token m (at g k)) n)) (ap (bond_sum bonds) from_none ∙ reads.sums k less)
          ∙ token_at m (at g k) (structured.order.in_range k less);
      few_rings = subst (λ (n : ℕ). independent_rings bonds n ≤ 99) (sym count)
          (subst (λ (rs : List Role). independent_rings (bonds_of (reverse rs)) (length m.atoms) ≤ 99) (sym same_roles) structured.rings);
      roles = same_roles;
      centres = λ k less.
          let from_none : 0 + k ≡ k = omega arith in
          ap (λ (cs : List (Option (List Slot))). slice_get cs k) listed
          ∙ centre_at (roles_in text) (atom_token m) us 0 k (omega arith)
          ∙ ap (λ (n : ℕ). Some (meant_centre (roles_in text) n (atom_token m (at g k)))) from_none
          ∙ centre_said m (roles_in text) k (at g k) (structured.order.in_range k less);
      said = λ k less.
          ap (λ (xs : List Says). slice_get xs k) says
          ∙ said_at (atom_token m) us k (omega arith)
          ∙ mark_said m (at g k) (structured.order.in_range k less);
    }

pub is_read : (m : Molecule) → IsSound m → Structured m → IsRead m (written_text m)
is_read m sound structured =
    let are = tokens_written m sound structured.numbers in
    read_as m (written_text m) structured are (unread_none (written_tokens m) are)
    ((reads_from (written_text m) 0 (omega arith)).same_kinds ∙ kinds_read (written_tokens m) are)
