-- The tokens in which a molecule is written are read as this molecule.
use Rattle.std.proofs.Common.{◌≡◌, ℕ, List, [], ◌∷◌, length, map, reverse, false, None, refl, ap, sym, ◌∙◌, subst}
use Rattle.std.specs.Prelude.{true, slice_get}
use Rattle.std.proofs.lemmas.List.{length-map}
use mathlib.Core.List.{reverse_aux}
use Rattle.mc_mol.specs.Molecule.{Molecule, are_joined, bond_sum}
use Rattle.mc_mol.specs.WellFormed.{IsMolecule}
use Rattle.smi_lex.specs.declared.token.TokenKind.{TokenKind}
use Rattle.smi_graph.specs.declared.role.Role.{Role}
use Rattle.smi_graph.specs.declared.role.Role.TheVariants.{Atom}
use Rattle.smi_graph.specs.Order.{latest, may_follow, is_misplaced}
use Rattle.smi_graph.specs.Links.{bonds_of}
use Rattle.smi_graph.specs.Bonds.{text_bonds}
use Rattle.smi_lex.specs.declared.token.BondMark.{BondMark}
use Rattle.std.specs.Prelude.{Option}
use Rattle.smi_graph.specs.RingRules.{is_clash, is_pair_again}
use Rattle.smi_graph.specs.Roles.{role_of}
use Rattle.smi_mean.specs.Order.{Graph, graph_of, order, atoms, parents, at, has_ring}
use Rattle.smi_mean.specs.RingNumbers.{onto_all}
use Rattle.smi_mean.specs.Written.{graph_tokens}
use Rattle.smi_write.specs.Structure.{ReadsAs, SayOrders}
use Rattle.smi_write.proofs.Walk.{length_parents}
use Rattle.smi_write.proofs.Once.{length_atoms}
use Rattle.smi_write.proofs.Along.{at_places}
use Rattle.smi_write.proofs.Closed.{closed_of}
use Rattle.smi_write.proofs.RoleText.{AreAtoms, text_is}
use Rattle.smi_write.proofs.Simple.{simple_of}
use Rattle.smi_write.proofs.Whole.{graph_roles, IsReadAs, is_read}
use Rattle.smi_write.proofs.Ranked.{read_length}
use Rattle.smi_write.proofs.BondSums.{read_bond_sum}
use Rattle.smi_write.proofs.SameBonds.{same_bonds, same_symbols, read_joined}

pub onto_reverse : (xs acc : List Role) → onto_all xs acc ≡ reverse_aux xs acc
onto_reverse [] acc = refl
onto_reverse (x ∷ xs) acc = onto_reverse xs (x ∷ acc)

are_atoms : (token : ℕ → TokenKind) → ((u : ℕ) → role_of (token u) ≡ Atom false) → (us : List ℕ) → AreAtoms (map token us)
are_atoms token h [] = tt
are_atoms token h (u ∷ us) = (h u, are_atoms token h us)

-- the roles of the tokens, whichever tokens the atoms have
pub tokens_are : (g : Graph) (v : ℕ → ℕ → Option BondMark) (token : ℕ → TokenKind) → ((u : ℕ) → role_of (token u) ≡ Atom false) → map role_of (graph_tokens g v token) ≡ graph_roles g v
tokens_are g v token h =
    text_is v (λ j l. has_ring g j l) g.count 0 (map token (atoms (order g))) (parents (order g)) (are_atoms token h (atoms (order g)))
    (length-map (atoms (order g)) token ∙ length_atoms (order g) ∙ sym (length_parents (order g)))

ends_well : (before : List Role) → may_follow (latest before) None ≡ true → is_misplaced before None ≡ false
ends_well before h = rw h refl

roles_read : (m : Molecule) (v : ℕ → ℕ → Option BondMark) → IsMolecule m → SayOrders m v → ReadsAs m v (graph_roles (graph_of m) v)
roles_read m v is say =
    let g : Graph = graph_of m in
    let ks : List Role = graph_roles g v in
    let back : onto_all ks [] ≡ reverse ks = onto_reverse ks [] in
    let read : IsReadAs g v (reverse ks) = subst (λ (x : List Role). IsReadAs g v x) back (is_read g v) in
    record {
      placed = at_places is_misplaced ks read.placed (ends_well (reverse ks) read.ends);
      closed = closed_of ks read.deep;
      rings = read.closed;
      clashes = at_places is_clash ks read.clashes refl;
      pairs = at_places is_pair_again ks read.pairs refl;
      atoms = read.counted;
      count = subst (λ (x : List Role). length (bonds_of x) ≡ length m.bonds) back (read_length m v (simple_of (length m.atoms) m.bonds is.bonds is.once));
      sums = λ k below. subst (λ (x : List Role). bond_sum (bonds_of x) k ≡ bond_sum m.bonds (at g k)) back (read_bond_sum m v k is say below);
      symbols_are = λ k bond here. same_symbols g v k bond (ap (λ (x : List Role). slice_get (text_bonds x) k) back ∙ here);
      bonds = λ k bond here. same_bonds m v k bond say (ap (λ (x : List Role). slice_get (bonds_of x) k) back ∙ here);
      joined = λ j l less below h. subst (λ (x : List Role). are_joined (bonds_of x) j l ≡ true) back (read_joined m v j l less below h);
    }

pub structure : (m : Molecule) (v : ℕ → ℕ → Option BondMark) → IsMolecule m → SayOrders m v → (token : ℕ → TokenKind) → ((u : ℕ) → role_of (token u) ≡ Atom false)
    → ReadsAs m v (map role_of (graph_tokens (graph_of m) v token))
structure m v is say token h = subst (λ (x : List Role). ReadsAs m v x) (sym (tokens_are (graph_of m) v token h)) (roles_read m v is say)
