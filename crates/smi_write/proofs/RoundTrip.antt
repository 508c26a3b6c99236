-- The text of a molecule within the limits is read back as this molecule.
use Rattle.std.proofs.Common.{arith, ◌≡◌, ℕ, zero, suc, List, [], ◌∷◌, length, map, Option, Some, None, sym, ap, subst, ◌∙◌}
use Rattle.std.specs.Prelude.{slice_get, ◌<◌, Bool}
use Rattle.std.proofs.lemmas.List.{length-map}
use Rattle.std.proofs.lemmas.Option.{same_Some}
use Rattle.mc_base.specs.declared.ids.AtomId.{AtomId}
use Rattle.mc_mol.specs.declared.parts.Bond.{Bond}
use Rattle.mc_mol.specs.declared.parts.Sides.{Sides}
use Rattle.mc_mol.specs.declared.parts.Slot.{Slot}
use Rattle.mc_mol.specs.Molecule.{Molecule}
use Rattle.mc_mol.specs.WellFormed.{IsMolecule}
use Rattle.mc_mol.specs.Same.{HasBond, Same, SameCentre, SameSides, entry}
use Rattle.mc_rings.specs.Centres.{hydrogens_of}
use Rattle.smi_graph.specs.declared.role.Role.{Role}
use Rattle.smi_graph.specs.Roles.{role_of}
use Rattle.smi_graph.specs.Rules.{atoms_in, bonds_in}
use Rattle.smi_graph.proofs.Plain.{upper_atoms}
use Rattle.smi_mean.proofs.Placing.{meaning_of_text, only_meaning}
use Rattle.smi_mean.specs.CentrePlaces.{centre_of, places}
use Rattle.smi_mean.specs.Meaning.{meaning, nones}
use Rattle.smi_mean.specs.Order.{Graph, graph_of, order, atoms, at}
use Rattle.smi_mean.specs.Sound.{IsSound}
use Rattle.smi_mean.specs.Written.{atom_token, bond_symbol, written_order, written_text, written_tokens}
use Rattle.smi_mean.specs.WrittenPlaces.{atom_mark, list_of, parity_mark, written_places}
use Rattle.smi_write.specs.ReadBack.{IsReadBack}
use Rattle.smi_write.specs.Structure.{IsOrder}
use Rattle.smi_write.proofs.CentreKept.{centre_kept}
use Rattle.smi_write.proofs.PlacesRead.{entry_is}
use Rattle.smi_write.proofs.FourPlaces.{mark_at}
use Rattle.smi_write.proofs.TokensWritten.{role_of_atom}
use Rattle.smi_write.proofs.Structured.{IsRead, Structured, is_read, length_with}
use Rattle.smi_write.proofs.NoneStands.{no_need, none_stands}

-- where there is none for each, there is none
none_at : {A B : Type 0} → (xs : List A) (k : ℕ) (o : Option B) → slice_get (nones {B = B} xs) k ≡ Some o → o ≡ None
none_at [] k o is = cc
none_at {B = B} (x ∷ xs) zero o is = same None o is
  where
    same : (a b : Option B) → Some a ≡ Some b → b ≡ a
    same a b h = cc
none_at (x ∷ xs) (suc k) o is = none_at xs k o is

no_sides : (f : List AtomId) (bonds : List Bond) (bond counterpart : Bond) (s t : Option Sides) → s ≡ None → t ≡ None → SameSides f bonds bond s counterpart t
no_sides f bonds bond counterpart None None at_text at_molecule = tt
no_sides f bonds bond counterpart (Some s) t at_text at_molecule = cc
no_sides f bonds bond counterpart None (Some t) at_text at_molecule = cc

same_molecule : (m : Molecule) (text : List ℕ) → IsMolecule m → IsSound m → IsOrder m (atoms (order (graph_of m))) → IsRead m text → Same m (meaning text) (written_order m)
same_molecule m text is_molecule sound ordered read =
    let g : Graph = graph_of m in
    let us : List ℕ = atoms (order g) in
    let f : List AtomId = written_order m in
    let whole : length us ≡ length m.atoms = ordered.whole in
    let size : length f ≡ length us = length-map us (λ u. record { 0 = u }) in
    let at_rank : (k : ℕ) → entry f k ≡ at (graph_of m) k = entry_is us in
    let count : length (meaning text).atoms ≡ length m.atoms = length_with (bonds_in text) 0 (atoms_in text) ∙ read.count in
    record {
      length_map = size ∙ whole ∙ sym count;
      length_atoms = count;
      in_range = λ k less. let here = at_rank k in let low = ordered.in_range k (omega arith) in omega arith;
      distinct = λ j k less below same. ordered.distinct j k less (omega arith) (sym (at_rank j) ∙ same ∙ at_rank k);
      atoms = λ k less. read.same_atoms k (omega arith) ∙ ap (slice_get m.atoms) (sym (at_rank k));
      length_bonds = read.reads.count;
      bonds = λ k bond is.
          subst (λ (u : ℕ). HasBond m.bonds u (entry f bond.second.0) bond.order) (sym (at_rank bond.first.0))
          (subst (λ (v : ℕ). HasBond m.bonds (at (graph_of m) bond.first.0) v bond.order) (sym (at_rank bond.second.0)) (read.reads.bonds k bond is));
      centres = λ k q p less is_q is_p.
          let within : k < length m.atoms = omega arith in
          let found : slice_get m.centres (at g k) ≡ Some p = ap (slice_get m.centres) (sym (at_rank k)) ∙ is_p in
          let hydrogens : ℕ = hydrogens_of (slice_get m.atoms (at g k)) in
          let order_here : List Slot = written_places g k hydrogens in
          let mark : atom_mark m (at g k) ≡ parity_mark p order_here = mark_at m k within ∙ ap (λ (o : Option (Option (List Slot))). parity_mark (list_of o) order_here) found in
          let read_q : centre_of (parity_mark p order_here) (places (map role_of (written_tokens m)) k hydrogens) ≡ q =
          same_Some (centre_of (parity_mark p order_here) (places (map role_of (written_tokens m)) k hydrogens)) q
          (ap (λ (o : Option Bool). Some (centre_of o (places (map role_of (written_tokens m)) k hydrogens))) (sym mark)
          ∙ ap (λ (ks : List Role). Some (centre_of (atom_mark m (at g k)) (places ks k hydrogens))) (sym read.roles) ∙ sym (read.centres k within) ∙ is_q) in
          subst (λ (c : Option (List Slot)). SameCentre f c p) read_q
          (centre_kept m (λ j l. bond_symbol g j l) (atom_token m) is_molecule (role_of_atom m) k hydrogens p within found);
      sides = λ k l bond counterpart s t is is' joined is_s is_t.
          no_sides f (meaning text).bonds bond counterpart s t (none_at (meaning text).bonds k s is_s)
          (none_at m.bonds l t (sym (ap (λ (sides : List (Option Sides)). slice_get sides l) sound.no_sides) ∙ is_t));
    }

pub round_trip : (m : Molecule) → IsMolecule m → IsSound m → Structured m → IsReadBack m (written_text m) (written_order m)
round_trip m is sound structured =
    let read = is_read m sound structured in
    let none = no_need (written_text m) (upper_atoms (written_text m) read.plain) in
    record {
      molecule = meaning (written_text m);
      reads = record { accepted = none_stands m (written_text m) is sound read; molecule = meaning_of_text (written_text m) none };
      only = λ other stands. only_meaning (written_text m) other none stands.molecule;
      same = same_molecule m (written_text m) is sound structured.order read;
    }
