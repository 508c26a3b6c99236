-- What the writer finds of an atom's neighbours is the written order of its places.
use Rattle.std.proofs.Common.{◌≡◌, ℕ, suc, List, [], ◌++◌, length, map, get_or, ap, sym, ◌∙◌}
use Rattle.std.specs.Prelude.{◌==◌}
use Rattle.mc_mol.specs.Molecule.{Molecule}
use Rattle.smi_mean.specs.Order.{graph_of, order, parents, has_ring}
use Rattle.smi_mean.specs.RingNumbers.{ending, numbers, passing, partners, sorted}
use Rattle.smi_mean.specs.Written.{bond_symbol}
use Rattle.smi_write.specs.OpenRings.{opener_of}
use Rattle.smi_write.specs.Texts.{open_pairs}
use Rattle.smi_mean.specs.WrittenPlaces.{closers, others}
use Rattle.smi_write.specs.declared.order.WrittenAtoms.{WrittenAtoms}
use Rattle.smi_write.specs.WrittenOrder.{IsWrittenOrder}
use Rattle.std.specs.Prelude.{Option}
use Rattle.smi_lex.specs.declared.token.BondMark.{BondMark}
use Rattle.smi_write.proofs.SameNumbers.{same_closers}
use Rattle.smi_write.proofs.ClosingOpeners.{closing_openers}
use Rattle.smi_write.proofs.Partners.{length_parent_list}

pub others_found : (m : Molecule) (w : WrittenAtoms) (k : ℕ) (numbers_ a b c : List ℕ) (parent_list : List ℕ) → IsWrittenOrder m w → parent_list ≡ w.parents.items
    → numbers_ ≡ numbers (sorted (ending k (open_pairs m k)))
    → a ≡ [] ++ map (λ n. opener_of n (open_pairs m k)) numbers_
    → b ≡ a ++ partners (λ j l. has_ring (graph_of m) j l) (length m.atoms) k
    → c ≡ b ++ passing (λ l. get_or parent_list l 0 == suc k) (length parent_list)
    → c ≡ others (graph_of m) k
others_found m w k numbers_ a b c parent_list h is_list is_numbers e f g =
    let v : ℕ → ℕ → Option BondMark = λ j l. bond_symbol (graph_of m) j l in
    let openers : a ≡ closers (graph_of m) k =
    e ∙ ap (map (λ (n : ℕ). opener_of n (open_pairs m k))) is_numbers ∙ closing_openers v (λ j l. has_ring (graph_of m) j l) (length m.atoms) k ∙ same_closers v (λ j l. has_ring (graph_of m) j l) (length m.atoms) k in
    let ps : List ℕ = partners (λ j l. has_ring (graph_of m) j l) (length m.atoms) k in
    g ∙ ap (λ (x : List ℕ). x ++ passing (λ l. get_or parent_list l 0 == suc k) (length parent_list)) (f ∙ ap (λ (x : List ℕ). x ++ ps) openers)
    ∙ ap (λ (xs : List ℕ). (closers (graph_of m) k ++ ps) ++ passing (λ l. get_or xs l 0 == suc k) (length xs)) (is_list ∙ h.parents_are)
    ∙ ap (λ (n : ℕ). (closers (graph_of m) k ++ ps) ++ passing (λ l. get_or (parents (order (graph_of m))) l 0 == suc k) n)
    (sym (ap (λ (xs : List ℕ). length xs) h.parents_are) ∙ length_parent_list m w h)
