-- Each bond that is read is a bond of the molecule, with its order.
use Rattle.std.specs.Prelude.{None}
use Rattle.smi_lex.specs.declared.token.BondMark.{BondMark}
use Rattle.smi_graph.specs.declared.text_bond.TextBond.{TextBond}
use Rattle.smi_graph.specs.Bonds.{text_bonds}
use Rattle.smi_write.proofs.Symbols.{HasSymbols}
use Rattle.std.proofs.Common.{◌≡◌, ℕ, zero, suc, ◌+◌, ◌<◌, List, [], ◌∷◌, length, Bool, true, false, Option, Some, refl, ap, sym, ◌∙◌, subst, inl, inr, arith}
use Rattle.std.specs.Prelude.{◌||◌, ◌&&◌, ◌==◌, slice_get, if◌then◌else◌}
use Rattle.std.proofs.lemmas.Bool.{cases_lt, false≢true}
use Rattle.std.proofs.lemmas.Option.{same_Some}
use Rattle.mc_mol.specs.declared.parts.Bond.{Bond}
use Rattle.mc_mol.specs.Molecule.{Molecule, joins, are_joined}
use Rattle.mc_mol.specs.Same.{HasBond}
use Rattle.mc_mol.proofs.Halves.{same_test}
use Rattle.smi_graph.specs.Links.{bonds_of}
use Rattle.smi_mean.specs.Order.{Graph, order_between, graph_of, at}
use Rattle.smi_mean.specs.RingNumbers.{onto_all}
use Rattle.smi_write.proofs.Hits.{bit}
use Rattle.smi_write.proofs.BondCounts.{hit, bond_count}
use Rattle.smi_write.proofs.Whole.{graph_roles, is_read}
use Rattle.smi_write.proofs.BondSums.{Ordered, order_at, read_orders}
use Rattle.smi_write.specs.Structure.{SayOrders}

counted : (b : Bond) (k : ℕ) (xs : List Bond) → slice_get xs k ≡ Some b → 0 < bond_count b.first.0 b.second.0 xs
counted b k [] h = cc
counted b zero (x ∷ xs) h =
    let e : x ≡ b = same_Some x b h in
    let own : hit b.first.0 b.second.0 b ≡ 1 = rw (same_test b.first.0, same_test b.second.0) refl in
    let here : hit b.first.0 b.second.0 x ≡ 1 = ap (hit b.first.0 b.second.0) e ∙ own in omega arith
counted b (suc k) (x ∷ xs) h = let r = counted b k xs h in omega arith

ordered_at : (v : ℕ → ℕ → ℕ) (b : Bond) (k : ℕ) (xs : List Bond) → Ordered v xs → slice_get xs k ≡ Some b → b.order ≡ v b.first.0 b.second.0
ordered_at v b k [] o h = cc
ordered_at v b zero (x ∷ xs) o h = subst (λ (y : Bond). y.order ≡ v y.first.0 y.second.0) (same_Some x b h) o.0
ordered_at v b (suc k) (x ∷ xs) o h = ordered_at v b k xs o.1 h

found : (bs : List Bond) (u v : ℕ) → are_joined bs u v ≡ true → HasBond bs u v (order_between bs u v)
found [] u v h = absurd (false≢true h)
found (b ∷ bs) u v h = by_test (joins b u v) refl h (λ t. found bs u v t)
  where
    by_test : (t : Bool) → joins b u v ≡ t → (t || are_joined bs u v) ≡ true → (are_joined bs u v ≡ true → HasBond bs u v (order_between bs u v))
        → HasBond (b ∷ bs) u v (if t then b.order else order_between bs u v)
    by_test true e h more = (b, (0, omega arith, refl), e, refl)
    by_test false e h more = let (c, there, joined, order) = more h in let (k, below, is) = there in (c, (suc k, omega arith, is), joined, order)

pub bit_one : (b : Bool) → 0 < bit b → b ≡ true
bit_one true h = refl
bit_one false h = absurd (omega arith)

pub same_bonds : (m : Molecule) (v : ℕ → ℕ → Option BondMark) (k : ℕ) (b : Bond) → SayOrders m v → slice_get (bonds_of (onto_all (graph_roles (graph_of m) v) [])) k ≡ Some b
    → HasBond m.bonds (at (graph_of m) b.first.0) (at (graph_of m) b.second.0) b.order
same_bonds m v k b say h =
    let g : Graph = graph_of m in
    let read = is_read g v in
    let some = counted b k (bonds_of (onto_all (graph_roles g v) [])) h in
    let order : b.order ≡ order_between m.bonds (at g b.first.0) (at g b.second.0) = ordered_at (order_at m) b k (bonds_of (onto_all (graph_roles g v) [])) (read_orders m v say) h in
    subst (λ (o : ℕ). HasBond m.bonds (at g b.first.0) (at g b.second.0) o) (sym order) (found m.bonds (at g b.first.0) (at g b.second.0) (
    elim (cases_lt b.first.0 b.second.0) [
      | inl less ↦ elim (cases_lt b.second.0 g.count) [
        | inl below ↦ let c = read.bonds b.first.0 b.second.0 less below in bit_one (are_joined m.bonds (at g b.first.0) (at g b.second.0)) (omega arith)
        | inr above ↦ let z = read.others b.first.0 b.second.0 (inr above) in absurd (omega arith)
      ]
      | inr more ↦ let z = read.others b.first.0 b.second.0 (inl more) in absurd (omega arith)
    ]))

joined_of : (j l : ℕ) (bs : List Bond) → 0 < bond_count j l bs → are_joined bs j l ≡ true
joined_of j l [] h = absurd (omega arith)
joined_of j l (b ∷ bs) h = by_test (b.first.0 == j && b.second.0 == l) (b.first.0 == l && b.second.0 == j) h (λ some. joined_of j l bs some)
  where
    by_test : (t u : Bool) → 0 < bit t + bond_count j l bs → (0 < bond_count j l bs → are_joined bs j l ≡ true) → ((t || u) || are_joined bs j l) ≡ true
    by_test true u h more = refl
    by_test false true h more = refl
    by_test false false h more = more (omega arith)

-- atoms that are joined are read as joined
pub read_joined : (m : Molecule) (v : ℕ → ℕ → Option BondMark) (j l : ℕ) → j < l → l < length m.atoms → are_joined m.bonds (at (graph_of m) j) (at (graph_of m) l) ≡ true
    → are_joined (bonds_of (onto_all (graph_roles (graph_of m) v) [])) j l ≡ true
read_joined m v j l less below h =
    let g : Graph = graph_of m in
    let read = is_read g v in
    let c : bond_count j l (bonds_of (onto_all (graph_roles g v) [])) ≡ 1 = read.bonds j l less below ∙ ap bit h in
    joined_of j l (bonds_of (onto_all (graph_roles g v) [])) (omega arith)

-- each bond that is read has the symbol of its atoms' bond, at its first atom
symbol_at : (v : ℕ → ℕ → Option BondMark) (k : ℕ) (b : TextBond) (bs : List TextBond) → HasSymbols v bs → slice_get bs k ≡ Some b → (b.opening ≡ v b.first.0 b.second.0) × (b.closing ≡ None)
symbol_at v k b [] has at = cc
symbol_at v zero b (x ∷ bs) has at = subst (λ (y : TextBond). (y.opening ≡ v y.first.0 y.second.0) × (y.closing ≡ None)) (same_Some x b at) has.0
symbol_at v (suc k) b (x ∷ bs) has at = symbol_at v k b bs has.1 at

pub same_symbols : (g : Graph) (v : ℕ → ℕ → Option BondMark) (k : ℕ) (b : TextBond) → slice_get (text_bonds (onto_all (graph_roles g v) [])) k ≡ Some b
    → (b.opening ≡ v b.first.0 b.second.0) × (b.closing ≡ None)
same_symbols g v k b at = symbol_at v k b (text_bonds (onto_all (graph_roles g v) [])) (is_read g v).symbols at
