-- Each atom has the same sum of orders as the atom that is read at its rank.
use Rattle.std.specs.Prelude.{Some}
use Rattle.std.specs.Prelude.{None}
use Rattle.std.specs.Prelude.{Option}
use Rattle.std.proofs.Common.{length, ◌≡◌, ℕ, ◌+◌, ◌<◌, List, [], ◌∷◌, Bool, true, false, refl, ap, sym, ◌∙◌, arith}
use Rattle.std.specs.Prelude.{◌==◌, ◌||◌, nat_lt, if◌then◌else◌}
use Rattle.std.proofs.lemmas.Bool.{false≢true, or_parts, false_from_ne_true}
use Rattle.std.proofs.lemmas.List.Sums.{sum_by-cons}
use Rattle.smi_mean.specs.Order.{Graph, order_between, graph_of, at, rank_of}
use Rattle.mc_mol.specs.declared.parts.Bond.{Bond}
use Rattle.smi_graph.specs.Links.{bond_of, bonds_of, or_else, order_of}
use Rattle.smi_graph.specs.Bonds.{text_bonds}
use Rattle.smi_graph.specs.declared.text_bond.TextBond.{TextBond}
use Rattle.smi_lex.specs.declared.token.BondMark.{BondMark}
use Rattle.std.specs.Prelude.{map}
use Rattle.std.proofs.Math.Bool.{or_comm}
use Rattle.smi_mean.specs.RingNumbers.{onto_all}
use Rattle.mc_mol.specs.Molecule.{Molecule, joins, are_joined, touches, bond_sum}
use Rattle.mc_mol.specs.WellFormed.{IsMolecule}
use Rattle.mc_mol.proofs.Twins.{joins_first}
use Rattle.mc_mol.proofs.Apart.{joins_turned, turned_joins}
use Rattle.smi_mean.specs.Written.{bond_symbol}
use Rattle.smi_write.specs.Structure.{SayOrders}
use Rattle.smi_write.proofs.Symbols.{HasSymbols}
use Rattle.smi_write.proofs.Simple.{Simple, simple_of, said_between}
use Rattle.smi_write.proofs.Sums.{bonds_sum}
use Rattle.smi_write.proofs.Ranked.{Inverse, inverse, equal_tests, turn, ranked, read_sum}
use Rattle.smi_write.proofs.Whole.{graph_roles, is_read}

-- each bond of these has in the whole list its order, from both ends
abbrev pub Fits : List Bond → List Bond → Type 0
Fits all [] = Unit {0}
Fits all (b ∷ bs) = ((order_between all b.first.0 b.second.0 ≡ b.order) × (order_between all b.second.0 b.first.0 ≡ b.order)) × Fits all bs

fits_more : (x : Bond) (all bs : List Bond) → are_joined bs x.first.0 x.second.0 ≡ false → Fits all bs → Fits (x ∷ all) bs
fits_more x all [] none f = tt
fits_more x all (b ∷ bs) none f =
    let r = or_parts (joins b x.first.0 x.second.0) (are_joined bs x.first.0 x.second.0) none in
    let apart : joins x b.first.0 b.second.0 ≡ false = false_from_ne_true (joins x b.first.0 b.second.0) (λ t. false≢true (sym r.0 ∙ turned_joins x b t)) in
    let apart' : joins x b.second.0 b.first.0 ≡ false = joins_turned x b.second.0 b.first.0 ∙ apart in
    ((rw apart f.0.0, rw apart' f.0.1), fits_more x all bs r.1 f.1)

pub fits : (n : ℕ) (bs : List Bond) → Simple n bs → Fits bs bs
fits n [] s = tt
fits n (b ∷ bs) s =
    let own = joins_first b in
    let own' : joins b b.second.0 b.first.0 ≡ true = joins_turned b b.second.0 b.first.0 ∙ own in
    ((rw own refl, rw own' refl), fits_more b bs bs s.1.0 (fits n bs s.1.1))

-- each bond has this order
abbrev pub Ordered : (ℕ → ℕ → ℕ) → List Bond → Type 0
Ordered v [] = Unit {0}
Ordered v (b ∷ bs) = (b.order ≡ v b.first.0 b.second.0) × Ordered v bs

-- the weight of a pair for the sum at rank k
abbrev pub weight : (ℕ → ℕ → ℕ) → ℕ → ℕ → ℕ → ℕ
weight v k j l = if j == k || l == k then v j l else 0

sum_more : (k : ℕ) (b : Bond) (bs : List Bond) → bond_sum (b ∷ bs) k ≡ (if touches b k then b.order else 0) + bond_sum bs k
sum_more k b bs = sum_by-cons (λ (c : Bond). if touches c k then c.order else 0) b bs

read_weights : (v : ℕ → ℕ → ℕ) (k : ℕ) (bs : List Bond) → Ordered v bs → bonds_sum (weight v k) bs ≡ bond_sum bs k
read_weights v k [] o = refl
read_weights v k (b ∷ bs) o =
    let r = read_weights v k bs o.1 in
    let more = sum_more k b bs in
    let e : weight v k b.first.0 b.second.0 ≡ (if touches b k then b.order else 0) = ap (λ (x : ℕ). if b.first.0 == k || b.second.0 == k then x else 0) (sym o.0) in
    omega arith

pub turned_weight : (v : ℕ → ℕ → ℕ) (k x y o q : ℕ) (t : Bool) → v x y ≡ q → v y x ≡ q → (let b : Bond = turn t x y o in weight v k b.first.0 b.second.0) ≡ (if x == k || y == k then q else 0)
turned_weight v k x y o q true e f = ap (λ (z : ℕ). if x == k || y == k then z else 0) e
turned_weight v k x y o q false e f = ap (λ (z : ℕ). if y == k || x == k then z else 0) f ∙ ap (λ (z : Bool). if z then q else 0) (or_comm (y == k) (x == k))

ranked_weights : (n k : ℕ) (all bs : List Bond) (at_ pl : ℕ → ℕ) → Inverse n at_ pl → k < n → Simple n bs → Fits all bs
    → bonds_sum (weight (λ j l. order_between all (at_ j) (at_ l)) k) (ranked pl bs) ≡ bond_sum bs (at_ k)
ranked_weights n k all [] at_ pl i below s f = refl
ranked_weights n k all (b ∷ bs) at_ pl i below s f =
    let v : ℕ → ℕ → ℕ = λ j l. order_between all (at_ j) (at_ l) in
    let rest = ranked_weights n k all bs at_ pl i below s.1.1 f.1 in
    let ef = i.forth b.first.0 s.0.0 in
    let es = i.forth b.second.0 s.0.1.0 in
    let e1 : v (pl b.first.0) (pl b.second.0) ≡ b.order = ap (λ (x : ℕ). order_between all x (at_ (pl b.second.0))) ef ∙ ap (order_between all b.first.0) es ∙ f.0.0 in
    let e2 : v (pl b.second.0) (pl b.first.0) ≡ b.order = ap (λ (x : ℕ). order_between all x (at_ (pl b.first.0))) es ∙ ap (order_between all b.second.0) ef ∙ f.0.1 in
    let t1 = equal_tests n at_ pl b.first.0 k i s.0.0 below in
    let t2 = equal_tests n at_ pl b.second.0 k i s.0.1.0 below in
    let here = turned_weight v k (pl b.first.0) (pl b.second.0) b.order b.order (nat_lt (pl b.first.0) (pl b.second.0)) e1 e2 in
    let there : (if touches b (at_ k) then b.order else 0) ≡ (if pl b.first.0 == k || pl b.second.0 == k then b.order else 0) = rw (t1, t2) refl in
    ap (λ (z : ℕ). z + bonds_sum (weight v k) (ranked pl bs)) (here ∙ sym there) ∙ ap (λ (z : ℕ). (if touches b (at_ k) then b.order else 0) + z) rest ∙ sym (sum_more (at_ k) b bs)

-- the order of the bond between the atoms at these ranks
abbrev pub order_at : Molecule → ℕ → ℕ → ℕ
order_at m j l = order_between m.bonds (at (graph_of m) j) (at (graph_of m) l)

one_symbol : (o c : Option BondMark) → c ≡ None → order_of (or_else o c) ≡ order_of o
one_symbol None None alone = refl
one_symbol None (Some mark) alone = cc
one_symbol (Some o) c alone = refl

orders_said : (m : Molecule) (v : ℕ → ℕ → Option BondMark) (bs : List TextBond) → SayOrders m v → HasSymbols v bs → Ordered (order_at m) (map bond_of bs)
orders_said m v [] say has = tt
orders_said m v (b ∷ bs) say has =
    (one_symbol b.opening b.closing has.0.1 ∙ ap order_of has.0.0 ∙ say b.first.0 b.second.0, orders_said m v bs say has.1)

-- each bond that is read has the order of its atoms' bond
pub read_orders : (m : Molecule) (v : ℕ → ℕ → Option BondMark) → SayOrders m v → Ordered (order_at m) (bonds_of (onto_all (graph_roles (graph_of m) v) []))
read_orders m v say =
    let read = is_read (graph_of m) v in
    orders_said m v (text_bonds (onto_all (graph_roles (graph_of m) v) [])) say read.symbols

-- the symbols of the written form say the orders
pub symbols_say : (m : Molecule) → IsMolecule m → SayOrders m (λ j l. bond_symbol (graph_of m) j l)
symbols_say m is j l = said_between (length m.atoms) m.bonds (at (graph_of m) j) (at (graph_of m) l) is.bonds

-- The atom that is read at rank k has the sum of orders of the atom written there: so it has the same hydrogens.
pub read_bond_sum : (m : Molecule) (v : ℕ → ℕ → Option BondMark) (k : ℕ) → IsMolecule m → SayOrders m v → k < length m.atoms
    → bond_sum (bonds_of (onto_all (graph_roles (graph_of m) v) [])) k ≡ bond_sum m.bonds (at (graph_of m) k)
read_bond_sum m v k is say below =
    let g : Graph = graph_of m in
    let s : Simple (length m.atoms) m.bonds = simple_of (length m.atoms) m.bonds is.bonds is.once in
    sym (read_weights (order_at m) k (bonds_of (onto_all (graph_roles g v) [])) (read_orders m v say))
    ∙ read_sum m v (weight (order_at m) k) s
    ∙ ranked_weights (length m.atoms) k m.bonds m.bonds (λ j. at g j) (λ u. rank_of g u) (inverse g) below s (fits (length m.atoms) m.bonds s)
