-- What stands before an atom, by what the writer keeps.
use Rattle.smi_lex.specs.declared.token.BondMark.{BondMark}
use Rattle.std.proofs.Common.{◌≡◌, ◌≢◌, ℕ, zero, suc, ◌+◌, ◌-◌, ◌≤◌, ◌<◌, List, [], ◌∷◌, ◌++◌, length, drop, get_or, Bool, Option, refl, ap, sym, ◌∙◌, inl, inr, arith}
use Rattle.std.specs.Prelude.{◌==◌, not, nat_lt}
use Rattle.std.proofs.lemmas.Bool.{cases_lt}
use Rattle.std.proofs.lemmas.List.{take_all, get_or_default, get_or_push, get_or_append_left, length_push}
use Rattle.mc_mol.specs.Molecule.{Molecule}
use Rattle.smi_lex.specs.declared.token.TokenKind.TheVariants.{Enter, Leave}
use Rattle.smi_mean.specs.Order.{Graph, graph_of, Step, order, order_between, rank, parent_rank, parents, atoms, at}
use Rattle.smi_mean.specs.RingNumbers.{has}
use Rattle.smi_mean.specs.Written.{bond_symbol, before_atom, if_not, mark_tokens, symbol_of}
use Rattle.smi_write.specs.declared.order.WrittenAtoms.{WrittenAtoms}
use Rattle.smi_write.specs.WrittenOrder.{IsWrittenOrder, LastChildren, order_behind, parent_orders}
use Rattle.smi_write.proofs.Walk.{Grown, grown, nested, order_nested, rank_le, length_parents}
use Rattle.smi_write.proofs.Once.{length_atoms, at_rank}
use Rattle.smi_write.proofs.Partners.{length_order, length_parent_list}

-- the parent at a rank, and the atoms of the bond to it
pub record HasParent (m : Molecule) (w : WrittenAtoms) (k p : ℕ) : Type 0 where
  pub is : p ≡ get_or w.parents.items k 0
  pub low : p ≤ k

pub has_parent : (m : Molecule) (w : WrittenAtoms) (k p : ℕ) → IsWrittenOrder m w → k < length m.atoms → p ≡ get_or w.parents.items k p → HasParent m w k p
has_parent m w k p h less e =
    let len = length_parent_list m w h in
    let is : p ≡ get_or w.parents.items k 0 = e ∙ get_or_default w.parents.items k p 0 (omega arith) in
    let len' : length (parents (order (graph_of m))) ≡ length m.atoms = ap length (sym h.parents_are) ∙ len in
    let low : get_or (parents (order (graph_of m))) k 0 < 1 + k = (order_nested (graph_of m)).earlier k (omega arith) in
    let same : get_or w.parents.items k 0 ≡ get_or (parents (order (graph_of m))) k 0 = ap (λ (x : List ℕ). get_or x k 0) h.parents_are in
    record { is = is; low = omega arith }

length_orders : (g : Graph) (before : List Step) → length (parent_orders g before) ≡ length before
length_orders g [] = refl
length_orders g (s ∷ before) = length_push (parent_orders g before) (order_behind g s.parent s.atom) ∙ let e = length_orders g before in omega arith

-- the order of the bond to a parent, by the atoms at the two ranks
order_at : (g : Graph) (before : List Step) (j l : ℕ) → Grown g before → l < length before → get_or (parents before) l 0 ≡ suc j
    → get_or (parent_orders g before) l 0 ≡ g.order (get_or (atoms before) j 0) (get_or (atoms before) l 0)
order_at g [] j l h less e = absurd (omega arith)
order_at g (s ∷ before) j l h less e =
    let lenp = length_parents before in
    let lena = length_atoms before in
    let leno = length_orders g before in
    elim (cases_lt l (length before)) [
      | inl lt ↦
          let frontp = get_or_append_left (parents before) (parent_rank before s.parent ∷ []) 0 l (omega arith) in
          let early = (nested g before h.0).earlier l (omega arith) in
          let frontj = get_or_append_left (atoms before) (s.atom ∷ []) 0 j (omega arith) in
          let frontl = get_or_append_left (atoms before) (s.atom ∷ []) 0 l (omega arith) in
          get_or_append_left (parent_orders g before) (order_behind g s.parent s.atom ∷ []) 0 l (omega arith) ∙ order_at g before j l h.0 lt (sym frontp ∙ e)
          ∙ ap (λ (x : ℕ). g.order x (get_or (atoms before) l 0)) (sym frontj) ∙ ap (g.order (get_or (atoms before ++ s.atom ∷ []) j 0)) (sym frontl)
      | inr ge ↦
          let lastp = get_or_push (parents before) (parent_rank before s.parent) 0 l (omega arith) in
          let lastl = get_or_push (atoms before) s.atom 0 l (omega arith) in
          let lasto = get_or_push (parent_orders g before) (order_behind g s.parent s.atom) 0 l (omega arith) in
          elim h.1.parent [
            | inl none ↦ let z : parent_rank before s.parent ≡ 0 = ap (parent_rank before) none in absurd (omega arith)
            | inr some ↦
                let (p, r) = some in
                let z : rank before p ≡ suc j = sym (ap (parent_rank before) r.is) ∙ sym lastp ∙ e in
                let le = rank_le before p in
                let frontj = get_or_append_left (atoms before) (s.atom ∷ []) 0 j (omega arith) in
                lasto ∙ ap (λ (o : Option ℕ). order_behind g o s.atom) r.is
                ∙ ap (λ (x : ℕ). g.order x s.atom) (sym (frontj ∙ at_rank before p j z)) ∙ ap (g.order (get_or (atoms before ++ s.atom ∷ []) j 0)) (sym lastl)
          ]
    ]

pub length_order_list : (m : Molecule) (w : WrittenAtoms) → IsWrittenOrder m w → length w.orders.items ≡ length m.atoms
length_order_list m w h = ap length h.orders_are ∙ length_orders (graph_of m) (order (graph_of m)) ∙ length_order (graph_of m)

-- the order that is kept of the bond to the parent at a rank
pub order_kept : (m : Molecule) (w : WrittenAtoms) (k p o : ℕ) → IsWrittenOrder m w → k < length m.atoms → HasParent m w k p → p ≢ 0 → o ≡ get_or w.orders.items k o
    → o ≡ order_between m.bonds (at (graph_of m) (p - 1)) (at (graph_of m) k)
order_kept m w k zero o h less parent some e = absurd (some refl)
order_kept m w k (suc j) o h less parent some e =
    let whole : length (order (graph_of m)) ≡ length m.atoms = length_order (graph_of m) in
    let len = length_order_list m w h in
    let is_parent : get_or (parents (order (graph_of m))) k 0 ≡ suc j = ap (λ (x : List ℕ). get_or x k 0) (sym h.parents_are) ∙ sym parent.is in
    let one : j ≡ suc j - 1 = omega arith in
    e ∙ get_or_default w.orders.items k o 0 (omega arith) ∙ ap (λ (x : List ℕ). get_or x k 0) h.orders_are
    ∙ order_at (graph_of m) (order (graph_of m)) j k (grown (graph_of m) (length m.atoms)) (omega arith) is_parent
    ∙ ap (λ (x : ℕ). order_between m.bonds (at (graph_of m) x) (at (graph_of m) k)) one

before_child : (symbols : ℕ → ℕ → Option BondMark) (k j : ℕ) (qs : List ℕ)
    → before_atom symbols k (suc j) qs ≡ if_not (suc j == k) Leave ++ (if_not (not (has (suc j) qs)) Enter ++ mark_tokens (symbols j k))
before_child symbols zero j qs = refl
before_child symbols (suc k) j qs = refl

later_is : (m : Molecule) (w : WrittenAtoms) (last : List ℕ) (k p : ℕ) → IsWrittenOrder m w → LastChildren w.parents.items (length m.atoms) last → p ≤ length m.atoms
    → has p (drop (k + 1) w.parents.items) ≡ nat_lt k (get_or last p 0)
later_is m w last k p h last_is le =
    let len = length_parent_list m w h in
    ap (λ (x : List ℕ). has p (drop (k + 1) x)) (sym (take_all (length m.atoms) w.parents.items (omega arith))) ∙ last_is.later k p (omega arith)

pub before_is : (m : Molecule) (w : WrittenAtoms) (last : List ℕ) (k p o : ℕ) (later : Bool) → IsWrittenOrder m w → LastChildren w.parents.items (length m.atoms) last → k < length m.atoms
    → HasParent m w k p → p ≢ 0 → o ≡ order_between m.bonds (at (graph_of m) (p - 1)) (at (graph_of m) k) → later ≡ nat_lt k (get_or last p 0)
    → if_not (p == k) Leave ++ (if_not (not later) Enter ++ mark_tokens (symbol_of o))
    ≡ before_atom (λ j l. bond_symbol (graph_of m) j l) k (get_or w.parents.items k 0) (drop (k + 1) w.parents.items)
before_is m w last k zero o later h last_is less parent some is_o is_later = absurd (some refl)
before_is m w last k (suc j) o later h last_is less parent some is_o is_later =
    let one : suc j - 1 ≡ j = omega arith in
    let is_o' : o ≡ order_between m.bonds (at (graph_of m) j) (at (graph_of m) k) = is_o ∙ ap (λ (x : ℕ). order_between m.bonds (at (graph_of m) x) (at (graph_of m) k)) one in
    let low = parent.low in
    let is_later' : later ≡ has (suc j) (drop (k + 1) w.parents.items) = is_later ∙ sym (later_is m w last k (suc j) h last_is (omega arith)) in
    ap (λ (x : ℕ). if_not (suc j == k) Leave ++ (if_not (not later) Enter ++ mark_tokens (symbol_of x))) is_o'
    ∙ ap (λ (b : Bool). if_not (suc j == k) Leave ++ (if_not (not b) Enter ++ mark_tokens (bond_symbol (graph_of m) j k))) is_later'
    ∙ sym (before_child (λ j l. bond_symbol (graph_of m) j l) k j (drop (k + 1) w.parents.items))
    ∙ ap (λ (x : ℕ). before_atom (λ j l. bond_symbol (graph_of m) j l) k x (drop (k + 1) w.parents.items)) parent.is
