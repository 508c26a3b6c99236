-- The roles in which a graph is written are read as this graph.
use Rattle.std.proofs.Common.{◌≡◌, ℕ, zero, suc, ◌+◌, ◌-◌, ◌≤◌, ◌<◌, List, [], ◌∷◌, length, get_or, Bool, true, false, Option, Some, None, refl, ap, sym, ◌∙◌, subst, inl, inr, arith}
use Rattle.std.specs.Prelude.{◌==◌, ◌⊎◌, ◌&&◌, not}
use Rattle.std.proofs.lemmas.Bool.{cases_lt, or_from, ne_eqb, eqb-true}
use Rattle.smi_lex.specs.declared.token.BondMark.{BondMark}
use Rattle.smi_graph.specs.declared.text_bond.TextBond.{TextBond}
use Rattle.std.specs.Prelude.{option_to_list}
use Rattle.mc_mol.specs.Molecule.{joins, are_joined}
use Rattle.smi_graph.specs.declared.ring_table.RingEnd.{RingEnd}
use Rattle.smi_graph.specs.declared.role.Role.{Role}
use Rattle.smi_graph.specs.declared.role.Role.TheVariants as doing
use Rattle.smi_graph.specs.declared.role.Role.TheVariants.{Atom, Ring, Dot, Enter, Leave}
use Rattle.smi_graph.specs.Order.{depth, may_follow, latest, is_misplaced}
use Rattle.smi_graph.specs.Bonds.{atom_count, mark_of, ring_end, open_end, text_bond, ring_bond, completed, text_bonds}
use Rattle.smi_graph.specs.Links.{bonds_of}
use Rattle.mc_mol.specs.declared.parts.Bond.{Bond}
use Rattle.mc_mol.proofs.Halves.{same_test}
use Rattle.smi_graph.specs.RingRules.{is_clash, pairs_again, is_pair_again}
use Rattle.smi_mean.specs.Order.{Graph, order, parents, at, has_ring}
use Rattle.smi_mean.specs.RingNumbers.{onto_all, active}
use Rattle.smi_write.specs.Nested.{IsNested}
use Rattle.smi_write.proofs.Along.{Along}
use Rattle.smi_write.proofs.RingLaw.{opening_of}
use Rattle.smi_write.proofs.RoleText.{text_roles, bonds_from}
use Rattle.smi_write.proofs.Symbols.{HasSymbols, has_symbols}
use Rattle.smi_write.proofs.Walk.{grown, length_parents, nested}
use Rattle.smi_write.proofs.Once.{length_steps}
use Rattle.smi_write.proofs.Hits.{bit, closing_count, closing_none, active_end}
use Rattle.smi_write.proofs.BondCounts.{bond_count, text_count, text_append, count_at, count_above}
use Rattle.smi_write.proofs.TextRead.{whole_read}
use Rattle.smi_write.proofs.Pairs.{opener}
use Rattle.smi_write.proofs.PartsLow.{parent_at}

-- a bond is a parent bond or a ring bond
both_bits : (a b : Bool) → (b ≡ true → a ≡ true) → bit b + bit (a && not b) ≡ bit a
both_bits true true h = refl
both_bits true false h = refl
both_bits false false h = refl
both_bits false true h = absurd (false_true (h refl))
  where
    false_true : false ≡ true → ⊥
    false_true h = cc

-- Where no bond stands twice, no ring number closes between joined atoms.
record Once (bs : List TextBond) : Type 0 where
  once : (j l : ℕ) → text_count j l bs ≤ 1
  rising : (j l : ℕ) → l ≤ j → text_count j l bs ≡ 0

once_before : (before : List Role) (k : Role) → Once (text_bonds (k ∷ before)) → Once (text_bonds before)
once_before before k h = record {
  once = λ j l. let c = text_append j l (text_bonds before) (option_to_list (completed before k)) in let b = h.once j l in omega arith;
  rising = λ j l le. let c = text_append j l (text_bonds before) (option_to_list (completed before k)) in let b = h.rising j l le in omega arith;
}

own_count : (j l : ℕ) (opening closing : Option BondMark) → text_count j l (text_bond j l opening closing ∷ []) ≡ 1
own_count j l opening closing = rw (same_test j, same_test l) refl

bit_none : (b : Bool) → bit b ≡ 0 → b ≡ false
bit_none true h = absurd (omega arith)
bit_none false h = refl

-- a pair that is counted from neither end isn't joined
pub not_joined : (bs : List Bond) (j l : ℕ) → bond_count j l bs ≡ 0 → bond_count l j bs ≡ 0 → are_joined bs j l ≡ false
not_joined [] j l h k = refl
not_joined (b ∷ bs) j l h k =
    or_from (joins b j l) (are_joined bs j l)
    (or_from (b.first.0 == j && b.second.0 == l) (b.first.0 == l && b.second.0 == j) (bit_none _ (omega arith)) (bit_none _ (omega arith)))
    (not_joined bs j l (omega arith) (omega arith))

ring_apart : (n : ℕ) (before : List Role) → Once (text_bonds (Ring n ∷ before)) → is_pair_again before (Some (Ring n)) ≡ false
ring_apart n before h = by_end (open_end n before) refl
  where
    by_end : (o : Option RingEnd) → open_end n before ≡ o → pairs_again (bonds_of before) (ring_bond o (ring_end before)) ≡ false
    by_end None e = refl
    by_end (Some x) e =
        let j : ℕ = x.atom in
        let l : ℕ = atom_count before - 1 in
        let c = text_append j l (text_bonds before) (option_to_list (completed before (Ring n))) in
        let b = h.once j l in
        let one : text_count j l (option_to_list (completed before (Ring n))) ≡ 1
        = ap (λ (y : Option RingEnd). text_count j l (option_to_list (ring_bond y (ring_end before)))) e ∙ own_count j l x.mark (mark_of before) in
        elim (cases_lt j l) [
          | inl less ↦
              let back = (once_before before (Ring n) h).rising l j (omega arith) in
              or_from (j == l) (are_joined (bonds_of before) j l) (ne_eqb j l (omega arith)) (not_joined (bonds_of before) j l (omega arith) back)
          | inr more ↦ let z = h.rising j l more in absurd (omega arith)
        ]

no_pair : (whole : List Role) → Once (text_bonds whole) → Along is_pair_again whole
no_pair [] h = tt
no_pair (Ring n ∷ before) h = (no_pair before (once_before before (Ring n) h), ring_apart n before h)
no_pair (Atom lower ∷ before) h = (no_pair before (once_before before (Atom lower) h), refl)
no_pair (doing.Bond mark ∷ before) h = (no_pair before (once_before before (doing.Bond mark) h), refl)
no_pair (Dot ∷ before) h = (no_pair before (once_before before Dot h), refl)
no_pair (Enter ∷ before) h = (no_pair before (once_before before Enter h), refl)
no_pair (Leave ∷ before) h = (no_pair before (once_before before Leave h), refl)

pub bit_le : (b : Bool) → bit b ≤ 1
bit_le true = omega arith
bit_le false = omega arith

abbrev Bonds : Graph → List TextBond → Type 0
Bonds g bs = ((j l : ℕ) → j < l → l < g.count → text_count j l bs ≡ bit (g.joined (at g j) (at g l))) × ((j l : ℕ) → (l ≤ j) ⊎ (g.count ≤ l) → text_count j l bs ≡ 0)

bonds_are : (g : Graph) (v : ℕ → ℕ → Option BondMark) → Bonds g (bonds_from v (λ j l. has_ring g j l) g.count 0 (parents (order g)))
bonds_are g v =
    let r : ℕ → ℕ → Bool = λ j l. has_ring g j l in
    let n : ℕ = g.count in
    let qs : List ℕ = parents (order g) in
    let len : length qs ≡ n = length_parents (order g) ∙ length_steps g g.count (omega arith) in
    let lens = length_steps g g.count (omega arith) in (
      λ j l less below.
          count_at v r n j l 0 l qs (omega arith) (omega arith)
          ∙ ap (λ (x : ℕ). bit (get_or qs l 0 == suc j) + x) (closing_count v r n j l less below)
          ∙ both_bits (g.joined (at g j) (at g l)) (get_or qs l 0 == suc j)
          (λ t. (parent_at g l j below (eqb-true (get_or qs l 0) (suc j) t)).1),
      λ j l side. elim (cases_lt l n) [
        | inl below ↦ elim side [
          | inl le ↦
              let nest = nested g (order g) (grown g g.count) in
              let early = nest.earlier l (omega arith) in
              let e : bit (get_or qs l 0 == suc j) ≡ 0 = ap bit (ne_eqb (get_or qs l 0) (suc j) (omega arith)) in
              let c = closing_none v r n j l le in
              count_at v r n j l 0 l qs (omega arith) (omega arith) ∙ omega arith
          | inr above ↦ absurd (omega arith)
        ]
        | inr above ↦ count_above v r n j l 0 qs (omega arith)
      ],
    )

counted_once : (g : Graph) (bs : List TextBond) → Bonds g bs → Once bs
counted_once g bs h = record {
  once = λ j l. elim (cases_lt j l) [
    | inl less ↦ elim (cases_lt l g.count) [
      | inl below ↦ let e = h.0 j l less below in let b = bit_le (g.joined (at g j) (at g l)) in omega arith
      | inr above ↦ let e = h.1 j l (inr above) in omega arith
    ]
    | inr more ↦ let e = h.1 j l (inl more) in omega arith
  ];
  rising = λ j l le. h.1 j l (inl le);
}

-- the roles in which a graph is written, with these symbols
abbrev pub graph_roles : Graph → (ℕ → ℕ → Option BondMark) → List Role
graph_roles g v = text_roles v (λ j l. has_ring g j l) g.count 0 (parents (order g))

-- These roles, the latest first, are read as the graph with its atoms numbered by their ranks.
pub record IsReadAs (g : Graph) (v : ℕ → ℕ → Option BondMark) (whole : List Role) : Type 0 where
  pub counted : atom_count whole ≡ g.count
  pub placed : Along is_misplaced whole
  pub deep : depth whole ≡ Some 0
  pub ends : may_follow (latest whole) None ≡ true
  pub closed : (m : ℕ) → open_end m whole ≡ None
  pub pairs : Along is_pair_again whole
  pub clashes : Along is_clash whole
  pub bonds : (j l : ℕ) → j < l → l < g.count → bond_count j l (bonds_of whole) ≡ bit (g.joined (at g j) (at g l))
  pub symbols : HasSymbols v (text_bonds whole)
  pub others : (j l : ℕ) → (l ≤ j) ⊎ (g.count ≤ l) → bond_count j l (bonds_of whole) ≡ 0

pub end_none : (o : Option RingEnd) → opening_of o ≡ None → o ≡ None
end_none None h = refl
end_none (Some x) h = cc

read_whole : (g : Graph) (v : ℕ → ℕ → Option BondMark) (qs : List ℕ) → length qs ≡ g.count → IsNested 1 qs → Bonds g (bonds_from v (λ j l. has_ring g j l) g.count 0 qs)
    → IsReadAs g v (onto_all (text_roles v (λ j l. has_ring g j l) g.count 0 qs) [])
read_whole g v [] lp nest bonds = record {
  counted = lp;
  placed = tt;
  deep = refl;
  ends = refl;
  closed = λ m. refl;
  pairs = tt;
  clashes = tt;
  bonds = bonds.0;
  symbols = tt;
  others = bonds.1;
}
read_whole g v (suc q ∷ qs) lp nest bonds = absurd (let h = nest.earlier 0 (omega arith) in let h' : suc q < 1 + 0 = h in omega arith)
read_whole g v (zero ∷ qs) lp nest bonds =
    let r : ℕ → ℕ → Bool = λ j l. has_ring g j l in
    let w = whole_read v r g.count qs nest in
    let whole : List Role = onto_all (text_roles v r g.count 0 (0 ∷ qs)) [] in
    let read = w.read in
    let end : active v r g.count (1 + length qs) ≡ [] = ap (active v r g.count) (let z : 1 + length qs ≡ g.count = omega arith in z) ∙ active_end v r g.count in
    let all : Bonds g (text_bonds whole) = subst (λ (x : List TextBond). Bonds g x) (sym read.bonds) bonds in
    record {
      counted = read.counted ∙ omega arith;
      placed = read.valid;
      deep = read.deep;
      ends = w.ends;
      closed = λ m. end_none (open_end m whole) (read.agrees m ∙ ap (opener m) end);
      clashes = read.clash;
      pairs = no_pair whole (counted_once g (text_bonds whole) all);
      bonds = all.0;
      symbols = subst (λ (x : List TextBond). HasSymbols v x) (sym read.bonds) (has_symbols v r g.count 0 (0 ∷ qs));
      others = all.1;
    }

pub is_read : (g : Graph) (v : ℕ → ℕ → Option BondMark) → IsReadAs g v (onto_all (graph_roles g v) [])
is_read g v =
    let len = length_steps g g.count (omega arith) in
    read_whole g v (parents (order g)) (length_parents (order g) ∙ len) (nested g (order g) (grown g g.count)) (bonds_are g v)
