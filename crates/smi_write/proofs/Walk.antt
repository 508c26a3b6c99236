-- The parents of the written atoms are nested.
use Rattle.std.proofs.Common.{◌≡◌, ◌≢◌, ℕ, zero, suc, ◌+◌, ◌≤◌, ◌<◌, List, [], ◌∷◌, ◌++◌, length, get_or, true, false, Option, Some, None, refl, ap, sym, ◌∙◌, subst, inl, inr, arith}
use Rattle.std.specs.Prelude.{◌==◌, ◌⊎◌, ◌&&◌, not, option_map}
use Rattle.std.proofs.lemmas.Bool.{cases_lt, cases_eq, false≢true, ne_eqb, and_parts, or_cases, or_parts, not-true, not-false, false_from_ne_true}
use Rattle.std.proofs.lemmas.List.{length_push, get_or_push, get_or_append_left}
use Rattle.std.proofs.lemmas.Option.{same_Some}
use Rattle.mc_mol.proofs.Halves.{same_test}
use Rattle.smi_graph.specs.Links.{or_else}
use Rattle.smi_mean.specs.Order.{Graph, Step, least, is_written, unwritten_neighbour, behind, beginning, next_behind, next_step, onto, steps, rank, parent_rank, parents}
use Rattle.smi_write.specs.Nested.{IsNested}
use Rattle.smi_write.proofs.Least.{and_false, least_all, least_some}

-- Places

pub rank_le : (before : List Step) (u : ℕ) → rank before u ≤ length before
rank_le [] u = omega arith
rank_le (s ∷ before) u = elim (cases_eq s.atom u) [
  | inl e ↦ let t : (s.atom == u) ≡ true = ap (λ (x : ℕ). x == u) e ∙ same_test u in rw t (omega arith)
  | inr ne ↦ let le = rank_le before u in rw (ne_eqb s.atom u ne) (omega arith)
]

pub rank_here : (s : Step) (before : List Step) (u : ℕ) → s.atom ≡ u → rank (s ∷ before) u ≡ suc (length before)
rank_here s before u e = let t : (s.atom == u) ≡ true = ap (λ (x : ℕ). x == u) e ∙ same_test u in rw t refl

pub rank_other : (s : Step) (before : List Step) (u : ℕ) → s.atom ≢ u → rank (s ∷ before) u ≡ rank before u
rank_other s before u ne = rw (ne_eqb s.atom u ne) refl

-- a rank doesn't fall with one more step
pub rank_more : (s : Step) (before : List Step) (u : ℕ) → rank before u ≤ rank (s ∷ before) u
rank_more s before u = elim (cases_eq s.atom u) [
  | inl e ↦ let h = rank_here s before u e in let le = rank_le before u in omega arith
  | inr ne ↦ let h = rank_other s before u ne in omega arith
]

pub unwritten_rank : (before : List Step) (v : ℕ) → is_written before v ≡ false → rank before v ≡ 0
unwritten_rank [] v h = refl
unwritten_rank (s ∷ before) v h = let r = or_parts (s.atom == v) (is_written before v) h in rw r.0 (unwritten_rank before v r.1)

pub written_rank : (before : List Step) (v : ℕ) → is_written before v ≡ true → 0 < rank before v
written_rank [] v h = cc
written_rank (s ∷ before) v h = elim (or_cases (s.atom == v) (is_written before v) h) [
  | inl here ↦ rw here (omega arith)
  | inr there ↦ let r = written_rank before v there in let m = rank_more s before v in omega arith
]

pub rank_unwritten : (before : List Step) (v : ℕ) → rank before v ≡ 0 → is_written before v ≡ false
rank_unwritten before v h = false_from_ne_true (is_written before v) (λ w. let p = written_rank before v w in omega arith)

-- What the next step is

-- no atom of these steps has an unwritten neighbour
abbrev pub Exhausted : Graph → List Step → List Step → Type 0
Exhausted g written others = (u v : ℕ) → 0 < rank others u → v < g.count → g.joined u v ≡ true → is_written written v ≡ false → ⊥

no_neighbour : (g : Graph) (written : List Step) (u v : ℕ) → unwritten_neighbour g written u ≡ None → v < g.count → g.joined u v ≡ true → is_written written v ≡ false → ⊥
no_neighbour g written u v none below joined fresh =
    let h = least_all (λ v. g.joined u v && not (is_written written v)) g.count none v below in
    let w = not-false _ (and_false (g.joined u v) (not (is_written written v)) joined h) in
    false≢true (sym fresh ∙ w)

pub record IsBehind (g : Graph) (written others : List Step) (s : Step) : Type 0 where
  pub up : ℕ
  pub is : s.parent ≡ Some up
  pub above : 0 < rank others up
  pub joined : g.joined up s.atom ≡ true
  pub below : s.atom < g.count
  pub fresh : is_written written s.atom ≡ false
  pub latest : (u v : ℕ) → 0 < rank others u → v < g.count → g.joined u v ≡ true → is_written written v ≡ false → rank others u ≤ rank others up

pub behind_is : (g : Graph) (written others : List Step) (s : Step) → next_behind g written others ≡ Some s → IsBehind g written others s
behind_is g written [] s h = cc
behind_is g written (t ∷ others) s h = by_least (λ e. behind_is g written others s e) (unwritten_neighbour g written t.atom) refl h
  where
    by_least : (next_behind g written others ≡ Some s → IsBehind g written others s) → (o : Option ℕ) → unwritten_neighbour g written t.atom ≡ o → or_else (option_map (λ v. behind t.atom v) o) (next_behind g written others) ≡ Some s
        → IsBehind g written (t ∷ others) s
    by_least more (Some v) e h =
        let l = least_some (λ v. g.joined t.atom v && not (is_written written v)) g.count v e in
        let both = and_parts (g.joined t.atom v) (not (is_written written v)) l.passes in
        let here = rank_here t others t.atom refl in
        subst (λ (x : Step). IsBehind g written (t ∷ others) x) (same_Some (behind t.atom v) s h) (record {
          up = t.atom;
          is = refl;
          above = omega arith;
          joined = both.0;
          below = l.below;
          fresh = not-true _ both.1;
          latest = λ u v' w below j f. let le = rank_le (t ∷ others) u in let le' : rank (t ∷ others) u ≤ suc (length others) = le in omega arith;
        })
    by_least more None e h =
        let r = more h in
        let m = rank_more t others r.up in
        record {
          up = r.up;
          is = r.is;
          above = let a = r.above in omega arith;
          joined = r.joined;
          below = r.below;
          fresh = r.fresh;
          latest = λ u v w below j f. elim (cases_eq t.atom u) [
            | inl same ↦ absurd (no_neighbour g written t.atom v e below (ap (λ (x : ℕ). g.joined x v) same ∙ j) f)
            | inr ne ↦ let o = rank_other t others u ne in let le = r.latest u v (omega arith) below j f in omega arith
          ];
        }

none_behind : (g : Graph) (written others : List Step) → next_behind g written others ≡ None → Exhausted g written others
none_behind g written [] h u v w below j f = omega arith
none_behind g written (t ∷ others) h u v w below j f = by_least (λ e w'. none_behind g written others e u v w' below j f) (unwritten_neighbour g written t.atom) refl h
  where
    by_least : (next_behind g written others ≡ None → 0 < rank others u → ⊥) → (o : Option ℕ) → unwritten_neighbour g written t.atom ≡ o → or_else (option_map (λ v. behind t.atom v) o) (next_behind g written others) ≡ None → ⊥
    by_least more (Some v') e h = cc
    by_least more None e h = elim (cases_eq t.atom u) [
      | inl same ↦ no_neighbour g written t.atom v e below (ap (λ (x : ℕ). g.joined x v) same ∙ j) f
      | inr ne ↦ let o = rank_other t others u ne in more h (omega arith)
    ]

-- the parent is written and joined to the atom
pub record IsParent (g : Graph) (before : List Step) (s : Step) (p : ℕ) : Type 0 where
  pub is : s.parent ≡ Some p
  pub above : 0 < rank before p
  pub joined : g.joined p s.atom ≡ true

pub record Chosen (g : Graph) (before : List Step) (s : Step) : Type 0 where
  pub below : s.atom < g.count
  pub fresh : is_written before s.atom ≡ false
  pub parent : (s.parent ≡ None) ⊎ ((p : ℕ) × IsParent g before s p)
  pub latest : (u v : ℕ) → 0 < rank before u → v < g.count → g.joined u v ≡ true → is_written before v ≡ false → rank before u ≤ parent_rank before s.parent

pub chosen : (g : Graph) (before : List Step) (s : Step) → next_step g before ≡ Some s → Chosen g before s
chosen g before s h = by_behind (next_behind g before before) refl h
  where
    root : (o : Option ℕ) → least (λ v. not (is_written before v)) g.count ≡ o → next_behind g before before ≡ None → option_map (λ v. beginning v) o ≡ Some s → Chosen g before s
    root None e n h = cc
    root (Some v) e n h =
        let l = least_some (λ v. not (is_written before v)) g.count v e in
        subst (λ (x : Step). Chosen g before x) (same_Some (beginning v) s h) (record {
          below = l.below;
          fresh = not-true _ l.passes;
          parent = inl refl;
          latest = λ u v w below j f. absurd (none_behind g before before n u v w below j f);
        })

    by_behind : (o : Option Step) → next_behind g before before ≡ o → or_else o (option_map (λ v. beginning v) (least (λ v. not (is_written before v)) g.count)) ≡ Some s → Chosen g before s
    by_behind (Some t) e h =
        let r = behind_is g before before s (e ∙ h) in
        record {
          below = r.below;
          fresh = r.fresh;
          parent = inr (r.up, record { is = r.is; above = r.above; joined = r.joined });
          latest = λ u v w below j f. subst (λ (o : Option ℕ). rank before u ≤ parent_rank before o) (sym r.is) (r.latest u v w below j f);
        }
    by_behind None e h = root (least (λ v. not (is_written before v)) g.count) refl e h

-- each of these steps is the next behind those before it
abbrev pub Grown : Graph → List Step → Type 0
Grown g [] = Unit {0}
Grown g (s ∷ before) = Grown g before × Chosen g before s

pub grown : (g : Graph) (k : ℕ) → Grown g (steps g k)
grown g zero = tt
grown g (suc k) = by_next (grown g k) (next_step g (steps g k)) refl
  where
    by_next : Grown g (steps g k) → (o : Option Step) → next_step g (steps g k) ≡ o → Grown g (onto o (steps g k))
    by_next more None e = more
    by_next more (Some s) e = (more, chosen g (steps g k) s e)

-- Nested parents

pub length_parents : (before : List Step) → length (parents before) ≡ length before
length_parents [] = refl
length_parents (s ∷ before) = length_push (parents before) (parent_rank before s.parent) ∙ let e = length_parents before in omega arith

-- An atom that has an unwritten neighbour doesn't stand between an atom's parent and this atom.
pub apart : (g : Graph) (before : List Step) → Grown g before → (u v i : ℕ) → 0 < rank before u → v < g.count → g.joined u v ≡ true → is_written before v ≡ false
    → i < length before → (rank before u ≤ get_or (parents before) i 0) ⊎ (suc i ≤ rank before u)
apart g [] grown u v i w below j f less = absurd (omega arith)
apart g (s ∷ before) grown u v i w below j f less = elim (cases_eq s.atom u) [
  | inl same ↦ let h = rank_here s before u same in inr (omega arith)
  | inr ne ↦
      let o = rank_other s before u ne in
      let w' : 0 < rank before u = omega arith in
      let f' = (or_parts (s.atom == v) (is_written before v) f).1 in
      let len = length_parents before in
      elim (cases_lt i (length before)) [
        | inl lt ↦ let front = get_or_append_left (parents before) (parent_rank before s.parent ∷ []) 0 i (omega arith) in
            elim (apart g before grown.0 u v i w' below j f' lt) [ inl low ↦ inl (omega arith) | inr high ↦ inr (omega arith) ]
        | inr ge ↦
            let last = get_or_push (parents before) (parent_rank before s.parent) 0 i (omega arith) in
            let low = grown.1.latest u v w' below j f' in inl (omega arith)
      ]
]

pub nested_push : (p : ℕ) (ps : List ℕ) → IsNested 1 ps → p < suc (length ps) → ((i : ℕ) → i < length ps → (p ≤ get_or ps i 0) ⊎ (suc i ≤ p)) → IsNested 1 (ps ++ p ∷ [])
nested_push p ps n below apart =
    let len = length_push ps p in
    let last : get_or (ps ++ p ∷ []) (length ps) 0 ≡ p = get_or_push ps p 0 (length ps) refl in
    let front : (i : ℕ) → i < length ps → get_or (ps ++ p ∷ []) i 0 ≡ get_or ps i 0 = λ i less. get_or_append_left ps (p ∷ []) 0 i less in
    record {
      earlier = λ i less. elim (cases_lt i (length ps)) [
        | inl lt ↦ let a = front i lt in let b = n.earlier i lt in omega arith
        | inr ge ↦ let e : i ≡ length ps = omega arith in subst (λ (x : ℕ). get_or (ps ++ p ∷ []) x 0 < 1 + x) (sym e) (omega arith)
      ];
      nested = λ i j le less. elim (cases_lt j (length ps)) [
        | inl lt ↦ elim (n.nested i j le lt) [
          | inl low ↦ let a = front i (omega arith) in let b = front j lt in inl (omega arith)
          | inr high ↦ let b = front j lt in inr (omega arith)
        ]
        | inr ge ↦ let e : j ≡ length ps = omega arith in
            let P : ℕ → Type 0 = λ x. (get_or (ps ++ p ∷ []) x 0 ≤ get_or (ps ++ p ∷ []) i 0) ⊎ (1 + i ≤ get_or (ps ++ p ∷ []) x 0) in
            subst P (sym e) (elim (cases_lt i (length ps)) [
              | inl lt ↦ elim (apart i lt) [
                | inl low ↦ let a = front i lt in inl (omega arith)
                | inr high ↦ inr (omega arith)
              ]
              | inr ge' ↦ let e' : i ≡ length ps = omega arith in
                  inl (subst (λ (x : ℕ). get_or (ps ++ p ∷ []) (length ps) 0 ≤ get_or (ps ++ p ∷ []) x 0) (sym e') (omega arith))
            ])
      ];
    }

pub nested : (g : Graph) (before : List Step) → Grown g before → IsNested 1 (parents before)
nested g [] grown = record { earlier = λ i less. absurd (omega arith); nested = λ i j le less. absurd (omega arith) }
nested g (s ∷ before) grown =
    let len = length_parents before in
    nested_push (parent_rank before s.parent) (parents before) (nested g before grown.0)
    (parent_below s.parent) (λ i less. apart_parent s.parent refl i (omega arith))
  where
    parent_below : (o : Option ℕ) → parent_rank before o < suc (length (parents before))
    parent_below None = omega arith
    parent_below (Some p) = let len = length_parents before in let le = rank_le before p in omega arith

    apart_parent : (o : Option ℕ) → s.parent ≡ o → (i : ℕ) → i < length before → (parent_rank before o ≤ get_or (parents before) i 0) ⊎ (suc i ≤ parent_rank before o)
    apart_parent None e i less = inl (omega arith)
    apart_parent (Some p) e i less = elim grown.1.parent [
      | inl none ↦ cc
      | inr some ↦ let (q, r) = some in
          let same : p ≡ q = same_Some p q (sym e ∙ r.is) in
          subst (λ (x : ℕ). (rank before x ≤ get_or (parents before) i 0) ⊎ (suc i ≤ rank before x)) (sym same) (apart g before grown.0 q s.atom i r.above grown.1.below r.joined grown.1.fresh less)
    ]

pub order_nested : (g : Graph) → IsNested 1 (parents (steps g g.count))
order_nested g = nested g (steps g g.count) (grown g g.count)
