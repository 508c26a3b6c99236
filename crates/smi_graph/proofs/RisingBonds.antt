-- The bonds of the latest atom are the last ones of a text so far.
use Rattle.std.proofs.Common.{arith, ◌≡◌, ◌≢◌, ◌∙◌, ℕ, zero, suc, ◌+◌, ◌-◌, ◌≤◌, ◌<◌, List, [], ◌∷◌, ◌++◌, length, take, drop, get_or, Bool, false, Option, Some, None, refl, ap, sym, subst, inl, inr}
use Rattle.std.specs.Prelude.{◌==◌, ◌||◌}
use Rattle.std.proofs.lemmas.Bool.{cases_lt, ne_eqb}
use Rattle.std.proofs.lemmas.List.{append-nil, take_rest}
use Rattle.std.proofs.lemmas.List.Elements.{All-push}
use Rattle.mc_mol.specs.Molecule.{joins, are_joined}
use Rattle.smi_lex.specs.declared.token.BondMark.{BondMark}
use Rattle.smi_graph.specs.declared.ring_table.RingEnd.{RingEnd}
use Rattle.smi_graph.specs.declared.role.Role.{Role}
use Rattle.smi_graph.specs.declared.text_bond.TextBond.{TextBond}
use Rattle.smi_graph.specs.declared.role.Role.TheVariants.{Atom, Bond, Ring, Enter, Leave, Dot}
use Rattle.smi_graph.specs.Bonds.{atom_count, predecessor, mark_of, ring_end, open_end, text_bond, chain_bond, ring_bond, completed, text_bonds}
use Rattle.smi_graph.specs.Links.{bond_of}
use Rattle.smi_graph.specs.RingRules.{pairs_again}
use Rattle.std.specs.List.{list_any}
use Rattle.std.specs.Prelude.{map, option_to_list}
use Rattle.smi_graph.specs.Reading.{RisesTo, IsTo}
use Rattle.smi_graph.proofs.SoundBonds.{AllPairs-push, All-map, neither, predecessor_below, open_low}

-- One more bond to an atom that is none of the earlier ones

push_rising : (n : ℕ) (bonds : List TextBond) (b : TextBond) → RisesTo n bonds → b.first.0 ≤ b.second.0 → b.second.0 ≡ n → RisesTo n (bonds ++ b ∷ [])
push_rising n bonds b r back last = record {
  back = All-push (λ (c : TextBond). c.first.0 ≤ c.second.0) bonds b r.back back;
  below = All-push (λ (c : TextBond). c.second.0 ≤ n) bonds b r.below (omega arith);
  rise = AllPairs-push (λ (c d : TextBond). c.second.0 ≤ d.second.0) bonds b r.rise (All-map (λ (c : TextBond). c.second.0 ≤ n) (λ (c : TextBond). c.second.0 ≤ b.second.0) bonds (λ c low. omega arith) r.below);
}

later_atom : (m n : ℕ) (bonds : List TextBond) → m ≤ n → RisesTo m bonds → RisesTo n bonds
later_atom m n bonds le r = record {
  back = r.back;
  below = All-map (λ (c : TextBond). c.second.0 ≤ m) (λ (c : TextBond). c.second.0 ≤ n) bonds (λ c low. omega arith) r.below;
  rise = r.rise;
}

no_bond_more : (n : ℕ) (bonds : List TextBond) → RisesTo n bonds → RisesTo n (bonds ++ [])
no_bond_more n bonds r = subst (λ (x : List TextBond). RisesTo n x) (sym (append-nil bonds)) r

chain_rises : (o : Option ℕ) (mark : Option BondMark) (n : ℕ) (bonds : List TextBond) → ((p : ℕ) → o ≡ Some p → p < n) → RisesTo n bonds → RisesTo n (bonds ++ option_to_list (chain_bond o n mark))
chain_rises None mark n bonds below r = no_bond_more n bonds r
chain_rises (Some p) mark n bonds below r = let less = below p refl in push_rising n bonds (text_bond p n mark None) r (omega arith) refl

ring_rises : (o : Option RingEnd) (here : RingEnd) (bonds : List TextBond) → ((end : RingEnd) → o ≡ Some end → end.atom ≤ here.atom) → RisesTo here.atom bonds → RisesTo here.atom (bonds ++ option_to_list (ring_bond o here))
ring_rises None here bonds low r = no_bond_more here.atom bonds r
ring_rises (Some other) here bonds low r = push_rising here.atom bonds (text_bond other.atom here.atom other.mark here.mark) r (low other refl) refl

pub bonds_rise : (before : List Role) → RisesTo (atom_count before - 1) (text_bonds before)
bonds_rise [] = record { back = λ k d less. absurd (omega arith); below = λ k d less. absurd (omega arith); rise = λ i j d less within. absurd (omega arith) }
bonds_rise (Atom lower ∷ before) =
    let n : ℕ = atom_count before in
    let e : n ≡ n + 1 - 1 = omega arith in
    subst (λ (m : ℕ). RisesTo m (text_bonds before ++ option_to_list (chain_bond (predecessor before) n (mark_of before)))) e
    (chain_rises (predecessor before) (mark_of before) n (text_bonds before) (predecessor_below before) (later_atom (n - 1) n (text_bonds before) (omega arith) (bonds_rise before)))
bonds_rise (Ring n ∷ before) = ring_rises (open_end n before) (ring_end before) (text_bonds before) (open_low n before) (bonds_rise before)
bonds_rise (Bond mark ∷ before) = no_bond_more (atom_count before - 1) (text_bonds before) (bonds_rise before)
bonds_rise (Enter ∷ before) = no_bond_more (atom_count before - 1) (text_bonds before) (bonds_rise before)
bonds_rise (Leave ∷ before) = no_bond_more (atom_count before - 1) (text_bonds before) (bonds_rise before)
bonds_rise (Dot ∷ before) = no_bond_more (atom_count before - 1) (text_bonds before) (bonds_rise before)

-- The bonds to the latest atom

-- what is looked at is the text's bonds
pub joined_as_text : (bonds : List TextBond) (u v : ℕ) → list_any (λ (b : TextBond). joins (bond_of b) u v) bonds ≡ are_joined (map bond_of bonds) u v
joined_as_text [] u v = refl
joined_as_text (b ∷ bonds) u v = ap (λ (x : Bool). joins (bond_of b) u v || x) (joined_as_text bonds u v)

-- bonds that don't join two atoms may be left out at the front
skip_front : (k : ℕ) (bonds : List TextBond) (u v : ℕ) → ((j : ℕ) (d : TextBond) → j < k → joins (bond_of (get_or bonds j d)) u v ≡ false) → are_joined (map bond_of (drop k bonds)) u v ≡ are_joined (map bond_of bonds) u v
skip_front zero bonds u v h = refl
skip_front (suc k) [] u v h = refl
skip_front (suc k) (b ∷ bonds) u v h =
    skip_front k bonds u v (λ j d less. h (suc j) d (omega arith)) ∙ sym (ap (λ (x : Bool). x || are_joined (map bond_of bonds) u v) (h 0 b (omega arith)))

-- two bonds in their order, or one of them twice
at_most : (v : ℕ) (bonds : List TextBond) → RisesTo v bonds → (i j : ℕ) (d : TextBond) → i ≤ j → j < length bonds → (get_or bonds i d).second.0 ≤ (get_or bonds j d).second.0
at_most v bonds r i j d le within = elim (cases_lt i j) [
  | inl lt ↦ r.rise i j d lt within
  | inr ge ↦ let e : i ≡ j = omega arith in let same : (get_or bonds i d).second.0 ≡ (get_or bonds j d).second.0 = ap (λ (n : ℕ). (get_or bonds n d).second.0) e in omega arith
]

-- a bond that goes back, to an atom before this one, doesn't touch this one
misses : (b : TextBond) (u v : ℕ) → b.first.0 ≤ b.second.0 → b.second.0 < v → joins (bond_of b) u v ≡ false
misses b u v back less =
    let s : (b.second.0 == v) ≡ false = ne_eqb b.second.0 v (λ e. omega arith) in
    let f : (b.first.0 == v) ≡ false = ne_eqb b.first.0 v (λ e. omega arith) in
    neither (b.first.0 == u) (b.second.0 == v) (b.first.0 == v) (b.second.0 == u) s f

below_from : (a b v : ℕ) → a ≤ b → b ≤ v → b ≢ v → a < v
below_from a b v le low ne = elim (cases_lt b v) [
  | inl lt ↦ omega arith
  | inr ge ↦ absurd (ne (omega arith))
]

-- the bonds behind the last one that isn't to the latest atom are enough
pub latest_enough : (bonds : List TextBond) (k u v : ℕ) → RisesTo v bonds → k ≤ length bonds → ((b : TextBond) → 0 < k → (get_or bonds (k - 1) b).second.0 ≢ v) → are_joined (map bond_of (drop k bonds)) u v ≡ are_joined (map bond_of bonds) u v
latest_enough bonds k u v r within stop = skip_front k bonds u v (λ j d less.
    let last = stop d (omega arith) in
    let rises = at_most v bonds r j (k - 1) d (omega arith) (omega arith) in
    let low = r.below (k - 1) d (omega arith) in
    misses (get_or bonds j d) u v (r.back j d (omega arith)) (below_from (get_or bonds j d).second.0 (get_or bonds (k - 1) d).second.0 v rises low last))

-- the ends of a bond that aren't one atom, where only the bonds behind are looked at
pub pairs_latest : (bonds : List TextBond) (b : TextBond) (atom k : ℕ) → b.first.0 ≢ b.second.0 → b.second.0 ≡ atom → RisesTo atom bonds → k ≤ length bonds → ((c : TextBond) → 0 < k → (get_or bonds (k - 1) c).second.0 ≢ b.second.0)
    → are_joined (map bond_of (take (length bonds - k) (drop k bonds))) b.first.0 b.second.0 ≡ pairs_again (map bond_of bonds) (Some b)
pairs_latest bonds b atom k ne to rises within stop =
    ap (λ (x : List TextBond). are_joined (map bond_of x) b.first.0 b.second.0) (take_rest bonds k)
    ∙ (latest_enough bonds k b.first.0 b.second.0 (subst (λ (n : ℕ). RisesTo n bonds) (sym to) rises) within stop
    ∙ sym (ap (λ (t : Bool). t || are_joined (map bond_of bonds) b.first.0 b.second.0) (ne_eqb b.first.0 b.second.0 ne)))

-- a closing number completes a bond to the latest atom
pub to_latest : (n : ℕ) (before : List Role) → IsTo (atom_count before - 1) (completed before (Ring n))
to_latest n before = by_end (open_end n before)
  where
    by_end : (o : Option RingEnd) → IsTo (atom_count before - 1) (ring_bond o (ring_end before))
    by_end None = tt
    by_end (Some other) = refl
