-- The bonds of tokens join different atoms, and no pair twice.
use Rattle.std.specs.Prelude.{map, option_to_list}
use Rattle.std.proofs.lemmas.List.{map-append}
use Rattle.smi_graph.specs.Links.{bond_of}
use Rattle.std.proofs.Common.{arith, ◌≡◌, ◌≢◌, ◌∙◌, ℕ, zero, suc, ◌+◌, ◌-◌, ◌≤◌, ◌<◌, List, [], ◌∷◌, ◌++◌, length, get_or, Bool, true, false, Option, Some, None, refl, ap, sym, subst, inl, inr}
use Rattle.std.specs.List.{All, AllPairs, list_any}
use Rattle.std.specs.Prelude.{◌==◌, ◌||◌, ◌&&◌, if◌then◌else◌}
use Rattle.std.proofs.lemmas.Bool.{cases_lt, false≢true, ne_eqb, or_parts}
use Rattle.std.proofs.lemmas.Option.{slice_get-get_or, same_Some}
use Rattle.std.proofs.lemmas.List.{append-nil, length-append, length_push, get_or_push, get_or_append_left}
use Rattle.std.proofs.lemmas.List.Elements.{All-push}
use Rattle.mc_mol.specs.declared.parts.Bond as bond
use Rattle.mc_mol.specs.Molecule.{joins, are_joined}
use Rattle.mc_mol.specs.WellFormed.{IsBond}
use Rattle.mc_mol.proofs.Halves.{same_test}
use Rattle.smi_lex.specs.declared.token.BondMark.{BondMark}
use Rattle.smi_lex.specs.declared.token.BondMark.TheVariants.{Single, Double, Triple, Quadruple, Aromatic, Slash, Backslash}
use Rattle.smi_graph.specs.declared.ring_table.RingEnd.{RingEnd}
use Rattle.smi_graph.specs.declared.role.Role.{Role}
use Rattle.smi_graph.specs.declared.role.Role.TheVariants.{Atom, Bond, Ring, Enter, Leave, Dot}
use Rattle.smi_graph.specs.Bonds.{atom_count, never_falls, latest_open, predecessor, mark_of, ring_count, is_even, ring_end, latest_end, open_end, chain_bond, ring_bond, completed, text_bonds}
use Rattle.smi_graph.specs.Links.{order_of, or_else, bond_between, bonds_of}
use Rattle.smi_graph.specs.Order.{tokens_before}
use Rattle.smi_graph.specs.RingRules.{is_pair_again, pairs_again, pair_again_at}
use Rattle.smi_graph.specs.declared.text_bond.TextBond.{TextBond}
use Rattle.smi_graph.proofs.Prefixes.{tokens_before_more}
use Rattle.smi_graph.specs.Skeletons.{AreBonds}

latest_below : (before later : List Role) (a : ℕ) → latest_open later before ≡ Some a → a < atom_count before
latest_below [] later a h = cc
latest_below (Atom lower ∷ before) later a h = by_test (never_falls later) (latest_below before (later ++ Atom lower ∷ []) a) h
  where
    by_test : (t : Bool) → (latest_open (later ++ Atom lower ∷ []) before ≡ Some a → a < atom_count before)
        → (if t then Some (atom_count before) else latest_open (later ++ Atom lower ∷ []) before) ≡ Some a → a < atom_count before + 1
    by_test true below h = let e : atom_count before ≡ a = same_Some (atom_count before) a h in omega arith
    by_test false below h = let l = below h in omega arith
latest_below (Bond mark ∷ before) later a h = latest_below before (later ++ Bond mark ∷ []) a h
latest_below (Ring number ∷ before) later a h = latest_below before (later ++ Ring number ∷ []) a h
latest_below (Enter ∷ before) later a h = latest_below before (later ++ Enter ∷ []) a h
latest_below (Leave ∷ before) later a h = latest_below before (later ++ Leave ∷ []) a h
latest_below (Dot ∷ before) later a h = latest_below before (later ++ Dot ∷ []) a h

pub predecessor_below : (before : List Role) (a : ℕ) → predecessor before ≡ Some a → a < atom_count before
predecessor_below [] a h = cc
predecessor_below (Dot ∷ before) a h = cc
predecessor_below (Atom lower ∷ before) a h = latest_below (Atom lower ∷ before) [] a h
predecessor_below (Bond mark ∷ before) a h = latest_below (Bond mark ∷ before) [] a h
predecessor_below (Ring number ∷ before) a h = latest_below (Ring number ∷ before) [] a h
predecessor_below (Enter ∷ before) a h = latest_below (Enter ∷ before) [] a h
predecessor_below (Leave ∷ before) a h = latest_below (Leave ∷ before) [] a h

-- the atom of an open number is no later than the latest atom
end_low : (n : ℕ) (before : List Role) (end : RingEnd) → latest_end n before ≡ Some end → end.atom ≤ atom_count before - 1
end_low n [] end h = cc
end_low n (Ring m ∷ before) end h = by_test (m == n) (end_low n before end) h
  where
    by_test : (t : Bool) → (latest_end n before ≡ Some end → end.atom ≤ atom_count before - 1) → (if t then Some (ring_end before) else latest_end n before) ≡ Some end → end.atom ≤ atom_count before - 1
    by_test true low h = let e : ring_end before ≡ end = same_Some (ring_end before) end h in let a : atom_count before - 1 ≡ end.atom = ap (λ (x : RingEnd). x.atom) e in omega arith
    by_test false low h = low h
end_low n (Atom lower ∷ before) end h = let l = end_low n before end h in omega arith
end_low n (Bond mark ∷ before) end h = end_low n before end h
end_low n (Enter ∷ before) end h = end_low n before end h
end_low n (Leave ∷ before) end h = end_low n before end h
end_low n (Dot ∷ before) end h = end_low n before end h

pub open_low : (n : ℕ) (before : List Role) (end : RingEnd) → open_end n before ≡ Some end → end.atom ≤ atom_count before - 1
open_low n before end h = by_test (is_even (ring_count n before)) h
  where
    by_test : (t : Bool) → (if t then None else latest_end n before) ≡ Some end → end.atom ≤ atom_count before - 1
    by_test true h = cc
    by_test false h = end_low n before end h

order_bounds : (mark : Option BondMark) → (1 ≤ order_of mark) × (order_of mark ≤ 4)
order_bounds None = (omega arith, omega arith)
order_bounds (Some Single) = (omega arith, omega arith)
order_bounds (Some Double) = (omega arith, omega arith)
order_bounds (Some Triple) = (omega arith, omega arith)
order_bounds (Some Quadruple) = (omega arith, omega arith)
order_bounds (Some Aromatic) = (omega arith, omega arith)
order_bounds (Some Slash) = (omega arith, omega arith)
order_bounds (Some Backslash) = (omega arith, omega arith)

-- Lists

pub AllPairs-push : {X : Type 0} (R : X → X → Type 0) (xs : List X) (x : X) → AllPairs R xs → All (λ y. R y x) xs → AllPairs R (xs ++ x ∷ [])
AllPairs-push R xs x pairs last = λ i j d less within.
    let len = length_push xs x in
    elim (cases_lt j (length xs)) [
      | inl lt ↦ subst (λ y. R y (get_or (xs ++ x ∷ []) j d)) (sym (get_or_append_left xs (x ∷ []) d i (omega arith)))
          (subst (λ y. R (get_or xs i d) y) (sym (get_or_append_left xs (x ∷ []) d j lt)) (pairs i j d less lt))
      | inr ge ↦ subst (λ y. R y (get_or (xs ++ x ∷ []) j d)) (sym (get_or_append_left xs (x ∷ []) d i (omega arith)))
          (subst (λ y. R (get_or xs i d) y) (sym (get_or_push xs x d j (omega arith))) (last i d (omega arith)))
    ]

All-cons : {X : Type 0} (P : X → Type 0) (x : X) (xs : List X) → P x → All P xs → All P (x ∷ xs)
All-cons P x xs here later zero d less = here
All-cons P x xs here later (suc k) d less = later k d (omega arith)

none_passes : {X : Type 0} (p : X → Bool) (xs : List X) → list_any p xs ≡ false → All (λ x. p x ≡ false) xs
none_passes p [] h = λ k d less. absurd (omega arith)
none_passes p (x ∷ xs) h =
    let both = or_parts (p x) (list_any p xs) h in
    All-cons (λ y. p y ≡ false) x xs both.0 (none_passes p xs both.1)

-- Bonds

more_atoms : (n : ℕ) (b : bond.Bond) → IsBond n b → IsBond (n + 1) b
more_atoms n b h = record { first = let l = h.first in omega arith; second = let l = h.second in omega arith; different = h.different; order_low = h.order_low; order_high = h.order_high }

pub neither : (a b c d : Bool) → b ≡ false → c ≡ false → (a && b) || (c && d) ≡ false
neither true false false d h k = refl
neither false false false d h k = refl
neither a true c d h k = absurd (false≢true (sym h))
neither a false true d h k = absurd (false≢true (sym k))

joins_new : (n p : ℕ) (b : bond.Bond) → IsBond n b → joins b p n ≡ false
joins_new n p b h =
    let l = h.first in let m = h.second in
    let s : (b.second.0 == n) ≡ false = ne_eqb b.second.0 n (λ e. omega arith) in
    let f : (b.first.0 == n) ≡ false = ne_eqb b.first.0 n (λ e. omega arith) in
    neither (b.first.0 == p) (b.second.0 == n) (b.first.0 == n) (b.second.0 == p) s f

abbrev pub NeverPairs : List Role → Type 0
NeverPairs [] = Unit {0}
NeverPairs (k ∷ before) = NeverPairs before × (is_pair_again before (Some k) ≡ false)

pub All-map : {X : Type 0} (P Q : X → Type 0) (xs : List X) → ((x : X) → P x → Q x) → All P xs → All Q xs
All-map P Q xs f all = λ k d less. f (get_or xs k d) (all k d less)

push_bond : (n : ℕ) (bonds : List bond.Bond) (b : bond.Bond) → AreBonds n bonds → IsBond n b → All (λ c. joins c b.first.0 b.second.0 ≡ false) bonds → AreBonds n (bonds ++ b ∷ [])
push_bond n bonds b sound is fresh = record { each = All-push (IsBond n) bonds b sound.each is; once = AllPairs-push (λ c d. joins c d.first.0 d.second.0 ≡ false) bonds b sound.once fresh }

one_atom_more : (n : ℕ) (bonds : List bond.Bond) → AreBonds n bonds → AreBonds (n + 1) bonds
one_atom_more n bonds sound = record { each = All-map (IsBond n) (IsBond (n + 1)) bonds (more_atoms n) sound.each; once = sound.once }

no_bond_more : (n : ℕ) (bonds : List bond.Bond) → AreBonds n bonds → AreBonds n (bonds ++ [])
no_bond_more n bonds sound = subst (λ (x : List bond.Bond). AreBonds n x) (sym (append-nil bonds)) sound

chain_sound : (o : Option ℕ) (mark : Option BondMark) (n : ℕ) (bonds : List bond.Bond) → ((p : ℕ) → o ≡ Some p → p < n) → AreBonds n bonds → AreBonds (n + 1) (bonds ++ map bond_of (option_to_list (chain_bond o n mark)))
chain_sound None mark n bonds below sound = no_bond_more (n + 1) bonds (one_atom_more n bonds sound)
chain_sound (Some p) mark n bonds below sound =
    let less = below p refl in
    let o = order_bounds (or_else mark None) in
    push_bond (n + 1) bonds (bond_between p n (order_of (or_else mark None))) (one_atom_more n bonds sound)
    (record { first = omega arith; second = omega arith; different = λ e. omega arith; order_low = o.0; order_high = o.1 })
    (All-map (IsBond n) (λ c. joins c p n ≡ false) bonds (joins_new n p) sound.each)

ring_sound : (o : Option RingEnd) (here : RingEnd) (n : ℕ) (bonds : List bond.Bond) → here.atom ≡ n - 1 → ((end : RingEnd) → o ≡ Some end → end.atom ≤ n - 1) → pairs_again bonds (ring_bond o here) ≡ false → AreBonds n bonds
    → AreBonds n (bonds ++ map bond_of (option_to_list (ring_bond o here)))
ring_sound None here n bonds last low fresh sound = no_bond_more n bonds sound
ring_sound (Some other) here n bonds last low fresh sound =
    let f = or_parts (other.atom == here.atom) (are_joined bonds other.atom here.atom) fresh in
    let o = order_bounds (or_else other.mark here.mark) in
    let le = low other refl in
    let ne : other.atom ≢ here.atom = λ e. false≢true (sym f.0 ∙ (ap (λ (x : ℕ). x == here.atom) e ∙ same_test here.atom)) in
    let less : other.atom < here.atom = lesser other.atom here.atom (n - 1) last le ne in
    push_bond n bonds (bond_between other.atom here.atom (order_of (or_else other.mark here.mark))) sound
    (record { first = omega arith; second = omega arith; different = ne; order_low = o.0; order_high = o.1 })
    (none_passes (λ c. joins c other.atom here.atom) bonds f.1)
  where
    lesser : (a b m : ℕ) → b ≡ m → a ≤ m → a ≢ b → a < b
    lesser a b m e le ne = elim (cases_lt a b) [
      | inl lt ↦ lt
      | inr ge ↦ absurd (ne (omega arith))
    ]

-- one token more
pub bonds_more : (before : List Role) (k : Role) → bonds_of (k ∷ before) ≡ bonds_of before ++ map bond_of (option_to_list (completed before k))
bonds_more before k = map-append bond_of (text_bonds before) (option_to_list (completed before k))

with_token : (n : ℕ) (before : List Role) (k : Role) → AreBonds n (bonds_of before ++ map bond_of (option_to_list (completed before k))) → AreBonds n (bonds_of (k ∷ before))
with_token n before k sound = subst (λ (x : List bond.Bond). AreBonds n x) (sym (bonds_more before k)) sound

pub bonds_sound : (before : List Role) → NeverPairs before → AreBonds (atom_count before) (bonds_of before)
bonds_sound [] h = record { each = λ k d less. absurd (omega arith); once = λ i j d less within. absurd (omega arith) }
bonds_sound (Atom lower ∷ before) h = with_token (atom_count before + 1) before (Atom lower) (chain_sound (predecessor before) (mark_of before) (atom_count before) (bonds_of before) (predecessor_below before) (bonds_sound before h.0))
bonds_sound (Ring n ∷ before) h = with_token (atom_count before) before (Ring n) (ring_sound (open_end n before) (ring_end before) (atom_count before) (bonds_of before) refl (open_low n before) h.1 (bonds_sound before h.0))
bonds_sound (Bond mark ∷ before) h = with_token (atom_count before) before (Bond mark) (no_bond_more (atom_count before) (bonds_of before) (bonds_sound before h.0))
bonds_sound (Enter ∷ before) h = with_token (atom_count before) before Enter (no_bond_more (atom_count before) (bonds_of before) (bonds_sound before h.0))
bonds_sound (Leave ∷ before) h = with_token (atom_count before) before Leave (no_bond_more (atom_count before) (bonds_of before) (bonds_sound before h.0))
bonds_sound (Dot ∷ before) h = with_token (atom_count before) before Dot (no_bond_more (atom_count before) (bonds_of before) (bonds_sound before h.0))

-- a token completes one bond at most
few_at : (o : Option TextBond) → length (option_to_list o) ≤ 1
few_at None = omega arith
few_at (Some b) = omega arith

pub few_bonds : (before : List Role) → length (text_bonds before) ≤ length before
few_bonds [] = omega arith
few_bonds (k ∷ before) = let one = few_at (completed before k) in let rest = few_bonds before in let len = length-append (text_bonds before) (option_to_list (completed before k)) in omega arith

-- no ring number joins what is joined already, as a test at each place says
pub never_pairs : (ks : List Role) (n : ℕ) → n ≤ length ks → ((j : ℕ) → j < n → pair_again_at ks j ≡ false) → NeverPairs (tokens_before ks n)
never_pairs ks zero le h = tt
never_pairs [] (suc n) le h = absurd (omega arith)
never_pairs (k ∷ ks) (suc n) le h =
    let all : List Role = k ∷ ks in
    let e : suc n ≡ n + 1 = omega arith in
    let less : n < length all = omega arith in
    let here : is_pair_again (tokens_before all n) (Some (get_or all n k)) ≡ false = sym (ap (is_pair_again (tokens_before all n)) (slice_get-get_or all n k less)) ∙ h n (omega arith) in
    subst NeverPairs (sym (ap (tokens_before all) e ∙ tokens_before_more all n k less)) (never_pairs all n (omega arith) (λ j below. h j (omega arith)), here)
