-- A centre of a molecule is read again with a list that says the same.
use Rattle.std.proofs.Common.{◌≡◌, ◌≢◌, ℕ, zero, suc, ◌+◌, ◌≤◌, ◌<◌, List, [], ◌∷◌, ◌++◌, length, map, reverse, Bool, true, false, Option, Some, None, refl, ap, sym, ◌∙◌, subst, inl, inr, arith}
use Rattle.std.specs.Prelude.{◌==◌, ◌⊎◌, ◌||◌, ◌&&◌, Contains, slice_get, slice_index_or, if◌then◌else◌}
use Rattle.std.specs.List.{list_any}
use Rattle.std.specs.Option.{option_to_list}
use Rattle.std.proofs.lemmas.Bool.{cases_eq, cases_lt, false≢true, ne_eqb, eqb-true, and_parts, or_cases}
use Rattle.std.proofs.lemmas.List.{length-append, map-append}
use Rattle.mc_mol.specs.declared.parts.Bond.{Bond}
use Rattle.mc_mol.specs.declared.parts.Slot.{Slot}
use Rattle.mc_mol.specs.declared.parts.Slot.TheVariants.{At, Rest}
use Rattle.mc_mol.specs.Molecule.{Molecule, joins, are_joined}
use Rattle.mc_mol.specs.Permutations.{place_in, same_slot, stands_in}
use Rattle.mc_mol.specs.Same.{SameCentre}
use Rattle.mc_mol.specs.WellFormed.{IsMolecule, IsPlaceList}
use Rattle.mc_mol.proofs.Apart.{are_joined_turned}
use Rattle.mc_mol.proofs.Halves.{same_test}
use Rattle.smi_lex.specs.declared.token.BondMark.{BondMark}
use Rattle.smi_lex.specs.declared.token.TokenKind.{TokenKind}
use Rattle.smi_graph.specs.declared.role.Role.{Role}
use Rattle.smi_graph.specs.declared.role.Role.TheVariants as doing
use Rattle.smi_graph.specs.declared.text_bond.TextBond.{TextBond}
use Rattle.smi_graph.specs.Roles.{role_of}
use Rattle.smi_graph.specs.Bonds.{text_bonds}
use Rattle.smi_graph.specs.TextOrder.{predecessor_of}
use Rattle.smi_graph.proofs.NeighbourCount.{ends_weight, neighbours_law}
use Rattle.smi_mean.specs.Order.{Graph, graph_of, order, rank, at, rank_of}
use Rattle.smi_mean.specs.RingNumbers.{onto_all}
use Rattle.smi_mean.specs.Written.{graph_tokens, written_order}
use Rattle.smi_mean.specs.CentrePlaces.{atom_slot, rest_if, has_rest, places, centre_of}
use Rattle.smi_mean.specs.WrittenPlaces.{others, parent_of, atom_at, written_places, parity_mark}
use Rattle.smi_write.proofs.Hits.{bit, occurs, occurs_append}
use Rattle.smi_write.proofs.BondCounts.{text_count}
use Rattle.smi_write.proofs.SameBonds.{bit_one}
use Rattle.smi_write.proofs.Simple.{Simple, simple_of}
use Rattle.smi_write.proofs.Whole.{graph_roles, is_read, bit_le}
use Rattle.smi_write.proofs.Ranked.{inverse}
use Rattle.smi_write.proofs.Partners.{rank_of_at}
use Rattle.smi_write.proofs.PlacesRead.{parent_read, others_read, centre_read, back}
use Rattle.smi_write.proofs.Exchange.{LastDiffer, place_same}

-- Bonds

joined_apart : (n : ℕ) (bs : List Bond) (u v : ℕ) → Simple n bs → are_joined bs u v ≡ true → (v < n) × (u ≢ v)
joined_apart n [] u v s h = absurd (false≢true h)
joined_apart n (b ∷ bs) u v s h = elim (or_cases (joins b u v) (are_joined bs u v) h) [
  | inl here ↦ elim (or_cases (b.first.0 == u && b.second.0 == v) (b.first.0 == v && b.second.0 == u) here) [
    | inl t ↦
        let r = and_parts (b.first.0 == u) (b.second.0 == v) t in
        let e = eqb-true b.first.0 u r.0 in let f = eqb-true b.second.0 v r.1 in
        let low = s.0.1.0 in let ne = s.0.1.1 in (omega arith, λ same. ne (e ∙ same ∙ sym f))
    | inr t ↦
        let r = and_parts (b.first.0 == v) (b.second.0 == u) t in
        let e = eqb-true b.first.0 v r.0 in let f = eqb-true b.second.0 u r.1 in
        let low = s.0.0 in let ne = s.0.1.1 in (omega arith, λ same. ne (e ∙ sym same ∙ sym f))
  ]
  | inr later ↦ joined_apart n bs u v s.1.1 later
]

-- The neighbours of the atom at place k, by their places

abbrev bare : ℕ → ℕ → Option BondMark
bare j l = None

abbrev read_bonds : Graph → List TextBond
read_bonds g = text_bonds (onto_all (graph_roles g bare) [])

-- each atom stands there as often as a bond joins the two
abbrev joined : ℕ → ℕ → List TextBond → ℕ
joined a v bonds = text_count a v bonds + text_count v a bonds

if_bit : (s t : Bool) → (if s then bit t else 0) ≡ bit (s && t)
if_bit true t = refl
if_bit false t = refl

if_bit_last : (s t : Bool) → (if s then bit t else 0) ≡ bit (t && s)
if_bit_last true true = refl
if_bit_last true false = refl
if_bit_last false true = refl
if_bit_last false false = refl

ends_joined : (a v : ℕ) (bs : List TextBond) → ends_weight (λ x. bit (x == v)) a bs ≡ joined a v bs
ends_joined a v [] = refl
ends_joined a v (b ∷ bs) =
    let h = ends_joined a v bs in
    let p = if_bit (b.first.0 == a) (b.second.0 == v) in
    let q = if_bit_last (b.second.0 == a) (b.first.0 == v) in omega arith

counted : (g : Graph) (k v : ℕ) → k < g.count → occurs v (option_to_list (parent_of g k) ++ others g k) ≡ joined k v (read_bonds g)
counted g k v less =
    ap (λ (o : Option ℕ). occurs v (option_to_list o ++ others g k)) (sym (parent_read g bare k less))
    ∙ ap (λ (xs : List ℕ). occurs v (option_to_list (predecessor_of k (reverse (graph_roles g bare))) ++ xs)) (sym (others_read g bare k less))
    ∙ (neighbours_law k v (graph_roles g bare) ∙ ends_joined k v (text_bonds (reverse (graph_roles g bare))))
    ∙ ap (λ (ks : List Role). joined k v (text_bonds ks)) (back g bare)

once_at : (m : Molecule) (k v : ℕ) → k < length m.atoms → v < length m.atoms → k ≢ v
    → occurs v (option_to_list (parent_of (graph_of m) k) ++ others (graph_of m) k) ≡ bit (are_joined m.bonds (at (graph_of m) k) (at (graph_of m) v))
once_at m k v less below ne =
    let g : Graph = graph_of m in
    let read = is_read g bare in
    let c = counted g k v less in
    elim (cases_lt k v) [
      | inl lt ↦ let a = read.bonds k v lt below in let b = read.others v k (inl (omega arith)) in omega arith
      | inr ge ↦
          let a = read.bonds v k (omega arith) less in
          let b = read.others k v (inl (omega arith)) in
          let s : bit (are_joined m.bonds (at g v) (at g k)) ≡ bit (are_joined m.bonds (at g k) (at g v)) = ap bit (are_joined_turned m.bonds (at g v) (at g k)) in omega arith
    ]

never_at : (m : Molecule) (k v : ℕ) → k < length m.atoms → (v ≡ k) ⊎ (length m.atoms ≤ v) → occurs v (option_to_list (parent_of (graph_of m) k) ++ others (graph_of m) k) ≡ 0
never_at m k v less (inl e) =
    let read = is_read (graph_of m) bare in
    let c = counted (graph_of m) k v less in
    let a = read.others k v (inl (omega arith)) in let b = read.others v k (inl (omega arith)) in omega arith
never_at m k v less (inr past) =
    let read = is_read (graph_of m) bare in
    let c = counted (graph_of m) k v less in
    let a = read.others k v (inr past) in let b = read.others v k (inl (omega arith)) in omega arith

-- each once, and joined to the atom
pub record IsNeighbour (m : Molecule) (k v : ℕ) : Type 0 where
  pub below : v < length m.atoms
  pub is : are_joined m.bonds (at (graph_of m) k) (at (graph_of m) v) ≡ true

at_most_once : (m : Molecule) (k v : ℕ) → k < length m.atoms → occurs v (option_to_list (parent_of (graph_of m) k) ++ others (graph_of m) k) ≤ 1
at_most_once m k v less = elim (cases_lt v (length m.atoms)) [
  | inl below ↦ elim (cases_eq k v) [
    | inl same ↦ let z = never_at m k v less (inl (sym same)) in omega arith
    | inr ne ↦ let o = once_at m k v less below ne in let b = bit_le (are_joined m.bonds (at (graph_of m) k) (at (graph_of m) v)) in omega arith
  ]
  | inr past ↦ let z = never_at m k v less (inr past) in omega arith
]

pub neighbour_at : (m : Molecule) (k v : ℕ) → k < length m.atoms → 0 < occurs v (option_to_list (parent_of (graph_of m) k) ++ others (graph_of m) k) → IsNeighbour m k v
neighbour_at m k v less some = elim (cases_lt v (length m.atoms)) [
  | inl below ↦ elim (cases_eq k v) [
    | inl same ↦ let z = never_at m k v less (inl (sym same)) in absurd (omega arith)
    | inr ne ↦ let o = once_at m k v less below ne in record { below = below; is = bit_one (are_joined m.bonds (at (graph_of m) k) (at (graph_of m) v)) (omega arith) }
  ]
  | inr past ↦ let z = never_at m k v less (inr past) in absurd (omega arith)
]

-- There are at least three of them

one_of : (x a b c : ℕ) → a ≢ b → a ≢ c → b ≢ c → bit (x == a) + (bit (x == b) + bit (x == c)) ≤ 1
one_of x a b c ab ac bc = elim (cases_eq x a) [
  | inl e ↦
      let f : bit (x == b) ≡ 0 = ap bit (ne_eqb x b (λ s. ab (sym e ∙ s))) in
      let g : bit (x == c) ≡ 0 = ap bit (ne_eqb x c (λ s. ac (sym e ∙ s))) in
      let h = bit_le (x == a) in omega arith
  | inr ne ↦
      let f : bit (x == a) ≡ 0 = ap bit (ne_eqb x a ne) in
      elim (cases_eq x b) [
        | inl e ↦ let g : bit (x == c) ≡ 0 = ap bit (ne_eqb x c (λ s. bc (sym e ∙ s))) in let h = bit_le (x == b) in omega arith
        | inr nb ↦ let g : bit (x == b) ≡ 0 = ap bit (ne_eqb x b nb) in let h = bit_le (x == c) in omega arith
      ]
]

three_in : (a b c : ℕ) (xs : List ℕ) → a ≢ b → a ≢ c → b ≢ c → occurs a xs + (occurs b xs + occurs c xs) ≤ length xs
three_in a b c [] ab ac bc = omega arith
three_in a b c (x ∷ xs) ab ac bc = let h = one_of x a b c ab ac bc in let r = three_in a b c xs ab ac bc in omega arith

-- three atoms to which one is joined
record Three (bonds : List Bond) (u : ℕ) : Type 0 where
  a : ℕ
  b : ℕ
  c : ℕ
  ab : a ≢ b
  ac : a ≢ c
  bc : b ≢ c
  is_a : are_joined bonds u a ≡ true
  is_b : are_joined bonds u b ≡ true
  is_c : are_joined bonds u c ≡ true

abbrev Joined : List Bond → ℕ → Slot → Type 0
Joined bonds u (At a) = are_joined bonds u a.0 ≡ true
Joined bonds u Rest = Unit {0}

of_four : (bonds : List Bond) (u : ℕ) (p q r s : Slot) → p ≢ q → p ≢ r → p ≢ s → q ≢ r → q ≢ s → r ≢ s
    → Joined bonds u p → Joined bonds u q → Joined bonds u r → Joined bonds u s → Three bonds u
of_four bonds u (At a) (At b) (At c) s pq pr ps qr qs rs jp jq jr js =
    record { a = a.0; b = b.0; c = c.0; ab = λ e. pq (ap atom_slot e); ac = λ e. pr (ap atom_slot e); bc = λ e. qr (ap atom_slot e); is_a = jp; is_b = jq; is_c = jr }
of_four bonds u Rest (At a) (At b) (At c) pq pr ps qr qs rs jp jq jr js =
    record { a = a.0; b = b.0; c = c.0; ab = λ e. qr (ap atom_slot e); ac = λ e. qs (ap atom_slot e); bc = λ e. rs (ap atom_slot e); is_a = jq; is_b = jr; is_c = js }
of_four bonds u (At a) Rest (At b) (At c) pq pr ps qr qs rs jp jq jr js =
    record { a = a.0; b = b.0; c = c.0; ab = λ e. pr (ap atom_slot e); ac = λ e. ps (ap atom_slot e); bc = λ e. rs (ap atom_slot e); is_a = jp; is_b = jr; is_c = js }
of_four bonds u (At a) (At b) Rest (At c) pq pr ps qr qs rs jp jq jr js =
    record { a = a.0; b = b.0; c = c.0; ab = λ e. pq (ap atom_slot e); ac = λ e. ps (ap atom_slot e); bc = λ e. qs (ap atom_slot e); is_a = jp; is_b = jq; is_c = js }
of_four bonds u Rest Rest r s pq pr ps qr qs rs jp jq jr js = absurd (pq refl)
of_four bonds u Rest (At a) Rest s pq pr ps qr qs rs jp jq jr js = absurd (pr refl)
of_four bonds u Rest (At a) (At b) Rest pq pr ps qr qs rs jp jq jr js = absurd (ps refl)
of_four bonds u (At a) Rest Rest s pq pr ps qr qs rs jp jq jr js = absurd (qr refl)
of_four bonds u (At a) Rest (At b) Rest pq pr ps qr qs rs jp jq jr js = absurd (qs refl)
of_four bonds u (At a) (At b) Rest Rest pq pr ps qr qs rs jp jq jr js = absurd (rs refl)

three_of : (bonds : List Bond) (u : ℕ) (list : List Slot) → IsPlaceList bonds u list → Three bonds u
three_of bonds u [] is = absurd (let f = is.four in omega arith)
three_of bonds u (p ∷ []) is = absurd (let f = is.four in omega arith)
three_of bonds u (p ∷ q ∷ []) is = absurd (let f = is.four in omega arith)
three_of bonds u (p ∷ q ∷ r ∷ []) is = absurd (let f = is.four in omega arith)
three_of bonds u (p ∷ q ∷ r ∷ s ∷ t ∷ list) is = absurd (let f = is.four in omega arith)
three_of bonds u (p ∷ q ∷ r ∷ s ∷ []) is =
    let d = is.different in
    of_four bonds u p q r s (d 0 1 p (omega arith) (omega arith)) (d 0 2 p (omega arith) (omega arith)) (d 0 3 p (omega arith) (omega arith))
    (d 1 2 p (omega arith) (omega arith)) (d 1 3 p (omega arith) (omega arith)) (d 2 3 p (omega arith) (omega arith))
    (joined p 0 (omega arith) (λ e. refl)) (joined q 1 (omega arith) (λ e. refl)) (joined r 2 (omega arith) (λ e. refl)) (joined s 3 (omega arith) (λ e. refl))
  where
    joined : (x : Slot) (i : ℕ) → i < 4 → ((d : Slot) → slice_index_or (p ∷ q ∷ r ∷ s ∷ []) i d ≡ x) → Joined bonds u x
    joined (At a) i less at_i = (is.neighbours a.0).0 (i, less, at_i (At a))
    joined Rest i less at_i = tt

others_two : (m : Molecule) (k : ℕ) (list : List Slot) → IsMolecule m → k < length m.atoms → IsPlaceList m.bonds (at (graph_of m) k) list → 2 ≤ length (others (graph_of m) k)
others_two m k list is less places =
    let g : Graph = graph_of m in
    let u : ℕ = at g k in
    let s : Simple (length m.atoms) m.bonds = simple_of (length m.atoms) m.bonds is.bonds is.once in
    let t = three_of m.bonds u list places in
    let i = inverse g in
    let stands : (v : ℕ) → are_joined m.bonds u v ≡ true → occurs (rank_of g v) (option_to_list (parent_of g k) ++ others g k) ≡ 1 =
    λ v h.
    let low = (joined_apart (length m.atoms) m.bonds u v s h).0 in
    let ne = (joined_apart (length m.atoms) m.bonds u v s h).1 in
    let back_v : at g (rank_of g v) ≡ v = i.forth v low in
    once_at m k (rank_of g v) less (i.below v low) (λ e. ne (ap (λ (x : ℕ). at g x) e ∙ back_v)) ∙ ap bit (ap (are_joined m.bonds u) back_v ∙ h) in
    let low_a = (joined_apart (length m.atoms) m.bonds u t.a s t.is_a).0 in
    let low_b = (joined_apart (length m.atoms) m.bonds u t.b s t.is_b).0 in
    let low_c = (joined_apart (length m.atoms) m.bonds u t.c s t.is_c).0 in
    let apart : (v w : ℕ) → v < length m.atoms → w < length m.atoms → v ≢ w → rank_of g v ≢ rank_of g w =
    λ v w lv lw ne e. ne (sym (i.forth v lv) ∙ ap (λ (x : ℕ). at g x) e ∙ i.forth w lw) in
    let all = three_in (rank_of g t.a) (rank_of g t.b) (rank_of g t.c) (option_to_list (parent_of g k) ++ others g k) (apart t.a t.b low_a low_b t.ab) (apart t.a t.c low_a low_c t.ac) (apart t.b t.c low_b low_c t.bc) in
    let sa = stands t.a t.is_a in
    let sb = stands t.b t.is_b in
    let sc = stands t.c t.is_c in
    let len = length-append (option_to_list (parent_of g k)) (others g k) in
    let few = one (parent_of g k) in
    omega arith
  where
    one : (o : Option ℕ) → length (option_to_list o) ≤ 1
    one None = omega arith
    one (Some x) = omega arith

-- The last two of the written places are different places of the list

contains_any : (x : Slot) (xs : List Slot) → Contains xs x → list_any (same_slot x) xs ≡ true
contains_any x [] (i, less, e) = absurd (omega arith)
contains_any x (y ∷ ys) (zero, less, e) = let t : same_slot x y ≡ true = ap (same_slot x) e ∙ own x in rw t refl
  where
    own : (x : Slot) → same_slot x x ≡ true
    own (At a) = same_test a.0
    own Rest = refl
contains_any x (y ∷ ys) (suc i, less, e) = or_last (same_slot x y) (list_any (same_slot x) ys) (contains_any x ys (i, omega arith, e))
  where
    or_last : (a b : Bool) → b ≡ true → (a || b) ≡ true
    or_last true b h = refl
    or_last false b h = h

last_places : (m : Molecule) (k : ℕ) (list : List Slot) → IsPlaceList m.bonds (at (graph_of m) k) list → (os : List ℕ) → 2 ≤ length os → ((v : ℕ) → occurs v os ≤ 1)
    → ((v : ℕ) → 0 < occurs v os → IsNeighbour m k v) → LastDiffer (map (place_in list) (map atom_slot (map (λ l. at (graph_of m) l) os)))
last_places m k list is [] two once are = absurd (omega arith)
last_places m k list is (x ∷ []) two once are = absurd (omega arith)
last_places m k list is (x ∷ y ∷ []) two once are = λ e.
    let g : Graph = graph_of m in
    let own_x : bit (x == x) ≡ 1 = ap bit (same_test x) in
    let own_y : bit (y == y) ≡ 1 = ap bit (same_test y) in
    let nx = are x (omega arith) in
    let ny = are y (omega arith) in
    let here : stands_in list (atom_slot (at g x)) ≡ true = contains_any (atom_slot (at g x)) list ((is.neighbours (at g x)).1 nx.is) in
    let same : atom_slot (at g x) ≡ atom_slot (at g y) = place_same list (atom_slot (at g x)) (atom_slot (at g y)) here e in
    let same_at : at g x ≡ at g y = ap slot_atom same in
    let px = rank_of_at m x nx.below in
    let py = rank_of_at m y ny.below in
    let same_place : rank (order g) (at g x) ≡ rank (order g) (at g y) = ap (rank (order g)) same_at in
    let xy : x ≡ y = omega arith in
    let twice : bit (y == x) ≡ 1 = ap bit (ap (λ (z : ℕ). z == x) (sym xy) ∙ same_test x) in
    let o = once x in omega arith
  where
    slot_atom : Slot → ℕ
    slot_atom (At a) = a.0
    slot_atom Rest = 0
last_places m k list is (x ∷ y ∷ z ∷ zs) two once are =
    last_places m k list is (y ∷ z ∷ zs) (omega arith) (λ v. let o = once v in omega arith) (λ v some. are v (omega arith))

last_append : (xs ys : List ℕ) → LastDiffer ys → LastDiffer (xs ++ ys)
last_append [] ys h = h
last_append (x ∷ []) [] h = absurd h
last_append (x ∷ []) (y ∷ []) h = absurd h
last_append (x ∷ []) (y ∷ z ∷ zs) h = h
last_append (x ∷ w ∷ xs) ys h = by_rest (xs ++ ys) (last_append (w ∷ xs) ys h)
  where
    by_rest : (rest : List ℕ) → LastDiffer (w ∷ rest) → LastDiffer (x ∷ w ∷ rest)
    by_rest [] h = absurd h
    by_rest (r ∷ rest) h = h

pub written_differ : (m : Molecule) (k hydrogens : ℕ) (list : List Slot) → IsMolecule m → k < length m.atoms → IsPlaceList m.bonds (at (graph_of m) k) list
    → LastDiffer (map (place_in list) (written_places (graph_of m) k hydrogens))
written_differ m k hydrogens list is less list_is =
    let g : Graph = graph_of m in
    let os : List ℕ = others g k in
    let parent : List Slot = map atom_slot (option_to_list (atom_at g (parent_of g k))) in
    let rest : List Slot = rest_if (has_rest hydrogens (length (option_to_list (atom_at g (parent_of g k))) + length (map (λ l. at g l) os))) in
    let end : List Slot = map atom_slot (map (λ l. at g l) os) in
    let more : (v : ℕ) → occurs v (option_to_list (parent_of g k) ++ os) ≡ occurs v (option_to_list (parent_of g k)) + occurs v os = λ v. occurs_append v (option_to_list (parent_of g k)) os in
    subst (λ (x : List ℕ). LastDiffer x) (sym (map-append (place_in list) parent (rest ++ end) ∙ ap (λ (x : List ℕ). map (place_in list) parent ++ x) (map-append (place_in list) rest end)))
    (last_append (map (place_in list) parent) (map (place_in list) rest ++ map (place_in list) end)
    (last_append (map (place_in list) rest) (map (place_in list) end)
    (last_places m k list list_is os (others_two m k list is less list_is)
    (λ v. let o = at_most_once m k v less in let p = more v in omega arith)
    (λ v some. neighbour_at m k v less (let p = more v in omega arith)))))

-- The mark and the list that is read

-- The fourth point of sameness for the written text: the list that is read at an atom by the mark of the parity says the
-- same as the list of the molecule; and there is one exactly where the molecule has one.
pub centre_kept : (m : Molecule) (v : ℕ → ℕ → Option BondMark) (token : ℕ → TokenKind) → IsMolecule m → ((u : ℕ) → role_of (token u) ≡ doing.Atom false)
    → (k hydrogens : ℕ) (p : Option (List Slot)) → k < length m.atoms → slice_get m.centres (at (graph_of m) k) ≡ Some p
    → SameCentre (written_order m) (centre_of (parity_mark p (written_places (graph_of m) k hydrogens)) (places (map role_of (graph_tokens (graph_of m) v token)) k hydrogens)) p
centre_kept m v token is are k hydrogens None less here = tt
centre_kept m v token is are k hydrogens (Some list) less here =
    centre_read m v token are k hydrogens list less (written_differ m k hydrogens list is less (is.centres (at (graph_of m) k) list here))
