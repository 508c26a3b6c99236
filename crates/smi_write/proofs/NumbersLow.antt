-- The ring numbers that are written are 1 to 99.
use Rattle.std.proofs.Common.{◌≡◌, ℕ, zero, suc, ◌+◌, ◌≤◌, ◌<◌, List, [], ◌∷◌, ◌++◌, length, map, Bool, true, false, Option, Some, None, refl, ap, subst, arith}
use Rattle.std.specs.Prelude.{◌==◌, not, nat_le, Contains, if◌then◌else◌}
use Rattle.mc_mol.specs.Molecule.{Molecule}
use Rattle.mc_mol.specs.WellFormed.{IsMolecule}
use Rattle.mc_mol.specs.Parts.{independent_rings}
use Rattle.smi_lex.specs.declared.token.BondMark.{BondMark}
use Rattle.smi_lex.specs.declared.token.TokenKind.{TokenKind}
use Rattle.smi_lex.specs.declared.token.TokenKind.TheVariants.{Bare, Bracket, Bond, Ring, Enter, Leave, Dot}
use Rattle.smi_graph.specs.declared.role.Role.TheVariants as doing
use Rattle.smi_graph.specs.Roles.{role_of}
use Rattle.smi_mean.specs.Order.{Graph, graph_of, order, parents, atoms, has_ring}
use Rattle.smi_mean.specs.RingNumbers.{Pair, has, new_pair, opened, ending, kept, insert, sorted, partners, onto_all, active, closing, opening}
use Rattle.smi_mean.specs.Written.{mark_tokens, closed_tokens, opened_tokens, ring_tokens, if_not, before_atom, text_from, graph_tokens}
use Rattle.smi_write.proofs.Pairs.{free_is}
use Rattle.smi_write.proofs.RingCount.{opens, opens_low, pairs, rings_few}

-- Pairs

abbrev pub IsLow : ℕ → Type 0
IsLow n = (1 ≤ n) × (n < 100)

abbrev pub AreLow : List Pair → Type 0
AreLow [] = Unit {0}
AreLow (p ∷ ps) = IsLow p.number × AreLow ps

low_onto : (xs ys : List Pair) → AreLow xs → AreLow ys → AreLow (onto_all xs ys)
low_onto [] ys a b = b
low_onto (x ∷ xs) ys a b = low_onto xs (x ∷ ys) a.1 (a.0, b)

low_kept : (k : ℕ) (ps : List Pair) → AreLow ps → AreLow (kept k ps)
low_kept k [] a = tt
low_kept k (p ∷ ps) a = by_test (p.partner == k) (low_kept k ps a.1)
  where
    by_test : (b : Bool) → AreLow (kept k ps) → AreLow (if b then kept k ps else p ∷ kept k ps)
    by_test true h = h
    by_test false h = (a.0, h)

low_ending : (k : ℕ) (ps : List Pair) → AreLow ps → AreLow (ending k ps)
low_ending k [] a = tt
low_ending k (p ∷ ps) a = by_test (p.partner == k) (low_ending k ps a.1)
  where
    by_test : (b : Bool) → AreLow (ending k ps) → AreLow (if b then p ∷ ending k ps else ending k ps)
    by_test true h = (a.0, h)
    by_test false h = h

low_insert : (p : Pair) (qs : List Pair) → IsLow p.number → AreLow qs → AreLow (insert p qs)
low_insert p [] low a = (low, tt)
low_insert p (q ∷ qs) low a = by_test (nat_le p.number q.number) (low_insert p qs low a.1)
  where
    by_test : (b : Bool) → AreLow (insert p qs) → AreLow (if b then p ∷ q ∷ qs else q ∷ insert p qs)
    by_test true h = (low, a)
    by_test false h = (a.0, h)

low_sorted : (ps : List Pair) → AreLow ps → AreLow (sorted ps)
low_sorted [] a = tt
low_sorted (p ∷ ps) a = low_insert p (sorted ps) a.0 (low_sorted ps a.1)

low_opened : (symbols : ℕ → ℕ → Option BondMark) (used : List Pair) (k : ℕ) (ls : List ℕ) → length used + length ls ≤ 99 → AreLow (opened symbols used k ls)
low_opened symbols used k [] few = tt
low_opened symbols used k (l ∷ ls) few =
    let free = free_is used in
    let above = free.positive in
    let below = free.few in
    ((omega arith, omega arith), low_opened symbols (new_pair symbols used k l ∷ used) k ls (omega arith))

length_kept : (k : ℕ) (ps : List Pair) → length (kept k ps) ≤ length ps
length_kept k [] = omega arith
length_kept k (p ∷ ps) = by_test (p.partner == k) (length_kept k ps)
  where
    by_test : (b : Bool) → length (kept k ps) ≤ length ps → length (if b then kept k ps else p ∷ kept k ps) ≤ suc (length ps)
    by_test true h = omega arith
    by_test false h = omega arith

length_opened : (symbols : ℕ → ℕ → Option BondMark) (used : List Pair) (k : ℕ) (ls : List ℕ) → length (opened symbols used k ls) ≡ length ls
length_opened symbols used k [] = refl
length_opened symbols used k (l ∷ ls) = ap suc (length_opened symbols (new_pair symbols used k l ∷ used) k ls)

length_onto : (xs ys : List Pair) → length (onto_all xs ys) ≡ length xs + length ys
length_onto [] ys = omega arith
length_onto (x ∷ xs) ys = let h = length_onto xs (x ∷ ys) in omega arith

-- no more numbers are in use before an atom than the earlier ones opened
pub active_few : (symbols : ℕ → ℕ → Option BondMark) (rings : ℕ → ℕ → Bool) (n k : ℕ) → length (active symbols rings n k) ≤ opens rings n k
active_few symbols rings n zero = omega arith
active_few symbols rings n (suc k) =
    let a = active_few symbols rings n k in
    let b = length_kept k (active symbols rings n k) in
    let c = length_opened symbols (active symbols rings n k) k (partners rings n k) in
    let d = length_onto (opened symbols (active symbols rings n k) k (partners rings n k)) (kept k (active symbols rings n k)) in
    omega arith

low_opening : (symbols : ℕ → ℕ → Option BondMark) (rings : ℕ → ℕ → Bool) (n k : ℕ) → pairs rings n ≤ 99 → AreLow (opening symbols rings n k)
low_opening symbols rings n k few =
    let a = active_few symbols rings n k in
    let b = opens_low rings n (suc k) in
    let b' : opens rings n k + length (partners rings n k) ≤ pairs rings n = b in
    low_opened symbols (active symbols rings n k) k (partners rings n k) (omega arith)

low_active : (symbols : ℕ → ℕ → Option BondMark) (rings : ℕ → ℕ → Bool) (n k : ℕ) → pairs rings n ≤ 99 → AreLow (active symbols rings n k)
low_active symbols rings n zero few = tt
low_active symbols rings n (suc k) few =
    low_onto (opened symbols (active symbols rings n k) k (partners rings n k)) (kept k (active symbols rings n k))
    (low_opening symbols rings n k few) (low_kept k (active symbols rings n k) (low_active symbols rings n k few))

-- Tokens

-- a ring number is 1 to 99
abbrev pub HasLowNumber : TokenKind → Type 0
HasLowNumber (Bare element lower) = Unit {0}
HasLowNumber (Bracket element lower isotope chiral hydrogens charge class) = Unit {0}
HasLowNumber (Bond mark) = Unit {0}
HasLowNumber (Ring number) = IsLow number
HasLowNumber Enter = Unit {0}
HasLowNumber Leave = Unit {0}
HasLowNumber Dot = Unit {0}

abbrev pub HaveLowNumbers : List TokenKind → Type 0
HaveLowNumbers [] = Unit {0}
HaveLowNumbers (t ∷ ts) = HasLowNumber t × HaveLowNumbers ts

low_append : (xs ys : List TokenKind) → HaveLowNumbers xs → HaveLowNumbers ys → HaveLowNumbers (xs ++ ys)
low_append [] ys a b = b
low_append (x ∷ xs) ys a b = (a.0, low_append xs ys a.1 b)

low_mark : (o : Option BondMark) → HaveLowNumbers (mark_tokens o)
low_mark None = tt
low_mark (Some mark) = (tt, tt)

low_closed : (ps : List Pair) → AreLow ps → HaveLowNumbers (closed_tokens ps)
low_closed [] a = tt
low_closed (p ∷ ps) a = (a.0, low_closed ps a.1)

low_opened_tokens : (ps : List Pair) → AreLow ps → HaveLowNumbers (opened_tokens ps)
low_opened_tokens [] a = tt
low_opened_tokens (p ∷ ps) a = low_append (mark_tokens (p.symbol)) (Ring p.number ∷ opened_tokens ps) (low_mark (p.symbol)) (a.0, low_opened_tokens ps a.1)

low_rings : (symbols : ℕ → ℕ → Option BondMark) (rings : ℕ → ℕ → Bool) (n k : ℕ) → pairs rings n ≤ 99 → HaveLowNumbers (ring_tokens symbols rings n k)
low_rings symbols rings n k few = low_append (closed_tokens (closing symbols rings n k)) (opened_tokens (opening symbols rings n k))
    (low_closed (closing symbols rings n k) (low_sorted (ending k (active symbols rings n k)) (low_ending k (active symbols rings n k) (low_active symbols rings n k few))))
    (low_opened_tokens (opening symbols rings n k) (low_opening symbols rings n k few))

low_if_not : (b : Bool) (t : TokenKind) → HasLowNumber t → HaveLowNumbers (if_not b t)
low_if_not true t low = tt
low_if_not false t low = (low, tt)

low_before : (symbols : ℕ → ℕ → Option BondMark) (k p : ℕ) (qs : List ℕ) → HaveLowNumbers (before_atom symbols k p qs)
low_before symbols zero zero qs = tt
low_before symbols (suc j) zero qs = (tt, tt)
low_before symbols k (suc p) qs =
    low_append (if_not (suc p == k) Leave) (if_not (not (has (suc p) qs)) Enter ++ mark_tokens (symbols p k))
    (low_if_not (suc p == k) Leave tt)
    (low_append (if_not (not (has (suc p) qs)) Enter) (mark_tokens (symbols p k)) (low_if_not (not (has (suc p) qs)) Enter tt) (low_mark (symbols p k)))

low_atom : (t : TokenKind) → role_of t ≡ doing.Atom false → HasLowNumber t
low_atom (Bare element lower) is = tt
low_atom (Bracket element lower isotope chiral hydrogens charge class) is = tt
low_atom (Bond mark) is = tt
low_atom (Ring number) is = cc
low_atom Enter is = tt
low_atom Leave is = tt
low_atom Dot is = tt

low_atoms : (token : ℕ → TokenKind) → ((u : ℕ) → role_of (token u) ≡ doing.Atom false) → (us : List ℕ) → HaveLowNumbers (map token us)
low_atoms token is [] = tt
low_atoms token is (u ∷ us) = (low_atom (token u) (is u), low_atoms token is us)

low_text : (symbols : ℕ → ℕ → Option BondMark) (rings : ℕ → ℕ → Bool) (n k : ℕ) (ts : List TokenKind) (qs : List ℕ) → pairs rings n ≤ 99 → HaveLowNumbers ts → HaveLowNumbers (text_from symbols rings n k ts qs)
low_text symbols rings n k [] qs few low = tt
low_text symbols rings n k (t ∷ ts) [] few low = tt
low_text symbols rings n k (t ∷ ts) (p ∷ qs) few low =
    low_append (before_atom symbols k p qs) (t ∷ (ring_tokens symbols rings n k ++ text_from symbols rings n (suc k) ts qs)) (low_before symbols k p qs)
    (low.0, low_append (ring_tokens symbols rings n k) (text_from symbols rings n (suc k) ts qs) (low_rings symbols rings n k few) (low_text symbols rings n (suc k) ts qs few low.1))

pub low_each : (ts : List TokenKind) → HaveLowNumbers ts → (t : TokenKind) → Contains ts t → HasLowNumber t
low_each [] low t (i, inside, is) = absurd (omega arith)
low_each (x ∷ ts) low t (zero, inside, is) = subst HasLowNumber is low.0
low_each (x ∷ ts) low t (suc i, inside, is) = low_each ts low.1 t (i, omega arith, is)

pub numbers_low : (m : Molecule) (symbols : ℕ → ℕ → Option BondMark) → IsMolecule m → independent_rings m.bonds (length m.atoms) ≤ 99 → (token : ℕ → TokenKind) → ((u : ℕ) → role_of (token u) ≡ doing.Atom false)
    → (t : TokenKind) → Contains (graph_tokens (graph_of m) symbols token) t → HasLowNumber t
numbers_low m symbols is low token are =
    let g : Graph = graph_of m in
    let few = rings_few m is in
    low_each (graph_tokens g symbols token) (low_text symbols (λ j l. has_ring g j l) g.count 0 (map token (atoms (order g))) (parents (order g)) (omega arith) (low_atoms token are (atoms (order g))))
