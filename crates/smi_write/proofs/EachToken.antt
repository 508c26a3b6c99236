-- What holds of each token that is written, by the kinds of tokens.
use Rattle.std.proofs.Common.{◌==◌, ℕ, zero, suc, Bool, true, false, List, [], ◌∷◌, ◌++◌, map, inl, inr}
use Rattle.std.specs.Prelude.{not, nat_le, Option, Some, None}
use Rattle.std.proofs.lemmas.Bool.{cases_Bool}
use Rattle.smi_lex.specs.declared.token.BondMark.{BondMark}
use Rattle.smi_lex.specs.declared.token.BondMark.TheVariants.{Double, Triple, Quadruple}
use Rattle.smi_lex.specs.declared.token.TokenKind.{TokenKind}
use Rattle.smi_lex.specs.declared.token.TokenKind.TheVariants.{Bond, Ring, Enter, Leave, Dot}
use Rattle.smi_mean.specs.RingNumbers.{Pair, active, closing, ending, has, insert, kept, new_pair, onto_all, opened, opening, partners, sorted}
use Rattle.smi_mean.specs.Written.{before_atom, closed_tokens, if_not, mark_tokens, opened_tokens, ring_tokens, symbol_of, text_from}

abbrev pub Each : (TokenKind → Type 0) → List TokenKind → Type 0
Each P [] = Unit {0}
Each P (k ∷ ks) = P k × Each P ks

abbrev pub EachNumber : (ℕ → Type 0) → List Pair → Type 0
EachNumber Q [] = Unit {0}
EachNumber Q (p ∷ ps) = Q p.number × EachNumber Q ps

-- what holds of the tokens that are no atoms, where the symbols and the ring numbers are so
pub record HoldsBetween (P : TokenKind → Type 0) (S : BondMark → Type 0) (Q : ℕ → Type 0) : Type 0 where
  pub mark : (mark : BondMark) → S mark → P (Bond mark)
  pub ring : (number : ℕ) → Q number → P (Ring number)
  pub enter : P Enter
  pub leave : P Leave
  pub dot : P Dot

-- a symbol, if there is one, is so
abbrev pub SymbolFits : (BondMark → Type 0) → Option BondMark → Type 0
SymbolFits S None = Unit {0}
SymbolFits S (Some mark) = S mark

-- the symbols of all bonds are so
abbrev pub SymbolsFit : (BondMark → Type 0) → (ℕ → ℕ → Option BondMark) → Type 0
SymbolsFit S symbols = (j l : ℕ) → SymbolFits S (symbols j l)

abbrev EachSymbol : (BondMark → Type 0) → List Pair → Type 0
EachSymbol S [] = Unit {0}
EachSymbol S (p ∷ ps) = SymbolFits S p.symbol × EachSymbol S ps

-- the ring numbers that are opened at any atom are so
abbrev pub AllOpened : (ℕ → Type 0) → (ℕ → ℕ → Option BondMark) → (ℕ → ℕ → Bool) → ℕ → Type 0
AllOpened Q symbols rings n = (k : ℕ) → EachNumber Q (opening symbols rings n k)

pub any_numbers : (ps : List Pair) → EachNumber (λ n. Unit {0}) ps
any_numbers [] = tt
any_numbers (p ∷ ps) = (tt, any_numbers ps)

pub any_symbols : (symbols : ℕ → ℕ → Option BondMark) → SymbolsFit (λ m. Unit {0}) symbols
any_symbols symbols j l = any_symbol (symbols j l)
  where
    any_symbol : (o : Option BondMark) → SymbolFits (λ m. Unit {0}) o
    any_symbol None = tt
    any_symbol (Some mark) = tt

-- ---- the numbers that are open at an atom were opened

each_onto : (Q : ℕ → Type 0) (ps qs : List Pair) → EachNumber Q ps → EachNumber Q qs → EachNumber Q (onto_all ps qs)
each_onto Q [] qs each rest = rest
each_onto Q (p ∷ ps) qs each rest = each_onto Q ps (p ∷ qs) each.1 (each.0, rest)

each_kept : (Q : ℕ → Type 0) (k : ℕ) (ps : List Pair) → EachNumber Q ps → EachNumber Q (kept k ps)
each_kept Q k [] each = tt
each_kept Q k (p ∷ ps) each = elim (cases_Bool (p.partner == k)) [
  | inl ends ↦ rw ends (each_kept Q k ps each.1)
  | inr stays ↦ rw stays (each.0, each_kept Q k ps each.1)
]

each_ending : (Q : ℕ → Type 0) (k : ℕ) (ps : List Pair) → EachNumber Q ps → EachNumber Q (ending k ps)
each_ending Q k [] each = tt
each_ending Q k (p ∷ ps) each = elim (cases_Bool (p.partner == k)) [
  | inl ends ↦ rw ends (each.0, each_ending Q k ps each.1)
  | inr stays ↦ rw stays (each_ending Q k ps each.1)
]

each_insert : (Q : ℕ → Type 0) (p : Pair) (ps : List Pair) → Q p.number → EachNumber Q ps → EachNumber Q (insert p ps)
each_insert Q p [] is each = (is, tt)
each_insert Q p (q ∷ qs) is each = elim (cases_Bool (nat_le p.number q.number)) [
  | inl first ↦ rw first (is, each)
  | inr later ↦ rw later (each.0, each_insert Q p qs is each.1)
]

each_sorted : (Q : ℕ → Type 0) (ps : List Pair) → EachNumber Q ps → EachNumber Q (sorted ps)
each_sorted Q [] each = tt
each_sorted Q (p ∷ ps) each = each_insert Q p (sorted ps) each.0 (each_sorted Q ps each.1)

each_active : (Q : ℕ → Type 0) (symbols : ℕ → ℕ → Option BondMark) (rings : ℕ → ℕ → Bool) (n k : ℕ) → AllOpened Q symbols rings n → EachNumber Q (active symbols rings n k)
each_active Q symbols rings n zero opened = tt
each_active Q symbols rings n (suc k) opened =
    each_onto Q (opening symbols rings n k) (kept k (active symbols rings n k)) (opened k)
    (each_kept Q k (active symbols rings n k) (each_active Q symbols rings n k opened))

each_closing : (Q : ℕ → Type 0) (symbols : ℕ → ℕ → Option BondMark) (rings : ℕ → ℕ → Bool) (n k : ℕ) → AllOpened Q symbols rings n → EachNumber Q (closing symbols rings n k)
each_closing Q symbols rings n k opened =
    each_sorted Q (ending k (active symbols rings n k)) (each_ending Q k (active symbols rings n k) (each_active Q symbols rings n k opened))

-- ---- tokens

each_append : (P : TokenKind → Type 0) (ks later : List TokenKind) → Each P ks → Each P later → Each P (ks ++ later)
each_append P [] later each rest = rest
each_append P (k ∷ ks) later each rest = (each.0, each_append P ks later each.1 rest)

each_mark : (P : TokenKind → Type 0) (S : BondMark → Type 0) (Q : ℕ → Type 0) (o : Option BondMark) → HoldsBetween P S Q → SymbolFits S o → Each P (mark_tokens o)
each_mark P S Q None holds fits = tt
each_mark P S Q (Some mark) holds fits = (holds.mark mark fits, tt)

symbols_opened : (S : BondMark → Type 0) (symbols : ℕ → ℕ → Option BondMark) (used : List Pair) (k : ℕ) (ls : List ℕ) → SymbolsFit S symbols → EachSymbol S (opened symbols used k ls)
symbols_opened S symbols used k [] fits = tt
symbols_opened S symbols used k (l ∷ ls) fits = (fits k l, symbols_opened S symbols (new_pair symbols used k l ∷ used) k ls fits)

each_closed : (P : TokenKind → Type 0) (S : BondMark → Type 0) (Q : ℕ → Type 0) (ps : List Pair) → HoldsBetween P S Q → EachNumber Q ps → Each P (closed_tokens ps)
each_closed P S Q [] holds each = tt
each_closed P S Q (p ∷ ps) holds each = (holds.ring p.number each.0, each_closed P S Q ps holds each.1)

each_opened : (P : TokenKind → Type 0) (S : BondMark → Type 0) (Q : ℕ → Type 0) (ps : List Pair) → HoldsBetween P S Q → EachNumber Q ps → EachSymbol S ps → Each P (opened_tokens ps)
each_opened P S Q [] holds each fits = tt
each_opened P S Q (p ∷ ps) holds each fits =
    each_append P (mark_tokens p.symbol) (Ring p.number ∷ opened_tokens ps) (each_mark P S Q p.symbol holds fits.0)
    (holds.ring p.number each.0, each_opened P S Q ps holds each.1 fits.1)

each_if_not : (P : TokenKind → Type 0) (b : Bool) (k : TokenKind) → P k → Each P (if_not b k)
each_if_not P true k is = tt
each_if_not P false k is = (is, tt)

pub each_ring : (P : TokenKind → Type 0) (S : BondMark → Type 0) (Q : ℕ → Type 0) (symbols : ℕ → ℕ → Option BondMark) (rings : ℕ → ℕ → Bool) (n k : ℕ)
    → HoldsBetween P S Q → SymbolsFit S symbols → AllOpened Q symbols rings n → Each P (ring_tokens symbols rings n k)
each_ring P S Q symbols rings n k holds fits opened =
    each_append P (closed_tokens (closing symbols rings n k)) (opened_tokens (opening symbols rings n k))
    (each_closed P S Q (closing symbols rings n k) holds (each_closing Q symbols rings n k opened))
    (each_opened P S Q (opening symbols rings n k) holds (opened k) (symbols_opened S symbols (active symbols rings n k) k (partners rings n k) fits))

pub each_before : (P : TokenKind → Type 0) (S : BondMark → Type 0) (Q : ℕ → Type 0) (symbols : ℕ → ℕ → Option BondMark) (k p : ℕ) (qs : List ℕ) → HoldsBetween P S Q → SymbolsFit S symbols → Each P (before_atom symbols k p qs)
each_before P S Q symbols zero zero qs holds fits = tt
each_before P S Q symbols (suc j) zero qs holds fits = (holds.dot, tt)
each_before P S Q symbols k (suc p) qs holds fits =
    each_append P (if_not (suc p == k) Leave) (if_not (not (has (suc p) qs)) Enter ++ mark_tokens (symbols p k))
    (each_if_not P (suc p == k) Leave holds.leave)
    (each_append P (if_not (not (has (suc p) qs)) Enter) (mark_tokens (symbols p k))
    (each_if_not P (not (has (suc p) qs)) Enter holds.enter) (each_mark P S Q (symbols p k) holds (fits p k)))

-- each token of the written form, where the atoms' tokens are so
pub each_written : (P : TokenKind → Type 0) (S : BondMark → Type 0) (Q : ℕ → Type 0) (symbols : ℕ → ℕ → Option BondMark) (rings : ℕ → ℕ → Bool) (n k : ℕ) (token : ℕ → TokenKind) (us qs : List ℕ)
    → HoldsBetween P S Q → SymbolsFit S symbols → AllOpened Q symbols rings n → ((u : ℕ) → P (token u)) → Each P (text_from symbols rings n k (map token us) qs)
each_written P S Q symbols rings n k token [] qs holds fits opened each = tt
each_written P S Q symbols rings n k token (u ∷ us) [] holds fits opened each = tt
each_written P S Q symbols rings n k token (u ∷ us) (p ∷ qs) holds fits opened each =
    let later : List TokenKind = text_from symbols rings n (suc k) (map token us) qs in
    each_append P (before_atom symbols k p qs) (token u ∷ (ring_tokens symbols rings n k ++ later)) (each_before P S Q symbols k p qs holds fits) (
      each u,
      each_append P (ring_tokens symbols rings n k) later (each_ring P S Q symbols rings n k holds fits opened)
          (each_written P S Q symbols rings n (suc k) token us qs holds fits opened each),
    )

-- the symbols by the orders of bonds
pub symbol_fits : (S : BondMark → Type 0) (order : ℕ) → S Double → S Triple → S Quadruple → SymbolFits S (symbol_of order)
symbol_fits S order double triple quadruple = elim (cases_Bool (order == 2)) [
  | inl two ↦ rw two double
  | inr other ↦ elim (cases_Bool (order == 3)) [
    | inl three ↦ rw (other, three) triple
    | inr more ↦ elim (cases_Bool (order == 4)) [
      | inl four ↦ rw (other, more, four) quadruple
      | inr single ↦ rw (other, more, single) tt
    ]
  ]
]
