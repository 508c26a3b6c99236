-- The roles of the tokens in which a molecule is written.
use Rattle.std.proofs.Common.{◌≡◌, ◌∙◌, ℕ, zero, suc, List, [], ◌∷◌, ◌++◌, map, length, Bool, true, false, Option, Some, None, refl, ap, arith}
use Rattle.std.specs.Prelude.{◌==◌, not}
use Rattle.std.proofs.lemmas.List.{map-append}
use Rattle.smi_lex.specs.declared.token.BondMark.{BondMark}
use Rattle.smi_lex.specs.declared.token.TokenKind.{TokenKind}
use Rattle.smi_lex.specs.declared.token.TokenKind.TheVariants as kind
use Rattle.smi_graph.specs.declared.role.Role.{Role}
use Rattle.smi_graph.specs.declared.role.Role.TheVariants.{Atom, Bond, Ring, Enter, Leave, Dot}
use Rattle.smi_graph.specs.Roles.{role_of}
use Rattle.smi_graph.specs.declared.text_bond.TextBond.{TextBond}
use Rattle.smi_graph.specs.Bonds.{text_bond}
use Rattle.smi_mean.specs.RingNumbers.{Pair, has, closing, opening}
use Rattle.smi_mean.specs.Written.{mark_tokens, closed_tokens, opened_tokens, ring_tokens, if_not, before_atom, text_from}

abbrev pub mark_roles : Option BondMark → List Role
mark_roles None = []
mark_roles (Some mark) = Bond mark ∷ []

abbrev pub closed_roles : List Pair → List Role
closed_roles [] = []
closed_roles (p ∷ ps) = Ring p.number ∷ closed_roles ps

abbrev pub opened_roles : List Pair → List Role
opened_roles [] = []
opened_roles (p ∷ ps) = mark_roles (p.symbol) ++ (Ring p.number ∷ opened_roles ps)

abbrev pub ring_roles : (ℕ → ℕ → Option BondMark) → (ℕ → ℕ → Bool) → ℕ → ℕ → List Role
ring_roles symbols rings n k = closed_roles (closing symbols rings n k) ++ opened_roles (opening symbols rings n k)

abbrev pub role_if_not : Bool → Role → List Role
role_if_not true k = []
role_if_not false k = k ∷ []

abbrev pub before_roles : (ℕ → ℕ → Option BondMark) → ℕ → ℕ → List ℕ → List Role
before_roles symbols zero zero qs = []
before_roles symbols (suc j) zero qs = Dot ∷ []
before_roles symbols k (suc p) qs =
    role_if_not (suc p == k) Leave ++ (role_if_not (not (has (suc p) qs)) Enter ++ mark_roles (symbols p k))

abbrev pub text_roles : (ℕ → ℕ → Option BondMark) → (ℕ → ℕ → Bool) → ℕ → ℕ → List ℕ → List Role
text_roles symbols rings n k [] = []
text_roles symbols rings n k (p ∷ qs) =
    before_roles symbols k p qs ++ (Atom false ∷ (ring_roles symbols rings n k ++ text_roles symbols rings n (suc k) qs))

marks_are : (o : Option BondMark) → map role_of (mark_tokens o) ≡ mark_roles o
marks_are None = refl
marks_are (Some mark) = refl

closed_are : (ps : List Pair) → map role_of (closed_tokens ps) ≡ closed_roles ps
closed_are [] = refl
closed_are (p ∷ ps) = ap (λ (x : List Role). Ring p.number ∷ x) (closed_are ps)

opened_are : (ps : List Pair) → map role_of (opened_tokens ps) ≡ opened_roles ps
opened_are [] = refl
opened_are (p ∷ ps) =
    map-append role_of (mark_tokens (p.symbol)) (kind.Ring p.number ∷ opened_tokens ps)
    ∙ ap (λ (x : List Role). x ++ (Ring p.number ∷ map role_of (opened_tokens ps))) (marks_are (p.symbol))
    ∙ ap (λ (x : List Role). mark_roles (p.symbol) ++ (Ring p.number ∷ x)) (opened_are ps)

rings_are : (symbols : ℕ → ℕ → Option BondMark) (rings : ℕ → ℕ → Bool) (n k : ℕ) → map role_of (ring_tokens symbols rings n k) ≡ ring_roles symbols rings n k
rings_are symbols rings n k =
    map-append role_of (closed_tokens (closing symbols rings n k)) (opened_tokens (opening symbols rings n k))
    ∙ ap (λ (x : List Role). x ++ map role_of (opened_tokens (opening symbols rings n k))) (closed_are (closing symbols rings n k))
    ∙ ap (λ (x : List Role). closed_roles (closing symbols rings n k) ++ x) (opened_are (opening symbols rings n k))

if_not_is : (b : Bool) (k : TokenKind) → map role_of (if_not b k) ≡ role_if_not b (role_of k)
if_not_is true k = refl
if_not_is false k = refl

before_are : (symbols : ℕ → ℕ → Option BondMark) (k p : ℕ) (qs : List ℕ) → map role_of (before_atom symbols k p qs) ≡ before_roles symbols k p qs
before_are symbols zero zero qs = refl
before_are symbols (suc j) zero qs = refl
before_are symbols k (suc p) qs =
    let leave : List TokenKind = if_not (suc p == k) kind.Leave in
    let enter : List TokenKind = if_not (not (has (suc p) qs)) kind.Enter in
    let marks : List TokenKind = mark_tokens (symbols p k) in
    map-append role_of leave (enter ++ marks)
    ∙ ap (λ (x : List Role). map role_of leave ++ x) (map-append role_of enter marks)
    ∙ ap (λ (x : List Role). x ++ (map role_of enter ++ map role_of marks)) (if_not_is (suc p == k) kind.Leave)
    ∙ ap (λ (x : List Role). role_if_not (suc p == k) Leave ++ (x ++ map role_of marks)) (if_not_is (not (has (suc p) qs)) kind.Enter)
    ∙ ap (λ (x : List Role). role_if_not (suc p == k) Leave ++ (role_if_not (not (has (suc p) qs)) Enter ++ x)) (marks_are (symbols p k))

-- tokens of atoms alone
abbrev pub AreAtoms : List TokenKind → Type 0
AreAtoms [] = Unit {0}
AreAtoms (t ∷ ts) = (role_of t ≡ Atom false) × AreAtoms ts

pub text_is : (symbols : ℕ → ℕ → Option BondMark) (rings : ℕ → ℕ → Bool) (n k : ℕ) (ts : List TokenKind) (qs : List ℕ) → AreAtoms ts → length ts ≡ length qs
    → map role_of (text_from symbols rings n k ts qs) ≡ text_roles symbols rings n k qs
text_is symbols rings n k [] [] atoms same = refl
text_is symbols rings n k [] (q ∷ qs) atoms same = absurd (omega arith)
text_is symbols rings n k (t ∷ ts) [] atoms same = absurd (omega arith)
text_is symbols rings n k (t ∷ ts) (p ∷ qs) atoms same =
    let rest : List TokenKind = text_from symbols rings n (suc k) ts qs in
    let numbers : List TokenKind = ring_tokens symbols rings n k in
    map-append role_of (before_atom symbols k p qs) (t ∷ (numbers ++ rest))
    ∙ ap (λ (x : List Role). x ++ map role_of (t ∷ (numbers ++ rest))) (before_are symbols k p qs)
    ∙ ap (λ (x : Role). before_roles symbols k p qs ++ (x ∷ map role_of (numbers ++ rest))) atoms.0
    ∙ ap (λ (x : List Role). before_roles symbols k p qs ++ (Atom false ∷ x)) (map-append role_of numbers rest
    ∙ ap (λ (x : List Role). x ++ map role_of rest) (rings_are symbols rings n k)
    ∙ ap (λ (x : List Role). ring_roles symbols rings n k ++ x) (text_is symbols rings n (suc k) ts qs atoms.1 (omega arith)))

-- The bonds that these tokens complete

-- the bonds that these numbers close at atom k
abbrev pub links : ℕ → List Pair → List TextBond
links k [] = []
links k (p ∷ ps) = text_bond p.opener k p.symbol None ∷ links k ps

abbrev pub parent_bond : (ℕ → ℕ → Option BondMark) → ℕ → ℕ → List TextBond
parent_bond symbols zero k = []
parent_bond symbols (suc p) k = text_bond p k (symbols p k) None ∷ []

-- the bonds that the tokens of the atoms from number k on complete
abbrev pub bonds_from : (ℕ → ℕ → Option BondMark) → (ℕ → ℕ → Bool) → ℕ → ℕ → List ℕ → List TextBond
bonds_from symbols rings n k [] = []
bonds_from symbols rings n k (p ∷ qs) =
    parent_bond symbols p k ++ (links k (closing symbols rings n k) ++ bonds_from symbols rings n (suc k) qs)
