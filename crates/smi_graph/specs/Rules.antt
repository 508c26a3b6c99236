-- The rules of the kinds that speak of a text's tokens: at which places each kind stands.
use Rattle.std.specs.List.{list_all}
use Rattle.std.specs.Prelude.{◌≡◌, ℕ, ◌+◌, ◌-◌, ◌≤◌, ◌<◌, Bool, true, false, List, [], Option, Some, None, nat_lt, slice_get, slice_index_or, map, length, reverse, nat_abs}
use Rattle.mc_base.specs.declared.kind.Kind.{Kind}
use Rattle.mc_base.specs.declared.kind.Kind.TheVariants.{NotBuilt, BadToken, Wildcard, OtherChirality, BadOrder, ParenOpen, RingOpen, RingClash, RingPair, AromaticBond, LimitAtoms, LimitBonds, LimitRings, LimitIsotope, LimitClass, LimitCharge}
use Rattle.mc_mol.specs.declared.parts.Bond as bond
use Rattle.mc_mol.specs.declared.limits.TheConstants.{ATOM_LIMIT, BOND_LIMIT, RING_LIMIT, ISOTOPE_LIMIT, CLASS_LIMIT, CHARGE_LIMIT}
use Rattle.mc_mol.specs.Parts.{independent_rings}
use Rattle.smi_lex.specs.declared.token.BondMark.{BondMark}
use Rattle.smi_lex.specs.declared.token.BondMark.TheVariants.{Single, Double, Triple, Quadruple, Aromatic, Slash, Backslash}
use Rattle.smi_lex.specs.declared.token.TokenKind.{TokenKind}
use Rattle.smi_lex.specs.declared.token.TokenKind.TheVariants as kind
use Rattle.smi_lex.specs.Reading.{IsCause}
use Rattle.smi_lex.specs.Tokens.{tokens, unread}
use Rattle.smi_graph.specs.declared.ring_table.RingEnd.{RingEnd}
use Rattle.smi_graph.specs.declared.role.Role.{Role}
use Rattle.smi_graph.specs.declared.skel_atom.SkelAtom.{SkelAtom}
use Rattle.smi_graph.specs.Roles.{roles, atoms_of}
use Rattle.smi_graph.specs.Order.{misplaced_at, unclosed_at}
use Rattle.smi_graph.specs.declared.text_bond.TextBond.{TextBond}
use Rattle.smi_graph.specs.Bonds.{open_end, text_bonds}
use Rattle.smi_graph.specs.Links.{bond_of}
use Rattle.smi_graph.specs.Candidates.{bond_fails}
use Rattle.smi_graph.specs.RingRules.{clash_at, pair_again_at}

abbrev pub roles_in : List ℕ → List Role
roles_in text = roles (tokens text)

abbrev pub text_bonds_in : List ℕ → List TextBond
text_bonds_in text = text_bonds (reverse (roles_in text))

-- the bonds with the orders that their symbols say
abbrev pub bonds_in : List ℕ → List bond.Bond
bonds_in text = map bond_of (text_bonds_in text)

abbrev pub atoms_in : List ℕ → List SkelAtom
atoms_in text = atoms_of (tokens text)

-- the byte at which token i stands, from 1; the end is the byte behind the text
abbrev pub byte_place : List ℕ → ℕ → ℕ
byte_place text i = slice_index_or (map (λ token. token.span.from) (tokens text)) i (length text) + 1

-- What isn't read today

abbrev pub is_built_mark : BondMark → Bool
is_built_mark Single = true
is_built_mark Double = true
is_built_mark Triple = true
is_built_mark Quadruple = true
is_built_mark Aromatic = true
is_built_mark Slash = false
is_built_mark Backslash = false

-- no `/` or `\` is read today
abbrev pub is_built_kind : TokenKind → Bool
is_built_kind (kind.Bare element lower) = true
is_built_kind (kind.Bracket element lower isotope chiral hydrogens charge class) = true
is_built_kind (kind.Bond mark) = is_built_mark mark
is_built_kind (kind.Ring number) = true
is_built_kind kind.Enter = true
is_built_kind kind.Leave = true
is_built_kind kind.Dot = true

abbrev pub is_built : List ℕ → Bool
is_built text = list_all (λ token. is_built_kind token.kind) (tokens text)

-- The limits (this project's own)

abbrev pub has_high_isotope : SkelAtom → Bool
has_high_isotope atom = nat_lt ISOTOPE_LIMIT atom.isotope

abbrev pub has_high_class : SkelAtom → Bool
has_high_class atom = nat_lt CLASS_LIMIT atom.class

abbrev pub has_high_charge : SkelAtom → Bool
has_high_charge atom = nat_lt CHARGE_LIMIT (nat_abs atom.charge)

abbrev pub fails : (SkelAtom → Bool) → Option SkelAtom → Bool
fails p None = false
fails p (Some atom) = p atom

-- The rules

-- the text is read up to a byte at which no token begins
abbrev pub StopsAt : List ℕ → Kind → ℕ → Type 0
StopsAt text kind place = (0 < length (unread text)) × (place ≡ length text - length (unread text) + 1) × IsCause kind (unread text)

-- A kind stands at token i, or at the end behind the tokens. A ring number that is open behind all tokens stays open.
abbrev pub WrongAt : List Role → Kind → ℕ → Type 0
WrongAt ks BadOrder i = (i ≤ length ks) × (misplaced_at ks i ≡ true)
WrongAt ks ParenOpen i = unclosed_at ks i ≡ true
WrongAt ks RingOpen i = (n : ℕ) × (end : RingEnd) × (open_end n (reverse ks) ≡ Some end) × (end.token ≡ i)
WrongAt ks RingClash i = clash_at ks i ≡ true
WrongAt ks RingPair i = pair_again_at ks i ≡ true
WrongAt ks _ i = ⊥

-- some bond is `:` and has an end in upper case; bonds count from 1
abbrev pub AromaticAt : List SkelAtom → List TextBond → Kind → ℕ → Type 0
AromaticAt atoms bonds AromaticBond place = (k : ℕ) × (place ≡ k + 1) × (bond_fails atoms (slice_get bonds k) ≡ true)
AromaticAt atoms bonds _ place = ⊥

-- a count is above its limit, and is the place
abbrev pub IsAbove : ℕ → ℕ → ℕ → Type 0
IsAbove count most place = (place ≡ count) × (most < count)

-- some atom is wrong by a test; atoms count from 1
abbrev pub AtomFails : List SkelAtom → (SkelAtom → Bool) → ℕ → Type 0
AtomFails atoms p place = (k : ℕ) × (place ≡ k + 1) × (fails p (slice_get atoms k) ≡ true)

-- a kind stands by a limit
abbrev pub BeyondAt : List SkelAtom → List bond.Bond → Kind → ℕ → Type 0
BeyondAt atoms bonds LimitAtoms place = IsAbove (length atoms) ATOM_LIMIT place
BeyondAt atoms bonds LimitBonds place = IsAbove (length bonds) BOND_LIMIT place
BeyondAt atoms bonds LimitRings place = IsAbove (independent_rings bonds (length atoms)) RING_LIMIT place
BeyondAt atoms bonds LimitIsotope place = AtomFails atoms has_high_isotope place
BeyondAt atoms bonds LimitClass place = AtomFails atoms has_high_class place
BeyondAt atoms bonds LimitCharge place = AtomFails atoms has_high_charge place
BeyondAt atoms bonds _ place = ⊥

-- a kind stands at the byte of a token, or behind the text
abbrev pub TokenFails : List ℕ → Kind → ℕ → Type 0
TokenFails text kind place = (i : ℕ) × WrongAt (roles_in text) kind i × (place ≡ byte_place text i)

-- A kind stands at a place of a text.
abbrev pub BreaksAt : List ℕ → Kind → ℕ → Type 0
BreaksAt text NotBuilt place = (place ≡ 1) × (unread text ≡ []) × (is_built text ≡ false)
BreaksAt text BadToken place = StopsAt text BadToken place
BreaksAt text Wildcard place = StopsAt text Wildcard place
BreaksAt text OtherChirality place = StopsAt text OtherChirality place
BreaksAt text BadOrder place = TokenFails text BadOrder place
BreaksAt text ParenOpen place = TokenFails text ParenOpen place
BreaksAt text RingOpen place = TokenFails text RingOpen place
BreaksAt text RingClash place = TokenFails text RingClash place
BreaksAt text RingPair place = TokenFails text RingPair place
BreaksAt text AromaticBond place = AromaticAt (atoms_in text) (text_bonds_in text) AromaticBond place
BreaksAt text LimitAtoms place = BeyondAt (atoms_in text) (bonds_in text) LimitAtoms place
BreaksAt text LimitBonds place = BeyondAt (atoms_in text) (bonds_in text) LimitBonds place
BreaksAt text LimitRings place = BeyondAt (atoms_in text) (bonds_in text) LimitRings place
BreaksAt text LimitIsotope place = BeyondAt (atoms_in text) (bonds_in text) LimitIsotope place
BreaksAt text LimitClass place = BeyondAt (atoms_in text) (bonds_in text) LimitClass place
BreaksAt text LimitCharge place = BeyondAt (atoms_in text) (bonds_in text) LimitCharge place
BreaksAt text _ place = ⊥
