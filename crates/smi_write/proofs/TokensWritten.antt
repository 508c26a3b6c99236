-- The tokens of a molecule within the limits are tokens of the written form.
use Rattle.std.specs.Prelude.{true, Bool, is_none, ◌&&◌}
use Rattle.std.proofs.Common.{arith, ◌≡◌, ◌<◌, ℕ, suc, false, List, [], ◌∷◌, Option, Some, None, refl, inl, inr}
use Rattle.std.specs.Prelude.{Contains, slice_get}
use Rattle.std.proofs.lemmas.Bool.{cases_Bool, and_parts}
use Rattle.mc_mol.specs.declared.parts.Atom.{Atom}
use Rattle.mc_mol.specs.Molecule.{Molecule, bond_sum}
use Rattle.mc_mol.specs.Limits.{IsAtomWithinLimits}
use Rattle.smi_lex.specs.Grammar.{may_be_bare}
use Rattle.smi_lex.specs.declared.token.TokenKind.{TokenKind}
use Rattle.smi_lex.specs.declared.token.TokenKind.TheVariants.{Bare, Bracket, Bond, Ring, Enter, Leave, Dot}
use Rattle.smi_graph.specs.declared.role.Role.TheVariants as doing
use Rattle.smi_graph.specs.Roles.{role_of}
use Rattle.smi_mean.specs.Order.{Graph, graph_of, order, atoms, parents, at, has_ring}
use Rattle.smi_mean.specs.RingNumbers.{opening}
use Rattle.smi_mean.specs.Sound.{IsSound}
use Rattle.smi_mean.specs.Written.{atom_token, bond_symbol, is_bare, token_in, token_of, written_tokens}
use Rattle.smi_mean.specs.WrittenPlaces.{atom_mark}
use Rattle.smi_write.proofs.EachToken.{Each, HoldsBetween, any_numbers, each_written, symbol_fits}
use Rattle.smi_write.proofs.TokenSpelled.{is_written_mark, IsWritten}
use Rattle.smi_write.proofs.KindsRead.{AreWritten}

-- a token that the written form has, if its ring number is one
abbrev pub IsShaped : TokenKind → Type 0
IsShaped (Ring number) = Unit {0}
IsShaped (Bare element lower) = IsWritten (Bare element lower)
IsShaped (Bracket element lower isotope chiral hydrogens charge class) = IsWritten (Bracket element lower isotope chiral hydrogens charge class)
IsShaped (Bond mark) = IsWritten (Bond mark)
IsShaped Enter = Unit {0}
IsShaped Leave = Unit {0}
IsShaped Dot = Unit {0}

shaped_between : HoldsBetween IsShaped (λ mark. is_written_mark mark ≡ true) (λ n. Unit {0})
shaped_between = record { mark = λ mark is. is; ring = λ number is. tt; enter = tt; leave = tt; dot = tt }

-- the token of an atom

shaped_atom : (atom : Atom) (sum : ℕ) (mark : Option Bool) → IsAtomWithinLimits atom → IsShaped (token_of atom sum mark)
shaped_atom atom sum mark within = elim (cases_Bool (is_bare atom sum && is_none mark)) [
  | inl bare ↦ rw bare (refl, (and_parts (may_be_bare atom.element false) _ (and_parts (is_bare atom sum) (is_none mark) bare).0).0)
  | inr bracket ↦ rw bracket record {
    upper = refl;
    low_isotope = within.isotope;
    few_hydrogens = within.hydrogens;
    low_charge = within.charge;
    low_class = within.class;
  }
]

shaped_in : (found : Option Atom) (sum : ℕ) (mark : Option Bool) → ((atom : Atom) → found ≡ Some atom → IsAtomWithinLimits atom) → IsShaped (token_in found sum mark)
shaped_in None sum mark within = (refl, refl)
shaped_in (Some atom) sum mark within = shaped_atom atom sum mark (within atom refl)

is_atom : (atom : Atom) (sum : ℕ) (mark : Option Bool) → role_of (token_of atom sum mark) ≡ doing.Atom false
is_atom atom sum mark = elim (cases_Bool (is_bare atom sum && is_none mark)) [
  | inl bare ↦ rw bare refl
  | inr bracket ↦ rw bracket refl
]

is_atom_in : (found : Option Atom) (sum : ℕ) (mark : Option Bool) → role_of (token_in found sum mark) ≡ doing.Atom false
is_atom_in None sum mark = refl
is_atom_in (Some atom) sum mark = is_atom atom sum mark

-- an atom's token is an atom
pub role_of_atom : (m : Molecule) (u : ℕ) → role_of (atom_token m u) ≡ doing.Atom false
role_of_atom m u = is_atom_in (slice_get m.atoms u) (bond_sum m.bonds u) (atom_mark m u)

-- ring numbers that have one or two digits
abbrev pub RingsFit : List TokenKind → Type 0
RingsFit ks = (n : ℕ) → Contains ks (Ring n) → n < 100

later_rings : (k : TokenKind) (ks : List TokenKind) → RingsFit (k ∷ ks) → RingsFit ks
later_rings k ks fit n (i, inside, is) = fit n (suc i, omega arith, is)

first_written : (k : TokenKind) (ks : List TokenKind) → IsShaped k → RingsFit (k ∷ ks) → IsWritten k
first_written (Ring number) ks is fit = fit number (0, omega arith, refl)
first_written (Bare element lower) ks is fit = is
first_written (Bracket element lower isotope chiral hydrogens charge class) ks is fit = is
first_written (Bond mark) ks is fit = is
first_written Enter ks is fit = tt
first_written Leave ks is fit = tt
first_written Dot ks is fit = tt

all_written : (ks : List TokenKind) → Each IsShaped ks → RingsFit ks → AreWritten ks
all_written [] are fit = tt
all_written (k ∷ ks) are fit = (first_written k ks are.0 fit, all_written ks are.1 (later_rings k ks fit))

pub tokens_written : (m : Molecule) → IsSound m → RingsFit (written_tokens m) → AreWritten (written_tokens m)
tokens_written m sound fit =
    let g : Graph = graph_of m in
    all_written (written_tokens m)
    (each_written IsShaped (λ mark. is_written_mark mark ≡ true) (λ n. Unit {0}) (λ j l. bond_symbol g j l) (λ j l. has_ring g j l) g.count 0 (atom_token m) (atoms (order g)) (parents (order g))
    shaped_between (λ j l. symbol_fits (λ mark. is_written_mark mark ≡ true) (g.order (at g j) (at g l)) refl refl refl) (λ k. any_numbers (opening (λ j l. bond_symbol g j l) (λ j l. has_ring g j l) g.count k))
    (λ u. shaped_in (slice_get m.atoms u) (bond_sum m.bonds u) (atom_mark m u) (sound.within.atoms u))) fit
