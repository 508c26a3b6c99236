-- The marks of a text's atoms and the centres that they say, by the kinds of its tokens.
use Rattle.std.proofs.Common.{arith, ◌≡◌, ◌<◌, ◌+◌, ℕ, zero, suc, Bool, true, false, List, [], ◌∷◌, ◌++◌, length, get_or, map, Option, Some, None, refl, ap, ◌∙◌}
use Rattle.std.specs.Prelude.{slice_get, ◌&&◌, if◌then◌else◌}
use Rattle.mc_base.specs.declared.span.Span.{Span}
use Rattle.mc_mol.specs.declared.parts.Atom.{Atom}
use Rattle.mc_mol.specs.declared.parts.Slot.{Slot}
use Rattle.smi_lex.specs.declared.token.Token.{Token}
use Rattle.smi_lex.specs.declared.token.TokenKind.{TokenKind}
use Rattle.smi_lex.specs.declared.token.TokenKind.TheVariants.{Bare, Bracket, Bond, Ring, Enter, Leave, Dot}
use Rattle.smi_graph.specs.declared.role.Role.{Role}
use Rattle.smi_graph.specs.declared.skel_atom.SkelAtom.{SkelAtom}
use Rattle.smi_graph.specs.Roles.{atom_of, atoms_of}
use Rattle.smi_mean.specs.CentrePlaces.{places, centre_of}
use Rattle.smi_mean.specs.MeantCentres.{centres_with}
use Rattle.smi_mean.specs.Written.{is_bare, token_of}
use Rattle.smi_write.proofs.AtomsRead.{atom_tokens}

-- The centre of a token

abbrev pub meant_centre : List Role → ℕ → TokenKind → Option (List Slot)
meant_centre ks k (Bare element lower) = None
meant_centre ks k (Bracket element lower isotope chiral hydrogens charge class) = centre_of chiral (places ks k hydrogens)
meant_centre ks k (Bond mark) = None
meant_centre ks k (Ring number) = None
meant_centre ks k Enter = None
meant_centre ks k Leave = None
meant_centre ks k Dot = None

abbrev pub meant_centres : List Role → ℕ → List TokenKind → List (Option (List Slot))
meant_centres ks k [] = []
meant_centres ks k (t ∷ ts) = meant_centre ks k t ∷ meant_centres ks (suc k) ts

one_centre : (ks : List Role) (k : ℕ) (t : TokenKind) (span : Span) (more : List SkelAtom) (ts : List TokenKind)
    → ((j : ℕ) → centres_with ks j more ≡ meant_centres ks j (atom_tokens ts))
    → centres_with ks k (atom_of t span ++ more) ≡ meant_centres ks k (atom_tokens (t ∷ ts))
one_centre ks k (Bare element lower) span more ts later = ap (λ (cs : List (Option (List Slot))). None ∷ cs) (later (suc k))
one_centre ks k (Bracket element lower isotope chiral hydrogens charge class) span more ts later =
    ap (λ (cs : List (Option (List Slot))). centre_of chiral (places ks k hydrogens) ∷ cs) (later (suc k))
one_centre ks k (Bond mark) span more ts later = later k
one_centre ks k (Ring number) span more ts later = later k
one_centre ks k Enter span more ts later = later k
one_centre ks k Leave span more ts later = later k
one_centre ks k Dot span more ts later = later k

pub centres_meant : (ks : List Role) (k : ℕ) (ts : List Token) → centres_with ks k (atoms_of ts) ≡ meant_centres ks k (atom_tokens (map (λ token. token.kind) ts))
centres_meant ks k [] = refl
centres_meant ks k (token ∷ ts) = one_centre ks k token.kind token.span (atoms_of ts) (map (λ t. t.kind) ts) (λ j. centres_meant ks j ts)

pub centre_at : (ks : List Role) (token : ℕ → TokenKind) (us : List ℕ) (k i : ℕ) → i < length us
    → slice_get (meant_centres ks k (map token us)) i ≡ Some (meant_centre ks (k + i) (token (get_or us i 0)))
centre_at ks token [] k i less = absurd (omega arith)
centre_at ks token (u ∷ us) k zero less = let same : k ≡ k + 0 = omega arith in ap (λ (n : ℕ). Some (meant_centre ks n (token u))) same
centre_at ks token (u ∷ us) k (suc i) less =
    let same : suc k + i ≡ k + suc i = omega arith in
    centre_at ks token us (suc k) i (omega arith) ∙ ap (λ (n : ℕ). Some (meant_centre ks n (token (get_or us i 0)))) same

-- the token of an atom says its centre
pub token_centre : (ks : List Role) (k : ℕ) (atom : Atom) (sum : ℕ) (mark : Option Bool) → meant_centre ks k (token_of atom sum mark) ≡ centre_of mark (places ks k atom.hydrogens)
token_centre ks k atom sum None = by_test (is_bare atom sum)
  where
    by_test : (t : Bool) → meant_centre ks k (if t && true then Bare atom.element false else Bracket atom.element false atom.isotope None atom.hydrogens atom.charge atom.class) ≡ None
    by_test true = refl
    by_test false = refl
token_centre ks k atom sum (Some turn) = by_test (is_bare atom sum)
  where
    by_test : (t : Bool) → meant_centre ks k (if t && false then Bare atom.element false else Bracket atom.element false atom.isotope (Some turn) atom.hydrogens atom.charge atom.class)
        ≡ centre_of (Some turn) (places ks k atom.hydrogens)
    by_test true = refl
    by_test false = refl

-- The case and the mark of an atom

-- whether an atom is in lower case, and its mark
abbrev pub Says : Type 0
Says = Bool × Option Bool

abbrev pub atom_says : SkelAtom → Says
atom_says atom = (atom.lower, atom.chiral)

abbrev pub token_says : TokenKind → Says
token_says (Bare element lower) = (lower, None)
token_says (Bracket element lower isotope chiral hydrogens charge class) = (lower, chiral)
token_says (Bond mark) = (false, None)
token_says (Ring number) = (false, None)
token_says Enter = (false, None)
token_says Leave = (false, None)
token_says Dot = (false, None)

one_said : (t : TokenKind) (span : Span) (more : List SkelAtom) (ts : List TokenKind) → map atom_says more ≡ map token_says (atom_tokens ts)
    → map atom_says (atom_of t span ++ more) ≡ map token_says (atom_tokens (t ∷ ts))
one_said (Bare element lower) span more ts later = ap (λ (x : List Says). (lower, None) ∷ x) later
one_said (Bracket element lower isotope chiral hydrogens charge class) span more ts later = ap (λ (x : List Says). (lower, chiral) ∷ x) later
one_said (Bond mark) span more ts later = later
one_said (Ring number) span more ts later = later
one_said Enter span more ts later = later
one_said Leave span more ts later = later
one_said Dot span more ts later = later

pub all_said : (ts : List Token) → map atom_says (atoms_of ts) ≡ map token_says (atom_tokens (map (λ token. token.kind) ts))
all_said [] = refl
all_said (token ∷ ts) = one_said token.kind token.span (atoms_of ts) (map (λ t. t.kind) ts) (all_said ts)

pub said_at : (token : ℕ → TokenKind) (us : List ℕ) (k : ℕ) → k < length us → slice_get (map token_says (map token us)) k ≡ Some (token_says (token (get_or us k 0)))
said_at token [] k less = absurd (omega arith)
said_at token (u ∷ us) zero less = refl
said_at token (u ∷ us) (suc k) less = said_at token us k (omega arith)

-- an atom that is written is in upper case, and has its mark
pub token_said : (atom : Atom) (sum : ℕ) (mark : Option Bool) → token_says (token_of atom sum mark) ≡ (false, mark)
token_said atom sum None = by_test (is_bare atom sum)
  where
    by_test : (t : Bool) → token_says (if t && true then Bare atom.element false else Bracket atom.element false atom.isotope None atom.hydrogens atom.charge atom.class) ≡ (false, None)
    by_test true = refl
    by_test false = refl
token_said atom sum (Some turn) = by_test (is_bare atom sum)
  where
    by_test : (t : Bool) → token_says (if t && false then Bare atom.element false else Bracket atom.element false atom.isotope (Some turn) atom.hydrogens atom.charge atom.class) ≡ (false, Some turn)
    by_test true = refl
    by_test false = refl
