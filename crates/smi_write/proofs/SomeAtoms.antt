-- A text has bytes where its molecule has atoms.
use Rattle.std.proofs.Common.{arith, ◌≡◌, ◌<◌, ◌+◌, ◌-◌, ℕ, false, List, [], ◌∷◌, ◌++◌, length, Some, refl, sym, ap, subst, ◌∙◌}
use Rattle.std.proofs.lemmas.Bool.{false_from_ne_true}
use Rattle.mc_base.specs.declared.kind.Kind.{Kind}
use Rattle.mc_base.specs.declared.kind.Kind.TheVariants.{BadToken, Wildcard, OtherChirality, BadOrder}
use Rattle.mc_base.specs.declared.span.Span.{Span}
use Rattle.mc_mol.specs.Molecule.{Molecule}
use Rattle.smi_lex.specs.declared.token.Token.{Token}
use Rattle.smi_lex.specs.declared.token.TokenKind.{TokenKind}
use Rattle.smi_lex.specs.declared.token.TokenKind.TheVariants as kind
use Rattle.smi_lex.specs.Fronts.{cause}
use Rattle.smi_lex.specs.Reading.{IsCause, IsReading}
use Rattle.smi_lex.specs.Tokens.{tokens, unread}
use Rattle.smi_lex.proofs.Causes.{cause_is}
use Rattle.smi_lex.proofs.Reading.{reads_from}
use Rattle.smi_graph.specs.declared.skel_atom.SkelAtom.{SkelAtom}
use Rattle.smi_graph.specs.Order.{is_misplaced, misplaced_at}
use Rattle.smi_graph.specs.Roles.{atom_of, atoms_of, role_of, roles}
use Rattle.smi_graph.specs.Rules.{atoms_in, bonds_in, byte_place, roles_in}
use Rattle.smi_mean.specs.Meaning.{meaning}
use Rattle.smi_mean.specs.Rules.{SmilesStands, StandsAt}
use Rattle.smi_mean.specs.Sound.{IsSound}
use Rattle.smi_mean.specs.Written.{written_text}
use Rattle.smi_write.proofs.Structured.{IsRead, Structured, is_read, length_with}

-- a text in which no kind stands is read to its end
pub read_whole : (text : List ℕ) → ((kind : Kind) (place : ℕ) → StandsAt text kind place → ⊥) → unread text ≡ []
read_whole text accepted = by_rest (unread text) refl
  where
    stops : (k : Kind) → 0 < length (unread text) → IsCause k (unread text) → ⊥
    stops BadToken some why = accepted BadToken (length text - length (unread text) + 1) (some, refl, why)
    stops Wildcard some why = accepted Wildcard (length text - length (unread text) + 1) (some, refl, why)
    stops OtherChirality some why = accepted OtherChirality (length text - length (unread text) + 1) (some, refl, why)
    stops _ some why = why

    by_rest : (rest : List ℕ) → unread text ≡ rest → rest ≡ []
    by_rest [] is = refl
    by_rest (b ∷ bs) is =
        let size : length (unread text) ≡ length (b ∷ bs) = ap (λ (t : List ℕ). length t) is in
        absurd (stops (cause (unread text)) (omega arith) (cause_is (unread text)))

-- only an atom may be first
first_atom : (t : TokenKind) (span : Span) (more : List SkelAtom) → is_misplaced [] (Some (role_of t)) ≡ false → 0 < length (atom_of t span ++ more)
first_atom (kind.Bare element lower) span more placed = omega arith
first_atom (kind.Bracket element lower isotope chiral hydrogens charge class) span more placed = omega arith
first_atom (kind.Bond mark) span more placed = cc
first_atom (kind.Ring number) span more placed = cc
first_atom kind.Enter span more placed = cc
first_atom kind.Leave span more placed = cc
first_atom kind.Dot span more placed = cc

-- a text with bytes stands for a molecule with atoms
pub some_atoms : (text : List ℕ) (m : Molecule) → 0 < length text → SmilesStands text m → 0 < length m.atoms
some_atoms text m some stands =
    let size : length (meaning text).atoms ≡ length (atoms_in text) = length_with (bonds_in text) 0 (atoms_in text) in
    let same : length m.atoms ≡ length (meaning text).atoms = ap (λ (m : Molecule). length m.atoms) stands.molecule.molecule in
    let more = by_tokens (tokens text) refl in
    omega arith
  where
    by_tokens : (ts : List Token) → tokens text ≡ ts → 0 < length (atoms_of ts)
    by_tokens [] is =
        let end : 0 ≡ length text - length (unread text) =
        subst (λ (ts : List Token). IsReading text 0 ts (length text - length (unread text))) is (reads_from text 0 (omega arith)).reading in
        let left : length (unread text) ≡ 0 = ap (λ (t : List ℕ). length t) (read_whole text stands.accepted) in
        absurd (omega arith)
    by_tokens (t ∷ ts) is =
        let placed : misplaced_at (roles_in text) 0 ≡ false =
        false_from_ne_true (misplaced_at (roles_in text) 0) (λ bad. stands.accepted BadOrder (byte_place text 0) (0, (omega arith, bad), refl)) in
        first_atom t.kind t.span (atoms_of ts) (sym (ap (λ (us : List Token). misplaced_at (roles us) 0) is) ∙ placed)

-- a molecule with atoms is written as a text with bytes
pub some_text : (m : Molecule) → IsSound m → Structured m → 0 < length m.atoms → 0 < length (written_text m)
some_text m sound structured some = by_text (written_text m) (is_read m sound structured)
  where
    by_text : (text : List ℕ) → IsRead m text → 0 < length text
    by_text [] read = let count : 0 ≡ length m.atoms = read.count in absurd (omega arith)
    by_text (b ∷ bs) read = omega arith
