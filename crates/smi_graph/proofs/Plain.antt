-- A text whose tokens are plain has no lower-case atom and no `:` bond.
use Rattle.std.proofs.Common.{◌≡◌, ◌∙◌, ℕ, zero, suc, List, [], ◌∷◌, ◌++◌, length, reverse, Bool, true, false, Option, Some, None, refl, ap, sym, subst}
use Rattle.std.specs.Prelude.{map, slice_get, option_to_list, not, ◌&&◌, ◌==◌, if◌then◌else◌}
use Rattle.std.proofs.lemmas.Bool.{and_parts}
use Rattle.std.proofs.lemmas.List.{length-map}
use mathlib.Core.List.{reverse_aux}
use Rattle.mc_base.specs.declared.span.Span.{Span}
use Rattle.smi_lex.specs.declared.token.BondMark.{BondMark}
use Rattle.smi_lex.specs.declared.token.Token.{Token}
use Rattle.smi_lex.specs.declared.token.TokenKind.{TokenKind}
use Rattle.smi_lex.specs.declared.token.TokenKind.TheVariants as kind
use Rattle.smi_lex.specs.Tokens.{tokens}
use Rattle.smi_graph.specs.declared.reader.Reader.{Reader}
use Rattle.smi_graph.specs.declared.ring_table.RingEnd.{RingEnd}
use Rattle.smi_graph.specs.declared.role.Role.{Role}
use Rattle.smi_graph.specs.declared.role.Role.TheVariants.{Atom, Bond, Ring, Enter, Leave, Dot}
use Rattle.smi_graph.specs.declared.skel_atom.SkelAtom.{SkelAtom}
use Rattle.smi_graph.specs.declared.text_bond.TextBond.{TextBond}
use Rattle.smi_graph.specs.Roles.{role_of, roles, atom_of, atoms_of}
use Rattle.smi_graph.specs.Bonds.{mark_of, ring_count, is_even, ring_end, latest_end, open_end, chain_bond, ring_bond, predecessor, completed, text_bonds}
use Rattle.smi_graph.specs.Links.{or_else, symbol}
use Rattle.smi_graph.specs.Candidates.{lower, is_lower, joins_lower, is_aromatic, bond_fails}
use Rattle.smi_graph.specs.Order.{tokens_before}
use Rattle.smi_graph.specs.Reading.{HasRead, held_atom, is_plain, all_plain}
use Rattle.smi_graph.specs.Rules.{roles_in, atoms_in}
use Rattle.smi_graph.proofs.HeldAtoms.{lower_held}
use Rattle.smi_graph.proofs.Prefixes.{all_before}

not_not : (t : Bool) → not t ≡ true → t ≡ false
not_not true h = cc
not_not false h = refl

-- No symbol is `:`

mark_plain : (before : List Role) → all_plain before ≡ true → is_aromatic (mark_of before) ≡ false
mark_plain [] h = refl
mark_plain (Bond mark ∷ before) h = not_not (is_aromatic (Some mark)) (and_parts (all_plain before) (is_plain (Bond mark)) h).1
mark_plain (Atom lower ∷ before) h = refl
mark_plain (Ring number ∷ before) h = refl
mark_plain (Enter ∷ before) h = refl
mark_plain (Leave ∷ before) h = refl
mark_plain (Dot ∷ before) h = refl

earlier : (k : Role) (before : List Role) → all_plain (k ∷ before) ≡ true → all_plain before ≡ true
earlier k before h = (and_parts (all_plain before) (is_plain k) h).0

end_plain : (n : ℕ) (before : List Role) (end : RingEnd) → all_plain before ≡ true → latest_end n before ≡ Some end → is_aromatic end.mark ≡ false
end_plain n [] end h is = cc
end_plain n (Ring number ∷ before) end h is = by_test (number == n) (λ other. end_plain n before end (earlier (Ring number) before h) other) is
  where
    same : (a b : RingEnd) → Some a ≡ Some b → a ≡ b
    same a b h = cc

    by_test : (t : Bool) → (latest_end n before ≡ Some end → is_aromatic end.mark ≡ false) → (if t then Some (ring_end before) else latest_end n before) ≡ Some end → is_aromatic end.mark ≡ false
    by_test true rest is = subst (λ (e : RingEnd). is_aromatic e.mark ≡ false) (same (ring_end before) end is) (mark_plain before (earlier (Ring number) before h))
    by_test false rest is = rest is
end_plain n (Atom lower ∷ before) end h is = end_plain n before end (earlier (Atom lower) before h) is
end_plain n (Bond mark ∷ before) end h is = end_plain n before end (earlier (Bond mark) before h) is
end_plain n (Enter ∷ before) end h is = end_plain n before end (earlier Enter before h) is
end_plain n (Leave ∷ before) end h is = end_plain n before end (earlier Leave before h) is
end_plain n (Dot ∷ before) end h is = end_plain n before end (earlier Dot before h) is

or_plain : (a b : Option BondMark) → is_aromatic a ≡ false → is_aromatic b ≡ false → is_aromatic (or_else a b) ≡ false
or_plain None b first second = second
or_plain (Some a) b first second = first

-- the symbol of each of these bonds is another one
abbrev AllPlain : List TextBond → Type 0
AllPlain [] = Unit {0}
AllPlain (b ∷ bonds) = (is_aromatic (symbol b) ≡ false) × AllPlain bonds

more : (bonds others : List TextBond) → AllPlain bonds → AllPlain others → AllPlain (bonds ++ others)
more [] others first second = second
more (b ∷ bonds) others first second = (first.0, more bonds others first.1 second)

chain_plain : (o : Option ℕ) (a : ℕ) (mark : Option BondMark) → is_aromatic mark ≡ false → AllPlain (option_to_list (chain_bond o a mark))
chain_plain None a mark h = tt
chain_plain (Some p) a mark h = (or_plain mark None h refl, tt)

ring_plain : (o : Option RingEnd) (here : RingEnd) → ((end : RingEnd) → o ≡ Some end → is_aromatic end.mark ≡ false) → is_aromatic here.mark ≡ false → AllPlain (option_to_list (ring_bond o here))
ring_plain None here first second = tt
ring_plain (Some other) here first second = (or_plain other.mark here.mark (first other refl) second, tt)

open_plain : (n : ℕ) (before : List Role) (end : RingEnd) → all_plain before ≡ true → open_end n before ≡ Some end → is_aromatic end.mark ≡ false
open_plain n before end h is = by_test (is_even (ring_count n before)) is
  where
    by_test : (t : Bool) → (if t then None else latest_end n before) ≡ Some end → is_aromatic end.mark ≡ false
    by_test true is = cc
    by_test false is = end_plain n before end h is

completed_plain : (before : List Role) (k : Role) → all_plain before ≡ true → AllPlain (option_to_list (completed before k))
completed_plain before (Atom lower) h = chain_plain (predecessor before) _ (mark_of before) (mark_plain before h)
completed_plain before (Ring n) h = ring_plain (open_end n before) (ring_end before) (λ end is. open_plain n before end h is) (mark_plain before h)
completed_plain before (Bond mark) h = tt
completed_plain before Enter h = tt
completed_plain before Leave h = tt
completed_plain before Dot h = tt

bonds_plain : (before : List Role) → all_plain before ≡ true → AllPlain (text_bonds before)
bonds_plain [] h = tt
bonds_plain (k ∷ before) h =
    let rest = earlier k before h in
    more (text_bonds before) (option_to_list (completed before k)) (bonds_plain before rest) (completed_plain before k rest)

none_fails : (atoms : List SkelAtom) (bonds : List TextBond) → AllPlain bonds → (k : ℕ) → bond_fails atoms (slice_get bonds k) ≡ false
none_fails atoms [] h k = refl
none_fails atoms (b ∷ bonds) h zero = ap (λ (t : Bool). t && not (joins_lower atoms b)) h.0
none_fails atoms (b ∷ bonds) h (suc k) = none_fails atoms bonds h.1 k

pub plain_bonds : (text : List ℕ) (atoms : List SkelAtom) (bonds : List TextBond) → bonds ≡ text_bonds (reverse (roles_in text)) → all_plain (reverse (roles_in text)) ≡ true
    → (k : ℕ) → bond_fails atoms (slice_get bonds k) ≡ false
plain_bonds text atoms bonds is h k =
    ap (λ (x : List TextBond). bond_fails atoms (slice_get x k)) is ∙ none_fails atoms (text_bonds (reverse (roles_in text))) (bonds_plain (reverse (roles_in text)) h) k

-- No atom is in lower case

abbrev EachPlain : List Token → Type 0
EachPlain [] = Unit {0}
EachPlain (t ∷ ts) = (is_plain (role_of t.kind) ≡ true) × EachPlain ts

each_plain : (ts : List Token) (acc : List Role) → all_plain (reverse_aux (roles ts) acc) ≡ true → (all_plain acc ≡ true) × EachPlain ts
each_plain [] acc h = (h, tt)
each_plain (t ∷ ts) acc h =
    let rest = each_plain ts (role_of t.kind ∷ acc) h in
    let here = and_parts (all_plain acc) (is_plain (role_of t.kind)) rest.0 in
    (here.0, (here.1, rest.1))

abbrev NoneLower : List SkelAtom → Type 0
NoneLower [] = Unit {0}
NoneLower (a ∷ atoms) = (a.lower ≡ false) × NoneLower atoms

one_upper : (k : TokenKind) (span : Span) (rest : List SkelAtom) → is_plain (role_of k) ≡ true → NoneLower (map held_atom rest) → NoneLower (map held_atom (atom_of k span ++ rest))
one_upper (kind.Bare element lower) span rest h others = (not_not lower h, others)
one_upper (kind.Bracket element lower isotope chiral hydrogens charge class) span rest h others = (not_not lower h, others)
one_upper (kind.Bond mark) span rest h others = others
one_upper (kind.Ring number) span rest h others = others
one_upper kind.Enter span rest h others = others
one_upper kind.Leave span rest h others = others
one_upper kind.Dot span rest h others = others

all_upper : (ts : List Token) → EachPlain ts → NoneLower (map held_atom (atoms_of ts))
all_upper [] h = tt
all_upper (t ∷ ts) h = one_upper t.kind t.span (atoms_of ts) h.0 (all_upper ts h.1)

none_lower : (atoms : List SkelAtom) → NoneLower atoms → (k : ℕ) → is_lower atoms k ≡ false
none_lower [] h k = refl
none_lower (a ∷ atoms) h zero = h.0
none_lower (a ∷ atoms) h (suc k) = none_lower atoms h.1 k

pub plain_atoms : (text : List ℕ) (held : List SkelAtom) → held ≡ map held_atom (atoms_in text) → all_plain (reverse (roles_in text)) ≡ true → (k : ℕ) → is_lower held k ≡ false
plain_atoms text held is h k =
    ap (λ (x : List SkelAtom). is_lower x k) is ∙ none_lower (map held_atom (atoms_in text)) (all_upper (tokens text) (each_plain (tokens text) [] h).1) k

pub upper_atoms : (text : List ℕ) → all_plain (reverse (roles_in text)) ≡ true → (k : ℕ) → is_lower (atoms_in text) k ≡ false
upper_atoms text h k = sym (lower_held (atoms_in text) k) ∙ plain_atoms text (map held_atom (atoms_in text)) refl h k

-- what a reader says of a text whose tokens are all read
pub reader_plain : (text : List ℕ) (r : Reader) → HasRead (tokens text) r → r.structure.tokens ≡ length (tokens text) → r.all_plain ≡ true → all_plain (reverse (roles_in text)) ≡ true
reader_plain text r has all plain =
    let count : r.structure.tokens ≡ length (roles_in text) = all ∙ sym (length-map (tokens text) (λ token. role_of token.kind)) in
    let before : tokens_before (roles_in text) r.structure.tokens ≡ reverse (roles_in text) = ap (tokens_before (roles_in text)) count ∙ all_before (roles_in text) in
    ap all_plain (sym before) ∙ (sym has.plain ∙ plain)
