-- What is found of a text, put together.
use Rattle.std.proofs.Common.{arith, ◌≡◌, ◌∙◌, ℕ, zero, suc, ◌+◌, ◌≤◌, ◌<◌, List, [], ◌∷◌, ◌++◌, length, reverse, Bool, true, false, Option, Some, None, refl, ap, sym, subst, inl, inr}
use Rattle.std.specs.List.{list_all}
use Rattle.std.specs.Prelude.{map, slice_get, take}
use Rattle.std.proofs.lemmas.Bool.{cases_lt, false≢true, false_from_ne_true}
use Rattle.std.proofs.lemmas.List.{length-map, length-reverse, take_all}
use Rattle.mc_mol.specs.declared.limits.TheConstants.{BOND_LIMIT}
use Rattle.mc_base.specs.declared.kind.Kind.{Kind}
use Rattle.mc_base.specs.declared.kind.Kind.TheVariants.{RingOpen, RingPair, LimitAtoms, LimitBonds, LimitIsotope, LimitClass}
use Rattle.mc_base.specs.Shown.{IsFirst}
use Rattle.mc_base.specs.declared.span.Span.{Span}
use Rattle.smi_lex.specs.declared.token.Token.{Token}
use Rattle.smi_lex.specs.declared.token.TokenKind.{TokenKind}
use Rattle.smi_lex.specs.declared.token.TokenKind.TheVariants as token
use Rattle.smi_lex.specs.Tokens.{tokens, unread}
use Rattle.smi_graph.specs.declared.first_faults.Fault.{Fault}
use Rattle.smi_graph.specs.declared.reader.Reader.{Reader}
use Rattle.smi_graph.specs.declared.role.Role.{Role}
use Rattle.smi_graph.specs.declared.skel_atom.SkelAtom.{SkelAtom}
use Rattle.smi_graph.specs.declared.text_bond.TextBond.{TextBond}
use Rattle.smi_graph.specs.Roles.{role_of, atom_of, atoms_of, bare_atom, bracket_atom}
use Rattle.smi_graph.specs.RingRules.{pair_again_at}
use Rattle.smi_graph.specs.Order.{tokens_before}
use Rattle.smi_graph.specs.Bonds.{atom_count, open_end, text_bonds}
use Rattle.mc_base.specs.declared.ids.AtomId.{AtomId}
use Rattle.smi_graph.specs.declared.ring_table.RingEnd.{RingEnd}
use Rattle.smi_graph.specs.RingSlots.{HoldsNeighbours, AreEntries, atom_id}
use Rattle.smi_graph.proofs.ListsLaw.{AreHeld, are_held}
use Rattle.smi_graph.specs.Links.{bond_of, bonds_of}
use Rattle.smi_graph.specs.NeighbourLists.{AreNeighboursOf}
use Rattle.smi_graph.specs.TextOrder.{neighbours}
use Rattle.smi_graph.proofs.JoinedAtoms.{are_neighbours}
use Rattle.smi_graph.proofs.SimpleBonds.{Simple, simple_of}
use Rattle.std.proofs.lemmas.Option.{same_Some}
use Rattle.smi_graph.specs.Candidates.{AreCandidates}
use Rattle.smi_graph.specs.Reading.{held_atom, HasRead}
use Rattle.smi_graph.specs.Rules.{roles_in, atoms_in, bonds_in, text_bonds_in, is_built, is_built_kind, fails, has_high_isotope, has_high_class, WrongAt, AromaticAt, BeyondAt, BreaksAt}
use Rattle.smi_graph.specs.Faults.{refusal_at, IsFirstFault}
use Rattle.smi_graph.specs.Skeletons.{AreBonds, IsNoBarrier, IsSkeleton}
use Rattle.smi_graph.proofs.Prefixes.{all_before}
use Rattle.smi_graph.proofs.SoundBonds.{NeverPairs, bonds_sound, few_bonds, never_pairs}
use Rattle.smi_graph.proofs.HeldAtoms.{aromatic_real, aromatic_held, beyond_real, beyond_held, all_held, count_atoms, few_atoms}
use Rattle.smi_graph.proofs.Lifting.{shows_aromatic, shows_beyond, shows_nothing}

-- what the reader has of a text: its bonds, and its atoms as they are held
pub record Has (text : List ℕ) (bs : List TextBond) (held : List SkelAtom) : Type 0 where
  pub whole : unread text ≡ []
  pub built : is_built text ≡ true
  pub bonds : bs ≡ text_bonds_in text
  pub atoms : held ≡ map held_atom (atoms_in text)

pub has_all : (text : List ℕ) (r : Reader) → HasRead (tokens text) r → r.structure.tokens ≡ length (tokens text) → unread text ≡ [] → r.all_built ≡ true
    → Has text r.structure.bonds.items r.atoms.items
has_all text r has all whole built =
    let taken : take r.structure.tokens (tokens text) ≡ tokens text = ap (λ (n : ℕ). take n (tokens text)) all ∙ take_all (length (tokens text)) (tokens text) (omega arith) in
    let count : r.structure.tokens ≡ length (roles_in text) = all ∙ sym (length-map (tokens text) (λ token. role_of token.kind)) in
    let before : tokens_before (roles_in text) r.structure.tokens ≡ reverse (roles_in text) = ap (tokens_before (roles_in text)) count ∙ all_before (roles_in text) in
    record {
      whole = whole;
      built = ap (list_all (λ (token : Token). is_built_kind token.kind)) (sym taken) ∙ (sym has.built ∙ built);
      bonds = has.follows.reads.bonds ∙ ap text_bonds before;
      atoms = has.atoms ∙ ap (λ (x : List Token). map held_atom (atoms_of x)) taken;
    }

size : (text : List ℕ) (held : List SkelAtom) → held ≡ map held_atom (atoms_in text) → length held ≡ length (atoms_in text)
size text held is = ap (λ (x : List SkelAtom). length x) is ∙ length-map (atoms_in text) held_atom

pub sound : (text : List ℕ) (bs : List TextBond) (held : List SkelAtom) → Has text bs held → IsFirstFault (WrongAt (roles_in text)) None → AreBonds (length held) (map bond_of bs)
sound text bs held h right =
    let ks : List Role = roles_in text in
    let never : NeverPairs (reverse ks) = subst NeverPairs (all_before ks) (never_pairs ks (length ks) (omega arith) (λ j below. false_from_ne_true (pair_again_at ks j) (λ holds. right RingPair j holds))) in
    let count : atom_count (reverse ks) ≡ length held = count_atoms (tokens text) ∙ sym (size text held h.atoms) in
    subst (λ (n : ℕ). AreBonds n (map bond_of bs)) count (subst (λ (x : List TextBond). AreBonds (atom_count (reverse ks)) (map bond_of x)) (sym h.bonds) (bonds_sound (reverse ks) never))

pub few : (text : List ℕ) (bs : List TextBond) (held : List SkelAtom) → Has text bs held → length held ≤ length (tokens text)
few text bs held h = let s = size text held h.atoms in let f = few_atoms (tokens text) in omega arith

pub few_found : (text : List ℕ) (bs : List TextBond) (held : List SkelAtom) → Has text bs held → length bs ≤ length (tokens text)
few_found text bs held h =
    let f = few_bonds (reverse (roles_in text)) in
    let r = length-reverse (roles_in text) in
    let n = length-map (tokens text) (λ (token : Token). role_of token.kind) in
    let e : length bs ≡ length (text_bonds_in text) = ap (λ (x : List TextBond). length x) h.bonds in omega arith

real : (text : List ℕ) (bs : List TextBond) (held : List SkelAtom) → Has text bs held → (kind : Kind) (place : ℕ) → BeyondAt held (map bond_of bs) kind place → BeyondAt (atoms_in text) (bonds_in text) kind place
real text bs held h kind place w =
    beyond_real (atoms_in text) (bonds_in text) kind place (subst (λ (x : List TextBond). BeyondAt (map held_atom (atoms_in text)) (map bond_of x) kind place) h.bonds (subst (λ (x : List SkelAtom). BeyondAt x (map bond_of bs) kind place) h.atoms w))

as_held : (text : List ℕ) (bs : List TextBond) (held : List SkelAtom) → Has text bs held → (kind : Kind) (place : ℕ) → BeyondAt (atoms_in text) (bonds_in text) kind place → BeyondAt held (map bond_of bs) kind place
as_held text bs held h kind place w =
    subst (λ (x : List SkelAtom). BeyondAt x (map bond_of bs) kind place) (sym h.atoms) (subst (λ (x : List TextBond). BeyondAt (map held_atom (atoms_in text)) (map bond_of x) kind place) (sym h.bonds) (beyond_held (atoms_in text) (bonds_in text) kind place w))

real_aromatic : (text : List ℕ) (bs : List TextBond) (held : List SkelAtom) → Has text bs held → (kind : Kind) (place : ℕ) → AromaticAt held bs kind place → AromaticAt (atoms_in text) (text_bonds_in text) kind place
real_aromatic text bs held h kind place w =
    aromatic_real (atoms_in text) (text_bonds_in text) kind place (subst (λ (x : List TextBond). AromaticAt (map held_atom (atoms_in text)) x kind place) h.bonds (subst (λ (x : List SkelAtom). AromaticAt x bs kind place) h.atoms w))

held_aromatic : (text : List ℕ) (bs : List TextBond) (held : List SkelAtom) → Has text bs held → (kind : Kind) (place : ℕ) → AromaticAt (atoms_in text) (text_bonds_in text) kind place → AromaticAt held bs kind place
held_aromatic text bs held h kind place w =
    subst (λ (x : List SkelAtom). AromaticAt x bs kind place) (sym h.atoms) (subst (λ (x : List TextBond). AromaticAt (map held_atom (atoms_in text)) x kind place) (sym h.bonds) (aromatic_held (atoms_in text) (text_bonds_in text) kind place w))

pub aromatic : (text : List ℕ) (bs : List TextBond) (held : List SkelAtom) (fault : Fault) → Has text bs held
    → IsFirstFault (WrongAt (roles_in text)) None → IsFirstFault (AromaticAt held bs) (Some fault) → IsFirst (BreaksAt text) IsNoBarrier (refusal_at fault.kind fault.place)
aromatic text bs held fault h right found = shows_aromatic text fault h.whole h.built right (record {
  stands = real_aromatic text bs held h fault.kind fault.place found.stands;
  least = λ place w. found.least place (held_aromatic text bs held h fault.kind place w);
  first = λ kind place less w. found.first kind place less (held_aromatic text bs held h kind place w);
  reason = found.reason;
})

pub beyond : (text : List ℕ) (bs : List TextBond) (held : List SkelAtom) (fault : Fault) → Has text bs held
    → IsFirstFault (WrongAt (roles_in text)) None → IsFirstFault (AromaticAt held bs) None → IsFirstFault (BeyondAt held (map bond_of bs)) (Some fault)
    → IsFirst (BreaksAt text) IsNoBarrier (refusal_at fault.kind fault.place)
beyond text bs held fault h right lower found = shows_beyond text fault h.whole h.built right (λ kind place w. lower kind place (held_aromatic text bs held h kind place w)) (record {
  stands = real text bs held h fault.kind fault.place found.stands;
  least = λ place w. found.least place (as_held text bs held h fault.kind place w);
  first = λ kind place less w. found.first kind place less (as_held text bs held h kind place w);
  reason = found.reason;
})

low : (n : ℕ) → (BOND_LIMIT < n → ⊥) → n ≤ BOND_LIMIT
low n h = elim (cases_lt BOND_LIMIT n) [
  | inl more ↦ absurd (h more)
  | inr few ↦ few
]

-- no more atoms and bonds than the limits
pub few_within : (text : List ℕ) (bs : List TextBond) (held : List SkelAtom) → IsFirstFault (BeyondAt held (map bond_of bs)) None → (length held ≤ 999) × (length bs ≤ 999)
few_within text bs held within = (
  low (length held) (λ more. within LimitAtoms (length held) (refl, more)),
  low (length bs) (λ more. within LimitBonds (length (map bond_of bs)) (refl, subst (λ (n : ℕ). BOND_LIMIT < n) (sym (length-map bs bond_of)) more)),
)

none_open : (text : List ℕ) → IsFirstFault (WrongAt (roles_in text)) None → (n : ℕ) → open_end n (reverse (roles_in text)) ≡ None
none_open text right n = by_end (open_end n (reverse (roles_in text))) refl
  where
    by_end : (o : Option RingEnd) → open_end n (reverse (roles_in text)) ≡ o → o ≡ None
    by_end None e = refl
    by_end (Some end) e = absurd (right RingOpen end.token (n, end, e, refl))

-- the neighbours that the reader has of a text of which no token is wrong
pub lists_of : (text : List ℕ) (r : Reader) (lists : List (List AtomId)) (led : List Bool) → HasRead (tokens text) r → r.structure.tokens ≡ length (tokens text)
    → Has text r.structure.bonds.items r.atoms.items → IsFirstFault (WrongAt (roles_in text)) None
    → ((before : List Role) → HoldsNeighbours r.structure.neighbours before → AreEntries before lists) → led ≡ r.structure.neighbours.led.items
    → AreHeld (roles_in text) (length r.atoms.items) lists led
lists_of text r lists led has all h right entries is =
    let ks : List Role = roles_in text in
    let count : r.structure.tokens ≡ length ks = all ∙ sym (length-map (tokens text) (λ token. role_of token.kind)) in
    let before : tokens_before ks r.structure.tokens ≡ reverse ks = ap (tokens_before ks) count ∙ all_before ks in
    let holds : HoldsNeighbours r.structure.neighbours (reverse ks) = subst (λ (x : List Role). HoldsNeighbours r.structure.neighbours x) before has.follows.reads.neighbours in
    are_held ks r.structure.neighbours lists led (length r.atoms.items) holds (entries (reverse ks) holds) is
    (count_atoms (tokens text) ∙ sym (size text r.atoms.items h.atoms)) (none_open text right)

below_length : (lists : List (List AtomId)) (a : ℕ) (list : List AtomId) → slice_get lists a ≡ Some list → a < length lists
below_length [] a list at = cc
below_length (x ∷ lists) zero list at = omega arith
below_length (x ∷ lists) (suc a) list at = let less = below_length lists a list at in omega arith

-- each of the lists has the atoms that are joined to its atom
lists_stand : (text : List ℕ) (bs : List TextBond) (held : List SkelAtom) → Has text bs held → IsFirstFault (WrongAt (roles_in text)) None
    → (lists : List (List AtomId)) (led : List Bool) → AreHeld (roles_in text) (length held) lists led
    → (a : ℕ) (list : List AtomId) → slice_get lists a ≡ Some list → AreNeighboursOf (map bond_of bs) a list
lists_stand text bs held h right lists led held_lists a list at =
    let ks : List Role = roles_in text in
    let s = sound text bs held h right in
    let simple : Simple (length held) (bonds_of (reverse ks)) = subst (λ (x : List TextBond). Simple (length held) (map bond_of x)) h.bonds (simple_of (length held) (map bond_of bs) s.each s.once) in
    let less = below_length lists a list at in
    let count = held_lists.lists_count in
    let same : map atom_id (neighbours a ks) ≡ list = same_Some (map atom_id (neighbours a ks)) list (sym (held_lists.lists_are a (omega arith)) ∙ at) in
    subst (λ (x : List AtomId). AreNeighboursOf (map bond_of bs) a x) same
    (subst (λ (x : List TextBond). AreNeighboursOf (map bond_of x) a (map atom_id (neighbours a ks))) (sym h.bonds) (are_neighbours ks a (length held) simple))

-- an atom without brackets has no mark
one_marked : (kind : TokenKind) (span : Span) (more : List SkelAtom) → ((k : ℕ) (atom : SkelAtom) → slice_get (map held_atom more) k ≡ Some atom → atom.bare ≡ true → atom.chiral ≡ None)
    → (k : ℕ) (atom : SkelAtom) → slice_get (map held_atom (atom_of kind span ++ more)) k ≡ Some atom → atom.bare ≡ true → atom.chiral ≡ None
one_marked (token.Bare element lower) span more rest zero atom at bare = sym (ap (λ (x : SkelAtom). x.chiral) (same_Some (held_atom (bare_atom element lower span)) atom at))
one_marked (token.Bare element lower) span more rest (suc k) atom at bare = rest k atom at bare
one_marked (token.Bracket element lower isotope chiral hydrogens charge class) span more rest zero atom at bare =
    absurd (false≢true (ap (λ (x : SkelAtom). x.bare) (same_Some (held_atom (bracket_atom element lower isotope chiral hydrogens charge class span)) atom at) ∙ bare))
one_marked (token.Bracket element lower isotope chiral hydrogens charge class) span more rest (suc k) atom at bare = rest k atom at bare
one_marked (token.Bond mark) span more rest k atom at bare = rest k atom at bare
one_marked (token.Ring number) span more rest k atom at bare = rest k atom at bare
one_marked token.Enter span more rest k atom at bare = rest k atom at bare
one_marked token.Leave span more rest k atom at bare = rest k atom at bare
one_marked token.Dot span more rest k atom at bare = rest k atom at bare

marks_in_brackets : (ts : List Token) (k : ℕ) (atom : SkelAtom) → slice_get (map held_atom (atoms_of ts)) k ≡ Some atom → atom.bare ≡ true → atom.chiral ≡ None
marks_in_brackets [] k atom at bare = cc
marks_in_brackets (t ∷ ts) k atom at bare = one_marked t.kind t.span (atoms_of ts) (λ j a is b. marks_in_brackets ts j a is b) k atom at bare

-- a text with no fault
pub nothing : (text : List ℕ) (bs : List TextBond) (held : List SkelAtom) (candidates : List Bool) → Has text bs held
    → IsFirstFault (WrongAt (roles_in text)) None → IsFirstFault (AromaticAt held bs) None → IsFirstFault (BeyondAt held (map bond_of bs)) None → AreCandidates held bs candidates
    → (lists : List (List AtomId)) (led : List Bool) → AreHeld (roles_in text) (length held) lists led
    → IsSkeleton text (record { atoms = held; bonds = bs; candidates = candidates; neighbours = lists; led = led })
nothing text bs held candidates h right lower within are lists led held_lists =
    let inside : IsFirstFault (BeyondAt (atoms_in text) (bonds_in text)) None = λ kind place w. within kind place (as_held text bs held h kind place w) in
    let isotopes : (k : ℕ) → fails has_high_isotope (slice_get (atoms_in text) k) ≡ false = λ k. false_from_ne_true _ (λ holds. inside LimitIsotope (k + 1) (k, refl, holds)) in
    let classes : (k : ℕ) → fails has_high_class (slice_get (atoms_in text) k) ≡ false = λ k. false_from_ne_true _ (λ holds. inside LimitClass (k + 1) (k, refl, holds)) in
    let few_ones = few_within text bs held within in
    record {
      accepted = shows_nothing text h.whole h.built right (λ kind place w. lower kind place (held_aromatic text bs held h kind place w)) inside;
      atoms = h.atoms ∙ all_held (atoms_in text) isotopes classes;
      bonds = h.bonds;
      neighbours = record { lists = held_lists.lists_are; led = held_lists.led_are };
      limits = record { few_atoms = few_ones.0; few_bonds = few_ones.1; sound = sound text bs held h right; candidates = are; lists = held_lists.lists_count; led = held_lists.led_count; brackets = λ k atom at bare. marks_in_brackets (tokens text) k atom (ap (λ (x : List SkelAtom). slice_get x k) (sym h.atoms) ∙ at) bare; neighbours = λ a list at. lists_stand text bs held h right lists led held_lists a list at };
    }
