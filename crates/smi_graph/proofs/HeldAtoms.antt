-- Atoms as 16 bits hold them: within the limits they are the atoms themselves.
use Rattle.std.proofs.Common.{arith, ◌≡◌, ◌∙◌, ℕ, zero, suc, ◌+◌, ◌≤◌, List, [], ◌∷◌, length, Bool, true, false, Option, Some, None, refl, ap, sym, subst}
use Rattle.std.specs.Prelude.{slice_get, map, nat_lt, min, reverse, not, ◌&&◌}
use Rattle.std.proofs.lemmas.List.{length-map, length-append}
use Rattle.std.proofs.lemmas.Bool.Decides.{nat_tests}
use mathlib.Core.List.{reverse_aux}
use Rattle.mc_base.specs.declared.kind.Kind.{Kind}
use Rattle.mc_base.specs.declared.kind.Kind.TheVariants.{AromaticBond, LimitAtoms, LimitBonds, LimitRings, LimitIsotope, LimitClass, LimitCharge}
use Rattle.mc_base.specs.declared.span.Span.{Span}
use Rattle.mc_mol.specs.declared.parts.Bond as bond
use Rattle.mc_mol.specs.Parts.{independent_rings}
use Rattle.mc_mol.specs.declared.limits.TheConstants.{ATOM_LIMIT, ISOTOPE_LIMIT, RING_LIMIT}
use Rattle.smi_lex.specs.declared.token.Token.{Token}
use Rattle.smi_lex.specs.declared.token.TokenKind.{TokenKind}
use Rattle.smi_lex.specs.declared.token.TokenKind.TheVariants as kind
use Rattle.smi_graph.specs.declared.role.Role.{Role}
use Rattle.smi_graph.specs.declared.skel_atom.SkelAtom.{SkelAtom}
use Rattle.smi_graph.specs.Roles.{role_of, roles, atom_of, atoms_of}
use Rattle.smi_graph.specs.Bonds.{atom_count}
use Rattle.smi_graph.specs.Reading.{held_atom}
use Rattle.smi_graph.specs.Rules.{fails, has_high_isotope, has_high_class, has_high_charge, IsAbove, AromaticAt, BeyondAt}
use Rattle.smi_graph.specs.declared.text_bond.TextBond.{TextBond}
use Rattle.smi_graph.specs.Candidates.{is_lower, is_aromatic, bond_fails}
use Rattle.smi_graph.specs.Links.{symbol}

same_over : (n : ℕ) → nat_lt ISOTOPE_LIMIT (min n 65535) ≡ nat_lt ISOTOPE_LIMIT n
same_over n = grind (arith, nat_tests)

over_held : (p : SkelAtom → Bool) → ((atom : SkelAtom) → p (held_atom atom) ≡ p atom) → (all : List SkelAtom) (k : ℕ) → fails p (slice_get (map held_atom all) k) ≡ fails p (slice_get all k)
over_held p same [] k = refl
over_held p same (a ∷ all) zero = same a
over_held p same (a ∷ all) (suc k) = over_held p same all k

moved : (p : SkelAtom → Bool) → ((atom : SkelAtom) → p (held_atom atom) ≡ p atom) → (all : List SkelAtom) (place : ℕ)
    → (k : ℕ) × (place ≡ k + 1) × (fails p (slice_get (map held_atom all) k) ≡ true) → (k : ℕ) × (place ≡ k + 1) × (fails p (slice_get all k) ≡ true)
moved p same all place (k, at, holds) = (k, at, sym (over_held p same all k) ∙ holds)

back : (p : SkelAtom → Bool) → ((atom : SkelAtom) → p (held_atom atom) ≡ p atom) → (all : List SkelAtom) (place : ℕ)
    → (k : ℕ) × (place ≡ k + 1) × (fails p (slice_get all k) ≡ true) → (k : ℕ) × (place ≡ k + 1) × (fails p (slice_get (map held_atom all) k) ≡ true)
back p same all place (k, at, holds) = (k, at, over_held p same all k ∙ holds)

heavy_same : (atom : SkelAtom) → has_high_isotope (held_atom atom) ≡ has_high_isotope atom
heavy_same atom = same_over atom.isotope

class_same : (atom : SkelAtom) → has_high_class (held_atom atom) ≡ has_high_class atom
class_same atom = same_over atom.class

charge_same : (atom : SkelAtom) → has_high_charge (held_atom atom) ≡ has_high_charge atom
charge_same atom = refl

size : (all : List SkelAtom) → length (map held_atom all) ≡ length all
size all = length-map all held_atom

-- limits don't depend on how the atoms are held
pub beyond_real : (all : List SkelAtom) (bs : List bond.Bond) (kind : Kind) (place : ℕ) → BeyondAt (map held_atom all) bs kind place → BeyondAt all bs kind place
beyond_real all bs LimitAtoms place w = subst (λ (n : ℕ). IsAbove n ATOM_LIMIT place) (size all) w
beyond_real all bs LimitBonds place w = w
beyond_real all bs LimitRings place w = subst (λ (n : ℕ). IsAbove (independent_rings bs n) RING_LIMIT place) (size all) w
beyond_real all bs LimitIsotope place w = moved has_high_isotope heavy_same all place w
beyond_real all bs LimitClass place w = moved has_high_class class_same all place w
beyond_real all bs LimitCharge place w = moved has_high_charge charge_same all place w
beyond_real all bs _ place w = w

pub beyond_held : (all : List SkelAtom) (bs : List bond.Bond) (kind : Kind) (place : ℕ) → BeyondAt all bs kind place → BeyondAt (map held_atom all) bs kind place
beyond_held all bs LimitAtoms place w = subst (λ (n : ℕ). IsAbove n ATOM_LIMIT place) (sym (size all)) w
beyond_held all bs LimitBonds place w = w
beyond_held all bs LimitRings place w = subst (λ (n : ℕ). IsAbove (independent_rings bs n) RING_LIMIT place) (sym (size all)) w
beyond_held all bs LimitIsotope place w = back has_high_isotope heavy_same all place w
beyond_held all bs LimitClass place w = back has_high_class class_same all place w
beyond_held all bs LimitCharge place w = back has_high_charge charge_same all place w
beyond_held all bs _ place w = w

-- nor does the case of an atom
pub lower_held : (all : List SkelAtom) (k : ℕ) → is_lower (map held_atom all) k ≡ is_lower all k
lower_held [] k = refl
lower_held (a ∷ all) zero = refl
lower_held (a ∷ all) (suc k) = lower_held all k

fails_held : (all : List SkelAtom) (o : Option TextBond) → bond_fails (map held_atom all) o ≡ bond_fails all o
fails_held all None = refl
fails_held all (Some b) =
    ap (λ (t : Bool). is_aromatic (symbol b) && not (t && is_lower (map held_atom all) b.second.0)) (lower_held all b.first.0)
    ∙ ap (λ (t : Bool). is_aromatic (symbol b) && not (is_lower all b.first.0 && t)) (lower_held all b.second.0)

pub aromatic_real : (all : List SkelAtom) (bs : List TextBond) (kind : Kind) (place : ℕ) → AromaticAt (map held_atom all) bs kind place → AromaticAt all bs kind place
aromatic_real all bs AromaticBond place (k, at, holds) = (k, at, sym (fails_held all (slice_get bs k)) ∙ holds)
aromatic_real all bs _ place w = w

pub aromatic_held : (all : List SkelAtom) (bs : List TextBond) (kind : Kind) (place : ℕ) → AromaticAt all bs kind place → AromaticAt (map held_atom all) bs kind place
aromatic_held all bs AromaticBond place (k, at, holds) = (k, at, fails_held all (slice_get bs k) ∙ holds)
aromatic_held all bs _ place w = w

-- within the limits

small : (n : ℕ) → nat_lt ISOTOPE_LIMIT n ≡ false → min n 65535 ≡ n
small n h = grind (arith, nat_tests)

held_is : (atom : SkelAtom) → has_high_isotope atom ≡ false → has_high_class atom ≡ false → held_atom atom ≡ atom
held_is atom within low = ap (λ (n : ℕ). record atom { isotope = n; class = min atom.class 65535 }) (small atom.isotope within) ∙ ap (λ (n : ℕ). record atom { class = n }) (small atom.class low)

pub all_held : (all : List SkelAtom) → ((k : ℕ) → fails has_high_isotope (slice_get all k) ≡ false) → ((k : ℕ) → fails has_high_class (slice_get all k) ≡ false) → map held_atom all ≡ all
all_held [] within low = refl
all_held (a ∷ all) within low =
    ap (λ (x : SkelAtom). x ∷ map held_atom all) (held_is a (within 0) (low 0)) ∙ ap (λ (x : List SkelAtom). a ∷ x) (all_held all (λ k. within (suc k)) (λ k. low (suc k)))

-- Each token is an atom or none

count_kind : (k : TokenKind) (span : Span) (acc : List Role) → atom_count (role_of k ∷ acc) ≡ length (atom_of k span) + atom_count acc
count_kind (kind.Bare e l) span acc = omega arith
count_kind (kind.Bracket e l i ch h q c) span acc = omega arith
count_kind (kind.Bond m) span acc = omega arith
count_kind (kind.Ring n) span acc = omega arith
count_kind kind.Enter span acc = omega arith
count_kind kind.Leave span acc = omega arith
count_kind kind.Dot span acc = omega arith

count_more : (ts : List Token) (acc : List Role) → atom_count (reverse_aux (roles ts) acc) ≡ length (atoms_of ts) + atom_count acc
count_more [] acc = omega arith
count_more (t ∷ ts) acc =
    let here = count_kind t.kind t.span acc in
    let rest = count_more ts (role_of t.kind ∷ acc) in
    let len = length-append (atom_of t.kind t.span) (atoms_of ts) in omega arith

pub count_atoms : (ts : List Token) → atom_count (reverse (roles ts)) ≡ length (atoms_of ts)
count_atoms ts = let e = count_more ts [] in omega arith

one_atom : (k : TokenKind) (span : Span) → length (atom_of k span) ≤ 1
one_atom (kind.Bare e l) span = omega arith
one_atom (kind.Bracket e l i ch h q c) span = omega arith
one_atom (kind.Bond m) span = omega arith
one_atom (kind.Ring n) span = omega arith
one_atom kind.Enter span = omega arith
one_atom kind.Leave span = omega arith
one_atom kind.Dot span = omega arith

pub few_atoms : (ts : List Token) → length (atoms_of ts) ≤ length ts
few_atoms [] = omega arith
few_atoms (t ∷ ts) =
    let one = one_atom t.kind t.span in
    let rest = few_atoms ts in
    let len = length-append (atom_of t.kind t.span) (atoms_of ts) in omega arith
