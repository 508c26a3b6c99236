-- One atom more is written.
use Rattle.std.proofs.Common.{◌≡◌, ℕ, suc, ◌+◌, ◌≤◌, ◌<◌, List, ◌∷◌, ◌++◌, length, map, drop, get_or, false, Bool, Option, ap, sym, ◌∙◌, subst, arith}
use Rattle.std.specs.Prelude.{flat_map}
use Rattle.std.specs.List.{All}
use Rattle.std.proofs.lemmas.List.{append_assoc, length-map, get_or-map, get_or_default}
use Rattle.std.proofs.lemmas.Grind.{flat_map-append}
use Rattle.std.proofs.Math.Seq.{drop-cons}
use Rattle.mc_base.specs.declared.ids.AtomId.{AtomId}
use Rattle.mc_mol.specs.Molecule.{Molecule}
use Rattle.smi_lex.specs.declared.token.TokenKind.{TokenKind}
use Rattle.smi_lex.specs.declared.token.TokenKind.TheVariants.{Bare}
use Rattle.mc_elements.specs.declared.element.Element.TheVariants.{C}
use Rattle.smi_mean.specs.Order.{graph_of, order, parents, atoms, at, has_ring}
use Rattle.smi_mean.specs.RingNumbers.{ending, kept, sorted, onto_all}
use Rattle.smi_mean.specs.Written.{bond_symbol, before_atom, atom_token, text_from, ring_tokens, closed_tokens, opened_tokens, spelling}
use Rattle.smi_mean.specs.WrittenPlaces.{atom_mark}
use Rattle.smi_write.specs.CentreMarks.{marked_token}
use Rattle.smi_write.specs.declared.order.WrittenAtoms.{WrittenAtoms}
use Rattle.smi_write.specs.declared.ring_numbers.OpenRing.{OpenRing}
use Rattle.smi_write.specs.OpenRings.{Holds}
use Rattle.smi_write.specs.Opening.{opened_pairs, later_partners}
use Rattle.smi_write.specs.Texts.{rest_tokens, open_pairs}
use Rattle.smi_write.specs.WrittenOrder.{IsWrittenOrder}
use Rattle.smi_write.proofs.Walk.{order_nested, length_parents}
use Rattle.smi_write.proofs.Once.{length_atoms}
use Rattle.smi_write.proofs.Partners.{length_order, atom_found, at_below}

-- the tokens of one atom and of those behind it
abbrev pub TokensOf : Molecule → ℕ → List TokenKind
TokensOf m k =
    before_atom (λ j l. bond_symbol (graph_of m) j l) k (get_or (parents (order (graph_of m))) k 0) (drop (suc k) (parents (order (graph_of m))))
    ++ (atom_token m (at (graph_of m) k) ∷ (ring_tokens (λ j l. bond_symbol (graph_of m) j l) (λ j l. has_ring (graph_of m) j l) (length m.atoms) k ++ rest_tokens m (suc k)))

rest_step : (m : Molecule) (k : ℕ) → k < length m.atoms → rest_tokens m k ≡ TokensOf m k
rest_step m k less =
    let whole : length (order (graph_of m)) ≡ length m.atoms = length_order (graph_of m) in
    let len = length_atoms (order (graph_of m)) in
    let plen = length_parents (order (graph_of m)) in
    let tlen : length (map (atom_token m) (atoms (order (graph_of m)))) ≡ length (atoms (order (graph_of m))) = length-map (atoms (order (graph_of m))) (atom_token m) in
    let t = drop-cons (map (atom_token m) (atoms (order (graph_of m)))) k (Bare C false) (omega arith) in
    let p = drop-cons (parents (order (graph_of m))) k 0 (omega arith) in
    let is = get_or-map (atom_token m) (atoms (order (graph_of m))) k 0 (Bare C false) (omega arith) in
    ap (λ (ts : List TokenKind). text_from (λ j l. bond_symbol (graph_of m) j l) (λ j l. has_ring (graph_of m) j l) (length m.atoms) k ts (drop k (parents (order (graph_of m)))))
    (t ∙ ap (λ (x : TokenKind). x ∷ drop (suc k) (map (atom_token m) (atoms (order (graph_of m))))) is)
    ∙ ap (λ (qs : List ℕ). text_from (λ j l. bond_symbol (graph_of m) j l) (λ j l. has_ring (graph_of m) j l) (length m.atoms) k
    (atom_token m (at (graph_of m) k) ∷ drop (suc k) (map (atom_token m) (atoms (order (graph_of m))))) qs) p

spelled : (b r s : List TokenKind) (t : TokenKind) → flat_map spelling (b ++ (t ∷ (r ++ s))) ≡ flat_map spelling b ++ (spelling t ++ (flat_map spelling r ++ flat_map spelling s))
spelled b r s t = flat_map-append spelling b (t ∷ (r ++ s)) ∙ ap (λ (x : List ℕ). flat_map spelling b ++ (spelling t ++ x)) (flat_map-append spelling r s)

joined : (old mid new b t r s s' : List ℕ) → s' ≡ s → mid ≡ old ++ (b ++ t) → new ≡ mid ++ r → new ++ s' ≡ old ++ (b ++ (t ++ (r ++ s)))
joined old mid new b t r s s' e f g =
    ap (λ (x : List ℕ). new ++ x) e ∙ ap (λ (x : List ℕ). x ++ s) (g ∙ ap (λ (x : List ℕ). x ++ r) f)
    ∙ append_assoc (old ++ (b ++ t)) r s ∙ append_assoc old (b ++ t) (r ++ s) ∙ ap (λ (x : List ℕ). old ++ x) (append_assoc b t (r ++ s))

pub text_step : (m : Molecule) (w : WrittenAtoms) (k : ℕ) (mark : Option Bool) (old mid new whole : List ℕ) → IsWrittenOrder m w → k < length m.atoms
    → mark ≡ atom_mark m (at (graph_of m) k) → mid ≡ old ++ (flat_map spelling (before_atom (λ j l. bond_symbol (graph_of m) j l) k (get_or w.parents.items k 0) (drop (k + 1) w.parents.items)) ++ spelling (marked_token m (at (graph_of m) k) mark))
    → new ≡ mid ++ flat_map spelling (closed_tokens (sorted (ending k (open_pairs m k))) ++ opened_tokens (opened_pairs m (open_pairs m k) k (later_partners m k k)))
    → old ++ flat_map spelling (rest_tokens m k) ≡ whole → new ++ flat_map spelling (rest_tokens m (k + 1)) ≡ whole
text_step m w k mark old mid new whole h less is_mark e f was =
    let one : k + 1 ≡ suc k = omega arith in
    let e' : mid ≡ old ++ (flat_map spelling (before_atom (λ j l. bond_symbol (graph_of m) j l) k (get_or (parents (order (graph_of m))) k 0) (drop (suc k) (parents (order (graph_of m))))) ++ spelling (atom_token m (at (graph_of m) k))) =
    e ∙ ap (λ (x : Option Bool). old ++ (flat_map spelling (before_atom (λ j l. bond_symbol (graph_of m) j l) k (get_or w.parents.items k 0) (drop (k + 1) w.parents.items)) ++ spelling (marked_token m (at (graph_of m) k) x))) is_mark
    ∙ ap (λ (x : List ℕ). old ++ (flat_map spelling (before_atom (λ j l. bond_symbol (graph_of m) j l) k (get_or x k 0) (drop (k + 1) x)) ++ spelling (atom_token m (at (graph_of m) k)))) h.parents_are
    ∙ ap (λ (n : ℕ). old ++ (flat_map spelling (before_atom (λ j l. bond_symbol (graph_of m) j l) k (get_or (parents (order (graph_of m))) k 0) (drop n (parents (order (graph_of m))))) ++ spelling (atom_token m (at (graph_of m) k)))) one in
    joined old mid new
    (flat_map spelling (before_atom (λ j l. bond_symbol (graph_of m) j l) k (get_or (parents (order (graph_of m))) k 0) (drop (suc k) (parents (order (graph_of m))))))
    (spelling (atom_token m (at (graph_of m) k)))
    (flat_map spelling (ring_tokens (λ j l. bond_symbol (graph_of m) j l) (λ j l. has_ring (graph_of m) j l) (length m.atoms) k))
    (flat_map spelling (rest_tokens m (suc k)))
    (flat_map spelling (rest_tokens m (k + 1))) (ap (λ (n : ℕ). flat_map spelling (rest_tokens m n)) one) e' f
    ∙ ap (λ (x : List ℕ). old ++ x) (sym (spelled (before_atom (λ j l. bond_symbol (graph_of m) j l) k (get_or (parents (order (graph_of m))) k 0) (drop (suc k) (parents (order (graph_of m)))))
    (ring_tokens (λ j l. bond_symbol (graph_of m) j l) (λ j l. has_ring (graph_of m) j l) (length m.atoms) k) (rest_tokens m (suc k)) (atom_token m (at (graph_of m) k))))
    ∙ ap (λ (x : List TokenKind). old ++ flat_map spelling x) (sym (rest_step m k less)) ∙ was

pub pairs_step : (m : Molecule) (k : ℕ) (rings : List OpenRing) → Holds rings (onto_all (opened_pairs m (open_pairs m k) k (later_partners m k k)) (kept k (open_pairs m k)))
    → Holds rings (open_pairs m (k + 1))
pairs_step m k rings h = let one : suc k ≡ k + 1 = omega arith in subst (λ (n : ℕ). Holds rings (open_pairs m n)) one h

-- parents stand at earlier ranks
pub parents_low : (m : Molecule) (w : WrittenAtoms) (parent_list : List ℕ) → IsWrittenOrder m w → parent_list ≡ w.parents.items → (k : ℕ) → k < length parent_list → get_or parent_list k 0 ≤ length parent_list
parents_low m w parent_list h e k less =
    let same : parent_list ≡ parents (order (graph_of m)) = e ∙ h.parents_are in
    let less' : k < length (parents (order (graph_of m))) = subst (λ (x : List ℕ). k < length x) same less in
    let low : get_or (parents (order (graph_of m))) k 0 < 1 + k = (order_nested (graph_of m)).earlier k less' in
    let is : get_or parent_list k 0 ≡ get_or (parents (order (graph_of m))) k 0 = ap (λ (x : List ℕ). get_or x k 0) same in omega arith

-- each atom of the order is one of the molecule
pub order_within : (m : Molecule) (w : WrittenAtoms) (list : List AtomId) → IsWrittenOrder m w → list ≡ w.atoms.items → All (λ atom. atom.0 < length m.atoms) list
order_within m w list h e = λ k d less.
    let less' : k < length w.atoms.items = subst (λ (x : List AtomId). k < length x) e less in
    let count = h.count in
    let is : (get_or w.atoms.items k d).0 ≡ at (graph_of m) k = atom_found m w k (get_or w.atoms.items k d) h (omega arith) (get_or_default w.atoms.items k d (get_or w.atoms.items k d) less') in
    subst (λ (x : List AtomId). (get_or x k d).0 < length m.atoms) (sym e) (subst (λ (x : ℕ). x < length m.atoms) (sym is) (at_below m k (omega arith)))
