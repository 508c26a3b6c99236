-- The order of the bond between two atoms, by the half-edges of one of them.
use Rattle.std.proofs.Common.{◌≡◌, ◌≢◌, ℕ, zero, suc, ◌≤◌, ◌<◌, List, [], ◌∷◌, length, drop, get_or, slice_get, Bool, true, false, Some, refl, ap, sym, ◌∙◌, subst, arith}
use Rattle.std.specs.Prelude.{◌==◌, if◌then◌else◌, AllPairs}
use Rattle.std.specs.List.{list_any}
use Rattle.std.proofs.lemmas.Bool.{false≢true, or_parts}
use Rattle.std.proofs.lemmas.List.{drop_all}
use Rattle.std.proofs.lemmas.Option.{slice_get-get_or, slice_get_within, get_or_from_slice_get, same_Some}
use Rattle.mc_base.specs.declared.ids.AtomId.{AtomId}
use Rattle.mc_mol.specs.declared.parts.Bond.{Bond}
use Rattle.mc_mol.specs.declared.parts.HalfEdge.{HalfEdge}
use Rattle.mc_mol.specs.Molecule.{Molecule, joins, are_joined}
use Rattle.mc_mol.specs.WellFormed.{IsMolecule}
use Rattle.mc_mol.specs.HalfEdges.{half_edges, AllHaveTwins}
use Rattle.mc_mol.proofs.Halves.{are_joined-half_edges}
use Rattle.mc_mol.proofs.Apart.{joins_ends}
use Rattle.smi_mean.specs.Order.{order_between}
use Rattle.smi_write.specs.Seen.{IsBondTo}

abbrev pub Once : List Bond → Type 0
Once bonds = AllPairs (λ (b c : Bond). joins b c.first.0 c.second.0 ≡ false) bonds

pub order_found : (bonds : List Bond) (i : ℕ) (b : Bond) (u v : ℕ) → Once bonds → slice_get bonds i ≡ Some b → joins b u v ≡ true → order_between bonds u v ≡ b.order
order_found [] i b u v once at j = cc
order_found (h ∷ bonds) zero b u v once at j =
    let same : h ≡ b = same_Some h b at in
    let t : joins h u v ≡ true = ap (λ (x : Bond). joins x u v) same ∙ j in
    rw t (ap (λ (x : Bond). x.order) same)
order_found (h ∷ bonds) (suc i) b u v once at j =
    by_test (joins h u v) refl (order_found bonds i b u v (λ k l d less below. once (suc k) (suc l) d (omega arith) (omega arith)) at j)
  where
    by_test : (t : Bool) → joins h u v ≡ t → order_between bonds u v ≡ b.order → (if t then h.order else order_between bonds u v) ≡ b.order
    by_test false e more = more
    by_test true e more =
        let within = slice_get_within bonds i b at in
        let is_b : get_or bonds i h ≡ b = get_or_from_slice_get bonds i b h at in
        let apart : joins h (get_or bonds i h).first.0 (get_or bonds i h).second.0 ≡ false = once 0 (suc i) h (omega arith) (omega arith) in
        let apart' = subst (λ (x : Bond). joins h x.first.0 x.second.0 ≡ false) is_b apart in
        absurd (false≢true (sym apart' ∙ joins_ends h b u v e j))

pub order_none : (bonds : List Bond) (u v : ℕ) → are_joined bonds u v ≡ false → order_between bonds u v ≡ 1
order_none [] u v h = refl
order_none (b ∷ bonds) u v h = let r = or_parts (joins b u v) (are_joined bonds u v) h in rw r.0 (order_none bonds u v r.1)

-- a half-edge tells the order
pub half_order : (m : Molecule) (a : AtomId) (rank v : ℕ) (half : HalfEdge) (bond : Bond) → IsMolecule m → AllHaveTwins m a → slice_get (half_edges m a.0) rank ≡ Some half → half.to.0 ≡ v
    → slice_get m.bonds half.bond.0 ≡ Some bond → bond.order ≡ order_between m.bonds a.0 v
half_order m a rank v half bond is twins at to at_bond =
    let t = twins rank half at in
    let same : t.bond ≡ bond = same_Some t.bond bond (sym t.is_bond ∙ at_bond) in
    let j : joins bond a.0 v ≡ true = subst (λ (x : Bond). joins x a.0 v ≡ true) same (subst (λ (x : ℕ). joins t.bond a.0 x ≡ true) to t.joined) in
    sym (order_found m.bonds half.bond.0 bond a.0 v is.once at_bond j)

-- the bond of a number has the order of the bond that it is
pub order_of : (m : Molecule) (u v n : ℕ) (b : Bond) → IsBondTo m u v n → slice_get m.bonds n ≡ Some b → b.order ≡ order_between m.bonds u v
order_of m u v n b h at = ap (λ (x : Bond). x.order) (same_Some b h.bond (sym at ∙ h.is_bond)) ∙ h.order

pub no_half_order : (m : Molecule) (u v : ℕ) → u ≢ v → false ≡ list_any (λ (half : HalfEdge). half.to.0 == v) (half_edges m u) → 1 ≡ order_between m.bonds u v
no_half_order m u v ne none = sym (order_none m.bonds u v (sym (are_joined-half_edges m u v ne) ∙ sym none))

-- the half-edge at a rank of a list that is an atom's
pub half_at : (halves list : List HalfEdge) (k : ℕ) (d : HalfEdge) → halves ≡ list → k < length halves → slice_get list k ≡ Some (get_or halves k d)
half_at halves list k d e less = subst (λ (x : List HalfEdge). slice_get x k ≡ Some (get_or halves k d)) e (slice_get-get_or halves k d less)

-- nothing is found up to the end
pub none_found : (p : HalfEdge → Bool) (halves list : List HalfEdge) (k : ℕ) → halves ≡ list → length halves ≤ k → list_any p (drop k list) ≡ list_any p list → false ≡ list_any p list
none_found p halves list k e past same =
    let past' : length list ≤ k = subst (λ (x : List HalfEdge). length x ≤ k) e past in
    ap (list_any p) (sym (drop_all k list past')) ∙ same
