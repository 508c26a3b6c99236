-- A molecule has one list of ring sizes, and its rings are those of each molecule with the same atoms and bonds.
use Rattle.std.proofs.Common.{arith, ◌≡◌, ℕ, zero, suc, ◌≤◌, ◌<◌, List, [], ◌∷◌, length, Option, None, Some, refl, sym, ap, subst, ◌∙◌, inl, inr}
use Rattle.std.specs.Prelude.{slice_get}
use Rattle.mc_mol.specs.declared.parts.Bond.{Bond}
use Rattle.mc_mol.specs.declared.parts.Sides.{Sides}
use Rattle.mc_mol.specs.declared.parts.Slot.{Slot}
use Rattle.mc_mol.specs.Molecule.{Molecule}
use Rattle.mc_rings.specs.BlockOrder.{IsBlockOrder}
use Rattle.mc_rings.specs.Rings.{RingList, AreRingsOf}
use Rattle.mc_rings.specs.RingSizes.{IsRingSize, RingSizeIs, RingSizeAt}

-- a bond has one ring size
one_size : (bonds : List Bond) (bond : Bond) (x y : Option ℕ) → RingSizeIs bonds bond x → RingSizeIs bonds bond y → x ≡ y
one_size bonds bond None None none none' = refl
one_size bonds bond None (Some y) none is = absurd (none is.path is.ring)
one_size bonds bond (Some x) None is none = absurd (none is.path is.ring)
one_size bonds bond (Some x) (Some y) p q = ap Some (both x y p q)
  where
    both : (x y : ℕ) → IsRingSize bonds bond x → IsRingSize bonds bond y → x ≡ y
    both x y p q =
        let size_x = p.size_is in
        let size_y = q.size_is in
        let most = p.least q.path q.ring in
        let least = q.least p.path p.ring in
        omega arith

-- there is an element below the length
get_below : {A : Type 0} (xs : List A) (k : ℕ) → k < length xs → (x : A) × (slice_get xs k ≡ Some x)
get_below [] k less = absurd (omega arith)
get_below (x ∷ xs) zero less = (x, refl)
get_below (x ∷ xs) (suc k) less = get_below xs k (omega arith)

-- two lists that agree at each place
same_list : {A : Type 0} (xs ys : List A) → length xs ≡ length ys → ((k : ℕ) (x y : A) → slice_get xs k ≡ Some x → slice_get ys k ≡ Some y → x ≡ y) → xs ≡ ys
same_list [] [] e same = refl
same_list [] (y ∷ ys) e same = absurd (omega arith)
same_list (x ∷ xs) [] e same = absurd (omega arith)
same_list {A = A} (x ∷ xs) (y ∷ ys) e same =
    ap (λ (z : A). z ∷ xs) (same 0 x y refl refl) ∙ ap (λ (t : List A). y ∷ t) (same_list xs ys (omega arith) (λ k a b at_x at_y. same (suc k) a b at_x at_y))

within : {A : Type 0} (xs : List A) (k : ℕ) (x : A) → slice_get xs k ≡ Some x → k < length xs
within [] k x at = cc
within (y ∷ xs) zero x at = omega arith
within (y ∷ xs) (suc k) x at = (let h = within xs k x at in omega arith)

pub sizes_same : (m : Molecule) (r s : RingList) → AreRingsOf m r → AreRingsOf m s → r.sizes ≡ s.sizes
sizes_same m r s p q = same_list r.sizes s.sizes (p.count ∙ sym q.count) (λ k x y at_x at_y.
    let below = within r.sizes k x at_x in
    let bond = get_below m.bonds k (subst (λ (n : ℕ). k < n) p.count below) in
    one_size m.bonds bond.0 x y (p.sizes k x at_x bond.0 bond.1) (q.sizes k y at_y bond.0 bond.1))

-- stereo changes no ring
pub with_stereo : (m : Molecule) (rings : RingList) (centres : List (Option (List Slot))) (sides : List (Option Sides)) → AreRingsOf m rings → AreRingsOf (record m { centres = centres; sides = sides }) rings
with_stereo m rings centres sides r =
    let o = r.order in
    record {
      count = r.count;
      sizes = r.sizes;
      blocks = r.blocks;
      independent = r.independent;
      order = record {
        count = o.count;
        within = o.within;
        once = o.once;
        below_count = o.below_count;
        first_end = o.first_end;
        above_count = o.above_count;
        above_end = o.above_end;
        part_first = o.part_first;
        ends = o.ends;
        together = o.together;
        behind = o.behind;
      };
    }
