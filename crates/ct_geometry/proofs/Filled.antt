-- A list of options that is filled from the front.
use Rattle.std.proofs.Common.{arith, ◌≡◌, ◌∙◌, ℕ, zero, suc, ◌+◌, ◌<◌, List, [], ◌∷◌, length, get_or, Option, None, Some, refl, ap, sym, subst}
use Rattle.std.specs.Prelude.{replicate, slice_get, slice_set}
use Rattle.std.proofs.lemmas.Option.{slice_get-get_or}
use Rattle.mc_mol.specs.WellFormed.{IsPlaceList, SidesFit}
use Rattle.mc_mol.specs.declared.parts.Sides.{Sides}
use Rattle.mc_mol.specs.declared.parts.Slot.{Slot}
use Rattle.mc_mol.specs.Molecule.{Molecule}
use Rattle.ct_geometry.specs.CentresRead.{set_if}

-- the first n as they are to be, and none behind them
abbrev pub filled : {A : Type 0} → ℕ → List (Option A) → List (Option A)
filled n [] = []
filled zero (x ∷ xs) = None ∷ filled zero xs
filled (suc n) (x ∷ xs) = x ∷ filled n xs

pub filled_none : {A : Type 0} (xs : List (Option A)) (n : ℕ) → length xs ≡ n → replicate n None ≡ filled zero xs
filled_none [] zero e = refl
filled_none [] (suc n) e = absurd (omega arith)
filled_none (x ∷ xs) zero e = absurd (omega arith)
filled_none {A = A} (x ∷ xs) (suc n) e = ap (λ (t : List (Option A)). None ∷ t) (filled_none xs n (omega arith))

pub filled_all : {A : Type 0} (xs : List (Option A)) (n : ℕ) → n ≡ length xs → filled n xs ≡ xs
filled_all [] n e = refl
filled_all (x ∷ xs) zero e = absurd (omega arith)
filled_all {A = A} (x ∷ xs) (suc n) e = ap (λ (t : List (Option A)). x ∷ t) (filled_all xs n (omega arith))

-- what an option sets at a place
none_more : {A : Type 0} (xs : List (Option A)) (n : ℕ) (d : Option A) → n < length xs → get_or xs n d ≡ None → filled n xs ≡ filled (suc n) xs
none_more [] n d less e = absurd (omega arith)
none_more {A = A} (x ∷ xs) zero d less e = ap (λ (y : Option A). y ∷ filled zero xs) (flip x e)
  where
    flip : {A : Type 0} (x : Option A) → x ≡ None → None ≡ x
    flip x e = cc
none_more {A = A} (x ∷ xs) (suc n) d less e = ap (λ (t : List (Option A)). x ∷ t) (none_more xs n d (omega arith) e)

some_more : {A : Type 0} (xs : List (Option A)) (n : ℕ) (d : Option A) (y : A) → n < length xs → get_or xs n d ≡ Some y → slice_set (filled n xs) n (Some y) ≡ filled (suc n) xs
some_more [] n d y less e = absurd (omega arith)
some_more {A = A} (x ∷ xs) zero d y less e = ap (λ (z : Option A). z ∷ filled zero xs) (flip x y e)
  where
    flip : {A : Type 0} (x : Option A) (y : A) → x ≡ Some y → Some y ≡ x
    flip x y e = cc
some_more {A = A} (x ∷ xs) (suc n) d y less e = ap (λ (t : List (Option A)). x ∷ t) (some_more xs n d y (omega arith) e)

set_more : {A : Type 0} (xs : List (Option A)) (n : ℕ) (d : Option A) → n < length xs → set_if (filled n xs) n (get_or xs n d) ≡ filled (n + 1) xs
set_more {A = A} xs n d less = by_option (get_or xs n d) refl
  where
    by_option : (o : Option A) → get_or xs n d ≡ o → set_if (filled n xs) n o ≡ filled (n + 1) xs
    by_option None e = none_more xs n d less e ∙ ap (λ (m : ℕ). filled m xs) (let is : suc n ≡ n + 1 = omega arith in is)
    by_option (Some y) e = some_more xs n d y less e ∙ ap (λ (m : ℕ). filled m xs) (let is : suc n ≡ n + 1 = omega arith in is)

-- ---- the centres of a molecule, and its sides

pub centres_init : (m : Molecule) (cs : List (Option (List Slot))) → length cs ≡ length m.atoms → m.centres ≡ replicate (length m.atoms) None → m ≡ record m { centres = filled 0 cs }
centres_init m cs count none = ap (λ (t : List (Option (List Slot))). record m { centres = t }) (none ∙ filled_none cs (length m.atoms) count)

pub centres_more : (m0 m new : Molecule) (cs : List (Option (List Slot))) (a : ℕ) (d : Option (List Slot)) → a < length cs → m ≡ record m0 { centres = filled a cs }
    → new ≡ record m { centres = set_if m.centres a (get_or cs a d) } → new ≡ record m0 { centres = filled (a + 1) cs }
centres_more m0 m new cs a d less before is =
    is ∙ (ap (λ (x : Molecule). record x { centres = set_if x.centres a (get_or cs a d) }) before ∙ ap (λ (t : List (Option (List Slot))). record m0 { centres = t }) (set_more cs a d less))

pub centres_all : (m0 m : Molecule) (cs : List (Option (List Slot))) (a : ℕ) → a ≡ length cs → m ≡ record m0 { centres = filled a cs } → m ≡ record m0 { centres = cs }
centres_all m0 m cs a end is = is ∙ ap (λ (t : List (Option (List Slot))). record m0 { centres = t }) (filled_all cs a end)

pub sides_init : (m : Molecule) (xs : List (Option Sides)) → length xs ≡ length m.bonds → m.sides ≡ replicate (length m.bonds) None → m ≡ record m { sides = filled 0 xs }
sides_init m xs count none = ap (λ (t : List (Option Sides)). record m { sides = t }) (none ∙ filled_none xs (length m.bonds) count)

pub sides_more : (m0 m new : Molecule) (xs : List (Option Sides)) (k : ℕ) (d : Option Sides) → k < length xs → m ≡ record m0 { sides = filled k xs }
    → new ≡ record m { sides = set_if m.sides k (get_or xs k d) } → new ≡ record m0 { sides = filled (k + 1) xs }
sides_more m0 m new xs k d less before is =
    is ∙ (ap (λ (x : Molecule). record x { sides = set_if x.sides k (get_or xs k d) }) before ∙ ap (λ (t : List (Option Sides)). record m0 { sides = t }) (set_more xs k d less))

pub sides_all : (m0 m : Molecule) (xs : List (Option Sides)) (k : ℕ) → k ≡ length xs → m ≡ record m0 { sides = filled k xs } → m ≡ record m0 { sides = xs }
sides_all m0 m xs k end is = is ∙ ap (λ (t : List (Option Sides)). record m0 { sides = t }) (filled_all xs k end)

-- what may be set in the molecule may be set in it as far as it is filled
pub centre_still : (m0 m : Molecule) (cs : List (Option (List Slot))) (a : ℕ) → a < length cs → m ≡ record m0 { centres = filled a cs }
    → ((b : ℕ) (list : List Slot) → slice_get cs b ≡ Some (Some list) → IsPlaceList m0.bonds b list) → (list : List Slot) → get_or cs a None ≡ Some list → IsPlaceList m.bonds a list
centre_still m0 m cs a less is all list e =
    subst (λ (x : Molecule). IsPlaceList x.bonds a list) (sym is) (all a list (slice_get-get_or cs a None less ∙ ap Some e))

pub side_still : (m0 m : Molecule) (xs : List (Option Sides)) (k : ℕ) → k < length xs → m ≡ record m0 { sides = filled k xs }
    → ((j : ℕ) (sides : Sides) → slice_get xs j ≡ Some (Some sides) → SidesFit m0.bonds j sides) → (sides : Sides) → get_or xs k None ≡ Some sides → SidesFit m.bonds k sides
side_still m0 m xs k less is all sides e =
    subst (λ (x : Molecule). SidesFit x.bonds k sides) (sym is) (all k sides (slice_get-get_or xs k None less ∙ ap Some e))
