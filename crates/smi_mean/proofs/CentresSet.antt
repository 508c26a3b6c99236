-- Centres are set from the first atom on.
use Rattle.std.proofs.Common.{arith, ◌≡◌, ◌∙◌, ℕ, zero, suc, ◌+◌, ◌-◌, ◌<◌, List, [], ◌∷◌, ◌++◌, length, Option, None, Some, refl, ap, sym, subst}
use Rattle.std.specs.Prelude.{replicate, slice_get, slice_set}
use Rattle.std.proofs.lemmas.List.{append-nil}
use Rattle.mc_mol.specs.declared.parts.Slot.{Slot}
use Rattle.mc_mol.specs.Molecule.{Molecule}
use Rattle.mc_mol.specs.WellFormed.{IsPlaceList}
use Rattle.smi_graph.specs.Skeletons.{TextGraph}
use Rattle.smi_mean.specs.Meaning.{nones, with_centres}
use Rattle.smi_mean.specs.MeantCentres.{centre_at, centres_in, first_centres}
use Rattle.smi_mean.proofs.Building.{nones_are}
use Rattle.smi_mean.proofs.CentreFits.{first_count}

abbrev Centre : Type 0
Centre = Option (List Slot)

slice_set_same : {A : Type 0} (xs : List A) (k : ℕ) (x : A) → slice_get xs k ≡ Some x → xs ≡ slice_set xs k x
slice_set_same [] k x at = cc
slice_set_same (y ∷ xs) zero x at = cc
slice_set_same {A = A} (y ∷ xs) (suc k) x at = ap (λ (zs : List A). y ∷ zs) (slice_set_same xs k x at)

pub set_none : (m : Molecule) (a : ℕ) → slice_get m.centres a ≡ Some None → m ≡ with_centres (slice_set m.centres a None) m
set_none m a at = ap (λ (cs : List Centre). with_centres cs m) (slice_set_same m.centres a None at)

-- those of the first n atoms are set, and of so many no more
abbrev pub filled : TextGraph → ℕ → ℕ → List Centre
filled graph n rest = first_centres graph n ++ replicate rest None

slice_get_behind : {A : Type 0} (xs ys : List A) (y : A) (k : ℕ) → k ≡ length xs → slice_get (xs ++ y ∷ ys) k ≡ Some y
slice_get_behind [] ys y zero e = refl
slice_get_behind [] ys y (suc k) e = absurd (omega arith)
slice_get_behind (x ∷ xs) ys y zero e = absurd (omega arith)
slice_get_behind (x ∷ xs) ys y (suc k) e = slice_get_behind xs ys y k (omega arith)

slice_set_behind : {A : Type 0} (xs ys : List A) (y z : A) (k : ℕ) → k ≡ length xs → slice_set (xs ++ y ∷ ys) k z ≡ (xs ++ z ∷ []) ++ ys
slice_set_behind [] ys y z zero e = refl
slice_set_behind [] ys y z (suc k) e = absurd (omega arith)
slice_set_behind (x ∷ xs) ys y z zero e = absurd (omega arith)
slice_set_behind {A = A} (x ∷ xs) ys y z (suc k) e = ap (λ (zs : List A). x ∷ zs) (slice_set_behind xs ys y z k (omega arith))

one_less : (graph : TextGraph) (n k : ℕ) → k < n → filled graph k (n - k) ≡ first_centres graph k ++ None ∷ replicate (n - (k + 1)) None
one_less graph n k less = ap (λ (r : ℕ). first_centres graph k ++ replicate r None) (let e : n - k ≡ suc (n - (k + 1)) = omega arith in e)

pub filled_first : (graph : TextGraph) (m : Molecule) → length m.atoms ≡ length graph.atoms → m.centres ≡ nones m.atoms → m ≡ with_centres (filled graph 0 (length graph.atoms - 0)) m
filled_first graph m count none =
    ap (λ (cs : List Centre). with_centres cs m) (none ∙ nones_are m.atoms ∙ ap (λ (r : ℕ). replicate r None) (let e : length m.atoms ≡ length graph.atoms - 0 = omega arith in e))

-- the next one isn't set yet
pub filled_next : (graph : TextGraph) (m0 m : Molecule) (k : ℕ) → k < length graph.atoms → m ≡ with_centres (filled graph k (length graph.atoms - k)) m0 → slice_get m.centres k ≡ Some None
filled_next graph m0 m k less is =
    ap (λ (x : Molecule). slice_get x.centres k) is
    ∙ ap (λ (cs : List Centre). slice_get cs k) (one_less graph (length graph.atoms) k less)
    ∙ slice_get_behind (first_centres graph k) (replicate (length graph.atoms - (k + 1)) None) None k (sym (first_count graph k))

pub filled_more : (graph : TextGraph) (m0 m new : Molecule) (k : ℕ) → k < length graph.atoms → m ≡ with_centres (filled graph k (length graph.atoms - k)) m0
    → new ≡ with_centres (slice_set m.centres k (centre_at graph k)) m → new ≡ with_centres (filled graph (k + 1) (length graph.atoms - (k + 1))) m0
filled_more graph m0 m new k less before is =
    let rest : List Centre = replicate (length graph.atoms - (k + 1)) None in
    is
    ∙ ap (λ (x : Molecule). with_centres (slice_set x.centres k (centre_at graph k)) x) before
    ∙ ap (λ (cs : List Centre). with_centres (slice_set cs k (centre_at graph k)) m0) (one_less graph (length graph.atoms) k less)
    ∙ ap (λ (cs : List Centre). with_centres cs m0) (slice_set_behind (first_centres graph k) rest None (centre_at graph k) k (sym (first_count graph k)))
    ∙ ap (λ (n : ℕ). with_centres (first_centres graph n ++ rest) m0) (let e : suc k ≡ k + 1 = omega arith in e)

pub filled_all : (graph : TextGraph) (m0 m : Molecule) (k : ℕ) → k ≡ length graph.atoms → m ≡ with_centres (filled graph k (length graph.atoms - k)) m0 → m ≡ with_centres (centres_in graph) m0
filled_all graph m0 m k end is =
    is
    ∙ ap (λ (r : ℕ). with_centres (first_centres graph k ++ replicate r None) m0) (let e : length graph.atoms - k ≡ 0 = omega arith in e)
    ∙ ap (λ (cs : List Centre). with_centres cs m0) (append-nil (first_centres graph k))
    ∙ ap (λ (n : ℕ). with_centres (first_centres graph n) m0) end

-- a list of places stays one
pub places_still : (graph : TextGraph) (m0 m : Molecule) (k : ℕ) → m ≡ with_centres (filled graph k (length graph.atoms - k)) m0
    → ((places : List Slot) → centre_at graph k ≡ Some places → IsPlaceList m0.bonds k places) → (places : List Slot) → centre_at graph k ≡ Some places → IsPlaceList m.bonds k places
places_still graph m0 m k is all places at = subst (λ (x : Molecule). IsPlaceList x.bonds k places) (sym is) (all places at)
