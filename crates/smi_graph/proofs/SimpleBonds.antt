-- Bonds between different atoms, no pair twice.
use Rattle.std.proofs.Common.{◌≡◌, ◌≢◌, ℕ, suc, ◌<◌, List, [], ◌∷◌, Bool, true, false, refl, ap, sym, ◌∙◌, inl, inr, arith}
use Rattle.std.specs.Prelude.{◌==◌, ◌&&◌, ◌||◌, All, AllPairs}
use Rattle.std.proofs.lemmas.Bool.{false≢true, eqb-true, and_parts, or_cases, false_from_ne_true}
use Rattle.mc_mol.specs.declared.parts.Bond.{Bond}
use Rattle.mc_mol.specs.Molecule.{joins, are_joined}
use Rattle.mc_mol.specs.WellFormed.{IsBond}
use Rattle.mc_mol.proofs.Apart.{are_joined_turned, turned_joins}
use Rattle.mc_mol.proofs.Lists.{All-head, All-tail}
use Rattle.mc_mol.proofs.Halves.{same_test}

-- bonds join different atoms below n, and no pair stands twice
abbrev pub Simple : ℕ → List Bond → Type 0
Simple n [] = Unit {0}
Simple n (b ∷ bs) = ((b.first.0 < n) × ((b.second.0 < n) × (b.first.0 ≢ b.second.0))) × ((are_joined bs b.first.0 b.second.0 ≡ false) × Simple n bs)

apart : (b : Bond) (bs : List Bond) → All (λ (c : Bond). joins b c.first.0 c.second.0 ≡ false) bs → are_joined bs b.first.0 b.second.0 ≡ false
apart b [] h = refl
apart b (c ∷ bs) h =
    let first = All-head (λ (c : Bond). joins b c.first.0 c.second.0 ≡ false) c bs h in
    let not : joins c b.first.0 b.second.0 ≡ false = false_from_ne_true (joins c b.first.0 b.second.0) (λ t. false≢true (sym first ∙ turned_joins c b t)) in
    rw not (apart b bs (All-tail (λ (c : Bond). joins b c.first.0 c.second.0 ≡ false) c bs h))

pub simple_of : (n : ℕ) (bs : List Bond) → All (IsBond n) bs → AllPairs (λ (b c : Bond). joins b c.first.0 c.second.0 ≡ false) bs → Simple n bs
simple_of n [] h pairs = tt
simple_of n (b ∷ bs) h pairs =
    let first = All-head (IsBond n) b bs h in (
      (first.first, (first.second, first.different)),
      (
        apart b bs (λ k d less. pairs 0 (suc k) d (omega arith) (omega arith)),
        simple_of n bs (All-tail (IsBond n) b bs h) (λ i j d less below. pairs (suc i) (suc j) d (omega arith) (omega arith)),
      ),
    )

-- a pair that a bond joins is joined by no other
pub alone : (b : Bond) (bs : List Bond) (u v : ℕ) → are_joined bs b.first.0 b.second.0 ≡ false → joins b u v ≡ true → are_joined bs u v ≡ false
alone b bs u v none t = elim (or_cases (b.first.0 == u && b.second.0 == v) (b.first.0 == v && b.second.0 == u) t) [
  | inl h ↦ let r = and_parts (b.first.0 == u) (b.second.0 == v) h in
      ap (λ (x : ℕ). are_joined bs x v) (sym (eqb-true b.first.0 u r.0)) ∙ ap (are_joined bs b.first.0) (sym (eqb-true b.second.0 v r.1)) ∙ none
  | inr h ↦ let r = and_parts (b.first.0 == v) (b.second.0 == u) h in
      are_joined_turned bs u v ∙ ap (λ (x : ℕ). are_joined bs x u) (sym (eqb-true b.first.0 v r.0)) ∙ ap (are_joined bs b.first.0) (sym (eqb-true b.second.0 u r.1)) ∙ none
]
