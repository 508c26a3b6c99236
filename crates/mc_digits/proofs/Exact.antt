-- A reader's answer, and its want of one, by the grammar.
use Rattle.std.proofs.Common.{◌≡◌, List, ℕ, Option, Some, None, refl, sym, ◌∙◌}
use Rattle.std.specs.Prelude.{ℤ, IsNone, ◌↔◌}
use Rattle.mc_digits.specs.Fields.{IsCount, IsFixed}
use Rattle.mc_digits.specs.Fronts.{count_of, fixed_of}
use Rattle.mc_digits.proofs.Fields.{count_read, count_sound}
use Rattle.mc_digits.proofs.FixedFields.{fixed_read, fixed_sound}

pub count_exact : (field : List ℕ) (r : Option ℤ) → r ≡ count_of field → (value : ℤ) → (r ≡ Some value) ↔ IsCount value field
count_exact field r is value = (λ found. count_sound value field (sym is ∙ found), λ spelled. is ∙ count_read value field spelled)

pub count_none : (field : List ℕ) (r : Option ℤ) → r ≡ count_of field → IsNone r ↔ ((value : ℤ) → IsCount value field → ⊥)
count_none field None is = (λ _ value spelled. let read = count_read value field spelled in cc, λ _. refl)
count_none field (Some value) is = (λ none. cc, λ none. absurd (none value (count_sound value field (sym is))))

pub fixed_exact : (field : List ℕ) (r : Option ℤ) → r ≡ fixed_of field → (value : ℤ) → (r ≡ Some value) ↔ IsFixed value field
fixed_exact field r is value = (λ found. fixed_sound value field (sym is ∙ found), λ spelled. is ∙ fixed_read value field spelled)

pub fixed_none : (field : List ℕ) (r : Option ℤ) → r ≡ fixed_of field → IsNone r ↔ ((value : ℤ) → IsFixed value field → ⊥)
fixed_none field None is = (λ _ value spelled. let read = fixed_read value field spelled in cc, λ _. refl)
fixed_none field (Some value) is = (λ none. cc, λ none. absurd (none value (fixed_sound value field (sym is))))
