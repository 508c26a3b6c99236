-- Which letters need be looked up among the symbols of elements.
use Rattle.std.proofs.Common.{arith, ◌≡◌, ◌==◌, ◌&&◌, ℕ, true, false, [], ◌∷◌, Some, None, refl}
use Rattle.std.proofs.lemmas.Bool.{and_right}
use Rattle.std.proofs.lemmas.Bool.Decides.{nat_tests}
use Rattle.std.specs.Option.{option_or}
use Rattle.std.specs.Char.{is_ascii_lowercase, is_ascii_uppercase}
use Rattle.mc_elements.specs.Elements.{element_of}
use Rattle.smi_lex.specs.Fronts.{in_case, lower_letter, lower_pair, symbol_letter, symbol_pair}
use Rattle.smi_lex.proofs.TokenRead.{no_element}

not_upper : (b : ℕ) → is_ascii_lowercase b ≡ true → is_ascii_uppercase b ≡ false
not_upper b is = grind (arith, nat_tests)

-- a symbol in lower case is no element's own
pub letter_lower : (a : ℕ) → is_ascii_lowercase a ≡ true → symbol_letter a ≡ in_case true (lower_letter a)
letter_lower a is =
    let none : element_of (a ∷ []) ≡ None = no_element (a ∷ []) (not_upper a is) in rw none refl

pub letter_upper : (a : ℕ) → is_ascii_lowercase a ≡ false → symbol_letter a ≡ in_case false (element_of (a ∷ []))
letter_upper a other =
    let none : lower_letter a ≡ None = not_lower a other in
    elim (element_of (a ∷ [])) as (λ o. option_or (in_case false o) (in_case true (lower_letter a)) ≡ in_case false o) [
      | None ↦ rw none refl
      | Some e ↦ refl
    ]
  where
    not_lower : (b : ℕ) → is_ascii_lowercase b ≡ false → lower_letter b ≡ None
    not_lower b is =
        let n99 : (b == 99) ≡ false = grind (arith, nat_tests) in
        let n110 : (b == 110) ≡ false = grind (arith, nat_tests) in
        let n111 : (b == 111) ≡ false = grind (arith, nat_tests) in
        let n115 : (b == 115) ≡ false = grind (arith, nat_tests) in
        let n112 : (b == 112) ≡ false = grind (arith, nat_tests) in
        let n98 : (b == 98) ≡ false = grind (arith, nat_tests) in
        rw (n99, n110, n111, n115, n112, n98) refl

-- the second letter of a symbol is in lower case
pub pair_none : (a b : ℕ) → is_ascii_lowercase b ≡ false → symbol_pair a b ≡ None
pair_none a b other =
    let upper : element_of (a ∷ b ∷ []) ≡ None = no_element (a ∷ b ∷ []) (and_right (is_ascii_uppercase a) (is_ascii_lowercase b) other) in
    let se : (a == 115 && b == 101) ≡ false = and_right (a == 115) (b == 101) (not_e b other) in
    let as_ : (a == 97 && b == 115) ≡ false = and_right (a == 97) (b == 115) (not_s b other) in
    rw (upper, se, as_) refl
  where
    not_e : (c : ℕ) → is_ascii_lowercase c ≡ false → (c == 101) ≡ false
    not_e c is = grind (arith, nat_tests)

    not_s : (c : ℕ) → is_ascii_lowercase c ≡ false → (c == 115) ≡ false
    not_s c is = grind (arith, nat_tests)

pub pair_lower : (a b : ℕ) → is_ascii_lowercase a ≡ true → symbol_pair a b ≡ in_case true (lower_pair a b)
pair_lower a b is =
    let upper : is_ascii_uppercase a ≡ false = not_upper a is in
    let none : element_of (a ∷ b ∷ []) ≡ None = no_element (a ∷ b ∷ []) (rw upper refl) in rw none refl

pub pair_upper : (a b : ℕ) → is_ascii_lowercase a ≡ false → symbol_pair a b ≡ in_case false (element_of (a ∷ b ∷ []))
pair_upper a b other =
    let se : (a == 115) ≡ false = not_letter_s a other in
    let as_ : (a == 97) ≡ false = not_letter_a a other in
    elim (element_of (a ∷ b ∷ [])) as (λ o. option_or (in_case false o) (in_case true (lower_pair a b)) ≡ in_case false o) [
      | None ↦ rw (se, as_) refl
      | Some e ↦ refl
    ]
  where
    not_letter_s : (c : ℕ) → is_ascii_lowercase c ≡ false → (c == 115) ≡ false
    not_letter_s c is = grind (arith, nat_tests)

    not_letter_a : (c : ℕ) → is_ascii_lowercase c ≡ false → (c == 97) ≡ false
    not_letter_a c is = grind (arith, nat_tests)
