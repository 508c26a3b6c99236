-- Why no token begins at a byte: what is found is what the definition says.
use Rattle.std.proofs.Common.{arith, ◌≡◌, ◌==◌, ◌&&◌, ◌||◌, ◌⊎◌, ℕ, Bool, true, false, List, [], ◌∷◌, ◌++◌, Option, Some, None, refl, sym, ap, subst, ◌∙◌, inl, inr, if◌then◌else◌, append_assoc}
use Rattle.std.proofs.lemmas.Bool.{eqb-true, and_parts}
use Rattle.std.proofs.lemmas.Bool.Decides.{nat_tests}
use Rattle.std.specs.Char.{is_ascii_lowercase, is_ascii_uppercase}
use Rattle.mc_base.specs.declared.kind.Kind.{Kind}
use Rattle.mc_base.specs.declared.kind.Kind.TheVariants.{BadToken, Wildcard, OtherChirality}
use Rattle.mc_elements.specs.declared.element.Element.{Element}
use Rattle.mc_elements.specs.declared.element.Element.TheVariants.{B, C, N, O, P, S, As, Se}
use Rattle.mc_elements.specs.Elements.{is_symbol_text, symbol}
use Rattle.mc_elements.proofs.Symbols.{is_symbol_text-symbol}
use Rattle.smi_lex.specs.declared.symbol.Symbol.{Symbol}
use Rattle.smi_lex.specs.Grammar.{lower_symbol, SpellsSymbol}
use Rattle.smi_lex.specs.Fronts.{bracket_cause, cause, is_other_class, is_other_letters, number_front, starts_other_class, starts_wildcard, symbol_front}
use Rattle.smi_lex.specs.Reading.{Begins, IsCause, IsOtherChirality, IsOtherClass, IsWildcard, OpensBracket}
use Rattle.smi_lex.proofs.Sound.{isotope_sound, symbol_sound}
use Rattle.smi_lex.proofs.Complete.{First, behind_symbol_byte}
use Rattle.smi_lex.proofs.TokenRead.{isotope_read, symbol_first, symbol_read, named_so}

if_case : {A : Type 0} (t : Bool) (x y z : A) (Q : Type 0) → (if t then x else y) ≡ z → (t ≡ true → x ≡ z → Q) → (t ≡ false → y ≡ z → Q) → Q
if_case true x y z Q is here there = here refl is
if_case false x y z Q is here there = there refl is

either_true : (s t : Bool) (Q : Type 0) → (s || t) ≡ true → (s ≡ true → Q) → (t ≡ true → Q) → Q
either_true true t Q is here there = here refl
either_true false t Q is here there = there is

-- ---- from the answer to the definition

star_sound : (text : List ℕ) → starts_wildcard text ≡ true → (rest : List ℕ) × (text ≡ 42 ∷ rest)
star_sound [] is = cc
star_sound (b ∷ bs) is = (bs, ap (λ x. x ∷ bs) (eqb-true b 42 is))

other_letters_sound : (b c : ℕ) → is_other_letters b c ≡ true → IsOtherClass (64 ∷ b ∷ c ∷ [])
other_letters_sound b c is =
    either_true _ (a4 79 72) _ is (λ first.
    either_true _ (a4 84 66) _ first (λ second.
    either_true (a4 65 76) (a4 83 80) _ second
    (λ t. inl (named 65 76 t)) (λ t. inr (inl (named 83 80 t))))
    (λ t. inr (inr (inl (named 84 66 t)))))
    (λ t. inr (inr (inr (named 79 72 t))))
  where
    a4 : ℕ → ℕ → Bool
    a4 m n = b == m && c == n

    named : (m n : ℕ) → (b == m && c == n) ≡ true → 64 ∷ b ∷ c ∷ [] ≡ 64 ∷ m ∷ n ∷ []
    named m n t =
        let both = and_parts (b == m) (c == n) t in
        ap (λ x. 64 ∷ x ∷ c ∷ []) (eqb-true b m both.0) ∙ ap (λ x. 64 ∷ m ∷ x ∷ []) (eqb-true c n both.1)

other_class_sound : (text : List ℕ) → is_other_class text ≡ true → Begins IsOtherClass text
other_class_sound [] is = cc
other_class_sound (a ∷ []) is = cc
other_class_sound (a ∷ b ∷ []) is = cc
other_class_sound (a ∷ b ∷ c ∷ cs) is =
    let both = and_parts (a == 64) (is_other_letters b c) is in
    (64 ∷ b ∷ c ∷ [], cs, ap (λ x. x ∷ b ∷ c ∷ cs) (eqb-true a 64 both.0), other_letters_sound b c both.1)

opens : (bs : List ℕ) → OpensBracket (91 ∷ (isotope_sound bs).front)
opens bs = ((number_front 0 bs).0, (isotope_sound bs).front, refl, (isotope_sound bs).spelled)

wildcard_sound : (text : List ℕ) → cause text ≡ Wildcard → Begins IsWildcard text
wildcard_sound [] is = cc
wildcard_sound (b ∷ bs) is =
    if_case (b == 42) Wildcard _ Wildcard _ is
    (λ star _. (b ∷ [], bs, refl, ([], ap (λ x. x ∷ []) (eqb-true b 42 star), inl refl)))
    (λ _ is1. if_case (b == 91) (bracket_cause (number_front 0 bs).1) BadToken Wildcard _ is1
    (λ bracket is2. if_case (starts_wildcard (number_front 0 bs).1) Wildcard _ Wildcard _ is2
    (λ star _.
    let digits = (isotope_sound bs).front in
    let behind = star_sound (number_front 0 bs).1 star in
    let joined : b ∷ bs ≡ (91 ∷ digits ++ 42 ∷ []) ++ behind.0 =
    ap (λ x. x ∷ bs) (eqb-true b 91 bracket)
    ∙ ap (λ t. 91 ∷ t) ((isotope_sound bs).joined ∙ ap (λ t. digits ++ t) behind.1 ∙ sym (append_assoc digits (42 ∷ []) behind.0)) in
    (91 ∷ digits ++ 42 ∷ [], behind.0, joined, (91 ∷ digits, refl, inr (opens bs))))
    (λ _ is3. if_case (starts_other_class (symbol_front (number_front 0 bs).1)) OtherChirality BadToken Wildcard _ is3
    (λ _ is4. cc) (λ _ is4. cc)))
    (λ _ is2. cc))

other_front : (found : Option (Symbol × List ℕ)) (text : List ℕ) → symbol_front text ≡ found → starts_other_class found ≡ true
    → (symbol : Symbol) × (rest : List ℕ) × (symbol_front text ≡ Some (symbol, rest)) × (is_other_class rest ≡ true)
other_front None text named is = cc
other_front (Some (symbol, rest)) text named is = (symbol, rest, named, is)

regroup : (a b c d : List ℕ) → (a ++ (b ++ c)) ++ d ≡ a ++ (b ++ (c ++ d))
regroup a b c d = append_assoc a (b ++ c) d ∙ ap (λ t. a ++ t) (append_assoc b c d)

other_text : (b : ℕ) (bs digits letters class rest t1 t2 : List ℕ) → b ≡ 91 → bs ≡ digits ++ t1 → t1 ≡ letters ++ t2 → t2 ≡ class ++ rest
    → b ∷ bs ≡ (91 ∷ digits ++ (letters ++ class)) ++ rest
other_text b bs digits letters class rest t1 t2 is e1 e2 e3 =
    ap (λ x. x ∷ bs) is ∙ ap (λ t. 91 ∷ t) (e1 ∙ ap (λ t. digits ++ t) (e2 ∙ ap (λ t. letters ++ t) e3) ∙ sym (regroup digits letters class rest))

other_sound : (text : List ℕ) → cause text ≡ OtherChirality → Begins IsOtherChirality text
other_sound [] is = cc
other_sound (b ∷ bs) is =
    if_case (b == 42) Wildcard _ OtherChirality _ is (λ _ is1. cc)
    (λ _ is1. if_case (b == 91) (bracket_cause (number_front 0 bs).1) BadToken OtherChirality _ is1
    (λ bracket is2. if_case (starts_wildcard (number_front 0 bs).1) Wildcard _ OtherChirality _ is2 (λ _ is3. cc)
    (λ _ is3. if_case (starts_other_class (symbol_front (number_front 0 bs).1)) OtherChirality BadToken OtherChirality _ is3
    (λ other _.
    let found = other_front (symbol_front (number_front 0 bs).1) (number_front 0 bs).1 refl other in
    let letters = symbol_sound (number_front 0 bs).1 found.0 found.1 found.2 in
    let class = other_class_sound found.1 found.3 in
    let digits = (isotope_sound bs).front in (
      91 ∷ digits ++ (letters.front ++ class.0),
      class.1,
      other_text b bs digits letters.front class.0 class.1 (number_front 0 bs).1 found.1
          (eqb-true b 91 bracket) (isotope_sound bs).joined letters.joined class.2,
      (91 ∷ digits, found.0.element, found.0.lower, letters.front, class.0, refl, opens bs, letters.spelled, class.3),
    ))
    (λ _ is4. cc)))
    (λ _ is2. cc))

-- ---- from the definition to the answer

wildcard_text : (digits rest : List ℕ) → ((91 ∷ digits) ++ 42 ∷ []) ++ rest ≡ 91 ∷ (digits ++ 42 ∷ rest)
wildcard_text digits rest = simp append_assoc

wildcard_found : (text : List ℕ) → Begins IsWildcard text → cause text ≡ Wildcard
wildcard_found text (front, rest, joined, (opening, is, inl empty)) =
    ap cause (joined ∙ ap (λ t. t ++ rest) (is ∙ ap (λ t. t ++ 42 ∷ []) empty))
wildcard_found text (front, rest, joined, (opening, is, inr (isotope, digits, opened, spelled))) =
    ap cause (joined ∙ ap (λ t. t ++ rest) (is ∙ ap (λ t. t ++ 42 ∷ []) opened) ∙ wildcard_text digits rest)
    ∙ ap (λ (p : ℕ × List ℕ). bracket_cause p.1) (isotope_read isotope digits (42 ∷ rest) refl spelled)

other_whole : (digits letters class rest : List ℕ) → ((91 ∷ digits) ++ (letters ++ class)) ++ rest ≡ 91 ∷ (digits ++ (letters ++ (class ++ rest)))
other_whole digits letters class rest = simp append_assoc

-- an asterisk begins no symbol
upper_not_star : (a : ℕ) → is_ascii_uppercase a ≡ true → (a == 42) ≡ false
upper_not_star a is = grind (arith, nat_tests)

letters_not_star : (text rest : List ℕ) → is_symbol_text text ≡ true → starts_wildcard (text ++ rest) ≡ false
letters_not_star [] rest is = cc
letters_not_star (a ∷ []) rest is = upper_not_star a is
letters_not_star (a ∷ b ∷ []) rest is = upper_not_star a (and_parts (is_ascii_uppercase a) (is_ascii_lowercase b) is).0
letters_not_star (a ∷ b ∷ c ∷ cs) rest is = cc

lower_not_star : (e : Element) (text rest : List ℕ) → lower_symbol e ≡ Some text → starts_wildcard (text ++ rest) ≡ false
lower_not_star B text rest is = rw (named_so is) refl
lower_not_star C text rest is = rw (named_so is) refl
lower_not_star N text rest is = rw (named_so is) refl
lower_not_star O text rest is = rw (named_so is) refl
lower_not_star P text rest is = rw (named_so is) refl
lower_not_star S text rest is = rw (named_so is) refl
lower_not_star Se text rest is = rw (named_so is) refl
lower_not_star As text rest is = rw (named_so is) refl
lower_not_star _ text rest is = cc

symbol_not_star : (e : Element) (lower : Bool) (text rest : List ℕ) → SpellsSymbol e lower text → starts_wildcard (text ++ rest) ≡ false
symbol_not_star e false text rest spelled = letters_not_star text rest (ap is_symbol_text spelled ∙ is_symbol_text-symbol e)
symbol_not_star e true text rest spelled = lower_not_star e text rest spelled

class_first : (class rest : List ℕ) → IsOtherClass class → First behind_symbol_byte (class ++ rest)
class_first class rest (inl is) = rw is refl
class_first class rest (inr (inl is)) = rw is refl
class_first class rest (inr (inr (inl is))) = rw is refl
class_first class rest (inr (inr (inr is))) = rw is refl

class_found : (class rest : List ℕ) → IsOtherClass class → is_other_class (class ++ rest) ≡ true
class_found class rest (inl is) = rw is refl
class_found class rest (inr (inl is)) = rw is refl
class_found class rest (inr (inr (inl is))) = rw is refl
class_found class rest (inr (inr (inr is))) = rw is refl

behind_isotope_found : (e : Element) (lower : Bool) (letters class rest : List ℕ) → SpellsSymbol e lower letters → IsOtherClass class
    → bracket_cause (letters ++ (class ++ rest)) ≡ OtherChirality
behind_isotope_found e lower letters class rest spelled other =
    let star = symbol_not_star e lower letters (class ++ rest) spelled in
    let read = symbol_read e lower letters (class ++ rest) (class_first class rest other) spelled in
    let found = class_found class rest other in
    rw (star, read, found) refl

other_found : (text : List ℕ) → Begins IsOtherChirality text → cause text ≡ OtherChirality
other_found text (front, rest, joined, (opening, e, lower, letters, class, is, (isotope, digits, opened, numbered), spelled, other)) =
    ap cause (joined ∙ ap (λ t. t ++ rest) (is ∙ ap (λ t. t ++ (letters ++ class)) opened) ∙ other_whole digits letters class rest)
    ∙ ap (λ (p : ℕ × List ℕ). bracket_cause p.1)
    (isotope_read isotope digits (letters ++ (class ++ rest)) (symbol_first e lower letters (class ++ rest) spelled) numbered)
    ∙ behind_isotope_found e lower letters class rest spelled other

-- ---- the cause

one_of_three : (text : List ℕ) → (cause text ≡ Wildcard) ⊎ ((cause text ≡ OtherChirality) ⊎ (cause text ≡ BadToken))
one_of_three [] = inr (inr refl)
one_of_three (b ∷ bs) = in_turn (b == 42) (b == 91) (starts_wildcard (number_front 0 bs).1) (starts_other_class (symbol_front (number_front 0 bs).1))
  where
    in_turn : (s t u v : Bool) →
        let k : Kind = if s then Wildcard else if t then (if u then Wildcard else if v then OtherChirality else BadToken) else BadToken in
        (k ≡ Wildcard) ⊎ ((k ≡ OtherChirality) ⊎ (k ≡ BadToken))
    in_turn true t u v = inl refl
    in_turn false true true v = inl refl
    in_turn false true false true = inr (inl refl)
    in_turn false true false false = inr (inr refl)
    in_turn false false u v = inr (inr refl)

pub cause_is : (text : List ℕ) → IsCause (cause text) text
cause_is text = by_kind (one_of_three text)
  where
    as_said : (k : Kind) → cause text ≡ k → IsCause k text → IsCause (cause text) text
    as_said k is holds = subst (λ (x : Kind). IsCause x text) (sym is) holds

    by_kind : (cause text ≡ Wildcard) ⊎ ((cause text ≡ OtherChirality) ⊎ (cause text ≡ BadToken)) → IsCause (cause text) text
    by_kind (inl is) = as_said Wildcard is (wildcard_sound text is)
    by_kind (inr (inl is)) = as_said OtherChirality is (other_sound text is)
    by_kind (inr (inr is)) = as_said BadToken is
        (λ w. let found = wildcard_found text w in cc, λ o. let found = other_found text o in cc)

-- a byte at which no token begins has one cause
pub only_cause : (k : Kind) (text : List ℕ) → IsCause k text → cause text ≡ k
only_cause Wildcard text holds = wildcard_found text holds
only_cause OtherChirality text holds = other_found text holds
only_cause BadToken text holds = elim (one_of_three text) [
  | inl is ↦ absurd (holds.0 (wildcard_sound text is))
  | inr more ↦ elim more [ inl is ↦ absurd (holds.1 (other_sound text is)) | inr is ↦ is ]
]
only_cause _ text holds = absurd holds
