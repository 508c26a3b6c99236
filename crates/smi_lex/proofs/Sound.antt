-- What stands at the front is spelled as the grammar says: for each part of a token, and for tokens.
use Rattle.std.proofs.Common.{arith, ◌≡◌, ◌≤◌, ◌+◌, ◌-◌, ◌*◌, ◌==◌, ◌&&◌, ℕ, Bool, true, false, List, [], ◌∷◌, ◌++◌, Option, Some, None, refl, sym, ap, subst, inl, inr, if◌then◌else◌}
use Rattle.std.proofs.lemmas.Bool.{eqb-true, and_parts, cond_both}
use Rattle.std.specs.Prelude.{ℤ, pos, neg_ℤ}
use Rattle.std.specs.Option.{option_or}
use Rattle.std.specs.Char.{is_ascii_digit}
use Rattle.std.specs.Str.Parse.{AllDigits, digits_value}
use Rattle.mc_base.proofs.Digits.{digit_is}
use Rattle.mc_elements.specs.declared.element.Element.{Element}
use Rattle.mc_elements.specs.declared.element.Element.TheVariants.{B, C, N, O, P, S, As, Se}
use Rattle.mc_elements.specs.Elements.{element_of}
use Rattle.mc_elements.proofs.Symbols.{symbol-element_of}
use Rattle.smi_lex.specs.declared.symbol.Symbol.{Symbol}
use Rattle.smi_lex.specs.Grammar.{held, lower_symbol, SpellsAmount, SpellsCharge, SpellsChiral, SpellsHydrogens, SpellsIsotope, SpellsSymbol, WritesDigits}
use Rattle.smi_lex.specs.Fronts.{amount, before, charge_front, chiral_front, chirality, class_digit, class_letter, hydrogen_count, hydrogens_front, in_case, lower_letter, lower_pair, number_front, second_digit, symbol_front, symbol_letter, symbol_pair}
use Rattle.smi_lex.proofs.Numbers.{number_run}

-- a front of the text that is so, and the rest behind it
pub record Front (Is : List ℕ → Type 0) (text rest : List ℕ) : Type 0 where
  pub front : List ℕ
  pub joined : text ≡ front ++ rest
  pub spelled : Is front

-- the first answer of a chain of tests, or a later one
pub peel : {A : Type 0} (t : Bool) (x y : A) (o : Option A) (Q : Type 0)
    → (if t then Some x else o) ≡ Some y → (t ≡ true → x ≡ y → Q) → (o ≡ Some y → Q) → Q
peel true x y o Q is here later = here refl (cc)
peel false x y o Q is here later = later is

pub or_some : {A : Type 0} (o p : Option A) (y : A) (Q : Type 0)
    → option_or o p ≡ Some y → (o ≡ Some y → Q) → (p ≡ Some y → Q) → Q
or_some None p y Q is here later = later is
or_some (Some x) p y Q is here later = here is

pub before_some : {A : Type 0} (rest : List ℕ) (o : Option A) (x : A) (r : List ℕ)
    → before rest o ≡ Some (x, r) → (o ≡ Some x) × (rest ≡ r)
before_some rest None x r is = cc
before_some {A} rest (Some y) x r is =
    let same : ◌≡◌ {A = A × List ℕ} (y, rest) (x, r) = cc in
    (ap (λ (p : A × List ℕ). Some p.0) same, ap (λ (p : A × List ℕ). p.1) same)

-- ---- numbers

isotope_of : (value : ℕ) (digits : List ℕ) → AllDigits 10 digits → value ≡ held (digits_value 10 digits) → SpellsIsotope value digits
isotope_of value [] all is = inl (refl, is)
isotope_of value (b ∷ bs) all is = inr ((omega arith, all), is)

pub isotope_sound : (text : List ℕ) → Front (SpellsIsotope (number_front 0 text).0) text (number_front 0 text).1
isotope_sound text =
    let run = number_run 0 0 text refl in
    record { front = run.digits; joined = run.joined; spelled = isotope_of _ run.digits run.all run.writes }

pub one_digit : (least most b : ℕ) → least ≤ 1 → 1 ≤ most → is_ascii_digit b ≡ true → WritesDigits least most (b - 48) (b ∷ [])
one_digit least most b low high is =
    let d = digit_is b is in
    record { numeral = (omega arith, (d.0, tt)); enough = low; few = high; value = omega (arith, d.1) }

pub pair_of_digits : (least most a b : ℕ) → least ≤ 2 → 2 ≤ most → is_ascii_digit a ≡ true → is_ascii_digit b ≡ true
    → WritesDigits least most ((a - 48) * 10 + (b - 48)) (a ∷ b ∷ [])
pair_of_digits least most a b low high is_a is_b =
    let da = digit_is a is_a in
    let db = digit_is b is_b in
    record { numeral = (omega arith, (da.0, (db.0, tt))); enough = low; few = high; value = omega (arith, da.1, db.1) }

-- ---- symbols

lower_named : (k e : Element) (n b : ℕ) → lower_symbol k ≡ Some (n ∷ []) → b ≡ n → k ≡ e → lower_symbol e ≡ Some (b ∷ [])
lower_named k e n b named is same = cc

pub lower_letter_sound : (b : ℕ) (e : Element) → lower_letter b ≡ Some e → lower_symbol e ≡ Some (b ∷ [])
lower_letter_sound b e is =
    let Q : Type 0 = lower_symbol e ≡ Some (b ∷ []) in
    peel (b == 99) C e _ Q is (λ t same. lower_named C e 99 b refl (eqb-true b 99 t) same) (λ is1.
    peel (b == 110) N e _ Q is1 (λ t same. lower_named N e 110 b refl (eqb-true b 110 t) same) (λ is2.
    peel (b == 111) O e _ Q is2 (λ t same. lower_named O e 111 b refl (eqb-true b 111 t) same) (λ is3.
    peel (b == 115) S e _ Q is3 (λ t same. lower_named S e 115 b refl (eqb-true b 115 t) same) (λ is4.
    peel (b == 112) P e _ Q is4 (λ t same. lower_named P e 112 b refl (eqb-true b 112 t) same) (λ is5.
    peel (b == 98) B e _ Q is5 (λ t same. lower_named B e 98 b refl (eqb-true b 98 t) same) (λ none. cc))))))

lower_pair_sound : (a b : ℕ) (e : Element) → lower_pair a b ≡ Some e → lower_symbol e ≡ Some (a ∷ b ∷ [])
lower_pair_sound a b e is =
    let Q : Type 0 = lower_symbol e ≡ Some (a ∷ b ∷ []) in
    peel (a == 115 && b == 101) Se e _ Q is (λ t same. named Se 115 101 refl (and_parts (a == 115) (b == 101) t) same) (λ is1.
    peel (a == 97 && b == 115) As e _ Q is1 (λ t same. named As 97 115 refl (and_parts (a == 97) (b == 115) t) same) (λ none. cc))
  where
    named : (k : Element) (m n : ℕ) → lower_symbol k ≡ Some (m ∷ n ∷ []) → ((a == m) ≡ true) × ((b == n) ≡ true) → k ≡ e
        → lower_symbol e ≡ Some (a ∷ b ∷ [])
    named k m n named_k both same = let first = eqb-true a m both.0 in let second = eqb-true b n both.1 in cc

in_case_sound : (lower : Bool) (o : Option Element) (text : List ℕ) (found : Symbol)
    → ((e : Element) → o ≡ Some e → SpellsSymbol e lower text) → in_case lower o ≡ Some found
    → SpellsSymbol found.element found.lower text
in_case_sound lower None text found each is = cc
in_case_sound lower (Some e) text found each is =
    let same : ◌≡◌ {A = Symbol} (record { element = e; lower = lower }) found = cc in
    subst (λ (x : Symbol). SpellsSymbol x.element x.lower text) same (each e refl)

-- a symbol's name, or its lower-case one
either_case : (text : List ℕ) (o : Option Element) (found : Symbol) → ((e : Element) → o ≡ Some e → lower_symbol e ≡ Some text)
    → option_or (in_case false (element_of text)) (in_case true o) ≡ Some found → SpellsSymbol found.element found.lower text
either_case text o found each is =
    or_some (in_case false (element_of text)) (in_case true o) found (SpellsSymbol found.element found.lower text) is
    (λ upper. in_case_sound false (element_of text) text found (λ e named. sym (symbol-element_of text e named)) upper)
    (λ lower. in_case_sound true o text found each lower)

pub symbol_sound : (text : List ℕ) (found : Symbol) (rest : List ℕ) → symbol_front text ≡ Some (found, rest)
    → Front (SpellsSymbol found.element found.lower) text rest
symbol_sound [] found rest is = cc
symbol_sound (a ∷ []) found rest is =
    let at = before_some [] (symbol_letter a) found rest is in
    record { front = a ∷ []; joined = ap (λ t. a ∷ t) at.1; spelled = either_case (a ∷ []) (lower_letter a) found (lower_letter_sound a) at.0 }
symbol_sound (a ∷ b ∷ bs) found rest is =
    or_some (before bs (symbol_pair a b)) (before (b ∷ bs) (symbol_letter a)) (found, rest) (Front (SpellsSymbol found.element found.lower) (a ∷ b ∷ bs) rest) is
    (λ two. let at = before_some bs (symbol_pair a b) found rest two in
    record { front = a ∷ b ∷ []; joined = ap (λ t. a ∷ b ∷ t) at.1; spelled = either_case (a ∷ b ∷ []) (lower_pair a b) found (lower_pair_sound a b) at.0 })
    (λ one. let at = before_some (b ∷ bs) (symbol_letter a) found rest one in
    record { front = a ∷ []; joined = ap (λ t. a ∷ t) at.1; spelled = either_case (a ∷ []) (lower_letter a) found (lower_letter_sound a) at.0 })

-- ---- chirality

abbrev BehindAt : List ℕ → Option Bool × List ℕ → Type 0
BehindAt text found = Front (λ s. SpellsChiral found.0 (64 ∷ s)) text found.1

at_alone : (text : List ℕ) → BehindAt text (Some true, text)
at_alone text = record { front = []; joined = refl; spelled = inl refl }

class_digit_sound : (a b : ℕ) (bs : List ℕ) → a ≡ 84 → b ≡ 72 → BehindAt (a ∷ b ∷ bs) (class_digit (a ∷ b ∷ bs) bs)
class_digit_sound a b [] is_t is_h = at_alone (a ∷ b ∷ [])
class_digit_sound a b (c ∷ bs) is_t is_h =
    cond_both (c == 49) (Some true, bs) _ (BehindAt (a ∷ b ∷ c ∷ bs))
    (λ t. let is_1 = eqb-true c 49 t in record { front = a ∷ b ∷ c ∷ []; joined = refl; spelled = inr (cc) })
    (λ _. cond_both (c == 50) (Some false, bs) _ (BehindAt (a ∷ b ∷ c ∷ bs))
    (λ t. let is_2 = eqb-true c 50 t in record { front = a ∷ b ∷ c ∷ []; joined = refl; spelled = inr (cc) })
    (λ _. at_alone (a ∷ b ∷ c ∷ bs)))

class_letter_sound : (a : ℕ) (bs : List ℕ) → a ≡ 84 → BehindAt (a ∷ bs) (class_letter (a ∷ bs) bs)
class_letter_sound a [] is_t = at_alone (a ∷ [])
class_letter_sound a (b ∷ bs) is_t =
    cond_both (b == 72) (class_digit (a ∷ b ∷ bs) bs) _ (BehindAt (a ∷ b ∷ bs))
    (λ t. class_digit_sound a b bs is_t (eqb-true b 72 t))
    (λ _. at_alone (a ∷ b ∷ bs))

chirality_sound : (text : List ℕ) → BehindAt text (chirality text)
chirality_sound [] = at_alone []
chirality_sound (b ∷ bs) =
    cond_both (b == 64) (Some false, bs) _ (BehindAt (b ∷ bs))
    (λ t. record { front = b ∷ []; joined = refl; spelled = inl (ap (λ x. 64 ∷ x ∷ []) (eqb-true b 64 t)) })
    (λ _. cond_both (b == 84) (class_letter (b ∷ bs) bs) _ (BehindAt (b ∷ bs))
    (λ t. class_letter_sound b bs (eqb-true b 84 t))
    (λ _. at_alone (b ∷ bs)))

pub chiral_sound : (text : List ℕ) → Front (SpellsChiral (chiral_front text).0) text (chiral_front text).1
chiral_sound [] = record { front = []; joined = refl; spelled = refl }
chiral_sound (b ∷ bs) =
    cond_both (b == 64) (chirality bs) _ (λ (p : Option Bool × List ℕ). Front (SpellsChiral p.0) (b ∷ bs) p.1)
    (λ t. let behind = chirality_sound bs in record {
      front = b ∷ behind.front;
      joined = ap (λ r. b ∷ r) behind.joined;
      spelled = subst (λ x. SpellsChiral (chirality bs).0 (x ∷ behind.front)) (sym (eqb-true b 64 t)) behind.spelled;
    })
    (λ _. record { front = []; joined = refl; spelled = refl })

-- ---- hydrogens

hydrogen_count_sound : (text : List ℕ) → Front (λ s. SpellsHydrogens (hydrogen_count text).0 (72 ∷ s)) text (hydrogen_count text).1
hydrogen_count_sound [] = record { front = []; joined = refl; spelled = inr (inl (refl, refl)) }
hydrogen_count_sound (b ∷ bs) =
    cond_both (is_ascii_digit b) (b - 48, bs) _ (λ (p : ℕ × List ℕ). Front (λ s. SpellsHydrogens p.0 (72 ∷ s)) (b ∷ bs) p.1)
    (λ t. record { front = b ∷ []; joined = refl; spelled = inr (inr (b ∷ [], refl, one_digit 1 1 b (omega arith) (omega arith) t)) })
    (λ _. record { front = []; joined = refl; spelled = inr (inl (refl, refl)) })

pub hydrogens_sound : (text : List ℕ) → Front (SpellsHydrogens (hydrogens_front text).0) text (hydrogens_front text).1
hydrogens_sound [] = record { front = []; joined = refl; spelled = inl (refl, refl) }
hydrogens_sound (b ∷ bs) =
    cond_both (b == 72) (hydrogen_count bs) _ (λ (p : ℕ × List ℕ). Front (SpellsHydrogens p.0) (b ∷ bs) p.1)
    (λ t. let behind = hydrogen_count_sound bs in record {
      front = b ∷ behind.front;
      joined = ap (λ r. b ∷ r) behind.joined;
      spelled = subst (λ x. SpellsHydrogens (hydrogen_count bs).0 (x ∷ behind.front)) (sym (eqb-true b 72 t)) behind.spelled;
    })
    (λ _. record { front = []; joined = refl; spelled = inl (refl, refl) })

-- ---- charges

second_digit_sound : (sign a : ℕ) (text : List ℕ) → is_ascii_digit a ≡ true
    → Front (λ s. SpellsAmount (sign ∷ []) (second_digit (a - 48) text).0 (sign ∷ a ∷ s)) text (second_digit (a - 48) text).1
second_digit_sound sign a [] is =
    record { front = []; joined = refl; spelled = inr (inr (a ∷ [], refl, one_digit 1 2 a (omega arith) (omega arith) is)) }
second_digit_sound sign a (b ∷ bs) is =
    cond_both (is_ascii_digit b) ((a - 48) * 10 + (b - 48), bs) _ (λ (p : ℕ × List ℕ). Front (λ s. SpellsAmount (sign ∷ []) p.0 (sign ∷ a ∷ s)) (b ∷ bs) p.1)
    (λ t. record { front = b ∷ []; joined = refl; spelled = inr (inr (a ∷ b ∷ [], refl, pair_of_digits 1 2 a b (omega arith) (omega arith) is t)) })
    (λ _. record { front = []; joined = refl; spelled = inr (inr (a ∷ [], refl, one_digit 1 2 a (omega arith) (omega arith) is)) })

amount_sound : (sign : ℕ) (text : List ℕ) → Front (λ s. SpellsAmount (sign ∷ []) (amount sign text).0 (sign ∷ s)) text (amount sign text).1
amount_sound sign [] = record { front = []; joined = refl; spelled = inl (refl, refl) }
amount_sound sign (b ∷ bs) =
    cond_both (b == sign) (2, bs) _ (λ (p : ℕ × List ℕ). Front (λ s. SpellsAmount (sign ∷ []) p.0 (sign ∷ s)) (b ∷ bs) p.1)
    (λ t. record { front = b ∷ []; joined = refl; spelled = inr (inl (ap (λ x. sign ∷ x ∷ []) (eqb-true b sign t), refl)) })
    (λ _. cond_both (is_ascii_digit b) (second_digit (b - 48) bs) _ (λ (p : ℕ × List ℕ). Front (λ s. SpellsAmount (sign ∷ []) p.0 (sign ∷ s)) (b ∷ bs) p.1)
    (λ t. let behind = second_digit_sound sign b bs t in record {
      front = b ∷ behind.front;
      joined = ap (λ r. b ∷ r) behind.joined;
      spelled = behind.spelled;
    })
    (λ _. record { front = []; joined = refl; spelled = inl (refl, refl) }))

pub charge_sound : (text : List ℕ) → Front (SpellsCharge (charge_front text).0) text (charge_front text).1
charge_sound [] = record { front = []; joined = refl; spelled = inl (refl, refl) }
charge_sound (b ∷ bs) =
    cond_both (b == 43) (pos (amount 43 bs).0, (amount 43 bs).1) _ (λ (p : ℤ × List ℕ). Front (SpellsCharge p.0) (b ∷ bs) p.1)
    (λ t. let behind = amount_sound 43 bs in record {
      front = b ∷ behind.front;
      joined = ap (λ r. b ∷ r) behind.joined;
      spelled = inr (inl ((amount 43 bs).0, refl, subst (λ x. SpellsAmount (43 ∷ []) (amount 43 bs).0 (x ∷ behind.front)) (sym (eqb-true b 43 t)) behind.spelled));
    })
    (λ _. cond_both (b == 45) (neg_ℤ (pos (amount 45 bs).0), (amount 45 bs).1) _ (λ (p : ℤ × List ℕ). Front (SpellsCharge p.0) (b ∷ bs) p.1)
    (λ t. let behind = amount_sound 45 bs in record {
      front = b ∷ behind.front;
      joined = ap (λ r. b ∷ r) behind.joined;
      spelled = inr (inr ((amount 45 bs).0, refl, subst (λ x. SpellsAmount (45 ∷ []) (amount 45 bs).0 (x ∷ behind.front)) (sym (eqb-true b 45 t)) behind.spelled));
    })
    (λ _. record { front = []; joined = refl; spelled = inl (refl, refl) }))
