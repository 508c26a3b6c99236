-- A token that is found at the front of a text is spelled by what stands there.
use Rattle.std.proofs.Common.{arith, ◌≡◌, ◌+◌, ◌-◌, ◌*◌, ◌==◌, ◌&&◌, ℕ, true, false, List, [], ◌∷◌, ◌++◌, Option, Some, None, refl, sym, ap, subst, ◌∙◌, inl, inr, if◌then◌else◌, append_assoc}
use Rattle.std.proofs.lemmas.Bool.{eqb-true, and_parts, cond_both}
use Rattle.std.specs.Prelude.{option_map, option_and_then, codes}
use Rattle.std.specs.Option.{option_or}
use Rattle.std.specs.Char.{is_ascii_digit}
use Rattle.std.specs.Str.Parse.{AllDigits, IsNumeral}
use Rattle.mc_base.specs.Digits.{starts_digit}
use Rattle.mc_elements.specs.declared.element.Element.{Element}
use Rattle.mc_elements.specs.declared.element.Element.TheVariants.{B, C, N, O, F, P, S, Cl, Br, I}
use Rattle.smi_lex.specs.declared.symbol.Symbol.{Symbol}
use Rattle.smi_lex.specs.declared.token.BondMark.{BondMark}
use Rattle.smi_lex.specs.declared.token.BondMark.TheVariants.{Single, Double, Triple, Quadruple, Aromatic, Slash, Backslash}
use Rattle.smi_lex.specs.declared.token.TokenKind.{TokenKind}
use Rattle.smi_lex.specs.declared.token.TokenKind.TheVariants.{Bare, Bracket, Bond, Ring, Enter, Leave, Dot}
use Rattle.smi_lex.specs.Grammar.{held, mark_text, Spells, SpellsClass}
use Rattle.smi_lex.specs.Fronts.{bare_upper, before, behind_symbol, bond_mark, bracket_front, bracket_if, byte_kind, charge_front, chiral_front, class_front, class_number, closing, digit, hydrogens_front, letters_if, lower_letter, number_front, one_or_two_letters, percent_if, punctuation, symbol_front, token_front, two_digits}
use Rattle.smi_lex.proofs.Numbers.{number_run}
use Rattle.smi_lex.proofs.Sound.{Front, peel, or_some, before_some, charge_sound, chiral_sound, hydrogens_sound, isotope_sound, one_digit, pair_of_digits, symbol_sound}

-- ---- classes

-- digits, where one stands at the front
numeral_of : (value : ℕ) (digits rest : List ℕ) → starts_digit (digits ++ rest) ≡ true → AllDigits 10 digits
    → starts_digit rest ≡ false → IsNumeral 10 digits
numeral_of value [] rest starts all stops = cc
numeral_of value (b ∷ bs) rest starts all stops = (omega arith, all)

-- no digit follows a number
number_stops : (v : ℕ) (text : List ℕ) → starts_digit (number_front v text).1 ≡ false
number_stops v [] = refl
number_stops v (b ∷ bs) =
    cond_both (is_ascii_digit b) (number_front (held (v * 10 + (b - 48))) bs) (v, b ∷ bs) (λ (p : ℕ × List ℕ). starts_digit p.1 ≡ false)
    (λ digit. number_stops (held (v * 10 + (b - 48))) bs)
    (λ other. other)

-- the value and the rest of an answer
parts_of : {A : Type 0} (o : A × List ℕ) (x : A) (r : List ℕ) → ◌≡◌ {A = Option (A × List ℕ)} (Some o) (Some (x, r)) → (o.0 ≡ x) × (o.1 ≡ r)
parts_of {A} o x r is =
    let same : ◌≡◌ {A = A × List ℕ} o (x, r) = cc in
    (ap (λ (p : A × List ℕ). p.0) same, ap (λ (p : A × List ℕ). p.1) same)

class_number_sound : (b : ℕ) (text : List ℕ) (class : ℕ) (rest : List ℕ) → b ≡ 58 → class_number text ≡ Some (class, rest)
    → Front (SpellsClass class) (b ∷ text) rest
class_number_sound b text class rest is_colon is =
    elim (starts_digit text) as (λ t. starts_digit text ≡ t → (if t then Some (number_front 0 text) else None) ≡ Some (class, rest) → Front (SpellsClass class) (b ∷ text) rest) [
      | true ↦ λ starts found.
          let run = number_run 0 0 text refl in
          let at = parts_of (number_front 0 text) class rest found in
          let starts' : starts_digit (run.digits ++ (number_front 0 text).1) ≡ true = subst (λ t. starts_digit t ≡ true) run.joined starts in
          record {
            front = b ∷ run.digits;
            joined = ap (λ t. b ∷ t) (run.joined ∙ ap (λ r. run.digits ++ r) at.1);
            spelled = inr (run.digits, ap (λ x. x ∷ run.digits) is_colon, (numeral_of 0 run.digits (number_front 0 text).1 starts' run.all (number_stops 0 text), sym at.0 ∙ run.writes));
          }
      | false ↦ λ starts found. cc
    ] refl is

class_sound : (text : List ℕ) (class : ℕ) (rest : List ℕ) → class_front text ≡ Some (class, rest) → Front (SpellsClass class) text rest
class_sound [] class rest is =
    let at = parts_of (0, []) class rest is in record { front = []; joined = at.1; spelled = inl (refl, sym at.0) }
class_sound (b ∷ bs) class rest is =
    elim (b == 58) as (λ t. (b == 58) ≡ t → (if t then class_number bs else Some (0, b ∷ bs)) ≡ Some (class, rest) → Front (SpellsClass class) (b ∷ bs) rest) [
      | true ↦ λ colon found. class_number_sound b bs class rest (eqb-true b 58 colon) found
      | false ↦ λ other found.
          let at = parts_of (0, b ∷ bs) class rest found in record { front = []; joined = at.1; spelled = inl (refl, sym at.0) }
    ] refl is

-- ---- brackets

closing_sound : (kind : TokenKind) (text : List ℕ) (found : TokenKind) (rest : List ℕ) → closing kind text ≡ Some (found, rest)
    → (kind ≡ found) × (text ≡ 93 ∷ rest)
closing_sound kind [] found rest is = cc
closing_sound kind (b ∷ bs) found rest is =
    elim (b == 93) as (λ t. (b == 93) ≡ t → ◌≡◌ {A = Option (TokenKind × List ℕ)} (if t then Some (kind, bs) else None) (Some (found, rest)) → (kind ≡ found) × (b ∷ bs ≡ 93 ∷ rest)) [
      | true ↦ λ close answer.
          let at = parts_of (kind, bs) found rest answer in
          let is_close = eqb-true b 93 close in
          (at.0, ap (λ x. x ∷ bs) is_close ∙ ap (λ r. 93 ∷ r) at.1)
      | false ↦ λ other answer. cc
    ] refl is

-- an answer that came from another
pub then_some : {A C : Type 0} (f : A → Option C) (o : Option A) (y : C) (Q : Type 0) → option_and_then f o ≡ Some y
    → ((x : A) → o ≡ Some x → f x ≡ Some y → Q) → Q
then_some f None y Q is each = cc
then_some f (Some x) y Q is each = each x refl is

bracket_text : (i s c h q k rest text t1 t2 t3 t4 t5 t6 : List ℕ)
    → text ≡ i ++ t1 → t1 ≡ s ++ t2 → t2 ≡ c ++ t3 → t3 ≡ h ++ t4 → t4 ≡ q ++ t5 → t5 ≡ k ++ t6 → t6 ≡ 93 ∷ rest
    → text ≡ (i ++ (s ++ (c ++ (h ++ (q ++ (k ++ 93 ∷ [])))))) ++ rest
bracket_text i s c h q k rest text t1 t2 t3 t4 t5 t6 e1 e2 e3 e4 e5 e6 e7 =
    e1 ∙ ap (λ t. i ++ t) (e2 ∙ ap (λ t. s ++ t) (e3 ∙ ap (λ t. c ++ t) (e4 ∙ ap (λ t. h ++ t) (e5 ∙ ap (λ t. q ++ t) (e6 ∙ ap (λ t. k ++ t) e7)))))
    ∙ sym (simp append_assoc)

pub bracket_sound : (text : List ℕ) (kind : TokenKind) (rest : List ℕ) → bracket_front text ≡ Some (kind, rest)
    → Front (λ s. Spells kind (91 ∷ s)) text rest
bracket_sound text kind rest is =
    let isotope = number_front 0 text in
    let isotope_text = isotope_sound text in
    then_some (λ (x : Symbol × List ℕ). behind_symbol isotope.0 x.0 x.1) (symbol_front isotope.1) (kind, rest) _ is (λ found named answer.
    let symbol = found.0 in
    let symbol_text = symbol_sound isotope.1 found.0 found.1 named in
    let chiral = chiral_front found.1 in
    let chiral_text = chiral_sound found.1 in
    let hydrogens = hydrogens_front chiral.1 in
    let hydrogens_text = hydrogens_sound chiral.1 in
    let charge = charge_front hydrogens.1 in
    let charge_text = charge_sound hydrogens.1 in
    then_some (λ (x : ℕ × List ℕ). closing (Bracket symbol.element symbol.lower isotope.0 chiral.0 hydrogens.0 charge.0 x.0) x.1) (class_front charge.1) (kind, rest) _ answer (λ class classed closed.
    let class_text = class_sound charge.1 class.0 class.1 classed in
    let close = closing_sound (Bracket symbol.element symbol.lower isotope.0 chiral.0 hydrogens.0 charge.0 class.0) class.1 kind rest closed in
    let inside : List ℕ = isotope_text.front ++ (symbol_text.front ++ (chiral_text.front ++ (hydrogens_text.front ++ (charge_text.front ++ (class_text.front ++ codes "]"))))) in
    let spelled : Spells (Bracket symbol.element symbol.lower isotope.0 chiral.0 hydrogens.0 charge.0 class.0) (91 ∷ inside) = record {
      isotope_text = isotope_text.front;
      symbol_text = symbol_text.front;
      chiral_text = chiral_text.front;
      hydrogens_text = hydrogens_text.front;
      charge_text = charge_text.front;
      class_text = class_text.front;
      isotope_spelled = isotope_text.spelled;
      symbol_spelled = symbol_text.spelled;
      chiral_spelled = chiral_text.spelled;
      hydrogens_spelled = hydrogens_text.spelled;
      charge_spelled = charge_text.spelled;
      class_spelled = class_text.spelled;
      joined = refl;
    } in
    record {
      front = inside;
      joined = bracket_text _ _ _ _ _ _ rest text _ _ _ _ _ _ isotope_text.joined symbol_text.joined chiral_text.joined hydrogens_text.joined charge_text.joined class_text.joined close.1;
      spelled = subst (λ (k : TokenKind). Spells k (91 ∷ inside)) close.0 spelled;
    }))

-- ---- tokens of one byte

map_some : {A C : Type 0} (f : A → C) (o : Option A) (y : C) (Q : Type 0) → option_map f o ≡ Some y
    → ((x : A) → o ≡ Some x → f x ≡ y → Q) → Q
map_some f None y Q is each = cc
map_some f (Some x) y Q is each = each x refl (cc)

bare_upper_sound : (b : ℕ) (e : Element) → bare_upper b ≡ Some e → Spells (Bare e false) (b ∷ [])
bare_upper_sound b e is =
    peel (b == 78) N e _ _ is (λ t same. named N 78 (refl, refl) (eqb-true b 78 t) same) (λ is1.
    peel (b == 79) O e _ _ is1 (λ t same. named O 79 (refl, refl) (eqb-true b 79 t) same) (λ is2.
    peel (b == 70) F e _ _ is2 (λ t same. named F 70 (refl, refl) (eqb-true b 70 t) same) (λ is3.
    peel (b == 83) S e _ _ is3 (λ t same. named S 83 (refl, refl) (eqb-true b 83 t) same) (λ is4.
    peel (b == 80) P e _ _ is4 (λ t same. named P 80 (refl, refl) (eqb-true b 80 t) same) (λ is5.
    peel (b == 73) I e _ _ is5 (λ t same. named I 73 (refl, refl) (eqb-true b 73 t) same) (λ none. cc))))))
  where
    named : (k : Element) (n : ℕ) → Spells (Bare k false) (n ∷ []) → b ≡ n → k ≡ e → Spells (Bare e false) (b ∷ [])
    named k n spelled letter same =
        subst (λ (x : Element). Spells (Bare x false) (b ∷ [])) same (subst (λ x. Spells (Bare k false) (x ∷ [])) (sym letter) spelled)

bare_lower_sound : (b : ℕ) (e : Element) → lower_letter b ≡ Some e → Spells (Bare e true) (b ∷ [])
bare_lower_sound b e is =
    peel (b == 99) C e _ _ is (λ t same. named C 99 (refl, refl) (eqb-true b 99 t) same) (λ is1.
    peel (b == 110) N e _ _ is1 (λ t same. named N 110 (refl, refl) (eqb-true b 110 t) same) (λ is2.
    peel (b == 111) O e _ _ is2 (λ t same. named O 111 (refl, refl) (eqb-true b 111 t) same) (λ is3.
    peel (b == 115) S e _ _ is3 (λ t same. named S 115 (refl, refl) (eqb-true b 115 t) same) (λ is4.
    peel (b == 112) P e _ _ is4 (λ t same. named P 112 (refl, refl) (eqb-true b 112 t) same) (λ is5.
    peel (b == 98) B e _ _ is5 (λ t same. named B 98 (refl, refl) (eqb-true b 98 t) same) (λ none. cc))))))
  where
    named : (k : Element) (n : ℕ) → Spells (Bare k true) (n ∷ []) → b ≡ n → k ≡ e → Spells (Bare e true) (b ∷ [])
    named k n spelled letter same =
        subst (λ (x : Element). Spells (Bare x true) (b ∷ [])) same (subst (λ x. Spells (Bare k true) (x ∷ [])) (sym letter) spelled)

bond_mark_sound : (b : ℕ) (m : BondMark) → bond_mark b ≡ Some m → b ∷ [] ≡ mark_text m
bond_mark_sound b m is =
    peel (b == 61) Double m _ _ is (λ t same. named Double 61 refl (eqb-true b 61 t) same) (λ is1.
    peel (b == 45) Single m _ _ is1 (λ t same. named Single 45 refl (eqb-true b 45 t) same) (λ is2.
    peel (b == 35) Triple m _ _ is2 (λ t same. named Triple 35 refl (eqb-true b 35 t) same) (λ is3.
    peel (b == 47) Slash m _ _ is3 (λ t same. named Slash 47 refl (eqb-true b 47 t) same) (λ is4.
    peel (b == 92) Backslash m _ _ is4 (λ t same. named Backslash 92 refl (eqb-true b 92 t) same) (λ is5.
    peel (b == 58) Aromatic m _ _ is5 (λ t same. named Aromatic 58 refl (eqb-true b 58 t) same) (λ is6.
    peel (b == 36) Quadruple m _ _ is6 (λ t same. named Quadruple 36 refl (eqb-true b 36 t) same) (λ none. cc)))))))
  where
    named : (k : BondMark) (n : ℕ) → n ∷ [] ≡ mark_text k → b ≡ n → k ≡ m → b ∷ [] ≡ mark_text m
    named k n spelled letter same =
        subst (λ (x : BondMark). b ∷ [] ≡ mark_text x) same (ap (λ x. x ∷ []) letter ∙ spelled)

punctuation_sound : (b : ℕ) (k : TokenKind) → punctuation b ≡ Some k → Spells k (b ∷ [])
punctuation_sound b k is =
    peel (b == 40) Enter k _ _ is (λ t same. named Enter 40 refl (eqb-true b 40 t) same) (λ is1.
    peel (b == 41) Leave k _ _ is1 (λ t same. named Leave 41 refl (eqb-true b 41 t) same) (λ is2.
    peel (b == 46) Dot k _ _ is2 (λ t same. named Dot 46 refl (eqb-true b 46 t) same) (λ none. cc)))
  where
    named : (j : TokenKind) (n : ℕ) → Spells j (n ∷ []) → b ≡ n → j ≡ k → Spells k (b ∷ [])
    named j n spelled letter same =
        subst (λ (x : TokenKind). Spells x (b ∷ [])) same (subst (λ x. Spells j (x ∷ [])) (sym letter) spelled)

digit_sound : (b : ℕ) (k : TokenKind) → digit b ≡ Some k → Spells k (b ∷ [])
digit_sound b k is =
    peel (is_ascii_digit b) (Ring (b - 48)) k None _ is
    (λ t same. subst (λ (x : TokenKind). Spells x (b ∷ [])) same (inl (one_digit 1 1 b (omega arith) (omega arith) t)))
    (λ none. cc)

byte_sound : (b : ℕ) (k : TokenKind) → byte_kind b ≡ Some k → Spells k (b ∷ [])
byte_sound b k is =
    let bond : Option TokenKind = option_map (λ m. Bond m) (bond_mark b) in
    let ring : Option TokenKind = option_or (digit b) bond in
    let sign : Option TokenKind = option_or (punctuation b) ring in
    let lower : Option TokenKind = option_map (λ e. Bare e true) (lower_letter b) in
    let upper : Option TokenKind = option_map (λ e. Bare e false) (bare_upper b) in
    or_some upper (option_or lower sign) k _ is
    (λ found. map_some (λ e. Bare e false) (bare_upper b) k _ found (λ e named same. in_kind same (bare_upper_sound b e named))) (λ is1.
    or_some lower sign k _ is1
    (λ found. map_some (λ e. Bare e true) (lower_letter b) k _ found (λ e named same. in_kind same (bare_lower_sound b e named))) (λ is2.
    or_some (punctuation b) ring k _ is2 (λ found. punctuation_sound b k found) (λ is3.
    or_some (digit b) bond k _ is3 (λ found. digit_sound b k found) (λ found.
    map_some (λ m. Bond m) (bond_mark b) k _ found (λ m named same. in_kind same (bond_mark_sound b m named))))))
  where
    in_kind : {j : TokenKind} → j ≡ k → Spells j (b ∷ []) → Spells k (b ∷ [])
    in_kind same spelled = subst (λ (x : TokenKind). Spells x (b ∷ [])) same spelled

-- ---- tokens

letters_sound : (a second : ℕ) (two one : Element) (text : List ℕ) → Spells (Bare two false) (a ∷ second ∷ []) → Spells (Bare one false) (a ∷ [])
    → Front (λ s. Spells (one_or_two_letters second two one text).0 (a ∷ s)) text (one_or_two_letters second two one text).1
letters_sound a second two one [] both single = record { front = []; joined = refl; spelled = single }
letters_sound a second two one (b ∷ bs) both single =
    cond_both (b == second) (Bare two false, bs) (Bare one false, b ∷ bs) (λ (p : TokenKind × List ℕ). Front (λ s. Spells p.0 (a ∷ s)) (b ∷ bs) p.1)
    (λ t. record { front = b ∷ []; joined = refl; spelled = subst (λ x. Spells (Bare two false) (a ∷ x ∷ [])) (sym (eqb-true b second t)) both })
    (λ _. record { front = []; joined = refl; spelled = single })

letters_if_sound : (a second first : ℕ) (two one : Element) (text : List ℕ) (kind : TokenKind) (rest : List ℕ)
    → Spells (Bare two false) (first ∷ second ∷ []) → Spells (Bare one false) (first ∷ [])
    → letters_if (a == first) second two one text ≡ Some (kind, rest) → Front (Spells kind) (a ∷ text) rest
letters_if_sound a second first two one text kind rest both single is =
    elim (a == first) as (λ t. (a == first) ≡ t → letters_if t second two one text ≡ Some (kind, rest) → Front (Spells kind) (a ∷ text) rest) [
      | true ↦ λ here found.
          let at = parts_of (one_or_two_letters second two one text) kind rest found in
          let behind = letters_sound first second two one text both single in
          record {
            front = a ∷ behind.front;
            joined = ap (λ r. a ∷ r) (behind.joined ∙ ap (λ r. behind.front ++ r) at.1);
            spelled = subst (λ (k : TokenKind). Spells k (a ∷ behind.front)) at.0
                (subst (λ x. Spells (one_or_two_letters second two one text).0 (x ∷ behind.front)) (sym (eqb-true a first here)) behind.spelled);
          }
      | false ↦ λ other found. cc
    ] refl is

two_digits_sound : (a : ℕ) (text : List ℕ) (kind : TokenKind) (rest : List ℕ) → a ≡ 37 → two_digits text ≡ Some (kind, rest)
    → Front (Spells kind) (a ∷ text) rest
two_digits_sound a [] kind rest percent is = cc
two_digits_sound a (b ∷ []) kind rest percent is = cc
two_digits_sound a (b ∷ c ∷ cs) kind rest percent is =
    elim (is_ascii_digit b && is_ascii_digit c) as
    (λ t. (is_ascii_digit b && is_ascii_digit c) ≡ t
    → ◌≡◌ {A = Option (TokenKind × List ℕ)} (if t then Some (Ring ((b - 48) * 10 + (c - 48)), cs) else None) (Some (kind, rest))
    → Front (Spells kind) (a ∷ b ∷ c ∷ cs) rest) [
      | true ↦ λ digits found.
          let at = parts_of (Ring ((b - 48) * 10 + (c - 48)), cs) kind rest found in
          let both = and_parts (is_ascii_digit b) (is_ascii_digit c) digits in
          let ring : Spells (Ring ((b - 48) * 10 + (c - 48))) (a ∷ b ∷ c ∷ []) =
          inr (b ∷ c ∷ [], ap (λ x. x ∷ b ∷ c ∷ []) percent, pair_of_digits 2 2 b c (omega arith) (omega arith) both.0 both.1) in
          record {
            front = a ∷ b ∷ c ∷ [];
            joined = ap (λ r. a ∷ b ∷ c ∷ r) at.1;
            spelled = subst (λ (k : TokenKind). Spells k (a ∷ b ∷ c ∷ [])) at.0 ring;
          }
      | false ↦ λ other found. cc
    ] refl is

percent_sound : (a : ℕ) (text : List ℕ) (kind : TokenKind) (rest : List ℕ) → percent_if (a == 37) text ≡ Some (kind, rest)
    → Front (Spells kind) (a ∷ text) rest
percent_sound a text kind rest is =
    elim (a == 37) as (λ t. (a == 37) ≡ t → percent_if t text ≡ Some (kind, rest) → Front (Spells kind) (a ∷ text) rest) [
      | true ↦ λ here found. two_digits_sound a text kind rest (eqb-true a 37 here) found
      | false ↦ λ other found. cc
    ] refl is

bracket_if_sound : (a : ℕ) (text : List ℕ) (kind : TokenKind) (rest : List ℕ) → bracket_if (a == 91) text ≡ Some (kind, rest)
    → Front (Spells kind) (a ∷ text) rest
bracket_if_sound a text kind rest is =
    elim (a == 91) as (λ t. (a == 91) ≡ t → bracket_if t text ≡ Some (kind, rest) → Front (Spells kind) (a ∷ text) rest) [
      | true ↦ λ here found.
          let behind = bracket_sound text kind rest found in record {
            front = a ∷ behind.front;
            joined = ap (λ r. a ∷ r) behind.joined;
            spelled = subst (λ x. Spells kind (x ∷ behind.front)) (sym (eqb-true a 91 here)) behind.spelled;
          }
      | false ↦ λ other found. cc
    ] refl is

pub token_sound : (text : List ℕ) (kind : TokenKind) (rest : List ℕ) → token_front text ≡ Some (kind, rest)
    → Front (Spells kind) text rest
token_sound [] kind rest is = cc
token_sound (b ∷ bs) kind rest is =
    let bracket : Option (TokenKind × List ℕ) = bracket_if (b == 91) bs in
    let percent : Option (TokenKind × List ℕ) = option_or (percent_if (b == 37) bs) bracket in
    let byte : Option (TokenKind × List ℕ) = option_or (before bs (byte_kind b)) percent in
    let boron : Option (TokenKind × List ℕ) = option_or (letters_if (b == 66) 114 Br B bs) byte in
    or_some (letters_if (b == 67) 108 Cl C bs) boron (kind, rest) _ is
    (λ found. letters_if_sound b 108 67 Cl C bs kind rest (refl, refl) (refl, refl) found) (λ is1.
    or_some (letters_if (b == 66) 114 Br B bs) byte (kind, rest) _ is1
    (λ found. letters_if_sound b 114 66 Br B bs kind rest (refl, refl) (refl, refl) found) (λ is2.
    or_some (before bs (byte_kind b)) percent (kind, rest) _ is2
    (λ found. let at = before_some bs (byte_kind b) kind rest found in
    record { front = b ∷ []; joined = ap (λ r. b ∷ r) at.1; spelled = byte_sound b kind at.0 }) (λ is3.
    or_some (percent_if (b == 37) bs) bracket (kind, rest) _ is3
    (λ found. percent_sound b bs kind rest found) (λ found. bracket_if_sound b bs kind rest found))))
