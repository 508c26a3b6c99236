-- A list of atoms is found at the front of a text, and nothing else is.
use Rattle.std.proofs.Common.{arith, ◌≡◌, ◌∙◌, ◌<◌, ◌+◌, ◌-◌, ◌^◌, ◌==◌, ◌||◌, ℕ, zero, suc, Bool, true, false, if◌then◌else◌, List, [], ◌∷◌, ◌++◌, length, refl, ap, sym, subst, append_assoc, append-nil}
use Rattle.std.specs.Prelude.{Option, Some, None, All, decimal, option_and_then}
use Rattle.std.proofs.lemmas.Bool.Decides.{nat_tests}
use Rattle.std.proofs.lemmas.Fmt.{decimal_is_IsNumeral}
use Rattle.std.specs.Char.{is_ascii_digit}
use Rattle.std.specs.Str.Parse.{AllDigits}
use Rattle.std.proofs.lemmas.Option.{some_pair_parts}
use Rattle.std.proofs.lemmas.Bool.{cond-false}
use Rattle.std.proofs.lemmas.List.Elements.{All-nil}
use Rattle.mc_base.specs.declared.ids.AtomId.{AtomId}
use Rattle.mc_base.proofs.Digits.{is_digit}
use Rattle.mc_base.specs.Digits.{starts_digit}
use Rattle.mc_report.specs.Grammar.{AreAtoms}
use Rattle.mc_report.specs.Report.{numbers, later_numbers}
use Rattle.mc_report.specs.Fronts.{word_front, number_front, most_count, atom_of, atom_front, goes_on, IsList, FindsList}
use Rattle.mc_report.proofs.Numbers.{IsNumber, number_exact}
use Rattle.mc_report.proofs.Words.{word_found}

-- ---- an atom

abbrev pub IsAtom : AtomId → List ℕ → List ℕ → Type 0
IsAtom atom tail text = IsNumber most_count (atom.0 + 1) tail text

fits : most_count < 2 ^ 64
fits = omega arith

atom_so : (n : ℕ) (atom : AtomId) → n ≡ atom.0 + 1 → (n == 0) ≡ false
atom_so n atom is = let some : 0 < n = omega arith in not_zero n some
  where
    not_zero : (n : ℕ) → 0 < n → (n == 0) ≡ false
    not_zero n some = grind (arith, nat_tests)

before : (atom : AtomId) → record { 0 = atom.0 + 1 - 1 } ≡ atom
before atom = let same : atom.0 + 1 - 1 ≡ atom.0 = omega arith in ap (λ n. record { 0 = n }) same

pub atom_read : (atom : AtomId) (tail text : List ℕ) → IsAtom atom tail text → atom_front text ≡ Some (atom, tail)
atom_read atom tail text is =
    let found = (number_exact most_count text fits (atom.0 + 1) tail).1 is in
    ap (option_and_then atom_of) found ∙ cond-false (atom.0 + 1 == 0) _ _ (atom_so (atom.0 + 1) atom refl) ∙ ap (λ a. Some (a, tail)) (before atom)

pub atom_found : (atom : AtomId) (tail text : List ℕ) → atom_front text ≡ Some (atom, tail) → IsAtom atom tail text
atom_found atom tail text is = behind (number_front most_count text) refl is
  where
    above : (n : ℕ) → (n == 0) ≡ false → n - 1 ≡ atom.0 → n ≡ atom.0 + 1
    above n some e = let positive : 0 < n = grind (arith, nat_tests) in omega arith

    by_zero : (n : ℕ) (rest : List ℕ) (t : Bool) → (n == 0) ≡ t → number_front most_count text ≡ Some (n, rest)
        → if◌then◌else◌ {A = Option (AtomId × List ℕ)} t None (Some (record { 0 = n - 1 }, rest)) ≡ Some (atom, tail) → IsAtom atom tail text
    by_zero n rest true nothing e found = cc
    by_zero n rest false some e found =
        let number = (number_exact most_count text fits n rest).0 e in
        let same : (record { 0 = n - 1 } ≡ atom) × (rest ≡ tail) = some_pair_parts (record { 0 = n - 1 }) atom rest tail found in
        let value : n ≡ atom.0 + 1 = above n some (ap (λ (a : AtomId). a.0) same.0) in
        subst (λ t. IsNumber most_count (atom.0 + 1) t text) same.1 (subst (λ k. IsNumber most_count k rest text) value number)

    behind : (o : Option (ℕ × List ℕ)) → number_front most_count text ≡ o → option_and_then atom_of o ≡ Some (atom, tail) → IsAtom atom tail text
    behind None e found = cc
    behind (Some (n, rest)) e found = by_zero n rest (n == 0) refl e found

-- ---- lists

-- each atom with a comma behind it
abbrev pub with_commas : List AtomId → List ℕ
with_commas [] = []
with_commas (a ∷ atoms) = decimal (a.0 + 1) ++ (44 ∷ with_commas atoms)

numbers_behind : (done : List AtomId) (a : AtomId) (more : List AtomId) → numbers (done ++ a ∷ more) ≡ with_commas done ++ numbers (a ∷ more)
numbers_behind [] a more = refl
numbers_behind (d ∷ []) a more = sym (append_assoc (decimal (d.0 + 1)) (44 ∷ []) (numbers (a ∷ more)))
numbers_behind (d ∷ e ∷ done) a more = ap (λ t. decimal (d.0 + 1) ++ (44 ∷ t)) (numbers_behind (e ∷ done) a more) ∙ sym (append_assoc (decimal (d.0 + 1)) (44 ∷ with_commas (e ∷ done)) (numbers (a ∷ more)))

commas_behind : (done : List AtomId) (a : AtomId) → with_commas (done ++ a ∷ []) ≡ with_commas done ++ (decimal (a.0 + 1) ++ (44 ∷ []))
commas_behind [] a = refl
commas_behind (d ∷ done) a = ap (λ t. decimal (d.0 + 1) ++ (44 ∷ t)) (commas_behind done a) ∙ sym (append_assoc (decimal (d.0 + 1)) (44 ∷ with_commas done) (decimal (a.0 + 1) ++ (44 ∷ [])))

-- what is behind the first atom of a list doesn't begin with a digit
later_stops : (more : List AtomId) (tail : List ℕ) → goes_on tail ≡ false → starts_digit (later_numbers more ++ tail) ≡ false
later_stops [] [] stops = refl
later_stops [] (b ∷ tail) stops = left (is_ascii_digit b) (b == 44) stops
  where
    left : (p q : Bool) → (p || q) ≡ false → p ≡ false
    left true q is = cc
    left false q is = refl
later_stops (a ∷ more) tail stops = refl

-- a list begins with a digit
list_goes_on : (a : AtomId) (more : List AtomId) (tail : List ℕ) → a.0 < 2 ^ 32 - 1 → goes_on (numbers (a ∷ more) ++ tail) ≡ true
list_goes_on a more tail small =
    let numeral = decimal_is_IsNumeral (a.0 + 1) (omega arith) in
    ap goes_on (append_assoc (decimal (a.0 + 1)) (later_numbers more) tail) ∙ begins (decimal (a.0 + 1)) (later_numbers more ++ tail) numeral.0.0 numeral.0.1
  where
    begins : (digits rest : List ℕ) → 0 < length digits → AllDigits 10 digits → goes_on (digits ++ rest) ≡ true
    begins [] rest some all = absurd (omega arith)
    begins (d ∷ digits) rest some all = let digit : is_ascii_digit d ≡ true = is_digit d all.0 in rw digit refl

-- the lists at the front of a text go on behind these atoms
pub record Goes (others done : List AtomId) (tail rest : List ℕ) : Type 0 where
  pub first : AtomId
  pub more : List AtomId
  pub joined : others ≡ done ++ first ∷ more
  pub is_rest : rest ≡ numbers (first ∷ more) ++ tail
  pub first_small : first.0 < 2 ^ 32 - 1
  pub more_small : AreAtoms more
  pub stops : goes_on tail ≡ false

-- what has been read of a list: these atoms, each with a comma behind it
pub record Reading (text : List ℕ) (done : List AtomId) (rest : List ℕ) : Type 0 where
  pub joined : text ≡ with_commas done ++ rest
  pub in_range : AreAtoms done
  pub complete : (others : List AtomId) (tail : List ℕ) → IsList others tail text → Goes others done tail rest

-- ---- all of a list

head_at : (a : AtomId) (atoms : List AtomId) → AreAtoms (a ∷ atoms) → a.0 < 2 ^ 32 - 1
head_at a atoms all = all 0 a (omega arith)

tail_at : (a : AtomId) (atoms : List AtomId) → AreAtoms (a ∷ atoms) → AreAtoms atoms
tail_at a atoms all = λ k d less. all (suc k) d (omega arith)

push_at : (atoms : List AtomId) (a : AtomId) → AreAtoms atoms → a.0 < 2 ^ 32 - 1 → AreAtoms (atoms ++ a ∷ [])
push_at [] a all small = one
  where
    one : AreAtoms (a ∷ [])
    one zero d less = small
    one (suc k) d less = absurd (omega arith)
push_at (b ∷ atoms) a all small = with_first (head_at b atoms all) (push_at atoms a (tail_at b atoms all) small)
  where
    with_first : b.0 < 2 ^ 32 - 1 → AreAtoms (atoms ++ a ∷ []) → AreAtoms (b ∷ atoms ++ a ∷ [])
    with_first first others zero d less = first
    with_first first others (suc k) d less = others k d (omega arith)

-- ---- the reader's loop

at_first : (first : AtomId) (more : List AtomId) (tail rest : List ℕ) → rest ≡ numbers (first ∷ more) ++ tail → first.0 < 2 ^ 32 - 1 → goes_on tail ≡ false
    → atom_front rest ≡ Some (first, later_numbers more ++ tail)
at_first first more tail rest is small stops = atom_read first (later_numbers more ++ tail) rest (record {
  joined = is ∙ append_assoc (decimal (first.0 + 1)) (later_numbers more) tail;
  within = omega arith;
  stops = later_stops more tail stops;
})

pub start : (text : List ℕ) → goes_on text ≡ true → Reading text [] text
start text goes = record { joined = refl; in_range = All-nil _; complete = all }
  where
    all : (others : List AtomId) (tail : List ℕ) → IsList others tail text → Goes others [] tail text
    all [] tail list = let stop : goes_on text ≡ false = ap goes_on list.joined ∙ list.stops in cc
    all (a ∷ more) tail list = record {
      first = a;
      more = more;
      joined = refl;
      is_rest = list.joined;
      first_small = head_at a more list.in_range;
      more_small = tail_at a more list.in_range;
      stops = list.stops;
    }

comma_behind : (behind next : List ℕ) → word_front (44 ∷ []) behind ≡ Some next → behind ≡ 44 ∷ next
comma_behind behind next is = word_found (44 ∷ []) behind next is

pub step : (text : List ℕ) (done : List AtomId) (rest : List ℕ) (a : AtomId) (behind next : List ℕ) → Reading text done rest
    → atom_front rest ≡ Some (a, behind) → word_front (44 ∷ []) behind ≡ Some next → Reading text (done ++ a ∷ []) next
step text done rest a behind next reading found comma = record {
  joined = reading.joined ∙ ap (λ t. with_commas done ++ t) (atom.joined ∙ ap (λ t. decimal (a.0 + 1) ++ t) (comma_behind behind next comma))
      ∙ ap (λ t. with_commas done ++ t) (sym (append_assoc (decimal (a.0 + 1)) (44 ∷ []) next))
      ∙ sym (append_assoc (with_commas done) (decimal (a.0 + 1) ++ (44 ∷ [])) next)
      ∙ ap (λ t. t ++ next) (sym (commas_behind done a));
  in_range = push_at done a reading.in_range (let le = atom.within in omega arith);
  complete = λ others tail list. let goes = reading.complete others tail list in
      one_more others tail goes.first goes.more goes.joined goes.more_small goes.stops (at_first goes.first goes.more tail rest goes.is_rest goes.first_small goes.stops);
}
  where
    atom : IsAtom a behind rest
    atom = atom_found a behind rest found

    one_more : (others : List AtomId) (tail : List ℕ) (first : AtomId) (more : List AtomId) → others ≡ done ++ first ∷ more → AreAtoms more → goes_on tail ≡ false
        → atom_front rest ≡ Some (first, later_numbers more ++ tail) → Goes others (done ++ a ∷ []) tail next
    one_more others tail first [] joined small stops read =
        let same : (a ≡ first) × (behind ≡ tail) = some_pair_parts a first behind tail (sym found ∙ read) in
        let goes : goes_on tail ≡ true = ap goes_on (sym same.1 ∙ comma_behind behind next comma) in
        cc
    one_more others tail first (b ∷ more) joined small stops read =
        let same : (a ≡ first) × (behind ≡ 44 ∷ (numbers (b ∷ more) ++ tail)) = some_pair_parts a first behind _ (sym found ∙ read) in
        let rest_same : 44 ∷ next ≡ 44 ∷ (numbers (b ∷ more) ++ tail) = sym (comma_behind behind next comma) ∙ same.1 in
        record {
          first = b;
          more = more;
          joined = joined ∙ ap (λ f. done ++ f ∷ b ∷ more) (sym same.0) ∙ sym (append_assoc done (a ∷ []) (b ∷ more));
          is_rest = cc;
          first_small = head_at b more small;
          more_small = tail_at b more small;
          stops = stops;
        }

pub none_found : (text : List ℕ) (done : List AtomId) (rest : List ℕ) → Reading text done rest → atom_front rest ≡ None → FindsList text None
none_found text done rest reading none = λ others tail. (
  (λ e. cc),
  (λ list. let goes = reading.complete others tail list in let read = at_first goes.first goes.more tail rest goes.is_rest goes.first_small goes.stops in cc),
)

at_pair : (P : List AtomId → List ℕ → Type 0) (a c : List AtomId) (b d : List ℕ) → P a b → ◌≡◌ {A = Option (List AtomId × List ℕ)} (Some (a, b)) (Some (c, d)) → P c d
at_pair P a c b d holds e = let same = some_pair_parts a c b d e in subst (λ y. P c y) same.1 (subst (λ x. P x b) same.0 holds)

pub last_found : (text : List ℕ) (done : List AtomId) (rest : List ℕ) (a : AtomId) (behind : List ℕ) → Reading text done rest
    → atom_front rest ≡ Some (a, behind) → word_front (44 ∷ []) behind ≡ None → FindsList text (Some (done ++ a ∷ [], behind))
last_found text done rest a behind reading found comma = λ others tail. (
  (λ e. at_pair (λ x y. IsList x y text) (done ++ a ∷ []) others behind tail here e),
  (λ list. let goes = reading.complete others tail list in
      only others tail goes.first goes.more goes.joined (at_first goes.first goes.more tail rest goes.is_rest goes.first_small goes.stops)),
)
  where
    atom : IsAtom a behind rest
    atom = atom_found a behind rest found

    ends : (t : List ℕ) → starts_digit t ≡ false → word_front (44 ∷ []) t ≡ None → goes_on t ≡ false
    ends [] stops none = refl
    ends (b ∷ t) stops none = at_byte (is_ascii_digit b) (b == 44) stops none
      where
        at_byte : (p q : Bool) → p ≡ false → (if q then Some t else None) ≡ None → (p || q) ≡ false
        at_byte p true is none = cc
        at_byte p false is none = rw is refl

    here : IsList (done ++ a ∷ []) behind text
    here = record {
      joined = reading.joined ∙ ap (λ t. with_commas done ++ t) atom.joined ∙ sym (append_assoc (with_commas done) (decimal (a.0 + 1)) behind)
          ∙ ap (λ t. (with_commas done ++ t) ++ behind) (sym (append-nil (decimal (a.0 + 1)))) ∙ ap (λ t. t ++ behind) (sym (numbers_behind done a []));
      in_range = push_at done a reading.in_range (let le = atom.within in omega arith);
      stops = ends behind atom.stops comma;
    }

    only : (others : List AtomId) (tail : List ℕ) (first : AtomId) (more : List AtomId) → others ≡ done ++ first ∷ more
        → atom_front rest ≡ Some (first, later_numbers more ++ tail) → ◌≡◌ {A = Option (List AtomId × List ℕ)} (Some (done ++ a ∷ [], behind)) (Some (others, tail))
    only others tail first [] joined read =
        let same : (a ≡ first) × (behind ≡ tail) = some_pair_parts a first behind tail (sym found ∙ read) in
        ap (λ f. Some (done ++ f ∷ [], behind)) same.0 ∙ ap (λ x. Some (x, behind)) (sym joined) ∙ ap (λ y. Some (others, y)) same.1
    only others tail first (b ∷ more) joined read =
        let same : (a ≡ first) × (behind ≡ 44 ∷ (numbers (b ∷ more) ++ tail)) = some_pair_parts a first behind _ (sym found ∙ read) in
        let comma_there = ap (word_front (44 ∷ [])) same.1 in
        cc

pub empty_found : (text : List ℕ) → goes_on text ≡ false → FindsList text (Some ([], text))
empty_found text stops = λ others tail. ((λ e. at_pair (λ x y. IsList x y text) [] others text tail here e), only others tail)
  where
    here : IsList [] text text
    here = record { joined = refl; in_range = All-nil _; stops = stops }

    only : (others : List AtomId) (tail : List ℕ) → IsList others tail text → ◌≡◌ {A = Option (List AtomId × List ℕ)} (Some ([], text)) (Some (others, tail))
    only [] tail list = ap (λ t. Some ([], t)) list.joined
    only (a ∷ more) tail list =
        let goes : goes_on text ≡ true = ap goes_on list.joined ∙ list_goes_on a more tail (head_at a more list.in_range) in
        cc

-- ---- one list

commas_same : (a b : List ℕ) → ◌≡◌ {A = List ℕ} (44 ∷ a) (44 ∷ b) → a ≡ b
commas_same a b e = cc

first_same : (x y : AtomId) (xs ys : List AtomId) (t u text : List ℕ) → IsList (x ∷ xs) t text → IsList (y ∷ ys) u text
    → (x ≡ y) × (later_numbers xs ++ t ≡ later_numbers ys ++ u)
first_same x y xs ys t u text is also =
    let first = at_first x xs t text is.joined (head_at x xs is.in_range) is.stops in
    let other = at_first y ys u text also.joined (head_at y ys also.in_range) also.stops in
    some_pair_parts x y (later_numbers xs ++ t) (later_numbers ys ++ u) (sym first ∙ other)

-- a text begins with one list of atoms
pub list_once : (xs ys : List AtomId) (t u text : List ℕ) → IsList xs t text → IsList ys u text → (xs ≡ ys) × (t ≡ u)
list_once [] [] t u text is also = (refl, sym is.joined ∙ also.joined)
list_once [] (y ∷ ys) t u text is also =
    let goes : goes_on text ≡ true = ap goes_on also.joined ∙ list_goes_on y ys u (head_at y ys also.in_range) in
    let stops : goes_on text ≡ false = ap goes_on is.joined ∙ is.stops in
    cc
list_once (x ∷ xs) [] t u text is also =
    let goes : goes_on text ≡ true = ap goes_on is.joined ∙ list_goes_on x xs t (head_at x xs is.in_range) in
    let stops : goes_on text ≡ false = ap goes_on also.joined ∙ also.stops in
    cc
list_once (x ∷ []) (y ∷ []) t u text is also = let same = first_same x y [] [] t u text is also in (ap (λ a. a ∷ []) same.0, same.1)
list_once (x ∷ []) (y ∷ b ∷ ys) t u text is also =
    let same = first_same x y [] (b ∷ ys) t u text is also in
    let goes : goes_on t ≡ true = ap goes_on same.1 in
    let stops : goes_on t ≡ false = is.stops in
    cc
list_once (x ∷ a ∷ xs) (y ∷ []) t u text is also =
    let same = first_same x y (a ∷ xs) [] t u text is also in
    let goes : goes_on u ≡ true = ap goes_on (sym same.1) in
    let stops : goes_on u ≡ false = also.stops in
    cc
list_once (x ∷ a ∷ xs) (y ∷ b ∷ ys) t u text is also =
    let same = first_same x y (a ∷ xs) (b ∷ ys) t u text is also in
    let rest = list_once (a ∷ xs) (b ∷ ys) t u (numbers (a ∷ xs) ++ t)
    (record { joined = refl; in_range = tail_at x (a ∷ xs) is.in_range; stops = is.stops })
    (record { joined = commas_same (numbers (a ∷ xs) ++ t) (numbers (b ∷ ys) ++ u) same.1; in_range = tail_at y (b ∷ ys) also.in_range; stops = also.stops }) in
    (ap (λ z. z ∷ a ∷ xs) same.0 ∙ ap (λ zs. y ∷ zs) rest.0, rest.1)

-- the list at the front is the one that is found
pub list_exact : (text : List ℕ) (atoms : List AtomId) (tail : List ℕ) → IsList atoms tail text → FindsList text (Some (atoms, tail))
list_exact text atoms tail here = λ others rest. (
  (λ e. at_pair (λ x y. IsList x y text) atoms others tail rest here e),
  (λ list. let same = list_once atoms others tail rest text here list in ap (λ x. Some (x, tail)) same.0 ∙ ap (λ y. Some (others, y)) same.1),
)
