-- The line of a record that is refused, behind its number.
use Rattle.std.proofs.Common.{◌≡◌, ◌∙◌, ◌<◌, ◌^◌, ◌==◌, ◌&&◌, ◌||◌, ℕ, suc, Bool, true, false, if◌then◌else◌, List, [], ◌∷◌, ◌++◌, length, take, drop, refl, ap, sym, subst, append_assoc}
use Rattle.std.specs.Prelude.{Option, Some, None, decimal, codes, IsTrue}
use Rattle.std.proofs.lemmas.List.{take-append-drop}
use Rattle.std.proofs.lemmas.Option.{some_pair_parts}
use Rattle.std.proofs.lemmas.Bool.{cond-true}
use Rattle.mc_base.specs.declared.ids.AtomId.{AtomId}
use Rattle.mc_base.specs.declared.kind.Kind.{Kind}
use Rattle.mc_base.specs.declared.kind.Kind.TheVariants.{NoPlacement}
use Rattle.mc_base.specs.declared.refusal.Refusal.{Refusal}
use Rattle.mc_base.specs.Kinds.{kind_name}
use Rattle.mc_report.specs.declared.report_line.ReportLine.{ReportLine}
use Rattle.mc_report.specs.declared.report_line.ReportLine.TheVariants.{Refused as RefusedLine}
use Rattle.mc_report.specs.Grammar.{AreAtoms, HasReason, is_increasing}
use Rattle.mc_report.specs.Report.{numbers, reason}
use Rattle.mc_report.specs.Fronts.{IsList, FindsList, labelled, most_count, word_front}
use Rattle.mc_report.specs.Behind.{FindsLine, FindsKind, IsKind, RefusedBehind, BarrierBehind, barrier_of, barrier_with, place_of, place_with, is_end, name_len, ends_name}
use Rattle.mc_report.proofs.Words.{word_found, word_read}
use Rattle.mc_report.proofs.Labels.{last_read, last_found}
use Rattle.mc_report.proofs.Names.{has_space, no_space}
use Rattle.mc_base.proofs.NamesApart.{names_apart}

abbrev made : Kind → ℕ → List AtomId → ℕ → Refusal
made kind place barrier odd = record { kind = kind; place = place; barrier = barrier; odd = odd }

-- ---- kinds

left_part : (p q : Bool) → (p || q) ≡ false → p ≡ false
left_part true q is = cc
left_part false q is = refl

right_part : (p q : Bool) → (p || q) ≡ false → q ≡ false
right_part true q is = cc
right_part false q is = is

cut : (name rest : List ℕ) → has_space name ≡ false → ends_name rest ≡ true → name_len (name ++ rest) ≡ length name
cut [] [] none ends = refl
cut [] (b ∷ rest) none ends = rw ends refl
cut (b ∷ name) rest none ends =
    let other : (b == 32) ≡ false = left_part (b == 32) (has_space name) none in
    rw other (ap suc (cut name rest (right_part (b == 32) (has_space name) none) ends))

stops_there : (text : List ℕ) → ends_name (drop (name_len text) text) ≡ true
stops_there [] = refl
stops_there (b ∷ text) = at_byte (b == 32) refl (stops_there text)
  where
    at_byte : (t : Bool) → (b == 32) ≡ t → ends_name (drop (name_len text) text) ≡ true → ends_name (drop (if t then 0 else suc (name_len text)) (b ∷ text)) ≡ true
    at_byte true e later = e
    at_byte false e later = later

take_front : (xs ys : List ℕ) → take (length xs) (xs ++ ys) ≡ xs
take_front [] ys = refl
take_front (x ∷ xs) ys = ap (λ t. x ∷ t) (take_front xs ys)

drop_front : (xs ys : List ℕ) → drop (length xs) (xs ++ ys) ≡ ys
drop_front [] ys = refl
drop_front (x ∷ xs) ys = drop_front xs ys

record Cut (kind : Kind) (rest text : List ℕ) : Type 0 where
  name : take (name_len text) text ≡ kind_name kind
  behind : drop (name_len text) text ≡ rest

cut_kind : (kind : Kind) (rest text : List ℕ) → IsKind kind rest text → Cut kind rest text
cut_kind kind rest text is =
    let len : name_len text ≡ length (kind_name kind) = ap name_len is.joined ∙ cut (kind_name kind) rest (no_space kind) is.stops in
    record {
      name = ap (λ t. take (name_len text) t) is.joined ∙ ap (λ n. take n (kind_name kind ++ rest)) len ∙ take_front (kind_name kind) rest;
      behind = ap (λ t. drop (name_len text) t) is.joined ∙ ap (λ n. drop n (kind_name kind ++ rest)) len ∙ drop_front (kind_name kind) rest;
    }

pub kind_none : (text : List ℕ) → ((kind : Kind) → kind_name kind ≡ take (name_len text) text → ⊥) → FindsKind text None
kind_none text none = λ kind rest. ((λ e. cc), (λ is. absurd (none kind (sym (cut_kind kind rest text is).name))))

pub kind_some : (text : List ℕ) (kind : Kind) (rest : List ℕ) → kind_name kind ≡ take (name_len text) text → rest ≡ drop (name_len text) text → FindsKind text (Some (kind, rest))
kind_some text kind rest name behind = λ other tail. (
  (λ e. let same = some_pair_parts kind other rest tail e in subst (λ k. IsKind k tail text) same.0 (subst (λ t. IsKind kind t text) same.1 here)),
  (λ is. let there = cut_kind other tail text is in
      ap (λ k. Some (k, rest)) (names_apart kind other (name ∙ there.name)) ∙ ap (λ t. Some (other, t)) (behind ∙ there.behind)),
)
  where
    here : IsKind kind rest text
    here = record {
      joined = sym (take-append-drop (name_len text) text) ∙ ap (λ t. t ++ drop (name_len text) text) (sym name) ∙ ap (λ t. kind_name kind ++ t) (sym behind);
      stops = ap ends_name behind ∙ stops_there text;
    }

-- a kind's name at the front is the one that is found
pub kind_exact : (text : List ℕ) (kind : Kind) (rest : List ℕ) → IsKind kind rest text → FindsKind text (Some (kind, rest))
kind_exact text kind rest is = let there = cut_kind kind rest text is in kind_some text kind rest (sym there.name) (sym there.behind)

-- ---- a place

plain_reason : (kind : Kind) (place : ℕ) (barrier : List AtomId) (odd : ℕ) → (kind ≡ NoPlacement → ⊥) → reason kind place barrier odd ≡ codes " place=" ++ decimal place
plain_reason NoPlacement place barrier odd other = absurd (other refl)
plain_reason _ place barrier odd other = refl

plain_fits : (kind : Kind) (place : ℕ) → (kind ≡ NoPlacement → ⊥) → place < 2 ^ 32 → HasReason kind place [] 0
plain_fits NoPlacement place other small = absurd (other refl)
plain_fits _ place other small = (small, refl, refl)

plain_parts : (kind : Kind) (place : ℕ) (barrier : List AtomId) (odd : ℕ) → (kind ≡ NoPlacement → ⊥) → HasReason kind place barrier odd → (place < 2 ^ 32) × (barrier ≡ []) × (odd ≡ 0)
plain_parts NoPlacement place barrier odd other has = absurd (other refl)
plain_parts _ place barrier odd other has = has

reason_begins : (kind : Kind) (place : ℕ) (barrier : List AtomId) (odd : ℕ) → ends_name (reason kind place barrier odd) ≡ true
reason_begins NoPlacement place barrier odd = refl
reason_begins _ place barrier odd = refl

pub kind_there : (k : ℕ) (line : ReportLine) (text : List ℕ) (b : RefusedBehind k line text) → IsKind b.refusal.kind (reason b.refusal.kind b.refusal.place b.refusal.barrier b.refusal.odd) text
kind_there k line text b = record { joined = b.joined; stops = reason_begins b.refusal.kind b.refusal.place b.refusal.barrier b.refusal.odd }

pub place_exact : (k : ℕ) (text : List ℕ) (kind : Kind) (rest : List ℕ) → FindsKind text (Some (kind, rest)) → (kind ≡ NoPlacement → ⊥)
    → FindsLine (λ line. RefusedBehind k line text) (place_of k kind rest)
place_exact k text kind rest finds other = λ line. (
  (λ e. at_place line (labelled most_count (codes " place=") rest) refl e),
  (λ b. let refusal = b.refusal in
      let there = (finds b.refusal.kind _).1 (kind_there k line text b) in
      at_same line b (some_pair_parts kind b.refusal.kind rest _ there)),
)
  where
    at_end : (line : ReportLine) (place : ℕ) (tail : List ℕ) (t : Bool) → labelled most_count (codes " place=") rest ≡ Some (place, tail) → is_end tail ≡ t
        → (if t then Some (RefusedLine k (made kind place [] 0)) else None) ≡ Some line → RefusedBehind k line text
    at_end line place tail true e end found =
        let last = last_found (codes " place=") place tail rest e end in
        let here = (finds kind rest).0 refl in
        let is : line ≡ RefusedLine k (made kind place [] 0) = cc in
        record {
          refusal = made kind place [] 0;
          is = is;
          fits = plain_fits kind place other last.1;
          joined = here.joined ∙ ap (λ t. kind_name kind ++ t) (last.0 ∙ sym (plain_reason kind place [] 0 other));
        }
    at_end line place tail false e end found = cc

    at_place : (line : ReportLine) (o : Option (ℕ × List ℕ)) → labelled most_count (codes " place=") rest ≡ o → place_with k kind o ≡ Some line → RefusedBehind k line text
    at_place line None e found = cc
    at_place line (Some (place, tail)) e found = at_end line place tail (is_end tail) e refl found

    at_same : (line : ReportLine) (b : RefusedBehind k line text) → (kind ≡ b.refusal.kind) × (rest ≡ reason b.refusal.kind b.refusal.place b.refusal.barrier b.refusal.odd)
        → place_of k kind rest ≡ Some line
    at_same line b same =
        let refusal = b.refusal in
        let plain : b.refusal.kind ≡ NoPlacement → ⊥ = λ e. other (same.0 ∙ e) in
        let parts = plain_parts b.refusal.kind b.refusal.place b.refusal.barrier b.refusal.odd plain b.fits in
        let read = last_read (codes " place=") b.refusal.place rest (same.1 ∙ plain_reason b.refusal.kind b.refusal.place b.refusal.barrier b.refusal.odd plain) parts.0 in
        ap (place_with k kind) read ∙ ap (λ r. Some (RefusedLine k r)) (
        ap (λ x. made x b.refusal.place [] 0) same.0 ∙ ap (λ x. made b.refusal.kind b.refusal.place x 0) (sym parts.1)
        ∙ ap (λ x. made b.refusal.kind b.refusal.place b.refusal.barrier x) (sym parts.2)
        ) ∙ ap (λ l. Some l) (sym b.is)

-- ---- a barrier

pub barrier_list : (k : ℕ) (line : ReportLine) (text rest : List ℕ) (b : BarrierBehind k line text) → text ≡ codes " barrier=" ++ rest
    → IsList b.barrier (codes " odd=" ++ decimal b.odd) rest
barrier_list k line text rest b is =
    let read : Some rest ≡ Some (numbers b.barrier ++ (codes " odd=" ++ decimal b.odd)) =
    sym (word_read (codes " barrier=") rest) ∙ ap (word_front (codes " barrier=")) (sym is ∙ b.joined) ∙ word_read (codes " barrier=") (numbers b.barrier ++ (codes " odd=" ++ decimal b.odd)) in
    record { joined = cc; in_range = b.atoms; stops = refl }

pub barrier_exact : (k : ℕ) (text rest : List ℕ) (found : Option (List AtomId × List ℕ)) → word_front (codes " barrier=") text ≡ Some rest → FindsList rest found
    → FindsLine (λ line. BarrierBehind k line text) (barrier_of k found)
barrier_exact k text rest None word finds = λ line. (
  (λ e. cc),
  (λ b. let there = (finds b.barrier (codes " odd=" ++ decimal b.odd)).1 (barrier_list k line text rest b (word_found (codes " barrier=") text rest word)) in cc),
)
barrier_exact k text rest (Some (barrier, tail)) word finds = λ line. (
  (λ e. at_odd line (labelled most_count (codes " odd=") tail) refl e),
  (λ b. let there = (finds b.barrier (codes " odd=" ++ decimal b.odd)).1 (barrier_list k line text rest b (word_found (codes " barrier=") text rest word)) in
      at_same line b (some_pair_parts barrier b.barrier tail _ there)),
)
  where
    at_end : (line : ReportLine) (odd : ℕ) (more : List ℕ) (p q : Bool) → labelled most_count (codes " odd=") tail ≡ Some (odd, more) → is_end more ≡ p → is_increasing barrier ≡ q
        → (if p && q then Some (RefusedLine k (made NoPlacement 0 barrier odd)) else None) ≡ Some line → BarrierBehind k line text
    at_end line odd more true true e end rises found =
        let last = last_found (codes " odd=") odd more tail e end in
        let list = (finds barrier tail).0 refl in
        let is : line ≡ RefusedLine k (made NoPlacement 0 barrier odd) = cc in
        record {
          barrier = barrier;
          odd = odd;
          is = is;
          atoms = list.in_range;
          increasing = rises;
          odd_fits = last.1;
          joined = word_found (codes " barrier=") text rest word ∙ ap (λ t. codes " barrier=" ++ t) (list.joined ∙ ap (λ t. numbers barrier ++ t) last.0);
        }
    at_end line odd more true false e end rises found = cc
    at_end line odd more false q e end rises found = cc

    at_odd : (line : ReportLine) (o : Option (ℕ × List ℕ)) → labelled most_count (codes " odd=") tail ≡ o → barrier_with k barrier o ≡ Some line → BarrierBehind k line text
    at_odd line None e found = cc
    at_odd line (Some (odd, more)) e found = at_end line odd more (is_end more) (is_increasing barrier) e refl refl found

    at_same : (line : ReportLine) (b : BarrierBehind k line text) → (barrier ≡ b.barrier) × (tail ≡ codes " odd=" ++ decimal b.odd) → barrier_of k (Some (barrier, tail)) ≡ Some line
    at_same line b same =
        let read = last_read (codes " odd=") b.odd tail same.1 b.odd_fits in
        let rises : is_increasing barrier ≡ true = ap is_increasing same.0 ∙ b.increasing in
        ap (barrier_with k barrier) read ∙ cond-true (is_increasing barrier) _ _ rises ∙ ap (λ x. Some (RefusedLine k (made NoPlacement 0 x b.odd))) same.0 ∙ ap (λ l. Some l) (sym b.is)

pub barrier_none : (k : ℕ) (text : List ℕ) → word_front (codes " barrier=") text ≡ None → FindsLine (λ line. BarrierBehind k line text) None
barrier_none k text word = λ line. (
  (λ e. cc),
  (λ b. let read = ap (word_front (codes " barrier=")) b.joined ∙ word_read (codes " barrier=") (numbers b.barrier ++ (codes " odd=" ++ decimal b.odd)) in cc),
)

-- ---- either

pub regroup : (a b c d : List ℕ) → ((a ++ b) ++ c) ++ d ≡ a ++ (b ++ (c ++ d))
regroup a b c d = simp append_assoc

pub barrier_parts : (kind : Kind) (place : ℕ) (barrier : List AtomId) (odd : ℕ) → NoPlacement ≡ kind → HasReason kind place barrier odd
    → (place ≡ 0) × AreAtoms barrier × IsTrue (is_increasing barrier) × (odd < 2 ^ 32)
barrier_parts NoPlacement place barrier odd same has = has
barrier_parts _ place barrier odd same has = cc

-- what is said of NoPlacement is a barrier
pub barrier_said : (k : ℕ) (text rest : List ℕ) (line : ReportLine) (b : RefusedBehind k line text)
    → (NoPlacement ≡ b.refusal.kind) × (rest ≡ reason b.refusal.kind b.refusal.place b.refusal.barrier b.refusal.odd) → BarrierBehind k line rest
barrier_said k text rest line b same =
    let refusal = b.refusal in
    let parts = barrier_parts b.refusal.kind b.refusal.place b.refusal.barrier b.refusal.odd same.0 b.fits in
    record {
      barrier = b.refusal.barrier;
      odd = b.refusal.odd;
      is = b.is ∙ ap (λ r. RefusedLine k r) (ap (λ x. made x b.refusal.place b.refusal.barrier b.refusal.odd) (sym same.0) ∙ ap (λ x. made NoPlacement x b.refusal.barrier b.refusal.odd) parts.0);
      atoms = parts.1;
      increasing = parts.2;
      odd_fits = parts.3;
      joined = same.1 ∙ ap (λ x. reason x b.refusal.place b.refusal.barrier b.refusal.odd) (sym same.0) ∙ regroup (codes " barrier=") (numbers b.refusal.barrier) (codes " odd=") (decimal b.refusal.odd);
    }

pub refused_barrier : (k : ℕ) (text rest : List ℕ) (answer : Option ReportLine) → FindsKind text (Some (NoPlacement, rest)) → FindsLine (λ line. BarrierBehind k line rest) answer
    → FindsLine (λ line. RefusedBehind k line text) answer
refused_barrier k text rest answer kinds finds = λ line. (
  (λ e. with_kind line ((finds line).0 e)),
  (λ b. let there = (kinds b.refusal.kind _).1 (kind_there k line text b) in (finds line).1 (barrier_said k text rest line b (some_pair_parts NoPlacement b.refusal.kind rest _ there))),
)
  where
    with_kind : (line : ReportLine) → BarrierBehind k line rest → RefusedBehind k line text
    with_kind line b =
        let here = (kinds NoPlacement rest).0 refl in
        record {
          refusal = made NoPlacement 0 b.barrier b.odd;
          is = b.is;
          fits = (refl, b.atoms, b.increasing, b.odd_fits);
          joined = here.joined ∙ ap (λ t. kind_name NoPlacement ++ t) (b.joined ∙ sym (regroup (codes " barrier=") (numbers b.barrier) (codes " odd=") (decimal b.odd)));
        }

pub refused_none : (k : ℕ) (text : List ℕ) → FindsKind text None → FindsLine (λ line. RefusedBehind k line text) None
refused_none k text kinds = λ line. ((λ e. cc), (λ b. let there = (kinds b.refusal.kind _).1 (kind_there k line text b) in cc))
