-- A number behind a word, and the three counts of a line.
use Rattle.std.proofs.Common.{arith, ◌≡◌, ◌∙◌, ◌<◌, ◌^◌, ℕ, true, false, List, [], ◌∷◌, ◌++◌, refl, ap, sym, append-nil}
use Rattle.std.specs.Prelude.{Option, Some, None, decimal, codes, option_and_then}
use Rattle.mc_base.specs.Digits.{starts_digit}
use Rattle.mc_report.specs.Fronts.{word_front, number_front, labelled, most_count}
use Rattle.mc_report.specs.Behind.{is_end, ends, counts_front, AreCounts}
use Rattle.mc_report.proofs.Numbers.{number_exact}
use Rattle.mc_report.proofs.Words.{word_found, word_read}

pub record Labelled (word : List ℕ) (n : ℕ) (tail text : List ℕ) : Type 0 where
  pub joined : text ≡ word ++ (decimal n ++ tail)
  pub within : n < 2 ^ 32
  pub stops : starts_digit tail ≡ false

fits : most_count < 2 ^ 64
fits = omega arith

pub labelled_read : (word : List ℕ) (n : ℕ) (tail text : List ℕ) → Labelled word n tail text → labelled most_count word text ≡ Some (n, tail)
labelled_read word n tail text is =
    ap (λ t. option_and_then (number_front most_count) (word_front word t)) is.joined ∙ ap (option_and_then (number_front most_count)) (word_read word (decimal n ++ tail))
    ∙ (number_exact most_count (decimal n ++ tail) fits n tail).1 (record { joined = refl; within = let less = is.within in omega arith; stops = is.stops })

pub labelled_found : (word : List ℕ) (n : ℕ) (tail text : List ℕ) → labelled most_count word text ≡ Some (n, tail) → Labelled word n tail text
labelled_found word n tail text is = behind (word_front word text) refl is
  where
    behind : (o : Option (List ℕ)) → word_front word text ≡ o → option_and_then (number_front most_count) o ≡ Some (n, tail) → Labelled word n tail text
    behind None e found = cc
    behind (Some rest) e found =
        let number = (number_exact most_count rest fits n tail).0 found in
        record { joined = word_found word text rest e ∙ ap (λ t. word ++ t) number.joined; within = let le = number.within in omega arith; stops = number.stops }

-- a number at the end
pub last_read : (word : List ℕ) (n : ℕ) (text : List ℕ) → text ≡ word ++ decimal n → n < 2 ^ 32 → labelled most_count word text ≡ Some (n, [])
last_read word n text is small = labelled_read word n [] text (record { joined = is ∙ ap (λ t. word ++ t) (sym (append-nil (decimal n))); within = small; stops = refl })

pub last_found : (word : List ℕ) (n : ℕ) (tail text : List ℕ) → labelled most_count word text ≡ Some (n, tail) → is_end tail ≡ true → (text ≡ word ++ decimal n) × (n < 2 ^ 32)
last_found word n [] text is end =
    let found = labelled_found word n [] text is in
    (found.joined ∙ ap (λ t. word ++ t) (append-nil (decimal n)), found.within)
last_found word n (b ∷ tail) text is end = cc

-- ---- the counts

pub counts_read : (text : List ℕ) → AreCounts text → ends (counts_front text) ≡ true
counts_read text c =
    let lines_text : List ℕ = codes " data=" ++ decimal c.lines in
    let ring_text : List ℕ = codes " ring=" ++ (decimal c.ring ++ lines_text) in
    let idle = labelled_read (codes " idle=") c.idle ring_text text (record { joined = c.joined; within = c.idle_fits; stops = refl }) in
    let ring = labelled_read (codes " ring=") c.ring lines_text ring_text (record { joined = refl; within = c.ring_fits; stops = refl }) in
    let lines = last_read (codes " data=") c.lines lines_text refl c.lines_fit in
    ap (λ o. ends (option_and_then (λ ring. labelled most_count (codes " data=") ring.1) (option_and_then (λ idle. labelled most_count (codes " ring=") idle.1) o))) idle
    ∙ ap (λ o. ends (option_and_then (λ ring. labelled most_count (codes " data=") ring.1) o)) ring
    ∙ ap ends lines

pub counts_found : (text : List ℕ) → ends (counts_front text) ≡ true → AreCounts text
counts_found text is = at_idle (labelled most_count (codes " idle=") text) refl is
  where
    at_lines : (idle ring : ℕ) (a b : List ℕ) (o : Option (ℕ × List ℕ)) → labelled most_count (codes " idle=") text ≡ Some (idle, a) → labelled most_count (codes " ring=") a ≡ Some (ring, b)
        → labelled most_count (codes " data=") b ≡ o → ends o ≡ true → AreCounts text
    at_lines idle ring a b None e f g end = cc
    at_lines idle ring a b (Some (lines, c)) e f g end =
        let first = labelled_found (codes " idle=") idle a text e in
        let second = labelled_found (codes " ring=") ring b a f in
        let third = last_found (codes " data=") lines c b g end in
        record {
          idle = idle;
          ring = ring;
          lines = lines;
          idle_fits = first.within;
          ring_fits = second.within;
          lines_fit = third.1;
          joined = first.joined ∙ ap (λ t. codes " idle=" ++ (decimal idle ++ t)) (second.joined ∙ ap (λ t. codes " ring=" ++ (decimal ring ++ t)) third.0);
        }

    at_ring : (idle : ℕ) (a : List ℕ) (o : Option (ℕ × List ℕ)) → labelled most_count (codes " idle=") text ≡ Some (idle, a) → labelled most_count (codes " ring=") a ≡ o
        → ends (option_and_then (λ ring. labelled most_count (codes " data=") ring.1) o) ≡ true → AreCounts text
    at_ring idle a None e f end = cc
    at_ring idle a (Some (ring, b)) e f end = at_lines idle ring a b (labelled most_count (codes " data=") b) e f refl end

    at_idle : (o : Option (ℕ × List ℕ)) → labelled most_count (codes " idle=") text ≡ o
        → ends (option_and_then (λ ring. labelled most_count (codes " data=") ring.1) (option_and_then (λ idle. labelled most_count (codes " ring=") idle.1) o)) ≡ true → AreCounts text
    at_idle None e end = cc
    at_idle (Some (idle, a)) e end = at_ring idle a (labelled most_count (codes " ring=") a) e refl end
