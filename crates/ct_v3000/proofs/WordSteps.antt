-- One more byte of a text that is read word by word.
use Rattle.std.proofs.Common.{arith, ◌≡◌, ◌∙◌, ℕ, suc, ◌+◌, ◌-◌, ◌≤◌, ◌<◌, List, [], ◌∷◌, ◌++◌, length, map, take, drop, get_or, Bool, true, false, Option, Some, None, refl, ap, sym, if◌then◌else◌, append_assoc}
use Rattle.std.proofs.Math.Seq.{drop-cons}
use Rattle.std.proofs.lemmas.List.{take_more, get_or-drop, length-drop, map-append, drop_all}
use Rattle.ct_v3000.specs.declared.splitting.WordSpan.{WordSpan}
use Rattle.ct_v3000.specs.Words.{part}
use Rattle.ct_v3000.specs.declared.splitting.Within.{Within}
use Rattle.ct_v3000.specs.declared.splitting.Within.TheVariants.{Gap, Word, Bracket, Quote}
use Rattle.ct_v3000.specs.Words.{parts, behind, ended, ended_spans, is_closed, onto_words, words_from}

-- the words before and the words that follow
onto_joined : (made more : List (List ℕ)) (later : Option (List (List ℕ))) → onto_words made (onto_words more later) ≡ onto_words (made ++ more) later
onto_joined made more None = refl
onto_joined made more (Some words) = ap (λ t. Some t) (sym (append_assoc made more words))

spans_are : (text : List ℕ) (within : Within) (from to : ℕ) → map (part text) (ended_spans within from to) ≡ ended within (take (to - from) (drop from text))
spans_are text Word from to = refl
spans_are text Gap from to = refl
spans_are text Bracket from to = refl
spans_are text Quote from to = refl

pub made_more : (text : List ℕ) (within : Within) (from to : ℕ) (spans : List WordSpan) → map (part text) (spans ++ ended_spans within from to) ≡ map (part text) spans ++ ended within (take (to - from) (drop from text))
made_more text within from to spans = map-append (part text) spans (ended_spans within from to) ∙ ap (λ t. map (part text) spans ++ t) (spans_are text within from to)

one_byte : (text : List ℕ) (i : ℕ) (within : Within) (word : List ℕ) → i < length text → words_from within word (drop i text) ≡ words_from within word (get_or text i 0 ∷ drop (i + 1) text)
one_byte text i within word less = ap (words_from within word) (drop-cons text i 0 less ∙ ap (λ (m : ℕ). get_or text i 0 ∷ drop m text) (let e : suc i ≡ i + 1 = omega arith in e))

-- a blank that parts words
pub parted : (text : List ℕ) (i from : ℕ) (within : Within) (made now : List (List ℕ)) (all : Option (List (List ℕ))) → i < length text → parts within (get_or text i 0) ≡ true
    → now ≡ made ++ ended within (take (i - from) (drop from text))
    → onto_words made (words_from within (take (i - from) (drop from text)) (drop i text)) ≡ all
    → onto_words now (words_from Gap [] (drop (i + 1) text)) ≡ all
parted text i from within made now all less is grown before =
    ap (λ t. onto_words t (words_from Gap [] (drop (i + 1) text))) grown
    ∙ (sym (onto_joined made (ended within word) (words_from Gap [] (drop (i + 1) text)))
    ∙ (ap (onto_words made) (sym (one_byte text i within word less ∙ ap (λ (t : Bool). if t then onto_words (ended within word) (words_from Gap [] (drop (i + 1) text)) else words_from (behind within (get_or text i 0)) (word ++ get_or text i 0 ∷ []) (drop (i + 1) text)) is)) ∙ before))
  where
    word : List ℕ
    word = take (i - from) (drop from text)

longer : (text : List ℕ) (i from : ℕ) → from ≤ i → i < length text → take (i - from) (drop from text) ++ get_or text i 0 ∷ [] ≡ take (i + 1 - from) (drop from text)
longer text i from le less =
    sym (ap (λ (m : ℕ). take m (drop from text)) (let e : i + 1 - from ≡ i - from + 1 = omega arith in e)
    ∙ (take_more (drop from text) (i - from) 0 (let n : ℕ = length (drop from text) in let l : n ≡ length text - from = length-drop from text in omega arith)
    ∙ ap (λ (b : ℕ). take (i - from) (drop from text) ++ b ∷ []) (get_or-drop from text (i - from) 0 ∙ ap (λ (m : ℕ). get_or text m 0) (let e : from + (i - from) ≡ i = omega arith in e))))

-- any other byte
pub kept : (text : List ℕ) (i from : ℕ) (within : Within) (made : List (List ℕ)) (all : Option (List (List ℕ))) → from ≤ i → i < length text → parts within (get_or text i 0) ≡ false
    → onto_words made (words_from within (take (i - from) (drop from text)) (drop i text)) ≡ all
    → onto_words made (words_from (behind within (get_or text i 0)) (take (i + 1 - from) (drop from text)) (drop (i + 1) text)) ≡ all
kept text i from within made all le less is before =
    ap (λ (w : List ℕ). onto_words made (words_from (behind within (get_or text i 0)) w (drop (i + 1) text))) (sym (longer text i from le less))
    ∙ (ap (onto_words made) (sym (one_byte text i within word less ∙ ap (λ (t : Bool). if t then onto_words (ended within word) (words_from Gap [] (drop (i + 1) text)) else words_from (behind within (get_or text i 0)) (word ++ get_or text i 0 ∷ []) (drop (i + 1) text)) is)) ∙ before)
  where
    word : List ℕ
    word = take (i - from) (drop from text)

-- the end of the text
pub ended_text : (text : List ℕ) (i from : ℕ) (within : Within) (made now : List (List ℕ)) (all : Option (List (List ℕ))) → length text ≤ i → is_closed within ≡ true
    → now ≡ made ++ ended within (take (i - from) (drop from text))
    → onto_words made (words_from within (take (i - from) (drop from text)) (drop i text)) ≡ all → Some now ≡ all
ended_text text i from within made now all over is grown before =
    ap (λ t. Some t) grown ∙ (sym (ap (onto_words made) (ap (words_from within word) (drop_all i text over) ∙ ap (λ (t : Bool). if t then Some (ended within word) else None) is)) ∙ before)
  where
    word : List ℕ
    word = take (i - from) (drop from text)

pub unclosed_text : (text : List ℕ) (i from : ℕ) (within : Within) (made : List (List ℕ)) (all : Option (List (List ℕ))) → length text ≤ i → is_closed within ≡ false
    → onto_words made (words_from within (take (i - from) (drop from text)) (drop i text)) ≡ all → None ≡ all
unclosed_text text i from within made all over is before =
    sym (ap (onto_words made) (ap (words_from within word) (drop_all i text over) ∙ ap (λ (t : Bool). if t then Some (ended within word) else None) is)) ∙ before
  where
    word : List ℕ
    word = take (i - from) (drop from text)

-- a gap begins at the next byte
pub at_front : (text : List ℕ) (i from : ℕ) (within : Within) (made : List (List ℕ)) → from ≡ i → within ≡ Gap
    → onto_words made (words_from within (take (i - from) (drop from text)) (drop i text)) ≡ onto_words made (words_from Gap [] (drop i text))
at_front text i from within made is gap =
    ap (λ (w : Within). onto_words made (words_from w (take (i - from) (drop from text)) (drop i text))) gap
    ∙ ap (λ (m : ℕ). onto_words made (words_from Gap (take m (drop from text)) (drop i text))) (let e : i - from ≡ 0 = omega arith in e)
