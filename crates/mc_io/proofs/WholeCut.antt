-- Pieces and texts, said of the whole.
use Rattle.std.proofs.Common.{arith, ◌≡◌, ◌∙◌, ◌==◌, ◌||◌, inl, inr, ℕ, suc, Bool, true, false, if◌then◌else◌, List, [], ◌∷◌, ◌++◌, length, refl, ap, sym, subst}
use Rattle.std.proofs.lemmas.Bool.Decides.{nat_tests}
use Rattle.std.proofs.lemmas.Bool.{eqb-true}
use Rattle.mc_io.specs.Lines.{line_feed, carriage_return, onto_first, pieces, onto_text, text_of, has_feed, AreCut, IsTextOf}

-- ---- pieces

pub are_cut : (bytes : List ℕ) → AreCut (pieces bytes) bytes
are_cut [] = refl
are_cut (b ∷ bytes) = by_byte (b == line_feed) refl (are_cut bytes)
  where
    onto : (b == line_feed) ≡ false → (ps : List (List ℕ)) → AreCut ps bytes → AreCut (onto_first b ps) (b ∷ bytes)
    onto other [] none = (rw other refl, inr (record { none_later = refl; is = ap (λ t. b ∷ t) none; some = omega arith }))
    onto other (p ∷ ps) (clear, inl f) = (rw other clear, inl (record { rest = f.rest; joined = ap (λ t. b ∷ t) f.joined; later = f.later }))
    onto other (p ∷ ps) (clear, inr l) = (rw other clear, inr (record { none_later = l.none_later; is = ap (λ t. b ∷ t) l.is; some = omega arith }))

    by_byte : (t : Bool) → (b == line_feed) ≡ t → AreCut (pieces bytes) bytes → AreCut (if t then [] ∷ pieces bytes else onto_first b (pieces bytes)) (b ∷ bytes)
    by_byte true feed later = (refl, inl (record { rest = bytes; joined = ap (λ x. x ∷ bytes) (eqb-true b line_feed feed); later = later }))
    by_byte false other later = onto other (pieces bytes) later

record SameCut (p q r s : List ℕ) : Type 0 where
  piece : p ≡ q
  rest : r ≡ s

-- a piece ends at the first line feed
one_cut : (p q r s : List ℕ) → has_feed p ≡ false → has_feed q ≡ false → p ++ (line_feed ∷ r) ≡ q ++ (line_feed ∷ s) → SameCut p q r s
one_cut [] [] r s clear_p clear_q e = record { piece = refl; rest = cc }
one_cut [] (c ∷ q) r s clear_p clear_q e =
    let same : line_feed ≡ c = cc in
    absurd (feed_there c q clear_q same)
  where
    feed_there : (c : ℕ) (q : List ℕ) → has_feed (c ∷ q) ≡ false → line_feed ≡ c → ⊥
    feed_there c q clear is = let there : has_feed (c ∷ q) ≡ true = subst (λ x. has_feed (x ∷ q) ≡ true) is refl in cc
one_cut (b ∷ p) [] r s clear_p clear_q e =
    let same : line_feed ≡ b = cc in
    absurd (feed_there b p clear_p same)
  where
    feed_there : (c : ℕ) (q : List ℕ) → has_feed (c ∷ q) ≡ false → line_feed ≡ c → ⊥
    feed_there c q clear is = let there : has_feed (c ∷ q) ≡ true = subst (λ x. has_feed (x ∷ q) ≡ true) is refl in cc
one_cut (b ∷ p) (c ∷ q) r s clear_p clear_q e =
    let first : b ≡ c = cc in
    let behind : p ++ (line_feed ∷ r) ≡ q ++ (line_feed ∷ s) = cc in
    let later = one_cut p q r s (right (b == line_feed) (has_feed p) clear_p) (right (c == line_feed) (has_feed q) clear_q) behind in
    record { piece = ap (λ x. x ∷ p) first ∙ ap (λ t. c ∷ t) later.piece; rest = later.rest }
  where
    right : (p q : Bool) → (p || q) ≡ false → q ≡ false
    right true q is = cc
    right false q is = is

feed_in : (p r : List ℕ) → has_feed (p ++ (line_feed ∷ r)) ≡ true
feed_in [] r = refl
feed_in (b ∷ p) r = rw (feed_in p r) (or_true (b == line_feed))
  where
    or_true : (t : Bool) → (t || true) ≡ true
    or_true true = refl
    or_true false = refl

-- the pieces of bytes are the only ones that they are cut into
pub one_way : (ps qs : List (List ℕ)) (bytes : List ℕ) → AreCut ps bytes → AreCut qs bytes → ps ≡ qs
one_way [] [] bytes p q = refl
one_way [] (q ∷ qs) bytes none (clear, inl f) = let e : [] ≡ q ++ (line_feed ∷ f.rest) = sym none ∙ f.joined in absurd (nothing q f.rest e)
  where
    nothing : (q rest : List ℕ) → [] ≡ q ++ (line_feed ∷ rest) → ⊥
    nothing [] rest e = cc
    nothing (c ∷ q) rest e = cc
one_way [] (q ∷ qs) bytes none (clear, inr l) = let e : length q ≡ 0 = ap length (sym l.is ∙ none) in let some = l.some in absurd (omega arith)
one_way (p ∷ ps) [] bytes (clear, inl f) none = let e : [] ≡ p ++ (line_feed ∷ f.rest) = sym none ∙ f.joined in absurd (nothing p f.rest e)
  where
    nothing : (q rest : List ℕ) → [] ≡ q ++ (line_feed ∷ rest) → ⊥
    nothing [] rest e = cc
    nothing (c ∷ q) rest e = cc
one_way (p ∷ ps) [] bytes (clear, inr l) none = let e : length p ≡ 0 = ap length (sym l.is ∙ none) in let some = l.some in absurd (omega arith)
one_way (p ∷ ps) (q ∷ qs) bytes (clear_p, inl f) (clear_q, inl g) =
    let cut = one_cut p q f.rest g.rest clear_p clear_q (sym f.joined ∙ g.joined) in
    ap (λ x. x ∷ ps) cut.piece ∙ ap (λ xs. q ∷ xs) (one_way ps qs g.rest (subst (AreCut ps) cut.rest f.later) g.later)
one_way (p ∷ ps) (q ∷ qs) bytes (clear_p, inl f) (clear_q, inr l) =
    let feed : has_feed q ≡ true = ap has_feed (sym l.is ∙ f.joined) ∙ feed_in p f.rest in cc
one_way (p ∷ ps) (q ∷ qs) bytes (clear_p, inr l) (clear_q, inl g) =
    let feed : has_feed p ≡ true = ap has_feed (sym l.is ∙ g.joined) ∙ feed_in q g.rest in cc
one_way (p ∷ ps) (q ∷ qs) bytes (clear_p, inr l) (clear_q, inr k) =
    ap (λ x. x ∷ ps) (sym l.is ∙ k.is) ∙ ap (λ xs. q ∷ xs) (l.none_later ∙ sym k.none_later)

-- ---- texts

one_byte : (b : ℕ) (front : List ℕ) → b ∷ [] ≡ front ++ carriage_return ∷ [] → b ≡ carriage_return
one_byte b [] e = cc
one_byte b (c ∷ []) e = cc
one_byte b (c ∷ d ∷ front) e = cc

pub text_is : (piece : List ℕ) → IsTextOf piece (text_of piece)
text_is [] = record { returns = 0; joined = refl; ends = nothing }
  where
    nothing : (front : List ℕ) → [] ≡ front ++ carriage_return ∷ [] → ⊥
    nothing [] e = cc
    nothing (c ∷ front) e = cc
text_is (b ∷ piece) = onto (text_of piece) (text_is piece)
  where
    by_byte : (t : Bool) → (b == carriage_return) ≡ t → IsTextOf piece [] → IsTextOf (b ∷ piece) (if t then [] else b ∷ [])
    by_byte true is later = record {
      returns = suc later.returns;
      joined = ap (λ x. x ∷ piece) (eqb-true b carriage_return is) ∙ ap (λ t. carriage_return ∷ t) later.joined;
      ends = later.ends;
    }
    by_byte false other later = record {
      returns = later.returns;
      joined = ap (λ t. b ∷ t) later.joined;
      ends = λ front e. differs b other (one_byte b front e);
    }
      where
        differs : (b : ℕ) → (b == carriage_return) ≡ false → b ≡ carriage_return → ⊥
        differs b other is = grind (arith, nat_tests)

    onto : (text : List ℕ) → IsTextOf piece text → IsTextOf (b ∷ piece) (onto_text b text)
    onto [] later = by_byte (b == carriage_return) refl later
    onto (c ∷ text) later = record {
      returns = later.returns;
      joined = ap (λ t. b ∷ t) later.joined;
      ends = longer;
    }
      where
        longer : (front : List ℕ) → b ∷ c ∷ text ≡ front ++ carriage_return ∷ [] → ⊥
        longer [] e = cc
        longer (d ∷ front) e = later.ends front (let behind : c ∷ text ≡ front ++ carriage_return ∷ [] = cc in behind)
