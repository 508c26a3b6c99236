-- The tokens that are still ahead of a reader.
use Rattle.std.proofs.Common.{arith, ◌≡◌, ◌∙◌, ℕ, zero, suc, ◌+◌, ◌≤◌, ◌<◌, List, [], ◌∷◌, ◌++◌, length, get_or, map, take, drop, Bool, true, false, refl, ap, sym}
use Rattle.std.specs.List.{list_all}
use Rattle.std.specs.Prelude.{◌&&◌}
use Rattle.std.proofs.lemmas.List.{append-nil, append_assoc, map-append, take_more}
use Rattle.smi_lex.specs.declared.token.Token.{Token}
use Rattle.smi_graph.specs.declared.skel_atom.SkelAtom.{SkelAtom}
use Rattle.smi_graph.specs.Roles.{atom_of, atoms_of}
use Rattle.smi_graph.specs.Reading.{held_atom}

-- the first of those that are left of a list
pub record Next {A : Type 0} (xs : List A) (i : ℕ) (x : A) (later : List A) : Type 0 where
  pub within : i < length xs
  pub here : (d : A) → get_or xs i d ≡ x
  pub behind : drop (i + 1) xs ≡ later

nothing_left : {A : Type 0} (i : ℕ) (x : A) (later : List A) → drop i [] ≡ x ∷ later → ⊥
nothing_left zero x later h = cc
nothing_left (suc i) x later h = cc

pub next_of : {A : Type 0} (xs : List A) (i : ℕ) (x : A) (later : List A) → drop i xs ≡ x ∷ later → Next xs i x later
next_of [] i x later h = absurd (nothing_left i x later h)
next_of (y ∷ xs) zero x later h = record { within = omega arith; here = λ d. cc; behind = cc }
next_of (y ∷ xs) (suc i) x later h =
    let n = next_of xs i x later h in
    let e : suc i + 1 ≡ suc (i + 1) = omega arith in
    record {
      within = let w = n.within in omega arith;
      here = n.here;
      behind = ap (λ (k : ℕ). drop k (y ∷ xs)) e ∙ n.behind;
    }

pub none_ahead : {A : Type 0} (xs : List A) (i : ℕ) → drop i xs ≡ [] → length xs ≤ i
none_ahead [] i h = omega arith
none_ahead (x ∷ xs) zero h = cc
none_ahead (x ∷ xs) (suc i) h = let n = none_ahead xs i h in omega arith

-- one more of a list, and what is made of it
pub take_next : {A : Type 0} (xs : List A) (i : ℕ) (x : A) (later : List A) → drop i xs ≡ x ∷ later → take (i + 1) xs ≡ take i xs ++ x ∷ []
take_next xs i x later h = let n = next_of xs i x later h in take_more xs i x n.within ∙ ap (λ y. take i xs ++ y ∷ []) (n.here x)

pub map_here : {A B : Type 0} (f : A → B) (xs : List A) (i : ℕ) (d : B) (e : A) → i < length xs → get_or (map f xs) i d ≡ f (get_or xs i e)
map_here f [] i d e less = absurd (omega arith)
map_here f (x ∷ xs) zero d e less = refl
map_here f (x ∷ xs) (suc i) d e less = map_here f xs i d e (omega arith)

pub all_more : {A : Type 0} (p : A → Bool) (xs : List A) (x : A) → list_all p (xs ++ x ∷ []) ≡ (list_all p xs && p x)
all_more p [] x = by_test (p x)
  where
    by_test : (t : Bool) → (t && true) ≡ (true && t)
    by_test true = refl
    by_test false = refl
all_more p (y ∷ xs) x = ap (λ t. p y && t) (all_more p xs x) ∙ by_test (p y)
  where
    by_test : (t : Bool) → (t && (list_all p xs && p x)) ≡ ((t && list_all p xs) && p x)
    by_test true = refl
    by_test false = refl

-- the atoms with those of one more token
atoms_more : (ts : List Token) (t : Token) → atoms_of (ts ++ t ∷ []) ≡ atoms_of ts ++ atom_of t.kind t.span
atoms_more [] t = append-nil (atom_of t.kind t.span)
atoms_more (u ∷ ts) t = ap (λ (x : List SkelAtom). atom_of u.kind u.span ++ x) (atoms_more ts t) ∙ sym (append_assoc (atom_of u.kind u.span) (atoms_of ts) (atom_of t.kind t.span))

pub held_more : (ts : List Token) (t : Token) → map held_atom (atoms_of (ts ++ t ∷ [])) ≡ map held_atom (atoms_of ts) ++ map held_atom (atom_of t.kind t.span)
held_more ts t = ap (map held_atom) (atoms_more ts t) ∙ map-append held_atom (atoms_of ts) (atom_of t.kind t.span)
