-- One more atom at a place that suits it: all still stand as asked.
use Rattle.std.proofs.Common.{◌≡◌, ◌≢◌, ◌∙◌, ℕ, ◌⊎◌, Bool, true, false, arith, refl, sym, ap, subst, inl, inr, ◌==◌, not}
use Rattle.std.proofs.lemmas.Bool.{cases_eq}
use Rattle.std.proofs.lemmas.Bool.Decides.{nat_tests}
use Rattle.lay_place.specs.Rows.{is_inside, same, shift}
use Rattle.lay_place.specs.Asks.{IsAsking, Asked, Agrees, Stands, WithOne, with_one, Quiet, Follows, Parts, Suits}
use Rattle.lay_place.proofs.Inserts.{shift_inside, shift_apart, shift_different}
use Rattle.lay_place.proofs.Bends.{inside_either}

same_self : (s : Bool) → same s s ≡ true
same_self true = refl
same_self false = refl

same_either : (s t : Bool) → same s t ≡ same t s
same_either true true = refl
same_either true false = refl
same_either false true = refl
same_either false false = refl

pub same_true : (s t : Bool) → same s t ≡ true → s ≡ t
same_true true true e = refl
same_true true false e = cc
same_true false true e = cc
same_true false false e = refl

-- the side of the new atom against that of any other
follows : (i j r s t : Bool) → same i j ≡ same r t → same (same i (same s r)) j ≡ same s t
follows true true true true true e = refl
follows true true true true false e = cc
follows true true true false true e = refl
follows true true true false false e = cc
follows true true false true true e = cc
follows true true false true false e = refl
follows true true false false true e = cc
follows true true false false false e = refl
follows true false true true true e = cc
follows true false true true false e = refl
follows true false true false true e = cc
follows true false true false false e = refl
follows true false false true true e = refl
follows true false false true false e = cc
follows true false false false true e = refl
follows true false false false false e = cc
follows false true true true true e = cc
follows false true true true false e = refl
follows false true true false true e = cc
follows false true true false false e = refl
follows false true false true true e = refl
follows false true false true false e = cc
follows false true false false true e = refl
follows false true false false false e = cc
follows false false true true true e = refl
follows false false true true false e = cc
follows false false true false true e = refl
follows false false true false false e = cc
follows false false false true true e = cc
follows false false false true false e = refl
follows false false false false true e = cc
follows false false false false false e = refl

parted : (i j s : Bool) → i ≡ not j → same i j ≡ same s (not s)
parted i true true e = rw e refl
parted i true false e = rw e refl
parted i false true e = rw e refl
parted i false false e = rw e refl

pub with_new : (x : ℕ → ℕ) (m k : ℕ) → with_one x m k m ≡ k
with_new x m k = rw (let t : (m == m) ≡ true = grind (arith, nat_tests) in t) refl

pub with_old : (x : ℕ → ℕ) (m k a : ℕ) → a ≢ m → with_one x m k a ≡ shift k (x a)
with_old x m k a other = rw (let t : (a == m) ≡ false = grind (arith, nat_tests) in t) refl

-- the ends in either order
on_ends : (y : ℕ → ℕ) (u w f p c d : ℕ) (s t : Bool) → ((u ≡ f) × (w ≡ p)) ⊎ ((u ≡ p) × (w ≡ f)) → Agrees y f p c d s t → Agrees y u w c d s t
on_ends y u w f p c d s t (inl (e, g)) h = rw (e, g) h
on_ends y u w f p c d s t (inr (e, g)) h = rw (e, g, inside_either (y f) (y p) (y c), inside_either (y f) (y p) (y d)) h

-- the two atoms in either order
on_atoms : (y : ℕ → ℕ) (u w c d : ℕ) (s t : Bool) → Agrees y u w d c t s → Agrees y u w c d s t
on_atoms y u w c d s t h = same_either (is_inside (y u) (y c) (y w)) (is_inside (y u) (y d) (y w)) ∙ h ∙ same_either t s

module _ (Ends : ℕ → ℕ → ℕ → Type 0) (Wants : ℕ → ℕ → Bool → Type 0) (Placed : ℕ → Type 0) (x : ℕ → ℕ) (m k : ℕ) (new : ¬ Placed m) (asking : IsAsking Ends Wants) (stands : Stands Ends Wants Placed x) where
  old : (a : ℕ) → Placed a → with_one x m k a ≡ shift k (x a)
  old a placed = with_old x m k a (λ e. new (subst Placed e placed))

  was : (a : ℕ) → a ≢ m → WithOne Placed m a → Placed a
  was a other (inl placed) = placed
  was a other (inr same) = absurd (other same)

  inside_old : (u c w : ℕ) → Placed u → Placed c → Placed w → is_inside (with_one x m k u) (with_one x m k c) (with_one x m k w) ≡ is_inside (x u) (x c) (x w)
  inside_old u c w pu pc pw = rw (old u pu, old c pc, old w pw) (shift_inside k (x u) (x c) (x w))

  -- nothing new
  stays : (b u w c d : ℕ) (s t : Bool) → Asked Ends Wants Placed b u w c d s t → Agrees (with_one x m k) u w c d s t
  stays b u w c d s t asked = rw (inside_old u c w asked.first asked.one asked.second, inside_old u d w asked.first asked.other asked.second) (stands.agrees b u w c d s t asked)

  -- one atom with itself
  itself : (b u w c d : ℕ) (s t : Bool) → Asked Ends Wants (WithOne Placed m) b u w c d s t → c ≡ d → Agrees (with_one x m k) u w c d s t
  itself b u w c d s t asked e =
      let one : s ≡ t = asking.one_side b d s t (subst (λ (a : ℕ). Wants b a s) e asked.wants) asked.wants_too in
      rw (e, one) (same_self (is_inside (with_one x m k u) (with_one x m k d) (with_one x m k w)) ∙ sym (same_self t))

  new_end : (f p : ℕ) → Placed f → Placed p → (inside : Bool) → is_inside (shift k (x f)) k (shift k (x p)) ≡ inside → is_inside (with_one x m k f) (with_one x m k m) (with_one x m k p) ≡ inside
  new_end f p pf pp inside at = rw (old f pf, with_new x m k, old p pp) at

  -- ---- m has a side of a bond that is placed

  follow_one : (b : ℕ) (fw : Follows Ends Wants Placed x m k b) (e : ℕ) (t : Bool) → Wants b e t → Placed e → Agrees (with_one x m k) fw.f fw.p m e fw.side_of_m t
  follow_one b fw e t wants placed =
      let i = is_inside (x fw.f) (x fw.c) (x fw.p) in
      let j = is_inside (x fw.f) (x e) (x fw.p) in
      let before : same i j ≡ same fw.side t = stands.agrees b fw.f fw.p fw.c e fw.side t (record { ends = fw.ends; wants = fw.wants; wants_too = wants; first = fw.first; second = fw.second; one = fw.one; other = placed }) in
      rw (new_end fw.f fw.p fw.first fw.second (same i (same fw.side_of_m fw.side)) fw.at, inside_old fw.f e fw.p fw.first placed fw.second)
      (follows i j fw.side fw.side_of_m t before)

  follow : (b : ℕ) (fw : Follows Ends Wants Placed x m k b) (u w c d : ℕ) (s t : Bool) → Asked Ends Wants (WithOne Placed m) b u w c d s t → Agrees (with_one x m k) u w c d s t
  follow b fw u w c d s t asked = on_ends (with_one x m k) u w fw.f fw.p c d s t (asking.one_pair b u w fw.f fw.p asked.ends fw.ends)
      (elim (cases_eq c m) [
        | inl c_new ↦ elim (cases_eq d m) [
          | inl d_new ↦ at_pair (record { ends = fw.ends; wants = asked.wants; wants_too = asked.wants_too; first = inl fw.first; second = inl fw.second; one = asked.one; other = asked.other }) (c_new ∙ sym d_new)
          | inr d_old ↦ rw (c_new, asking.one_side b m s fw.side_of_m (subst (λ (a : ℕ). Wants b a s) c_new asked.wants) fw.wants_m)
              (follow_one b fw d t asked.wants_too (was d d_old asked.other))
        ]
        | inr c_old ↦ elim (cases_eq d m) [
          | inl d_new ↦ on_atoms (with_one x m k) fw.f fw.p c d s t
              (rw (d_new, asking.one_side b m t fw.side_of_m (subst (λ (a : ℕ). Wants b a t) d_new asked.wants_too) fw.wants_m)
              (follow_one b fw c s asked.wants (was c c_old asked.one)))
          | inr d_old ↦ stays b fw.f fw.p c d s t (record { ends = fw.ends; wants = asked.wants; wants_too = asked.wants_too; first = fw.first; second = fw.second; one = was c c_old asked.one; other = was d d_old asked.other })
        ]
      ])
    where
      at_pair : Asked Ends Wants (WithOne Placed m) b fw.f fw.p c d s t → c ≡ d → Agrees (with_one x m k) fw.f fw.p c d s t
      at_pair pair e = itself b fw.f fw.p c d s t pair e

  -- ---- m is the second end of a bond

  -- the two atoms that have a side
  part_two : (b : ℕ) (pt : Parts Ends Wants Placed x m k b) → Agrees (with_one x m k) pt.f m pt.c pt.d pt.side (not pt.side)
  part_two b pt =
      rw (old pt.f pt.first, old pt.c pt.one, old pt.d pt.other, with_new x m k)
      (parted (is_inside (shift k (x pt.f)) (shift k (x pt.c)) k) (is_inside (shift k (x pt.f)) (shift k (x pt.d)) k) pt.side pt.at)

  part : (b : ℕ) (pt : Parts Ends Wants Placed x m k b) (u w c d : ℕ) (s t : Bool) → Asked Ends Wants (WithOne Placed m) b u w c d s t → Agrees (with_one x m k) u w c d s t
  part b pt u w c d s t asked = on_ends (with_one x m k) u w pt.f m c d s t (asking.one_pair b u w pt.f m asked.ends pt.ends)
      (at (pt.only c s asked.wants (was c (asking.no_end b pt.f m c s pt.ends asked.wants).1 asked.one)) (pt.only d t asked.wants_too (was d (asking.no_end b pt.f m d t pt.ends asked.wants_too).1 asked.other)))
    where
      whole : Asked Ends Wants (WithOne Placed m) b pt.f m c d s t
      whole = record { ends = pt.ends; wants = asked.wants; wants_too = asked.wants_too; first = inl pt.first; second = inr refl; one = asked.one; other = asked.other }

      side_c : (r : Bool) (e : ℕ) → c ≡ e → Wants b e r → s ≡ r
      side_c r e is wants = asking.one_side b e s r (subst (λ (a : ℕ). Wants b a s) is asked.wants) wants

      side_d : (r : Bool) (e : ℕ) → d ≡ e → Wants b e r → t ≡ r
      side_d r e is wants = asking.one_side b e t r (subst (λ (a : ℕ). Wants b a t) is asked.wants_too) wants

      at : (c ≡ pt.c) ⊎ (c ≡ pt.d) → (d ≡ pt.c) ⊎ (d ≡ pt.d) → Agrees (with_one x m k) pt.f m c d s t
      at (inl p) (inl q) = itself b pt.f m c d s t whole (p ∙ sym q)
      at (inr p) (inr q) = itself b pt.f m c d s t whole (p ∙ sym q)
      at (inl p) (inr q) = rw (p, q, side_c pt.side pt.c p pt.wants, side_d (not pt.side) pt.d q pt.wants_too) (part_two b pt)
      at (inr p) (inl q) = rw (p, q, side_c (not pt.side) pt.d p pt.wants_too, side_d pt.side pt.c q pt.wants)
          (on_atoms (with_one x m k) pt.f m pt.d pt.c (not pt.side) pt.side (part_two b pt))

  -- ---- the step

  agrees_with : Suits Ends Wants Placed x m k → (b u w c d : ℕ) (s t : Bool) → Asked Ends Wants (WithOne Placed m) b u w c d s t → Agrees (with_one x m k) u w c d s t
  agrees_with suits b u w c d s t asked = elim (cases_eq b suits.bond) [
    | inl this ↦ elim suits.this [
      | inl quiet ↦ silent (subst (λ (a : ℕ). Quiet Ends Wants Placed m a) (sym this) quiet)
      | inr loud ↦ elim loud [
        | inl fw ↦ follow b (subst (λ (a : ℕ). Follows Ends Wants Placed x m k a) (sym this) fw) u w c d s t asked
        | inr pt ↦ part b (subst (λ (a : ℕ). Parts Ends Wants Placed x m k a) (sym this) pt) u w c d s t asked
      ]
    ]
    | inr other ↦ silent (suits.others b other)
  ]
    where
      all_old : u ≢ m → w ≢ m → c ≢ m → d ≢ m → Agrees (with_one x m k) u w c d s t
      all_old p q r v = stays b u w c d s t (record { ends = asked.ends; wants = asked.wants; wants_too = asked.wants_too; first = was u p asked.first; second = was w q asked.second; one = was c r asked.one; other = was d v asked.other })

      silent : Quiet Ends Wants Placed m b → Agrees (with_one x m k) u w c d s t
      silent quiet = elim (cases_eq u m) [
        | inl e ↦ itself b u w c d s t asked (quiet u w c d s t asked (inl (inl e)))
        | inr p ↦ elim (cases_eq w m) [
          | inl e ↦ itself b u w c d s t asked (quiet u w c d s t asked (inl (inr e)))
          | inr q ↦ elim (cases_eq c m) [
            | inl e ↦ itself b u w c d s t asked (quiet u w c d s t asked (inr (inl e)))
            | inr r ↦ elim (cases_eq d m) [
              | inl e ↦ itself b u w c d s t asked (quiet u w c d s t asked (inr (inr e)))
              | inr v ↦ all_old p q r v
            ]
          ]
        ]
      ]

  apart_with : (a b : ℕ) → WithOne Placed m a → WithOne Placed m b → a ≢ b → with_one x m k a ≢ with_one x m k b
  apart_with a b (inl p) (inl q) different e = shift_different k (x a) (x b) (stands.apart a b p q different) (sym (old a p) ∙ e ∙ old b q)
  apart_with a b (inl p) (inr q) different e = shift_apart k (x a) (sym (old a p) ∙ e ∙ ap (with_one x m k) q ∙ with_new x m k)
  apart_with a b (inr p) (inl q) different e = shift_apart k (x b) (sym (old b q) ∙ sym e ∙ ap (with_one x m k) p ∙ with_new x m k)
  apart_with a b (inr p) (inr q) different e = absurd (different (p ∙ sym q))

  pub stands_with : Suits Ends Wants Placed x m k → Stands Ends Wants (WithOne Placed m) (with_one x m k)
  stands_with suits = record { agrees = agrees_with suits; apart = apart_with }
