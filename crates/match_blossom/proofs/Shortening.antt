-- Shortening the ways to the bases of blossoms.
use Rattle.std.proofs.Common.{◌≡◌, ◌≢◌, ℕ, ◌<◌, List, length, set, refl, ap, sym, ◌∙◌, inl, inr, arith, subst, Bool, true, false}
use Rattle.std.specs.Bool.{MatchBool}
use Rattle.std.proofs.lemmas.Bool.{cases_eq}
use Rattle.std.proofs.lemmas.List.{get_or-set_same, get_or-set_other, length-set}
use Rattle.match_blossom.specs.declared.blossoms.Blossoms.{Blossoms}
use Rattle.match_blossom.specs.declared.tree.AlternatingTree.{AlternatingTree}
use Rattle.match_blossom.specs.Labels.{at}
use Rattle.match_blossom.specs.Pointers.{Falls, Points}
use Rattle.match_blossom.specs.Foldings.{Augmented}
use Rattle.match_blossom.specs.Shortened.{IsHalved, IsShortened}
use Rattle.match_blossom.specs.Forest.{IsForest, IsStep, GoesOn, HasAugmented, TreeClimbs, base_in}
use Rattle.match_blossom.proofs.Scanning.{lengths_trans, goes_on_trans}

-- Two pointers on is earlier still.
pub two_on : (p order : List ℕ) (x : ℕ) → Falls p order → x < length p → at p x ≢ x → at order (at p (at p x)) < at order x
two_on p order x f within away =
    let first : at order (at p x) < at order x = f.lower x within away in
    elim (cases_eq (at p (at p x)) (at p x)) [
      | inl same ↦ let k : at order (at p (at p x)) ≡ at order (at p x) = ap (at order) same in omega arith
      | inr on ↦ let second = f.lower (at p x) (f.below x within) on in omega arith
    ]

-- A pointer is moved on to where the next one leads.
falls_halved : (p order : List ℕ) (x : ℕ) → Falls p order → x < length p → at p x ≢ x → Falls (set p x (at p (at p x))) order
falls_halved p order x f within away =
    let long = length-set p x (at p (at p x)) in
    record {
      below = λ u less. elim (cases_eq u x) [
        | inl e ↦ let low = f.below x within in let b = f.below (at p x) low in let n = here u e in omega arith
        | inr ne ↦ let n = other u ne in let b = f.below u (omega arith) in omega arith
      ];
      lower = λ u less moved. elim (cases_eq u x) [
        | inl e ↦
            let less = two_on p order x f within away in
            let n : at order (at (set p x (at p (at p x))) u) ≡ at order (at p (at p x)) = ap (at order) (here u e) in
            let m : at order u ≡ at order x = ap (at order) e in omega arith
        | inr ne ↦
            let n : at order (at (set p x (at p (at p x))) u) ≡ at order (at p u) = ap (at order) (other u ne) in
            let low = f.lower u (omega arith) (λ e. moved (other u ne ∙ e)) in omega arith
      ];
    }
  where
    here : (u : ℕ) → u ≡ x → at (set p x (at p (at p x))) u ≡ at p (at p x)
    here u e = ap (at (set p x (at p (at p x)))) e ∙ get_or-set_same p x (at p (at p x)) 0 within

    other : (u : ℕ) → u ≢ x → at (set p x (at p (at p x))) u ≡ at p u
    other u ne = get_or-set_other p x u (at p (at p x)) 0 ne

points_halved : (p order : List ℕ) (x : ℕ) (part : ℕ → ℕ) → Falls p order → x < length p → at p x ≢ x → Points p part → Points (set p x (at p (at p x))) part
points_halved p order x part f within away q =
    let long = length-set p x (at p (at p x)) in
    let less = two_on p order x f within away in
    let low : at p x < length p = f.below x within in
    record {
      same = λ u less. elim (cases_eq u x) [
        | inl e ↦ ap part (here u e) ∙ q.same (at p x) low ∙ q.same x within ∙ ap part (sym e)
        | inr ne ↦ ap part (other u ne) ∙ q.same u (omega arith)
      ];
      own = λ u less own. elim (cases_eq u x) [
        | inl e ↦
            let back : at p (at p x) ≡ x = sym (here u e) ∙ own ∙ e in
            let k : at order (at p (at p x)) ≡ at order x = ap (at order) back in
            absurd (omega arith)
        | inr ne ↦ q.own u (omega arith) (sym (other u ne) ∙ own)
      ];
      living = λ u less alive. elim (cases_eq u x) [
        | inl e ↦ absurd (away (q.living x within (ap part (sym e) ∙ alive ∙ e)))
        | inr ne ↦ other u ne ∙ q.living u (omega arith) alive
      ];
    }
  where
    here : (u : ℕ) → u ≡ x → at (set p x (at p (at p x))) u ≡ at p (at p x)
    here u e = ap (at (set p x (at p (at p x)))) e ∙ get_or-set_same p x (at p (at p x)) 0 within

    other : (u : ℕ) → u ≢ x → at (set p x (at p (at p x))) u ≡ at p u
    other u ne = get_or-set_other p x u (at p (at p x)) 0 ne

pub halved_refl : (b : Blossoms) → Falls b.base.items b.order.items → IsHalved b b
halved_refl b falls = record { rest = refl; long = refl; falls = falls; points = λ part p. p }

pub halved_trans : (a b c : Blossoms) → IsHalved a b → IsHalved b c → IsHalved a c
halved_trans a b c p q = record {
  rest = q.rest ∙ ap (λ (x : Blossoms). record x { base = c.base }) p.rest;
  long = q.long ∙ p.long;
  falls = q.falls;
  points = λ part h. q.points part (p.points part h);
}

pub halved_once : (b b' : Blossoms) (x : ℕ) → Falls b.base.items b.order.items → x < length b.base.items → at b.base.items x ≢ x → b' ≡ record b { base = b'.base } → b'.base.items ≡ set b.base.items x (at b.base.items (at b.base.items x)) → IsHalved b b'
halved_once b b' x f within away rest is = record {
  rest = rest;
  long = ap (λ (xs : List ℕ). length xs) is ∙ length-set b.base.items x (at b.base.items (at b.base.items x));
  falls = subst (λ o. Falls b'.base.items o.items) (sym (ap (λ (y : Blossoms). y.order) rest)) (subst (λ (xs : List ℕ). Falls xs b.order.items) (sym is) (falls_halved b.base.items b.order.items x f within away));
  points = λ part p. subst (λ (xs : List ℕ). Points xs part) (sym is) (points_halved b.base.items b.order.items x part f within away p);
}

pub shortened_refl : (f : AlternatingTree) → Falls f.blossoms.base.items f.blossoms.order.items → IsShortened f f
shortened_refl f falls = record { rest = refl; halved = halved_refl f.blossoms falls }

pub shortened_trans : (a b c : AlternatingTree) → IsShortened a b → IsShortened b c → IsShortened a c
shortened_trans a b c p q = record {
  rest = q.rest ∙ ap (λ (x : AlternatingTree). record x { blossoms = c.blossoms }) p.rest;
  halved = halved_trans a.blossoms b.blossoms c.blossoms p.halved q.halved;
}

-- nothing but the pointers has changed
whole : (old new : AlternatingTree) → IsShortened old new → new ≡ record old { blossoms = record old.blossoms { base = new.blossoms.base } }
whole old new s = s.rest ∙ ap (λ (b : Blossoms). record old { blossoms = b }) s.halved.rest

pub bases_shortened : (old new : AlternatingTree) (x : ℕ) → IsShortened old new → base_in new x ≡ base_in old x
bases_shortened old new x s = ap (λ (f : AlternatingTree). base_in f x) (whole old new s)

pub forest_shortened : (g : List (List ℕ)) (mates : List ℕ) (old new : AlternatingTree) → IsForest g mates old → IsShortened old new → IsForest g mates new
forest_shortened g mates old new f s =
    let long = s.halved.long in
    let kept = s.halved.points (base_in old) f.points in
    subst (λ (x : AlternatingTree). IsForest g mates x) (sym (whole old new s)) (record {
      search = f.search;
      falls = subst (λ o. Falls new.blossoms.base.items o.items) (ap (λ (b : Blossoms). b.order) s.halved.rest) s.halved.falls;
      points = kept;
      cycle_falls = f.cycle_falls;
      leads = f.leads;
      base_length = let k = f.base_length in omega arith;
      cycle_length = f.cycle_length;
      fits = f.fits;
      queue = f.queue;
      touched = record {
        below = λ k less. let b = f.touched.below k less in let b1 = b.1 in (b.0, omega arith);
        labelled = f.touched.labelled;
        pointed = λ u less. elim (f.touched.pointed u (omega arith)) [
          | inl own ↦ inl (kept.living u less (f.points.own u (omega arith) own))
          | inr s' ↦ inr s'
        ];
      };
      cycle_touched = f.cycle_touched;
      room = record { touched = f.room.touched; queue = f.room.queue; queued = f.room.queued; top = f.room.top; top_below = f.room.top_below; height = f.room.height; height_below = f.room.height_below };
    })

pub goes_on_shortened : (g : List (List ℕ)) (old new : AlternatingTree) → IsShortened old new → GoesOn g old new
goes_on_shortened g old new s = subst (λ (x : AlternatingTree). GoesOn g old x) (sym (whole old new s)) (record {
  root = refl;
  lengths = record { labels = refl; parent = refl; base = s.halved.long; cycle_base = refl; order = refl; touched = refl; queue = refl; nodes = refl; sizes = refl };
  queue = λ k less. refl;
  queued = omega arith;
  one = λ u v bu bv e. e;
  inner = λ v bv i. inl i;
})

pub climbs_shortened : (mates : List ℕ) (old new : AlternatingTree) (a b x y : ℕ) (first second : List ℕ) → IsShortened old new → TreeClimbs mates old a b x y first second → TreeClimbs mates new a b x y first second
climbs_shortened mates old new a b x y first second s c = subst (λ (f : AlternatingTree). TreeClimbs mates f a b x y first second) (sym (whole old new s)) c

-- A step after ways have been shortened.
pub step_after : (g : List (List ℕ)) (mates : List ℕ) (a b c : AlternatingTree) (u v : ℕ) → GoesOn g a b → IsStep g mates b c u v → IsStep g mates a c u v
step_after g mates a b c u v p q = record { forest = q.forest; goes_on = goes_on_trans g a b c p q.goes_on; closed = q.closed }

pub augmented_after : (g : List (List ℕ)) (mates after : List ℕ) (a b c : AlternatingTree) → GoesOn g a b → HasAugmented g mates after b c → HasAugmented g mates after a c
augmented_after g mates after a b c p q = record {
  augmented = subst (λ (r : ℕ). Augmented g mates after r) p.root q.augmented;
  touched = q.touched;
  cycle_touched = q.cycle_touched;
  now = q.now;
  lengths = lengths_trans a b c p.lengths q.lengths;
}

pub step_on : (b : Bool) (g : List (List ℕ)) (mates after : List ℕ) (old mid new : AlternatingTree) (u v : ℕ) → GoesOn g old mid → MatchBool b (HasAugmented g mates after mid new) ((after ≡ mates) × IsStep g after mid new u v)
    → MatchBool b (HasAugmented g mates after old new) ((after ≡ mates) × IsStep g after old new u v)
step_on true g mates after old mid new u v p h = augmented_after g mates after old mid new p h
step_on false g mates after old mid new u v p h = (h.0, step_after g after old mid new u v p h.1)
