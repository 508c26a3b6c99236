-- What several reads take, and what several writes give.
use Rattle.std.proofs.Common.{arith, ◌≡◌, ◌∙◌, ℕ, ◌+◌, ◌-◌, ◌^◌, min, max, List, [], ◌++◌, length, Option, sym, ap, refl}
use Rattle.std.proofs.KnownBytes.{Consumes-nil, Consumes-trans}
use Rattle.std.proofs.lemmas.List.{length-append}
use Rattle.mc_io.specs.Outside.{Input, Takes, counted}

counted_none : (taken : ℕ) → taken ≡ counted taken 0
counted_none taken = omega arith

counted_more : (taken n m : ℕ) → counted (counted taken n) m ≡ counted taken (n + m)
counted_more taken n m = omega arith

-- no read takes nothing
pub takes_none : (input : Input) → Takes input input []
takes_none input = record { front = Consumes-nil input.left; count = counted_none input.taken; later = omega arith }

-- what is taken first stands in front
pub takes_trans : (a b c : Input) (front back : List ℕ) → Takes a b front → Takes b c back → Takes a c (front ++ back)
takes_trans a b c front back p q = record {
  front = Consumes-trans a.left b.left c.left front back p.front q.front;
  count = q.count ∙ ap (λ (n : ℕ). counted n (length back)) p.count ∙ counted_more a.taken (length front) (length back) ∙ ap (counted a.taken) (sym (length-append front back));
  later = let first = p.later in let second = q.later in omega arith;
}
