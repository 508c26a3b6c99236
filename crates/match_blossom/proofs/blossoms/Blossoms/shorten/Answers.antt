use Rattle.std.proofs.Common.{arith, refl, ap, sym, ◌∙◌, ◌≡◌, ◌≢◌, ◌<◌, ℕ, List, length, length-set, set}
use Rattle.std.specs.Vec.{with_item}
use Rattle.match_blossom.specs.declared.blossoms.Blossoms.{Blossoms}
use Rattle.match_blossom.specs.Labels.{at}
use Rattle.match_blossom.proofs.Scanning.{at_default}
use Rattle.match_blossom.proofs.Shortening.{two_on, halved_refl, halved_trans, halved_once}
use Rattle.match_blossom.proofs.blossoms.Blossoms.shorten.Goals as goal

pub loop-self-init : goal.loop-self-init
loop-self-init c = record { below = c.requires.node; halved = halved_refl c.args.self.now c.requires.falls }

pub loop-self-smaller : goal.loop-self-smaller
loop-self-smaller c =
    let b : Blossoms = c.loop-self.self in
    let p : List ℕ = b.base.items in
    let x : ℕ = c.loop-self.x in
    let was = c.loop-self.invariant in
    let falls = was.halved.falls in
    let first : c.index.result.now ≡ at p x = c.index.ensures ∙ at_default p x c.index.result.now 0 was.below in
    let again : c.index-in-loop-self-2.result.now ≡ at p x = c.index-in-loop-self-2.ensures ∙ at_default p x c.index-in-loop-self-2.result.now 0 was.below in
    let low' : at p x < length p = falls.below x was.below in
    let second : c.index-in-loop-self.result.now ≡ at p (at p x) = c.index-in-loop-self.ensures ∙ at_default p c.index.result.now c.index-in-loop-self.result.now 0 (omega arith) ∙ ap (at p) first in
    let away : at p x ≢ x = λ e. c.loop-self-test.true (second ∙ ap (at p) e ∙ sym again) in
    let step : c.index-in-loop-self-3.result.now ≡ at p x = c.index-in-loop-self-3.ensures ∙ at_default p x c.index-in-loop-self-3.result.now 0 was.below in
    let low : at p x < length p = falls.below x was.below in
    let next : c.index-next.result.now ≡ at p (at p x) = c.index-next.ensures ∙ at_default p c.index-in-loop-self-3.result.now c.index-next.result.now 0 (omega arith) ∙ ap (at p) step in
    let n : at b.order.items c.index-next.result.now ≡ at b.order.items (at p (at p x)) = ap (at b.order.items) next in
    let on = two_on p b.order.items x falls was.below away in
    let less : at b.order.items c.index-next.result.now < at b.order.items x = omega arith in less

pub loop-self-preserved : goal.loop-self-preserved
loop-self-preserved c =
    let b : Blossoms = c.loop-self.self in
    let p : List ℕ = b.base.items in
    let x : ℕ = c.loop-self.x in
    let was = c.loop-self.invariant in
    let falls = was.halved.falls in
    let first : c.index.result.now ≡ at p x = c.index.ensures ∙ at_default p x c.index.result.now 0 was.below in
    let again : c.index-in-loop-self-2.result.now ≡ at p x = c.index-in-loop-self-2.ensures ∙ at_default p x c.index-in-loop-self-2.result.now 0 was.below in
    let low' : at p x < length p = falls.below x was.below in
    let second : c.index-in-loop-self.result.now ≡ at p (at p x) = c.index-in-loop-self.ensures ∙ at_default p c.index.result.now c.index-in-loop-self.result.now 0 (omega arith) ∙ ap (at p) first in
    let away : at p x ≢ x = λ e. c.loop-self-test.true (second ∙ ap (at p) e ∙ sym again) in
    let step : c.index-in-loop-self-3.result.now ≡ at p x = c.index-in-loop-self-3.ensures ∙ at_default p x c.index-in-loop-self-3.result.now 0 was.below in
    let low : at p x < length p = falls.below x was.below in
    let next : c.index-next.result.now ≡ at p (at p x) = c.index-next.ensures ∙ at_default p c.index-in-loop-self-3.result.now c.index-next.result.now 0 (omega arith) ∙ ap (at p) step in
    let below = falls.below (at p x) low in
    let long = length-set p x c.index-next.result.now in
    record {
      below = omega arith;
      halved = halved_trans c.args.self.now b (record b { base = with_item b.base x c.index-next.result.now }) was.halved
          (halved_once b (record b { base = with_item b.base x c.index-next.result.now }) x falls was.below away refl (ap (λ (y : ℕ). set p x y) next));
    }
