use Rattle.mc_convert.proofs.SameRefusal.{not_at_one_place, at_one_place}
use Rattle.mc_convert.proofs.finding.shows_too.Goals as goal

pub returns-then-not-are_at_one_place : goal.returns-then-not-are_at_one_place
returns-then-not-are_at_one_place c = λ to given read.
    not_at_one_place to given c.args.shown.now c.args.said.now c.args.skeleton.now c.are_at_one_place.result read c.are_at_one_place.ensures c.if-not-are_at_one_place.true

pub returns : goal.returns
returns c = λ to given read.
    at_one_place to given c.args.shown.now c.args.said.now c.args.skeleton.now c.in_ok-has_reason.has_reason read (c.are_at_one_place.ensures.0 c.if-not-are_at_one_place.false)
    (λ kept. c.in_ok-has_reason.ensures to given kept)
