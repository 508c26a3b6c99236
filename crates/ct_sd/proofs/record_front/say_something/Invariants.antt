use Rattle.std.proofs.Common.{◌≡◌, drop}
use Rattle.std.specs.Prelude.{not}
use Rattle.std.specs.List.{list_any}
use Rattle.mc_base.specs.declared.span.Span.{Span}
use Rattle.ct_sd.specs.Columns.{is_blank_text}
use Rattle.ct_sd.specs.Ranges.{part}
use Rattle.ct_sd.proofs.record_front.say_something.Given as goal

abbrev pub invariant-loop-range : goal.invariant-loop-range
invariant-loop-range l = list_any (λ (r : Span). not (is_blank_text (part l.held r))) (drop l.range-index l.ranges) ≡ list_any (λ (r : Span). not (is_blank_text (part l.held r))) l.ranges
