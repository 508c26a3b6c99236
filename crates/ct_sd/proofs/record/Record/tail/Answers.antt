use Rattle.std.proofs.Common.{List, sym, subst}
use Rattle.mc_base.specs.declared.span.Span.{Span}
use Rattle.ct_sd.specs.declared.record.Cut.{Cut}
use Rattle.ct_sd.specs.Ranges.{AreWithin, IsCut}
use Rattle.ct_sd.proofs.Ranges.{within_rest}
use Rattle.ct_sd.proofs.record.Record.tail.Goals as goal

pub behind_end-requires : goal.behind_end-requires
behind_end-requires c =
    subst (λ (rest : List Span). AreWithin c.self.inside.bytes.now rest) (sym c.behind_header.ensures)
    (within_rest 4 c.self.inside.bytes.now c.in-Ranges.ranges.now (subst (λ (cut : Cut). IsCut c.self.inside.bytes.now cut) c.in-Ranges.is c.self.invariant))
