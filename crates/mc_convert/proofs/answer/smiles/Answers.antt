use Rattle.std.proofs.Common.{arith, ◌<◌, ◌^◌, ◌-◌, List, subst, sym}
use Rattle.std.specs.Prelude.{All}
use Rattle.mc_base.specs.declared.ids.AtomId.{AtomId}
use Rattle.mc_convert.proofs.answer.smiles.Goals as goal

pub put_ok-requires-clause-atoms : goal.put_ok-requires-clause-atoms
put_ok-requires-clause-atoms c =
    let few = c.in_ok-written.ensures.few in
    subst (λ (x : List AtomId). All (λ (a : AtomId). a.0 < 2 ^ 32 - 1) x) (sym c.as_slice.ensures)
    (λ k d less. let low = c.in_ok-written.ensures.in_range k d less in omega (arith, few, low))
