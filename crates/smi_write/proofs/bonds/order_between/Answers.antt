use Rattle.std.proofs.lemmas.Option.{slice_get_within}
use Rattle.std.specs.Prelude.{◌==◌}
use Rattle.smi_write.proofs.BondOrders.{half_at, half_order, no_half_order, none_found}
use Rattle.smi_write.proofs.bonds.order_between.Goals as goal

pub bond-requires : goal.bond-requires
bond-requires c =
    let at = half_at c.bonds_of-half-items.result.now _ c.loop-half.half-index (record { bond = record { 0 = 0 }; to = record { 0 = 0 }; twin = 0 }) c.bonds_of-half-items.ensures.value c.loop-half-test.true in
    slice_get_within _ _ _ (c.bonds_of-half-items.ensures.twins c.loop-half.half-index _ at).is_bond

pub returns-then-half-second : goal.returns-then-half-second
returns-then-half-second c =
    let at = half_at c.bonds_of-half-items.result.now _ c.loop-half.half-index (record { bond = record { 0 = 0 }; to = record { 0 = 0 }; twin = 0 }) c.bonds_of-half-items.ensures.value c.loop-half-test.true in
    half_order c.args.mol.now c.args.first c.loop-half.half-index c.args.second.0 _ c.bond.result c.requires.molecule c.bonds_of-half-items.ensures.twins at c.if-half-second.true c.bond.ensures.value

pub returns : goal.returns
returns c = no_half_order c.args.mol.now c.args.first.0 c.args.second.0 c.requires.different
    (none_found (λ half. half.to.0 == c.args.second.0) c.bonds_of-half-items.result.now _ c.loop-half.half-index c.bonds_of-half-items.ensures.value c.loop-half-test.false c.loop-half.invariant)
