use Rattle.std.proofs.Common.{◌∙◌, ap, sym, length, List}
use Rattle.ct_sd.specs.declared.table.TableBond.{TableBond}
use Rattle.mc_convert.specs.SdRecords.{says_stereo}
use Rattle.mc_convert.proofs.DrawnStereo.{bond_count, is_plain, says_none}
use Rattle.mc_convert.proofs.SdReading.{ambiguous_refused, stereo_refused, table_refused}
use Rattle.mc_convert.proofs.sd_read.read_table.Goals as goal

pub says_stereo-requires-clause-count : goal.says_stereo-requires-clause-count
says_stereo-requires-clause-count c = ap length c.as_slice.ensures ∙ bond_count c.args.table.now c.in-Ok.ct c.in-Ok.ensures.ok

pub returns-then-says_stereo-clause-err : goal.returns-then-says_stereo-clause-err
returns-then-says_stereo-clause-err c =
    let ct = c.in-Ok.ct in
    let bonds = ap (λ (bs : List TableBond). says_stereo ct.mol ct.rings.sizes bs) c.as_slice.ensures in
    rw c.not_built.ensures (stereo_refused c.args.given.now c.args.table.now ct c.requires.given c.in-Ok.ensures.ok (sym bonds ∙ (sym c.says_stereo.ensures ∙ c.if-says_stereo.true)))

pub returns-else-says_stereo-clause-built : goal.returns-else-says_stereo-clause-built
returns-else-says_stereo-clause-built c =
    let ct = c.in-Ok.ct in
    let bonds = ap (λ (bs : List TableBond). says_stereo ct.mol ct.rings.sizes bs) c.as_slice.ensures in
    says_none c.args.table.now ct c.in-Ok.ensures.ok (sym bonds ∙ (sym c.says_stereo.ensures ∙ c.if-says_stereo.false))

pub returns-else-says_stereo-clause-plain : goal.returns-else-says_stereo-clause-plain
returns-else-says_stereo-clause-plain c =
    let ct = c.in-Ok.ct in
    let bonds = ap (λ (bs : List TableBond). says_stereo ct.mol ct.rings.sizes bs) c.as_slice.ensures in
    is_plain c.args.table.now ct c.in-Ok.ensures.ok c.in-Ok.ensures.sound (sym bonds ∙ (sym c.says_stereo.ensures ∙ c.if-says_stereo.false))

pub returns-in-AmbiguousCentre-clause-err : goal.returns-in-AmbiguousCentre-clause-err
returns-in-AmbiguousCentre-clause-err c =
    rw c.not_built-in-AmbiguousCentre.ensures (ambiguous_refused c.args.given.now c.args.table.now c.in-Err-Refused.refusal c.requires.given (rw c.in-Err-Refused.field-0-is at c.in-Err-Refused.ensures.err) c.in-AmbiguousCentre.is)

pub returns-in_default : goal.returns-in_default
returns-in_default c = record {
  ok = tt;
  built = tt;
  plain = tt;
  err = table_refused c.args.given.now c.args.table.now c.in-Err-Refused.refusal c.requires.given (rw c.in-Err-Refused.field-0-is at c.in-Err-Refused.ensures.err) c.in_default.not-AmbiguousCentre;
}
