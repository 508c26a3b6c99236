use Rattle.std.proofs.Common.{◌≡◌, ◌∙◌, List, ℕ, sym, subst}
use Rattle.ct_sd.specs.Heads.{line}
use Rattle.ct_v2000.specs.Table.{record_faults}
use Rattle.ct_v2000.specs.Blocks.{AreCounts}
use Rattle.ct_v2000.proofs.Refusals.{bad_counts, formed_is, counts_noted}
use Rattle.ct_v2000.proofs.reader.read_counted.Goals as goal

pub returns-then-not-is_well_formed-clause-err : goal.returns-then-not-is_well_formed-clause-err
returns-then-not-is_well_formed-clause-err c =
    c.refuse.ensures (record_faults c.args.given.now)
    (bad_counts c.args.given.now c.args.faults.fault c.requires.four c.requires.version
    (formed_is c.args.given.now c.line-line.result.now c.is_well_formed.result c.line-line.ensures c.is_well_formed.ensures ∙ c.if-not-is_well_formed.true) c.requires.noted)

pub read_blocks-requires : goal.read_blocks-requires
read_blocks-requires c = record {
  four = c.requires.four;
  version = c.requires.version;
  formed = formed_is c.args.given.now c.line-line.result.now c.is_well_formed.result c.line-line.ensures c.is_well_formed.ensures ∙ c.if-not-is_well_formed.false;
  counted = subst (λ (t : List ℕ). AreCounts t c.read-counts.result) c.line-line.ensures c.read-counts.ensures.counts;
  noted = counts_noted c.args.given.now c.line-line.result.now c.args.faults.fault c.read-counts.new.faults.fault c.line-line.ensures c.requires.noted c.read-counts.ensures.shows;
}
