use Rattle.std.proofs.Common.{arith, ◌≡◌, ◌∙◌, ◌+◌, ◌≤◌, ℕ, List, Option, None, ℤ, false, length, drop, sym, subst, ap}
use Rattle.std.specs.Prelude.{replicate}
use Rattle.std.proofs.lemmas.List.{length-replicate}
use Rattle.ct_v2000.specs.Properties.{block, has_end}
use Rattle.ct_v2000.specs.Blocks.{IsWholeRest, lines_counted}
use Rattle.ct_v2000.proofs.SaidAtoms.{said_is, whole_rest}
use Rattle.ct_v2000.proofs.reader.read_rest.Goals as goal

pub returns : goal.returns
returns c =
    let first : ℕ = c.lines_before-first.result in
    let rest = block false (first + 1) (drop first c.args.given.now) in
    let r = c.if-not-read_properties.ensures in
    let n = c.in_ok-said.ensures in
    let count : length c.in_ok-said.said.charges.items ≡ c.args.counts.atoms = ap length n.charges ∙ length-replicate c.args.counts.atoms None in
    subst (λ (m : ℕ). IsWholeRest (block false (m + 1) (drop m c.args.given.now)) (has_end false (drop m c.args.given.now)) c.args.counts.atoms c.args.lines.now c.args.faults.now.fault c.in_ok-finish.field-0 c.finish.new.faults.fault)
    c.lines_before-first.ensures
    (whole_rest rest (has_end false (drop first c.args.given.now)) c.args.counts.atoms c.args.lines.now c.read_properties.new.said c.args.faults.now.fault c.read_properties.new.faults.fault c.finish.new.faults.fault c.in_ok-finish.field-0
    (sym r.ends)
    (said_is rest c.args.counts.atoms c.in_ok-said.said c.read_properties.new.said n.charges n.masses n.codes n.differences r.count r.codes r.differences r.charges r.masses)
    (let a : ℕ = length c.args.lines.now in let b : ℕ = length c.read_properties.new.said.charges.items in let e : b ≡ c.args.counts.atoms = r.count ∙ count in let d : a ≡ c.args.counts.atoms = c.requires.lines in let s : a ≤ b = omega arith in s)
    r.shows c.in_ok-finish.ensures.atoms c.in_ok-finish.ensures.shows)
