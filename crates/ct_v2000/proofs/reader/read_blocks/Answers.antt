use Rattle.std.proofs.Common.{arith, ◌≡◌, ◌∙◌, ◌+◌, ◌≤◌, ◌<◌, ℕ, List, Option, length, ap, sym, subst}
use Rattle.ct_sd.specs.declared.table.TableAtom.{TableAtom}
use Rattle.ct_v2000.specs.Blocks.{IsRest, lines_counted}
use Rattle.ct_v2000.proofs.Refusals.{few_lines, no_end, all_first, atoms_table, bonds_table, count_atoms}
use Rattle.ct_v2000.proofs.reader.read_blocks.Goals as goal

pub returns-then-line_count-lines_before-clause-err : goal.returns-then-line_count-lines_before-clause-err
returns-then-line_count-lines_before-clause-err c =
    c.too_short.ensures (few_lines c.args.given.now c.args.counts c.args.faults.fault c.requires
    (subst (λ (n : ℕ). n < lines_counted c.args.counts) c.line_count.ensures (subst (λ (n : ℕ). c.line_count.result < n) c.lines_before.ensures c.if-line_count-lines_before.true)))

pub read_rest-requires-clause-lines : goal.read_rest-requires-clause-lines
read_rest-requires-clause-lines c =
    ap length (c.deref.ensures.value ∙ c.in_ok-lines.ensures.atoms)
    ∙ count_atoms c.args.counts.atoms c.args.given.now
    (let a : ℕ = c.args.counts.atoms in let all : ℕ = lines_counted c.args.counts in let n : ℕ = length c.args.given.now in
    let there : all ≤ n = subst (λ (m : ℕ). lines_counted c.args.counts ≤ m) c.line_count.ensures (subst (λ (m : ℕ). m ≤ c.line_count.result) c.lines_before.ensures c.if-line_count-lines_before.false) in
    let few : 4 + a ≤ all = omega arith in let h : 4 + a ≤ n = omega arith in h)

pub accept-requires-clause-atoms : goal.accept-requires-clause-atoms
accept-requires-clause-atoms c =
    atoms_table c.args.given.now c.args.counts c.args.faults.fault c.read_lines.new.faults.fault c.read_rest.new.faults.fault c.deref.result.now c.in-Some.atoms c.requires
    (c.deref.ensures.value ∙ c.in_ok-lines.ensures.atoms)
    (subst (λ (x : Option (List TableAtom)). IsRest c.args.given.now c.args.counts c.deref.result.now c.read_lines.new.faults.fault x c.read_rest.new.faults.fault) c.in-Some.is c.in_ok-atoms.ensures)

pub accept-requires-clause-bonds : goal.accept-requires-clause-bonds
accept-requires-clause-bonds c = bonds_table c.args.given.now c.args.counts c.args.faults.fault c.in_ok-lines.lines.bonds c.requires c.in_ok-lines.ensures.bonds

pub accept-requires-clause-noted : goal.accept-requires-clause-noted
accept-requires-clause-noted c =
    all_first c.args.given.now c.args.counts c.args.faults.fault c.read_lines.new.faults.fault c.read_rest.new.faults.fault c.deref.result.now c.in-Some.atoms c.requires
    (subst (λ (m : ℕ). lines_counted c.args.counts ≤ m) c.line_count.ensures (subst (λ (m : ℕ). m ≤ c.line_count.result) c.lines_before.ensures c.if-line_count-lines_before.false))
    (c.deref.ensures.value ∙ c.in_ok-lines.ensures.atoms)
    c.in_ok-lines.ensures.shows
    (subst (λ (x : Option (List TableAtom)). IsRest c.args.given.now c.args.counts c.deref.result.now c.read_lines.new.faults.fault x c.read_rest.new.faults.fault) c.in-Some.is c.in_ok-atoms.ensures)

pub returns-in-None-clause-err : goal.returns-in-None-clause-err
returns-in-None-clause-err c =
    c.too_short-in-None.ensures (no_end c.args.given.now c.args.counts c.args.faults.fault c.requires
    (subst (λ (m : ℕ). lines_counted c.args.counts ≤ m) c.line_count.ensures (subst (λ (m : ℕ). m ≤ c.line_count.result) c.lines_before.ensures c.if-line_count-lines_before.false))
    (subst (λ (x : Option (List TableAtom)). IsRest c.args.given.now c.args.counts c.deref.result.now c.read_lines.new.faults.fault x c.read_rest.new.faults.fault) c.in-None.is c.in_ok-atoms.ensures))
