use Rattle.std.proofs.Common.{arith, length, take, drop, ◌-◌}
use Rattle.std.proofs.lemmas.List.{take_all, length-drop}
use Rattle.mc_io.proofs.Fillings.{first_in_rest, none_in_rest}
use Rattle.mc_io.proofs.line_finding.first_feed.Goals as goal

pub returns-in-Some-clause-found : goal.returns-in-Some-clause-found
returns-in-Some-clause-found c =
    let bytes = c.args.bytes.now in
    let from = c.args.from in
    let found = c.in-Some.ensures in
    let first = found.0 in
    let is = take_all (length bytes - from) (drop from bytes) (let size = length-drop from bytes in omega arith) in
    (first_in_rest bytes (take (length bytes - from) (drop from bytes)) from c.in-Some.len is c.requires.within c.requires.clear first.high (λ k before. first.before k (omega arith) before) found.1, omega arith)

pub returns-in-None-clause-none : goal.returns-in-None-clause-none
returns-in-None-clause-none c = λ none.
    let bytes = c.args.bytes.now in
    let from = c.args.from in
    let is = take_all (length bytes - from) (drop from bytes) (let size = length-drop from bytes in omega arith) in
    none_in_rest bytes (take (length bytes - from) (drop from bytes)) from is c.requires.clear (λ k before. c.in-None.ensures k (omega arith) before)
