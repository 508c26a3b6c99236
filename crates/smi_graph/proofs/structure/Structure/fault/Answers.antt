use Rattle.std.proofs.Common.{arith, List}
use Rattle.smi_graph.specs.declared.role.Role.{Role}
use Rattle.smi_graph.specs.Rules.{roles_in}
use Rattle.smi_graph.proofs.TokenFaults.{shows_ring, shows_clash, shows_pair, shows_none}
use Rattle.smi_graph.proofs.structure.Structure.fault.Goals as goal

pub overflow_cast-result : goal.overflow_cast-result
overflow_cast-result c = let small = rw c.in-Some-2.is at c.in_ok-i.ensures.small in omega arith

pub returns-in-Some-first_open : goal.returns-in-Some-first_open
returns-in-Some-first_open c =
    let ks : List Role = roles_in c.args.text.now in
    let order = c.in_default.ensures ks c.requires.all c.requires.follows in
    let closed = rw c.in_default-2.is at c.in_ok-i.ensures.first in
    shows_ring ks c.in-Some-first_open.place order closed (c.in-Some-first_open.ensures ks c.requires.all c.requires.follows)

pub returns-in-Some-clash : goal.returns-in-Some-clash
returns-in-Some-clash c =
    let ks : List Role = roles_in c.args.text.now in
    let order = c.in_default.ensures ks c.requires.all c.requires.follows in
    let closed = rw c.in_default-2.is at c.in_ok-i.ensures.first in
    let rings = c.in_default-first_open.ensures ks c.requires.all c.requires.follows in
    let clash = rw (c.requires.all, c.in-Some-clash.is) at c.requires.follows.faults.clash in
    shows_clash ks c.in-Some-clash.place order closed rings clash

pub returns-in-Some-pair : goal.returns-in-Some-pair
returns-in-Some-pair c =
    let ks : List Role = roles_in c.args.text.now in
    let order = c.in_default.ensures ks c.requires.all c.requires.follows in
    let closed = rw c.in_default-2.is at c.in_ok-i.ensures.first in
    let rings = c.in_default-first_open.ensures ks c.requires.all c.requires.follows in
    let clash = rw (c.requires.all, c.in_default-clash.is) at c.requires.follows.faults.clash in
    let pair = rw (c.requires.all, c.in-Some-pair.is) at c.requires.follows.faults.pair in
    shows_pair ks c.in-Some-pair.place order closed rings clash pair

pub returns : goal.returns
returns c =
    let ks : List Role = roles_in c.args.text.now in
    let order = c.in_default.ensures ks c.requires.all c.requires.follows in
    let closed = rw c.in_default-2.is at c.in_ok-i.ensures.first in
    let rings = c.in_default-first_open.ensures ks c.requires.all c.requires.follows in
    let clash = rw (c.requires.all, c.in_default-clash.is) at c.requires.follows.faults.clash in
    let pair = rw (c.requires.all, c.in_default-pair.is) at c.requires.follows.faults.pair in
    shows_none ks order closed rings clash pair
