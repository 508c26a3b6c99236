use Rattle.std.proofs.Common.{arith, ◌∙◌, ◌≤◌, List, length, sym, map}
use Rattle.std.proofs.lemmas.List.{length-map}
use Rattle.smi_graph.specs.declared.text_bond.TextBond.{TextBond}
use Rattle.smi_graph.specs.Links.{bond_of}
use Rattle.smi_graph.proofs.LimitFaults.{all_within_limits, shows_class, shows_charge, shows_no_limit}
use Rattle.smi_graph.proofs.limits.limit_fault.Goals as goal

fewer : (bonds : List TextBond) → length bonds ≤ 999 → length (map bond_of bonds) ≤ 999
fewer bonds few = let same = length-map bonds bond_of in omega arith

pub returns-then-are_within : goal.returns-then-are_within
returns-then-are_within c =
    let each = all_within_limits c.args.atoms.now (sym c.requires.within ∙ c.if-are_within.true) in
    let rings = (rw c.in_default.is at c.in_ok-rings.ensures.few) in
    shows_no_limit c.args.atoms.now (map bond_of c.args.bonds.now) c.if-atoms-gt-ATOM_LIMIT.false (fewer c.args.bonds.now c.if-bonds-gt-BOND_LIMIT.false) rings each.isotopes each.classes each.charges

pub returns-in-Some-first_high_class : goal.returns-in-Some-first_high_class
returns-in-Some-first_high_class c =
    let rings = (rw c.in_default.is at c.in_ok-rings.ensures.few) in
    shows_class c.args.atoms.now (map bond_of c.args.bonds.now) c.in-Some-first_high_class.k c.if-atoms-gt-ATOM_LIMIT.false (fewer c.args.bonds.now c.if-bonds-gt-BOND_LIMIT.false) rings c.in_default-first_high_isotope.ensures c.in-Some-first_high_class.ensures

pub returns-in-Some-first_high_charge : goal.returns-in-Some-first_high_charge
returns-in-Some-first_high_charge c =
    let rings = (rw c.in_default.is at c.in_ok-rings.ensures.few) in
    shows_charge c.args.atoms.now (map bond_of c.args.bonds.now) c.in-Some-first_high_charge.k c.if-atoms-gt-ATOM_LIMIT.false (fewer c.args.bonds.now c.if-bonds-gt-BOND_LIMIT.false) rings c.in_default-first_high_isotope.ensures c.in_default-first_high_class.ensures c.in-Some-first_high_charge.ensures

pub returns : goal.returns
returns c =
    let rings = (rw c.in_default.is at c.in_ok-rings.ensures.few) in
    shows_no_limit c.args.atoms.now (map bond_of c.args.bonds.now) c.if-atoms-gt-ATOM_LIMIT.false (fewer c.args.bonds.now c.if-bonds-gt-BOND_LIMIT.false) rings c.in_default-first_high_isotope.ensures c.in_default-first_high_class.ensures c.in_default-first_high_charge.ensures
