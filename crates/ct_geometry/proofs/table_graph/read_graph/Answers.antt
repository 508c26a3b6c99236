use Rattle.std.proofs.Common.{rules, ◌≡◌, ℕ, length}
use Rattle.ct_geometry.specs.Tables.{bonds_of}
use Rattle.ct_geometry.proofs.Given.{bonds_once, bonds_there}
use Rattle.ct_geometry.proofs.table_graph.read_graph.Goals as goal

pub bond_sums-requires-clause-bonds : goal.bond_sums-requires-clause-bonds
bond_sums-requires-clause-bonds c =
    let table = c.args.table.now in
    let count : length c.as_slice-atoms.result.now ≡ length table.atoms = search rules in
    let same : c.deref.result.now ≡ bonds_of table.bonds = search rules in
    bonds_there table (length c.as_slice-atoms.result.now) c.deref.result.now c.requires count same

pub first_limit-requires-clause-bonds : goal.first_limit-requires-clause-bonds
first_limit-requires-clause-bonds c =
    let table = c.args.table.now in
    let count : length c.as_slice-atoms.result.now ≡ length table.atoms = search rules in
    let same : c.deref-2.result.now ≡ bonds_of table.bonds = search rules in
    bonds_there table (length c.as_slice-atoms.result.now) c.deref-2.result.now c.requires count same

pub first_limit-requires-clause-once : goal.first_limit-requires-clause-once
first_limit-requires-clause-once c =
    let table = c.args.table.now in
    let same : c.deref-2.result.now ≡ bonds_of table.bonds = search rules in
    bonds_once table c.deref-2.result.now c.requires same

pub of-requires-clause-bonds : goal.of-requires-clause-bonds
of-requires-clause-bonds c =
    let table = c.args.table.now in
    let count : length c.in_ok-atoms.atoms.items ≡ length table.atoms = search rules in
    let same : c.in_ok-bonds.bonds.items ≡ bonds_of table.bonds = search rules in
    bonds_there table (length c.in_ok-atoms.atoms.items) c.in_ok-bonds.bonds.items c.requires count same

pub of-requires-clause-once : goal.of-requires-clause-once
of-requires-clause-once c =
    let table = c.args.table.now in
    let same : c.in_ok-bonds.bonds.items ≡ bonds_of table.bonds = search rules in
    bonds_once table c.in_ok-bonds.bonds.items c.requires same
