use Rattle.std.proofs.Common.{◌≡◌, ◌∙◌, length, get_or, take, refl, arith}
use Rattle.std.proofs.lemmas.List.{length-take}
use Rattle.mc_mol.specs.declared.parts.Bond.{Bond}
use Rattle.mc_mol.proofs.Added.{few_held, gains_of, hold_next}
use Rattle.mc_mol.proofs.adjacency.Adjacency.of_bonds.Goals as goal

abbrev no_bond : Bond
no_bond = record { first = record { 0 = 0 }; second = record { 0 = 0 }; order = 0 }

pub join-requires-clause-first_few : goal.join-requires-clause-first_few
join-requires-clause-first_few c d =
    let is = c.requires.bonds c.loop-k.k no_bond c.loop-k-test.true in
    let few = few_held c.args.atoms (take c.loop-k.k c.args.bonds.now) c.loop-k.adjacency.lists.items c.loop-k.invariant.each _ d is.first in
    omega (arith, few, length-take c.loop-k.k c.args.bonds.now, c.requires.few)

pub join-requires-clause-second_few : goal.join-requires-clause-second_few
join-requires-clause-second_few c d =
    let is = c.requires.bonds c.loop-k.k no_bond c.loop-k-test.true in
    let few = few_held c.args.atoms (take c.loop-k.k c.args.bonds.now) c.loop-k.adjacency.lists.items c.loop-k.invariant.each _ d is.second in
    omega (arith, few, length-take c.loop-k.k c.args.bonds.now, c.requires.few)

pub loop-k-preserved : goal.loop-k-preserved
loop-k-preserved c =
    let bonds = c.args.bonds.now in
    let i = c.loop-k.k in
    let within = c.loop-k-test.true in
    let number : i ≡ length (take i bonds) = omega (arith, length-take i bonds, within) in
    let old = c.loop-k.adjacency.lists.items in
    let new = c.join.new.self.lists.items in
    let gains = gains_of (take i bonds) old old new (get_or bonds i no_bond) (record { 0 = i }) number (λ k d. refl)
    c.in_ok-join.ensures.at_first c.in_ok-join.ensures.at_second c.join.ensures.others in
    record {
      count = c.join.ensures.count ∙ c.loop-k.invariant.count;
      each = hold_next c.args.atoms bonds i no_bond old new c.requires.bonds within c.loop-k.invariant.each gains;
    }
