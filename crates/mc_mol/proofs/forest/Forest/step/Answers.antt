use Rattle.std.proofs.Common.{Some, length}
use Rattle.mc_mol.proofs.Forests.{found_from, found_smaller, left_one, left_smaller, places_kept}
use Rattle.mc_mol.proofs.forest.Forest.step.Goals as goal

pub returns-in_ok-find-in-Some-clause-state : goal.returns-in_ok-find-in-Some-clause-state
returns-in_ok-find-in-Some-clause-state c = found_from c.args.graph.now.bonds c.args.graph.now.atoms c.args.self.now.order.items c.find.new.self.order.items c.args.self.now.places.items
    c.find.new.self.places.items c.args.self.now.parents.items c.find.new.self.parents.items c.args.self.now.roots.items c.find.new.self.roots.items (Some c.args.atom) c.in-Some.next
    c.requires.state c.in-Some.ensures.free c.in-Some.ensures.joined c.in_ok-find-in-Some.ensures.order c.in_ok-find-in-Some.ensures.places c.in_ok-find-in-Some.ensures.parents
    c.in_ok-find-in-Some.ensures.roots

pub returns-in_ok-find-in-Some-clause-smaller : goal.returns-in_ok-find-in-Some-clause-smaller
returns-in_ok-find-in-Some-clause-smaller c = found_smaller c.args.graph.now.bonds c.args.graph.now.atoms c.args.self.now.order.items c.args.self.now.places.items
    c.find.new.self.places.items c.args.self.now.parents.items c.args.self.now.roots.items c.args.atom c.in-Some.next c.requires.state c.in-Some.ensures.free
    c.in_ok-find-in-Some.ensures.places

pub returns-in_ok-find-in-Some-clause-kept : goal.returns-in_ok-find-in-Some-clause-kept
returns-in_ok-find-in-Some-clause-kept c = places_kept c.args.self.now.places.items c.find.new.self.places.items c.in-Some.next.0 (length c.args.self.now.order.items) c.in-Some.ensures.free
    c.in_ok-find-in-Some.ensures.places

pub returns-in-None-clause-state : goal.returns-in-None-clause-state
returns-in-None-clause-state c = left_one c.args.graph.now.bonds c.args.graph.now.atoms c.args.self.now.order.items c.args.self.now.places.items c.args.self.now.parents.items
    c.args.self.now.roots.items c.args.atom c.parent.result c.requires.state (c.unfound_neighbour.ensures.none c.in-None.is) c.parent.ensures

pub returns-in-None-clause-smaller : goal.returns-in-None-clause-smaller
returns-in-None-clause-smaller c = left_smaller c.args.graph.now.bonds c.args.graph.now.atoms c.args.self.now.order.items c.args.self.now.places.items c.args.self.now.parents.items
    c.args.self.now.roots.items c.args.atom c.parent.result c.requires.state c.parent.ensures
