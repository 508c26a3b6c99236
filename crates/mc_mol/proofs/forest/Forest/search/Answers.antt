use Rattle.std.proofs.Common.{None, length}
use Rattle.mc_mol.proofs.Forests.{found_from, places_kept, place_given}
use Rattle.mc_mol.proofs.forest.Forest.search.Goals as goal

pub atoms-init : goal.atoms-init
atoms-init c = record {
  state = found_from c.args.graph.now.bonds c.args.graph.now.atoms c.args.self.now.order.items c.find.new.self.order.items c.args.self.now.places.items c.find.new.self.places.items
      c.args.self.now.parents.items c.find.new.self.parents.items c.args.self.now.roots.items c.find.new.self.roots.items None c.args.root c.requires.state c.requires.root tt
      c.in_ok-find.ensures.order c.in_ok-find.ensures.places c.in_ok-find.ensures.parents c.in_ok-find.ensures.roots;
  root = (
    length c.args.self.now.order.items,
    place_given c.args.self.now.places.items c.find.new.self.places.items c.args.root.0 (length c.args.self.now.order.items) c.requires.root
        c.in_ok-find.ensures.places,
  );
  kept = places_kept c.args.self.now.places.items c.find.new.self.places.items c.args.root.0 (length c.args.self.now.order.items) c.requires.root c.in_ok-find.ensures.places;
}
