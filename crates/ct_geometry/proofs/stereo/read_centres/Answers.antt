use Rattle.std.proofs.Common.{arith, ◌∙◌, ◌≤◌, ℕ, length, vec_capacity}
use Rattle.ct_geometry.specs.declared.wedge_read.WedgeRead.{WedgeRead}
use Rattle.ct_geometry.specs.Wedges.{begins, read_wedges}
use Rattle.ct_geometry.proofs.Given.{centres_pushed, length_pushed, still_clear}
use Rattle.ct_geometry.proofs.stereo.read_centres.Goals as goal

pub loop-a-preserved : goal.loop-a-preserved
loop-a-preserved c =
    let f : ℕ → WedgeRead = λ a. read_wedges c.args.mol.now c.args.rings.now.sizes c.args.drawing.now (begins c.args.mol.now.bonds c.args.marks.now a) a in
    let a : ℕ = c.loop-a.a in
    let capacity = c.push_reserved.ensures.capacity in
    let room = c.loop-a.invariant.room in
    record {
      found = centres_pushed f c.loop-a.found.items c.push_reserved.new.self.items a c.centre_of_wedges-read.result c.centre_given.result c.push_reserved.ensures.items c.loop-a.invariant.found c.centre_given.ensures c.centre_of_wedges-read.ensures;
      count = length_pushed c.loop-a.found.items c.push_reserved.new.self.items a c.centre_given.result c.push_reserved.ensures.items c.loop-a.invariant.count;
      clear = still_clear f a c.centre_of_wedges-read.result c.loop-a.invariant.clear c.centre_of_wedges-read.ensures (let told = c.is_ambiguous.ensures in let fails = c.if-is_ambiguous.false in let here = c.if-is_ambiguous.ensures in cc);
      room = omega arith;
    }
