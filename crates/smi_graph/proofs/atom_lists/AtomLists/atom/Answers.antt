use Rattle.std.proofs.Common.{arith, ◌≡◌, ◌∙◌, ap, List, Vec, Bool, length, ℕ, get_or}
use Rattle.smallvec.specs.SmallVec.{SmallVec}
use Rattle.std.specs.declared.alloc.Global.{Global}
use Rattle.std.proofs.lemmas.List.{length-append}
use Rattle.mc_base.specs.declared.ids.AtomId.{AtomId}
use Rattle.smi_graph.proofs.ListsLaw.{atom_lists, led_step}
use Rattle.smi_graph.proofs.atom_lists.AtomLists.atom.Goals as goal

pub returns : goal.returns
returns c = λ lower before completes holds.
    let kept : length c.join_some.new.self.lists.items ≡ length c.args.self.now.lists.items = c.in_ok-join_some.ensures.count in
    let long = ap (λ (x : List (SmallVec AtomId)). length x) c.in_ok-push-2.ensures.items ∙ length-append c.join_some.new.self.lists.items _ in
    let count = holds.count in
    let led_long = ap (λ (x : List Bool). length x) c.in_ok-push.ensures.items ∙ length-append c.join_some.new.self.led.items _ in
    let led : length c.join_some.new.self.led.items ≡ length c.args.self.now.led.items = ap (λ (x : Vec Bool Global). length x.items) c.in_ok-join_some.ensures.led in
    let led_count = holds.led_count in
    record {
      count = omega arith;
      lists = atom_lists c.args.self.now.lists.items c.join_some.new.self.lists.items c.push-2.new.self.items c.new.result lower before c.args.bond
          c.in_ok-join_some.ensures.joined kept c.in_ok-push-2.ensures.items c.new.ensures.items completes holds.count holds.lists;
      led_count = omega arith;
      led = led_step c.args.self.now.led.items c.join_some.new.self.led.items c.push.new.self.items c.is_some.result lower before c.args.bond
          (ap (λ (x : Vec Bool Global). x.items) c.in_ok-join_some.ensures.led) c.in_ok-push.ensures.items c.is_some.ensures completes holds.led_count holds.led;
      slots = λ n. ap (λ (x : SmallVec ℕ). get_or x.items n 0) c.in_ok-join_some.ensures.slots ∙ holds.slots n;
    }
