use Rattle.std.proofs.Common.{ap, ◌∙◌, ◌≡◌, ◌++◌, ℕ, List, length, map, arith}
use Rattle.smi_write.specs.OpenRings.{opener_of}
use Rattle.smi_write.specs.Texts.{open_pairs}
use Rattle.std.proofs.lemmas.Result.{on_ok_weaker}
use Rattle.smi_write.proofs.OthersFound.{others_found}
use Rattle.smi_write.proofs.ChildRange.{children_before, children_behind}
use Rattle.smi_write.proofs.Partners.{length_parent_list}
use Rattle.smi_write.proofs.order_at.find_others.Goals as goal

pub behind_children-end-requires : goal.behind_children-end-requires
behind_children-end-requires c =
    let len = length_parent_list c.args.mol.now c.args.written.now c.requires.written in
    let count = c.requires.last.count in
    let within = c.requires.within in omega arith

pub push_children-requires : goal.push_children-requires
push_children-requires c =
    let len = length_parent_list c.args.mol.now c.args.written.now c.requires.written in
    let same : length c.deref.result.now ≡ length c.args.written.now.parents.items = ap (λ (xs : List ℕ). length xs) c.deref.ensures.value in
    let few = c.requires.few in
    let within = c.requires.within in
    record {
      few = omega arith;
      within = omega arith;
      end = let count = c.atom_count.ensures.count in let low = c.behind_children-end.ensures.low in omega arith;
      behind = λ l le. children_behind c.args.mol.now c.args.written.now c.deref.result.now c.args.rank l c.requires.written c.deref.ensures.value c.requires.within le;
      before = λ l past. children_before c.args.mol.now c.args.written.now c.deref.result.now c.args.last.now c.args.rank l c.requires.written c.deref.ensures.value c.requires.within c.requires.last
          (λ inside. let count = c.atom_count.ensures.count in c.behind_children-end.ensures.behind l past (omega arith));
    }

pub returns : goal.returns
returns c = on_ok_weaker c.push_children.result (λ pushed.
    let pairs = open_pairs c.args.mol.now c.args.rank in
    others_found c.args.mol.now c.args.written.now c.args.rank c.args.closing.now c.push_openers.new.list.items c.push_partners.new.list.items c.push_children.new.list.items c.deref.result.now
    c.requires.written c.deref.ensures.value c.requires.closing
    (c.in_ok-push_openers.ensures pairs c.requires.rings ∙ ap (λ (x : List ℕ). x ++ map (λ n. opener_of n pairs) c.args.closing.now) c.clear.ensures.items)
    c.in_ok-push_partners.ensures pushed) c.push_children.ensures
