use Rattle.std.proofs.Common.{arith, ◌∙◌, ℕ, sym, ap}
use Rattle.std.specs.List.{list_all}
use Rattle.std.specs.Prelude.{take, map}
use Rattle.smi_graph.specs.Roles.{roles, atoms_of}
use Rattle.smi_graph.specs.Order.{tokens_before}
use Rattle.smi_graph.specs.Reading.{held_atom, is_within_limits, all_plain}
use Rattle.smi_graph.specs.Rules.{is_built_kind}
use Rattle.smi_graph.proofs.reader.Reader.with_room.Goals as goal

pub returns-clause-has : goal.returns-clause-has
returns-clause-has c = λ ts.
    let none = c.in_ok-with_room.ensures.tokens in
    record {
      within = omega arith;
      atoms = c.in_ok-with_capacity.ensures.items ∙ sym (ap (λ (n : ℕ). map held_atom (atoms_of (take n ts))) none);
      within_limits = sym (ap (list_all is_within_limits) c.in_ok-with_capacity.ensures.items);
      built = sym (ap (λ (n : ℕ). list_all (λ token. is_built_kind token.kind) (take n ts)) none);
      plain = sym (ap (λ (n : ℕ). all_plain (tokens_before (roles ts) n)) none);
      follows = c.in_ok-with_room.ensures.follows (roles ts);
    }
