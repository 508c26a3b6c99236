use Rattle.std.proofs.Common.{◌≡◌, ◌++◌, true, map, drop}
use Rattle.std.specs.Prelude.{is_none}
use Rattle.std.specs.List.{list_all}
use Rattle.molconv.proofs.named_file.named_files.Given as goal

abbrev pub invariant-loop-name : goal.invariant-loop-name
invariant-loop-name g l = record {
  names : map (λ file. file.name) l.named.items ++ drop l.name-index l.name-items ≡ l.name-items;
  unopened : list_all (λ file. is_none file.file) l.named.items ≡ true;
}
