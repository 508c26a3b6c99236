use Rattle.std.proofs.Common.{refl, string_bytes}
use Rattle.mc_convert.proofs.CommandLines.{files_given}
use Rattle.mc_convert.proofs.command_line.files_of.Goals as goal

pub returns-then-takes-clause-some : goal.returns-then-takes-clause-some
returns-then-takes-clause-some c =
    files_given string_bytes c.args.command c.args.words.now c.split_at.result.0.now c.split_at.result.1.now
    c.split_at.ensures.by_index.0 (c.if-are_words_of.ensures.0 refl) c.if-are_files.ensures (c.if-takes.ensures.0 refl)
