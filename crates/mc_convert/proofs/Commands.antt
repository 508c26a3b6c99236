-- Words are one command's or none's.
use Rattle.std.proofs.Common.{◌≡◌, ℕ, List, Option, Some, None, sym, ◌∙◌}
use Rattle.mc_convert.specs.declared.command_line.Command.{Command}
use Rattle.mc_convert.specs.Words.{IsCommand, IsLineOf, IsNoCommand}

-- where no command is found there is none
pub none_of : (words : List (List ℕ)) (found : Option Command) → found ≡ None → ((command : Command) (files : List (List ℕ)) → IsCommand command words files → found ≡ Some command) → IsNoCommand words
none_of words found e only command files is = apart (sym e ∙ only command files is)
  where
    apart : None ≡ Some command → ⊥
    apart h = cc

pub some_of : (words : List (List ℕ)) (command : Command) → IsLineOf command words → IsNoCommand words → ⊥
some_of words command (files, is) none = none command files is
