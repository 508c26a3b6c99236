-- The words of a command (this project's own): the command, what its records are and are to be, and its files, in this order.
use Rattle.std.specs.List.{list_all}
use Rattle.std.specs.Prelude.{◌≡◌, ◌≤◌, ◌⊎◌, ℕ, Bool, not, true, false, List, [], ◌∷◌, ◌++◌, ◌==◌, codes, length}
use Rattle.mc_convert.specs.declared.command_line.Command.{Command}
use Rattle.mc_convert.specs.declared.command_line.Command.TheVariants.{Convert, Check}
use Rattle.mc_convert.specs.declared.formats.Formats.{Formats}
use Rattle.mc_convert.specs.Formats.{origin_name, target_name}

-- the first word
abbrev pub command_name : Command → List ℕ
command_name (Convert formats) = codes "convert"
command_name (Check formats) = codes "check"

-- what its records are and are to be
abbrev pub formats_of : Command → Formats
formats_of (Convert formats) = formats
formats_of (Check formats) = formats

-- the words before the files
abbrev pub command_words : Command → List (List ℕ)
command_words command = command_name command ∷ codes "--from" ∷ origin_name (formats_of command).from ∷ codes "--to" ∷ target_name (formats_of command).to ∷ []

-- a file is a word that isn't empty and doesn't begin with '-'
abbrev pub is_file : List ℕ → Bool
is_file [] = false
is_file (first ∷ rest) = not (first == 45)

-- how many files a command may have
abbrev pub IsCount : Command → ℕ → Type 0
IsCount (Convert formats) n = n ≤ 1
IsCount (Check formats) n = n ≡ 3

-- the words of a command with these files
pub record IsCommand (command : Command) (words files : List (List ℕ)) : Type 0 where
  pub joined : words ≡ command_words command ++ files
  pub files_are : list_all is_file files ≡ true
  pub count : IsCount command (length files)

-- the words are this command's, with some files
abbrev pub IsLineOf : Command → List (List ℕ) → Type 0
IsLineOf command words = (files : List (List ℕ)) × IsCommand command words files

-- the words are in no line of the table
abbrev pub IsNoCommand : List (List ℕ) → Type 0
IsNoCommand words = (command : Command) (files : List (List ℕ)) → IsCommand command words files → ⊥

-- the names of the inputs: the files of a command, none where the words are no command's
abbrev pub AreNames : List (List ℕ) → List (List ℕ) → Type 0
AreNames words names = ((command : Command) × IsCommand command words names) ⊎ (IsNoCommand words × (names ≡ []))

-- the words are no command's, or those of a command with no file
abbrev pub NameNoFile : List (List ℕ) → Type 0
NameNoFile words = IsNoCommand words ⊎ ((command : Command) × IsCommand command words [])
