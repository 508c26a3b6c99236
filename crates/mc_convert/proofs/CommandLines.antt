-- The words of a command, as its own words and its files.
use Rattle.std.proofs.Common.{arith, ◌≡◌, ◌≤◌, ◌∙◌, ◌++◌, ◌∷◌, [], ℕ, List, length, map, take, drop, true, ap, sym, subst, refl, ◌+◌}
use Rattle.std.specs.List.{list_all}
use Rattle.std.proofs.lemmas.List.{map-append, length-append, length-map}
use Rattle.std.proofs.Math.Seq.{take-append_seam, drop-append_seam}
use Rattle.std.proofs.lemmas.List.Folds.{list_all-map}
use Rattle.mc_convert.specs.declared.command_line.Command.{Command}
use Rattle.mc_convert.specs.declared.command_line.Command.TheVariants.{Convert, Check}
use Rattle.mc_convert.specs.declared.formats.Formats.{Formats}
use Rattle.mc_convert.specs.declared.formats.Origin.{Origin}
use Rattle.mc_convert.specs.declared.formats.Origin.TheVariants.{Smi as FromSmi}
use Rattle.mc_convert.specs.declared.formats.Target.{Target}
use Rattle.mc_convert.specs.declared.formats.Target.TheVariants.{Smi as ToSmi}
use Rattle.mc_convert.specs.Words.{IsCommand, IsCount, command_words, is_file}

-- words that are a command's own words and files
pub files_given : {X : Type 0} (f : X → List ℕ) (command : Command) (words front rest : List X) → words ≡ front ++ rest →
    map f front ≡ command_words command → true ≡ list_all (λ word. is_file (f word)) rest → IsCount command (length rest) →
    IsCommand command (map f words) (map f rest)
files_given f command words front rest joined named files count = record {
  joined = ap (map f) joined ∙ (map-append f front rest ∙ ap (λ xs. xs ++ map f rest) named);
  files_are = list_all-map is_file f rest ∙ sym files;
  count = rw (length-map rest f) count;
}

-- a command has five words before its files
pub is_long : {X : Type 0} (f : X → List ℕ) (command : Command) (words : List X) (files : List (List ℕ)) →
    IsCommand command (map f words) files → 5 ≤ length words
is_long f command words files is =
    let n = length words in
    let m = length files in
    let counts : n ≡ 5 + m = sym (length-map words f) ∙ (ap length is.joined ∙ length-append (command_words command) files) in
    omega arith

-- the first five words are a command's own, and the files stand behind them
pub parts_of : (command : Command) (front rest files : List (List ℕ)) → length front ≡ 5 → IsCommand command (front ++ rest) files →
    (front ≡ command_words command) × (rest ≡ files)
parts_of command front rest files five is = (
  sym (take-append_seam front rest) ∙ (ap (take (length front)) is.joined ∙ ap (λ n. take n (command_words command ++ files)) five),
  sym (drop-append_seam front rest) ∙ (ap (drop (length front)) is.joined ∙ ap (λ n. drop n (command_words command ++ files)) five),
)

-- words that aren't a command's own words and files
pub no_files : {X : Type 0} (f : X → List ℕ) (command : Command) (words front rest : List X) → words ≡ front ++ rest → length front ≡ 5 →
    (map f front ≡ command_words command → list_all (λ word. is_file (f word)) rest ≡ true → IsCount command (length rest) → ⊥) →
    (files : List (List ℕ)) → IsCommand command (map f words) files → ⊥
no_files f command words front rest joined five none files is =
    let parted : IsCommand command (map f front ++ map f rest) files =
    subst (λ (xs : List (List ℕ)). IsCommand command xs files) (ap (map f) joined ∙ map-append f front rest) is in
    let parts = parts_of command (map f front) (map f rest) files (length-map front f ∙ five) parted in
    none parts.0
    (sym (list_all-map is_file f rest) ∙ (ap (list_all is_file) parts.1 ∙ is.files_are))
    (subst (λ (n : ℕ). IsCount command n) (sym (ap length parts.1) ∙ length-map rest f) is.count)

abbrev formats : Origin → Target → Formats
formats from to = record { from = from; to = to }

abbrev first_length : List (List ℕ) → ℕ
first_length [] = 0
first_length (word ∷ words) = length word

seven_five : {X : Type 0} (n m : ℕ) → n ≡ 7 → m ≡ 5 → n ≡ m → X
seven_five n m seven five e = absurd (omega arith)

-- there is one pair of formats
one_formats : (f g : Formats) → f ≡ g
one_formats f g = parts f.from g.from f.to g.to
  where
    parts : (a b : Origin) (x y : Target) → formats a x ≡ formats b y
    parts FromSmi FromSmi ToSmi ToSmi = refl

-- two commands have no words in common
pub one_command : (c d : Command) (words files others : List (List ℕ)) → IsCommand c words files → IsCommand d words others → c ≡ d
one_command (Convert f) (Convert g) words files others is other = ap Convert (one_formats f g)
one_command (Convert f) (Check g) words files others is other =
    seven_five 7 5 refl refl (ap first_length (sym is.joined ∙ other.joined))
one_command (Check f) (Convert g) words files others is other =
    seven_five 7 5 refl refl (sym (ap first_length (sym is.joined ∙ other.joined)))
one_command (Check f) (Check g) words files others is other = ap Check (one_formats f g)

-- the words of a command have one list of files
pub one_files : (c d : Command) (words files others : List (List ℕ)) → IsCommand c words files → IsCommand d words others → files ≡ others
one_files c d words files others is other = ap (drop 5) (sym is.joined ∙ other.joined)
