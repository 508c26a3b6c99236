-- What stays of a matcher when its answer has been used.
use Rattle.std.specs.Prelude.{◌≡◌, ⊤}
use Rattle.std.specs.Borrow.{follows_so, MutBor, Fml}
use mathlib.Core.Option.{none}
use Rattle.match_blossom.specs.declared.matcher.Matcher.{Matcher}
use Rattle.match_blossom.specs.contracts.matcher.Matcher.{the_row}

-- the room is as it was
abbrev pub KeepsRoom : MutBor Matcher → Fml
KeepsRoom m = follows_so the_row the_row m.ghost_name none (λ _ _. ⊤) (λ room. room ≡ m.now)
