-- What is known of a line of which parts were passed, byte by byte.
use Rattle.std.specs.Prelude.{ℕ, zero, suc, ◌+◌, ◌==◌, Bool, true, false, not, ◌&&◌, nat_lt, if◌then◌else◌, List, [], ◌∷◌, Option, Some, None}
use Rattle.mc_digits.specs.Fields.{is_blank}
use Rattle.mc_io.specs.Lines.{carriage_return, most_bytes}
use Rattle.ct_sd.specs.declared.line_so_far.LineSoFar.{LineSoFar}
use Rattle.ct_sd.specs.declared.line_so_far.Said.{Said}
use Rattle.ct_sd.specs.declared.line_so_far.Said.TheVariants.{Blanks, Returns, Something}

abbrev pub say : Said → ℕ → Said
say Blanks b = if is_blank b then Blanks else if b == carriage_return then Returns else Something
say Returns b = if b == carriage_return then Returns else Something
say Something b = Something

-- how many dollar signs more are wanted
abbrev pub want : Option ℕ → ℕ → Option ℕ
want None b = None
want (Some zero) b = Some 0
want (Some (suc more)) b = if b == 36 then Some more else None

abbrev pub step : LineSoFar → ℕ → LineSoFar
step line b = record {
  len = line.len + 1;
  returns = line.returns && b == carriage_return;
  wanted = want line.wanted b;
  said = say line.said b;
}

abbrev pub after : LineSoFar → List ℕ → LineSoFar
after line [] = line
after line (b ∷ bytes) = after (step line b) bytes

abbrev pub none_yet : LineSoFar
none_yet = record { len = 0; returns = true; wanted = Some 4; said = Blanks }

abbrev pub is_long_so_far : LineSoFar → Bool
is_long_so_far line = nat_lt most_bytes line.len && not line.returns

abbrev pub ends_here : Option ℕ → Bool
ends_here None = false
ends_here (Some zero) = true
ends_here (Some (suc more)) = false

abbrev pub is_something : Said → Bool
is_something Blanks = false
is_something Returns = false
is_something Something = true
