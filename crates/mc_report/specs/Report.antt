-- Report lines (this project's own): one for each record.
use Rattle.std.specs.Prelude.{◌≡◌, ℕ, ◌+◌, ◌==◌, cond, List, [], ◌∷◌, ◌++◌, codes, decimal}
use Rattle.mc_base.specs.declared.ids.AtomId.{AtomId}
use Rattle.mc_base.specs.declared.kind.Kind.{Kind}
use Rattle.mc_base.specs.declared.kind.Kind.TheVariants.{NoPlacement}
use Rattle.mc_base.specs.declared.refusal.Refusal.{Refusal}
use Rattle.mc_base.specs.Kinds.{kind_name}

abbrev pub line_end : List ℕ
line_end = 10 ∷ []

-- how many lines end in these bytes
abbrev pub line_ends : List ℕ → ℕ
line_ends [] = 0
line_ends (b ∷ bytes) = cond (b == 10) (1 + line_ends bytes) (line_ends bytes)

-- one line: its end stands behind it, and nowhere before
pub record IsOneLine (bytes : List ℕ) : Type 0 where
  pub text : List ℕ
  pub ends : bytes ≡ text ++ line_end
  pub one : line_ends text ≡ 0

abbrev pub later_numbers : List AtomId → List ℕ
later_numbers [] = []
later_numbers (a ∷ others) = (44 ∷ []) ++ (decimal (a.0 + 1) ++ later_numbers others)

-- atoms, counted from 1 and parted by commas
abbrev pub numbers : List AtomId → List ℕ
numbers [] = []
numbers (a ∷ others) = decimal (a.0 + 1) ++ later_numbers others

-- What the line of a record that is written says: its number; the map, whose entry k is the read atom of written atom k;
-- and three counts of what the target can't hold.
abbrev pub ok_text : ℕ → List AtomId → ℕ → ℕ → ℕ → List ℕ
ok_text k map idle ring lines = decimal k ++ codes " ok map=" ++ numbers map ++ codes " idle=" ++ decimal idle
    ++ codes " ring=" ++ decimal ring ++ codes " data=" ++ decimal lines

abbrev pub ok_line : ℕ → List AtomId → ℕ → ℕ → ℕ → List ℕ
ok_line k map idle ring lines = ok_text k map idle ring lines ++ line_end

-- what is said of a refusal: a place, or for NoPlacement a barrier with its number of odd parts
abbrev pub reason : Kind → ℕ → List AtomId → ℕ → List ℕ
reason NoPlacement place barrier odd = codes " barrier=" ++ numbers barrier ++ codes " odd=" ++ decimal odd
reason _ place barrier odd = codes " place=" ++ decimal place

-- what the line of a record that is refused says
abbrev pub refused_text : ℕ → Refusal → List ℕ
refused_text k refusal = decimal k ++ codes " refused " ++ kind_name refusal.kind
    ++ reason refusal.kind refusal.place refusal.barrier refusal.odd

abbrev pub refused_line : ℕ → Refusal → List ℕ
refused_line k refusal = refused_text k refusal ++ line_end
