-- The text and the name of a line of a SMILES file (this project's own, after OpenSMILES 1.0, section 2: a text ends at
-- the first blank).
use Rattle.std.specs.Prelude.{ℕ, Bool, ◌||◌, List, [], ◌∷◌, ◌==◌, if◌then◌else◌}

-- a space or a tab
abbrev pub is_blank : ℕ → Bool
is_blank byte = byte == 32 || byte == 9

-- what stands before the first blank
abbrev pub text_of : List ℕ → List ℕ
text_of [] = []
text_of (b ∷ bs) = if is_blank b then [] else b ∷ text_of bs

-- what stands behind the first blank
abbrev pub name_of : List ℕ → List ℕ
name_of [] = []
name_of (b ∷ bs) = if is_blank b then bs else name_of bs
