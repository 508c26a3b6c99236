-- Small inputs and their records, worked by hand.
use Rattle.std.specs.Prelude.{◌≡◌, ℕ, List, [], ◌∷◌, ◌++◌, Some, codes, refl, map}
use Rattle.mc_io.specs.Lines.{line_feed}
use Rattle.ct_sd.specs.Records.{ended_records, length_faults, sd_records, texts}

abbrev fed : List ℕ → List ℕ
fed text = text ++ line_feed ∷ []

abbrev end : List ℕ
end = codes "$$$$"

-- the end line isn't one of a record's lines, and a line before it may be empty
two_records : map texts (sd_records (fed (codes "water") ++ (fed [] ++ (fed end ++ (fed (codes "$$$$ x") ++ fed (codes " $$$$")))))) ≡ (codes "water" ∷ [] ∷ []) ∷ [] ∷ (codes " $$$$" ∷ []) ∷ []
two_records = refl

-- a last run without an end line is a record only where it says something
blank_end : sd_records (fed end ++ (fed (codes "  ") ++ codes " ")) ≡ record { lines = []; end = Some (fed end) } ∷ []
blank_end = refl

-- a record has ended with the line feed of its end line, and not before
not_ended : ended_records (fed (codes "a") ++ end) ≡ []
not_ended = refl

last_record : sd_records (fed (codes "a") ++ end) ≡ record { lines = fed (codes "a") ∷ []; end = Some end } ∷ []
last_record = refl

-- carriage returns before a line feed aren't of the text
returns : map texts (sd_records (fed (codes "a" ++ 13 ∷ 13 ∷ []) ++ fed (end ++ 13 ∷ []))) ≡ (codes "a" ∷ []) ∷ []
returns = refl

none_long : length_faults (record { lines = fed (codes "a") ∷ []; end = Some (fed end) }) ≡ []
none_long = refl
