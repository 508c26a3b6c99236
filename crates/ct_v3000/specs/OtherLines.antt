-- The lines of Sgroup blocks and of collection blocks (CTfile formats, V3000 Sgroup block and collection block).
use Rattle.std.specs.Prelude.{ℕ, not, ◌||◌, nat_eq, nat_lt, if◌then◌else◌, List, [], ◌∷◌, length, codes}
use Rattle.std.specs.List.{starts_with}
use Rattle.mc_base.specs.declared.kind.Kind.{Kind}
use Rattle.mc_base.specs.declared.kind.Kind.TheVariants.{BadField, Sgroup, EnhancedStereo}
use Rattle.ct_sd.specs.Faults.{shown_if}
use Rattle.ct_v3000.specs.Words.{word, word_is}

-- a line `DEFAULT` is passed; in another line the second word is the type, and SUP and DAT are passed
unfoldable pub sgroup_line_shows : List (List ℕ) → List Kind
sgroup_line_shows words =
    if word_is 0 (codes "DEFAULT") words then []
    else if nat_lt (length words) 2 then BadField ∷ []
    else shown_if (not (word_is 1 (codes "SUP") words || word_is 1 (codes "DAT") words)) Sgroup

-- racemic and relative collections
unfoldable pub collection_line_shows : List (List ℕ) → List Kind
collection_line_shows words =
    shown_if (starts_with nat_eq (word 0 words) (codes "MDLV30/STERAC") || starts_with nat_eq (word 0 words) (codes "MDLV30/STEREL")) EnhancedStereo
