-- What records are, and what they are written as (this project's own).
use Rattle.std.specs.Prelude.{ℕ, List, codes}
use Rattle.mc_convert.specs.declared.formats.Origin.{Origin}
use Rattle.mc_convert.specs.declared.formats.Origin.TheVariants.{Smi as FromSmi}
use Rattle.mc_convert.specs.declared.formats.Target.{Target}
use Rattle.mc_convert.specs.declared.formats.Target.TheVariants.{Smi as ToSmi}

-- the words for them
abbrev pub origin_name : Origin → List ℕ
origin_name FromSmi = codes "smi"

abbrev pub target_name : Target → List ℕ
target_name ToSmi = codes "smi"

-- what a written record is, where it is read again
abbrev pub read_back : Target → Origin
read_back ToSmi = FromSmi
