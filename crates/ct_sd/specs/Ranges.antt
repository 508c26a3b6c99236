-- Lines as parts of a run of bytes.
use Rattle.std.specs.Prelude.{ℕ, ◌-◌, ◌≤◌, ◌<◌, ◌^◌, List, [], ◌∷◌, length, take, drop, map, All}
use Rattle.mc_base.specs.declared.span.Span.{Span}
use Rattle.ct_sd.specs.declared.record.Cut.{Cut}
use Rattle.ct_sd.specs.declared.record.Cut.TheVariants.{Whole, Ranges}

abbrev pub part : List ℕ → Span → List ℕ
part bytes range = take (range.to - range.from) (drop range.from bytes)

-- the ranges are parts of these bytes, and fewer than a u32 can count
pub record AreWithin (bytes : List ℕ) (ranges : List Span) : Type 0 where
  pub few : length ranges < 2 ^ 32
  pub each : All (λ (r : Span). (r.from ≤ r.to) × (r.to ≤ length bytes)) ranges

-- the lines of a record: all its bytes are one, or each is a part of them
abbrev pub lines_in : List ℕ → Cut → List (List ℕ)
lines_in bytes Whole = bytes ∷ []
lines_in bytes (Ranges ranges) = map (part bytes) ranges.now

abbrev pub IsCut : List ℕ → Cut → Type 0
IsCut bytes Whole = Unit {0}
IsCut bytes (Ranges ranges) = AreWithin bytes ranges.now
