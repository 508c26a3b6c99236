-- A line by its number.
use Rattle.std.proofs.Common.{◌≡◌, ℕ, zero, suc, ◌<◌, ◌≤◌, ◌∙◌, List, [], ◌∷◌, length, drop, map, get_or, refl, ap, arith, subst, sym}
use Rattle.std.proofs.lemmas.List.{drop-map, drop_all, length-drop}
use Rattle.std.proofs.lemmas.List.Elements.{All-drop}
use Rattle.mc_base.specs.declared.span.Span.{Span}
use Rattle.ct_sd.specs.declared.head.Version.TheVariants.{V2000}
use Rattle.ct_sd.specs.Columns.{trim, columns}
use Rattle.ct_sd.specs.Heads.{version_of, version_named}
use Rattle.ct_sd.specs.Ranges.{AreWithin, part}

part_of : (bytes : List ℕ) (spans : List Span) (k : ℕ) (d : Span) → k < length spans → get_or (map (part bytes) spans) k [] ≡ part bytes (get_or spans k d)
part_of bytes [] k d less = absurd (omega arith)
part_of bytes (s ∷ spans) zero d less = refl
part_of bytes (s ∷ spans) (suc k) d less = part_of bytes spans k d (omega arith)

count : (f : Span → List ℕ) (spans : List Span) → length (map f spans) ≡ length spans
count f [] = refl
count f (s ∷ spans) = ap suc (count f spans)

pub below : (bytes : List ℕ) (spans : List Span) (k : ℕ) (lines : List (List ℕ)) → lines ≡ map (part bytes) spans → k < length lines → k < length spans
below bytes spans k lines is less = subst (λ (n : ℕ). k < n) (ap length is ∙ count (part bytes) spans) less

pub line_is : (bytes : List ℕ) (spans : List Span) (k : ℕ) (lines : List (List ℕ)) (d : Span) → lines ≡ map (part bytes) spans → k < length lines → get_or lines k [] ≡ part bytes (get_or spans k d)
line_is bytes spans k lines d is less = ap (λ (t : List (List ℕ)). get_or t k []) is ∙ part_of bytes spans k d (below bytes spans k lines is less)

-- the lines from one on are parts of the bytes too
pub within_rest : (n : ℕ) (bytes : List ℕ) (ranges : List Span) → AreWithin bytes ranges → AreWithin bytes (drop n ranges)
within_rest n bytes ranges are = record {
  few = let h = are.few in let e = length-drop n ranges in omega arith;
  each = All-drop (λ (r : Span). (r.from ≤ r.to) × (r.to ≤ length bytes)) n ranges are.each;
}

pub rest_of_lines : (n : ℕ) (bytes : List ℕ) (ranges : List Span) → map (part bytes) (drop n ranges) ≡ drop n (map (part bytes) ranges)
rest_of_lines n bytes ranges = sym (drop-map (part bytes) n ranges)

pub none_left : (n : ℕ) (ranges : List Span) → length ranges < n → drop n ranges ≡ []
none_left n ranges few = drop_all n ranges (let h : length ranges < n = few in omega arith)

-- a record of fewer than four lines has no version
missing : (k : ℕ) (lines : List (List ℕ)) → length lines ≤ k → get_or lines k [] ≡ []
missing k [] few = refl
missing zero (line ∷ lines) few = absurd (omega arith)
missing (suc k) (line ∷ lines) few = missing k lines (omega arith)

pub no_version : (lines : List (List ℕ)) → length lines < 4 → version_of lines ≡ V2000
unfolding version_of
no_version lines few = ap (λ (t : List ℕ). version_named (trim (columns 34 39 t))) (missing 3 lines (omega arith))
