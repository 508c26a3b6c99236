-- The tokens before a place, and one more.
use Rattle.std.proofs.Common.{◌≡◌, ℕ, ◌+◌, ◌<◌, List, [], ◌∷◌, length, get_or, take, reverse, arith, Some, None, refl, ap, ◌∙◌}
use Rattle.std.specs.Prelude.{slice_get}
use Rattle.std.proofs.lemmas.List.{take_more, reverse-append, take_all}
use Rattle.std.proofs.lemmas.Option.{slice_get-get_or}
use Rattle.smi_graph.specs.declared.role.Role.{Role}
use Rattle.smi_graph.specs.Order.{tokens_before, misplaced_at, is_misplaced}

pub tokens_before_more : (ks : List Role) (i : ℕ) (d : Role) → i < length ks → tokens_before ks (i + 1) ≡ get_or ks i d ∷ tokens_before ks i
tokens_before_more ks i d within = ap reverse (take_more ks i d within) ∙ reverse-append (take i ks) (get_or ks i d ∷ [])

-- a token at its place
pub misplaced_here : (ks : List Role) (i : ℕ) (d : Role) → i < length ks → misplaced_at ks i ≡ is_misplaced (tokens_before ks i) (Some (get_or ks i d))
misplaced_here ks i d within = ap (is_misplaced (tokens_before ks i)) (slice_get-get_or ks i d within)

pub slice_get_end : (ks : List Role) → slice_get ks (length ks) ≡ None
slice_get_end [] = refl
slice_get_end (k ∷ ks) = slice_get_end ks

-- the end at its place
pub misplaced_end : (ks : List Role) → misplaced_at ks (length ks) ≡ is_misplaced (tokens_before ks (length ks)) None
misplaced_end ks = ap (is_misplaced (tokens_before ks (length ks))) (slice_get_end ks)

pub all_before : (ks : List Role) → tokens_before ks (length ks) ≡ reverse ks
all_before ks = ap reverse (take_all (length ks) ks (omega arith))
