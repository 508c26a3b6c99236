-- One more key word of a line.
use Rattle.std.proofs.Common.{arith, ◌≡◌, ◌∙◌, ℕ, suc, ◌+◌, ◌<◌, List, [], ◌∷◌, ◌++◌, length, take, drop, get_or, Option, ap, sym}
use Rattle.std.proofs.Math.Seq.{drop-cons}
use Rattle.std.proofs.lemmas.List.{take_more}
use Rattle.mc_base.specs.declared.kind.Kind.{Kind}
use Rattle.ct_sd.specs.declared.fault.Fault.{Fault}
use Rattle.ct_sd.specs.Faults.{first_of, faults_at}
use Rattle.ct_sd.proofs.First.{first_of_two}
use Rattle.ct_v3000.specs.declared.key.Keys.{Keys}
use Rattle.ct_v3000.specs.Keys.{key_shows, each_key_shows}

pub each_more : (keys : Keys) (k n : ℕ) (words : List (List ℕ)) (before : List (List ℕ)) (word : List ℕ) (f0 f1 start : Option Fault) → n < length words
    → before ≡ take n words → word ≡ get_or words n []
    → f1 ≡ first_of f0 (faults_at k (key_shows keys before word))
    → first_of f0 (faults_at k (each_key_shows keys (take n words) (drop n words))) ≡ start
    → first_of f1 (faults_at k (each_key_shows keys (take (n + 1) words) (drop (n + 1) words))) ≡ start
each_more keys k n words before word f0 f1 start less b w noted was =
    ap (λ (t : List (List ℕ)). first_of f1 (faults_at k (each_key_shows keys t (drop (n + 1) words)))) (take_more words n [] less)
    ∙ (ap (λ (f : Option Fault). first_of f (faults_at k rest)) (noted ∙ (ap (λ (t : List (List ℕ)). first_of f0 (faults_at k (key_shows keys t word))) b ∙ ap (λ (t : List ℕ). first_of f0 (faults_at k (key_shows keys (take n words) t))) w))
    ∙ (sym (first_of_two k f0 (key_shows keys (take n words) (get_or words n [])) rest)
    ∙ (ap (λ (t : List (List ℕ)). first_of f0 (faults_at k (each_key_shows keys (take n words) t))) (sym (drop-cons words n [] less ∙ ap (λ (m : ℕ). get_or words n [] ∷ drop m words) (let e : suc n ≡ n + 1 = omega arith in e))) ∙ was)))
  where
    rest : List Kind
    rest = each_key_shows keys (take n words ++ get_or words n [] ∷ []) (drop (n + 1) words)
