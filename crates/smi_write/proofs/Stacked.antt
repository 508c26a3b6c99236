-- A stack of the written atoms that may have unwritten neighbours finds the next step.
use Rattle.std.proofs.Common.{◌≡◌, ℕ, zero, suc, ◌<◌, List, [], ◌∷◌, Bool, true, false, Some, None, refl, ap, sym, ◌∙◌, subst, inl, inr, arith}
use Rattle.std.specs.Prelude.{◌&&◌, ◌||◌, not}
use Rattle.smi_mean.specs.Order.{Graph, Step, least, is_written, unwritten_neighbour, behind, next_behind}
use Rattle.smi_write.specs.Progress.{Stacked}
use Rattle.smi_write.proofs.Least.{least_all}

pub least_none : (p : ℕ → Bool) (n : ℕ) → ((v : ℕ) → v < n → p v ≡ false) → least p n ≡ None
least_none p zero h = refl
least_none p (suc n) h = rw (least_none p n (λ v less. h v (omega arith)), h n (omega arith)) refl

-- an atom without unwritten neighbours keeps none
still : (a b c : Bool) → (a && not c) ≡ false → (a && not (b || c)) ≡ false
still false b c h = refl
still true true c h = refl
still true false c h = h

pub spent_stays : (g : Graph) (written : List Step) (s : Step) (u : ℕ) → unwritten_neighbour g written u ≡ None → unwritten_neighbour g (s ∷ written) u ≡ None
spent_stays g written s u h = least_none _ g.count (λ v less.
    still (g.joined u v) _ (is_written written v) (least_all (λ v. g.joined u v && not (is_written written v)) g.count h v less))

pub next_none : (g : Graph) (written others : List Step) → Stacked g written others [] → next_behind g written others ≡ None
next_none g written [] h = refl
next_none g written (s ∷ others) (inl h) = rw h.0 (next_none g written others h.1)
next_none g written (s ∷ others) (inr (us, e, h)) = cc

pub next_top : (g : Graph) (written others : List Step) (u v : ℕ) (us : List ℕ) → Stacked g written others (u ∷ us) → unwritten_neighbour g written u ≡ Some v
    → next_behind g written others ≡ Some (behind u v)
next_top g written [] u v us h found = cc
next_top g written (s ∷ others) u v us (inl h) found = rw h.0 (next_top g written others u v us h.1 found)
next_top g written (s ∷ others) u v us (inr (vs, e, h)) found =
    let same : u ≡ s.atom = cc in
    let found' : unwritten_neighbour g written s.atom ≡ Some v = ap (unwritten_neighbour g written) (sym same) ∙ found in
    rw found' (ap (λ (x : ℕ). Some (behind x v)) (sym same))

pub popped : (g : Graph) (written others : List Step) (u : ℕ) (us : List ℕ) → Stacked g written others (u ∷ us) → unwritten_neighbour g written u ≡ None
    → Stacked g written others us
popped g written [] u us h none = cc
popped g written (s ∷ others) u us (inl h) none = inl (h.0, popped g written others u us h.1 none)
popped g written (s ∷ others) u us (inr (vs, e, h)) none =
    let top : u ≡ s.atom = cc in
    let rest : us ≡ vs = cc in
    inl (ap (unwritten_neighbour g written) (sym top) ∙ none, subst (λ (x : List ℕ). Stacked g written others x) (sym rest) h)

pub stays_stacked : (g : Graph) (written others : List Step) (s : Step) (stack : List ℕ) → Stacked g written others stack → Stacked g (s ∷ written) others stack
stays_stacked g written [] s stack h = h
stays_stacked g written (t ∷ others) s stack (inl h) = inl (spent_stays g written s t.atom h.0, stays_stacked g written others s stack h.1)
stays_stacked g written (t ∷ others) s stack (inr (us, e, h)) = inr (us, e, stays_stacked g written others s us h)

-- an atom below the top that has no unwritten neighbour may go
pub popped_below : (g : Graph) (written others : List Step) (v u : ℕ) (us : List ℕ) → Stacked g written others (v ∷ u ∷ us) → unwritten_neighbour g written u ≡ None
    → Stacked g written others (v ∷ us)
popped_below g written [] v u us h none = cc
popped_below g written (s ∷ others) v u us (inl h) none = inl (h.0, popped_below g written others v u us h.1 none)
popped_below g written (s ∷ others) v u us (inr (vs, e, h)) none =
    let top : v ≡ s.atom = cc in
    let rest : u ∷ us ≡ vs = cc in
    inr (us, ap (λ (x : ℕ). x ∷ us) top, popped g written others u us (subst (λ (x : List ℕ). Stacked g written others x) (sym rest) h) none)
