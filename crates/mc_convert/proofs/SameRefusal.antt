-- The refusals that a record shows: of kind and place there is one.
use Rattle.std.proofs.Common.{arith, refl, ◌≡◌, ℕ, ◌<◌, ◌≤◌, Bool, false, ◌∙◌, sym, subst, inl, inr}
use Rattle.std.specs.Prelude.{◌↔◌, IsTrue, Option, true}
use Rattle.std.proofs.lemmas.Bool.{cases_lt, false≢true}
use Rattle.mc_base.specs.declared.kind.Kind.{Kind}
use Rattle.mc_base.specs.declared.refusal.Refusal.{Refusal}
use Rattle.mc_base.specs.Kinds.{number}
use Rattle.mc_base.specs.Shown.{HasReason}
use Rattle.mc_base.proofs.AllKinds.{same_number}
use Rattle.mc_convert.specs.declared.formats.Target.{Target}
use Rattle.mc_convert.specs.Records.{Record}
use Rattle.smi_graph.specs.Skeletons.{TextGraph}
use Rattle.mc_convert.specs.Answers.{StandsIn, IsBarrierOf, Shows}
use Rattle.mc_convert.specs.Findings.{IsTextKept, IsReadRefused, shown_finding, IsRefusalFinding}

-- a refusal whose kind and place are shown, and whose reason is right
shows_too : (to : Target) (given : Record) (shown said : Refusal) → Shows to given shown → shown.kind ≡ said.kind → shown.place ≡ said.place
    → HasReason (IsBarrierOf to given) said.kind said.barrier said.odd → Shows to given said
shows_too to given shown said shows kind place reason = record {
  stands = subst (λ (k : Kind). StandsIn to given k said.place) kind (subst (λ (p : ℕ). StandsIn to given shown.kind p) place shows.stands);
  least = λ p stands. subst (λ (l : ℕ). l ≤ p) place (shows.least p (subst (λ (k : Kind). StandsIn to given k p) (sym kind) stands));
  first = λ k p less stands. shows.first k p (subst (λ (l : Kind). number k < number l) (sym kind) less) stands;
  reason = reason;
}

pub same_shown : (to : Target) (given : Record) (shown said : Refusal) → Shows to given shown → Shows to given said → (shown.kind ≡ said.kind) × (shown.place ≡ said.place)
same_shown to given shown said f g =
    let kind : shown.kind ≡ said.kind = elim (cases_lt (number shown.kind) (number said.kind)) [
      | inl less ↦ absurd (g.first shown.kind shown.place less f.stands)
      | inr more ↦ elim (cases_lt (number said.kind) (number shown.kind)) [
        | inl less ↦ absurd (f.first said.kind said.place less g.stands)
        | inr same ↦ same_number shown.kind said.kind (omega arith)
      ]
    ] in
    let low = f.least said.place (subst (λ (k : Kind). StandsIn to given k said.place) (sym kind) g.stands) in
    let high = g.least shown.place (subst (λ (k : Kind). StandsIn to given k shown.place) kind f.stands) in let place : shown.place ≡ said.place = omega arith in (kind, place)

pub shown_exactly : (to : Target) (given : Record) (shown said : Refusal) (b : Bool) → Shows to given shown → (shown.kind ≡ said.kind) × (shown.place ≡ said.place)
    → (IsTrue b ↔ HasReason (IsBarrierOf to given) said.kind said.barrier said.odd) → IsTrue b ↔ Shows to given said
shown_exactly to given shown said b shows same reason =
    (λ on. shows_too to given shown said shows same.0 same.1 (reason.0 on), λ too. reason.1 too.reason)

pub not_shown : (to : Target) (given : Record) (shown said : Refusal) (b : Bool) → Shows to given shown → (IsTrue b ↔ ((shown.kind ≡ said.kind) × (shown.place ≡ said.place))) → b ≡ false → Shows to given said → ⊥
not_shown to given shown said b shows same off too = false≢true (sym off ∙ same.1 (same_shown to given shown said shows too))

-- the same of what is read
pub not_at_one_place : (to : Target) (given : Record) (shown said : Refusal) (skeleton : Option TextGraph) (same : Bool) → IsReadRefused given shown skeleton
    → (IsTrue same ↔ ((shown.kind ≡ said.kind) × (shown.place ≡ said.place))) → same ≡ false → IsTrue false ↔ Shows to given said
not_at_one_place to given shown said skeleton same read decides off =
    ((λ on. absurd (false≢true on)), (λ too. absurd (not_shown to given shown said same (read.shows to) decides off too)))

pub at_one_place : (to : Target) (given : Record) (shown said : Refusal) (skeleton : Option TextGraph) (right : Bool) → IsReadRefused given shown skeleton → (shown.kind ≡ said.kind) × (shown.place ≡ said.place)
    → (IsTextKept given said.kind skeleton → IsTrue right ↔ HasReason (IsBarrierOf to given) said.kind said.barrier said.odd) → IsTrue right ↔ Shows to given said
at_one_place to given shown said skeleton right read same decides =
    shown_exactly to given shown said right (read.shows to) same (decides (subst (λ (k : Kind). IsTextKept given k skeleton) same.0 read.text))

pub shown_decides : (to : Target) (given : Record) (refusal : Refusal) (shows : Bool) → (IsTrue shows ↔ Shows to given refusal) → IsRefusalFinding to given refusal (shown_finding shows)
shown_decides to given refusal true decides = decides.0 refl
shown_decides to given refusal false decides = λ shown. false≢true (decides.1 shown)
