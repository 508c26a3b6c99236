-- What several reads into a buffer do, within a record.
use Rattle.std.proofs.Common.{arith, ◌≡◌, ◌∙◌, ℕ, ◌^◌, ◌<◌, ◌≤◌, false, List, [], ◌++◌, refl, ap, sym, subst, inl, inr}
use Rattle.std.proofs.lemmas.List.{append-nil}
use Rattle.mc_io.specs.declared.read_stop.ReadStop.{ReadStop}
use Rattle.mc_io.specs.declared.read_stop.ReadStop.TheVariants.{ReadFault, InputLimit, NoMemory}
use Rattle.mc_io.specs.Buffered.{Buffered, Reads}
use Rattle.mc_io.specs.Causes.{Rose}
use Rattle.mc_io.specs.Outside.{GaveNone, Input, Takes}
use Rattle.mc_io.proofs.Fillings.{fills_alike, fills_none, fills_trans, missed_fills, read_fills, was_going}
use Rattle.ct_sd.specs.FoundRecords.{Goes, Stops}
use Rattle.ct_sd.specs.Records.{ended_records}

unfoldable pub goes_none : (limit : ℕ) (old : Buffered) (input : Input) → old.taken < 2 ^ 64 → Goes limit old old input input
goes_none limit old input small = record {
  bytes = [];
  fills = fills_none old input;
  small = small;
  within = λ low. low;
  unread = inl (refl, refl);
}

-- what is held makes no difference
unfoldable pub goes_alike : (limit : ℕ) (old now new : Buffered) (before after : Input) → Goes limit old now before after → new.input ≡ now.input → new.taken ≡ now.taken → new.ended ≡ now.ended → Goes limit old new before after
goes_alike limit old now new before after g input taken ended = record {
  bytes = g.bytes;
  fills = fills_alike old now new before after g.bytes g.fills input taken ended;
  small = let small = g.small in omega arith;
  within = λ low. let w = g.within low in omega arith;
  unread = g.unread;
}

-- one more read, where no record has ended so far
unfoldable pub goes_on : (limit : ℕ) (old now new : Buffered) (before mid after : Input) → (g : Goes limit old now before mid) → now.ended ≡ false → ended_records (old.held ++ g.bytes) ≡ [] → Reads now new mid after
    → (now.taken ≤ limit → new.taken ≤ limit) → new.taken < 2 ^ 64 → Goes limit old new before after
goes_on limit old now new before mid after g going none reads within small = record {
  bytes = g.bytes ++ reads.bytes;
  fills = fills_trans old now new before mid after g.bytes reads.bytes g.fills (read_fills now new mid after going reads);
  small = small;
  within = λ low. within (g.within low);
  unread = inr (elim g.unread [
    | inl first ↦ ap ended_records (sym (append-nil old.held) ∙ ap (λ (t : List ℕ). old.held ++ t) (sym first.1)) ∙ none
    | inr none_then ↦ none_then
  ]);
}

-- and a stop
pub goes_stop : (limit : ℕ) (stop : ReadStop) (old now new : Buffered) (before : Input) (y z : ℕ → Input) (g : Goes limit old now before (y old.input)) → now.input ≡ old.input → now.ended ≡ false → ended_records (old.held ++ g.bytes) ≡ []
    → (stop ≡ ReadFault → (new ≡ record now { room = new.room }) × GaveNone (y now.input) (z now.input))
    → (stop ≡ NoMemory → (new ≡ record now { room = new.room }) × (z ≡ y))
    → (stop ≡ InputLimit → Reads now new (y now.input) (z now.input) × (limit < new.taken) × (new.ended ≡ false))
    → Stops limit stop old new before (z old.input)
goes_stop limit ReadFault old now new before y z g same going none fault memory past =
    let f = fault refl in
    let gave : GaveNone (y old.input) (z old.input) = subst (λ (i : ℕ). GaveNone (y i) (z i)) same f.1 in (
      record {
        front = g.bytes;
        fills = fills_trans old now new before (y old.input) (z old.input) g.bytes [] g.fills (missed_fills now new (y old.input) (z old.input) going f.0 gave.takes);
        few = omega arith;
        going = was_going old now before (y old.input) g.bytes g.fills going;
        none = none;
        small = let taken = g.fills.taken in let small = g.small in omega arith;
        within = λ low. let taken = g.fills.taken in let w = g.within low in omega arith;
      },
      rose (y old.input) (z old.input) g.fills.takes gave,
      gave.not_ended,
    )
  where
    rose : (b c : Input) → Takes before b g.bytes → GaveNone b c → Rose before.faults c.faults
    rose b c p q = let first = p.later in let second = q.rose in omega arith
goes_stop limit InputLimit old now new before y z g same going none fault memory past =
    let f = past refl in
    let reads : Reads now new (y old.input) (z old.input) = subst (λ (i : ℕ). Reads now new (y i) (z i)) same f.0 in (
      reads.bytes,
      record {
        front = g.bytes;
        fills = fills_trans old now new before (y old.input) (z old.input) g.bytes reads.bytes g.fills (read_fills now new (y old.input) (z old.input) going reads);
        few = reads.few;
        going = was_going old now before (y old.input) g.bytes g.fills going;
        none = none;
        small = let taken = g.fills.taken in let small = g.small in omega arith;
        within = λ low. let taken = g.fills.taken in let w = g.within low in omega arith;
      },
      f.1,
      (reads.going f.2).1,
    )
goes_stop limit NoMemory old now new before y z g same going none fault memory past =
    let f = memory refl in
    subst (λ (i : Input). Goes limit old new before i) (sym (ap (λ (k : ℕ → Input). k old.input) f.1))
    (goes_alike limit old now new before (y old.input) g (ap (λ (b : Buffered). b.input) f.0) (ap (λ (b : Buffered). b.taken) f.0) (ap (λ (b : Buffered). b.ended) f.0))
