-- The first fault of the tokens of a text.
use Rattle.std.proofs.Common.{arith, ◌≡◌, ◌∙◌, ℕ, ◌+◌, ◌≤◌, ◌<◌, List, length, reverse, Bool, true, false, Some, None, refl, sym, inl, inr}
use Rattle.std.proofs.lemmas.Bool.{cases_lt, false≢true}
use Rattle.std.proofs.lemmas.Option.{slice_get_past}
use Rattle.mc_base.specs.declared.kind.Kind.{Kind}
use Rattle.mc_base.specs.declared.kind.Kind.TheVariants.{BadOrder, ParenOpen, RingOpen, RingClash, RingPair}
use Rattle.mc_base.specs.Kinds.{number}
use Rattle.smi_graph.specs.declared.ring_table.RingEnd.{RingEnd}
use Rattle.smi_graph.specs.declared.role.Role.{Role}
use Rattle.smi_graph.specs.Order.{misplaced_at, unclosed_at}
use Rattle.smi_graph.specs.Bonds.{open_end}
use Rattle.smi_graph.specs.RingRules.{clash_at, pair_again_at}
use Rattle.smi_graph.specs.Firsts.{IsFirstOf}
use Rattle.smi_graph.specs.RingTables.{IsFirstOpen}
use Rattle.smi_graph.specs.Rules.{WrongAt}
use Rattle.smi_graph.specs.Faults.{IsFirstFault}

pub not_both : (b : Bool) → b ≡ true → b ≡ false → ⊥
not_both b holds fails = false≢true (sym fails ∙ holds)

-- beside a token, no test of a token passes
pub unclosed_past : (ks : List Role) (i : ℕ) → length ks ≤ i → unclosed_at ks i ≡ false
unclosed_past ks i le = rw (slice_get_past ks i le) refl

pub clash_past : (ks : List Role) (i : ℕ) → length ks ≤ i → clash_at ks i ≡ false
clash_past ks i le = rw (slice_get_past ks i le) refl

pub pair_past : (ks : List Role) (i : ℕ) → length ks ≤ i → pair_again_at ks i ≡ false
pair_past ks i le = rw (slice_get_past ks i le) refl

no_open : (n : ℕ) (before : List Role) (end : RingEnd) → open_end n before ≡ None → open_end n before ≡ Some end → ⊥
no_open n before end none some = cc

-- a test that fails at each place passes at none
nowhere : (p : ℕ → Bool) (n i : ℕ) → ((i : ℕ) → n ≤ i → p i ≡ false) → IsFirstOf p n None → p i ≡ true → ⊥
nowhere p n i past none holds = elim (cases_lt i n) [
  | inl less ↦ not_both (p i) holds (none i less)
  | inr more ↦ not_both (p i) holds (past i (omega arith))
]

pub earliest : (p : ℕ → Bool) (n i j : ℕ) → IsFirstOf p n (Some i) → p j ≡ true → i ≤ j
earliest p n i j first holds = elim (cases_lt j i) [
  | inl less ↦ absurd (not_both (p j) holds (first.2 j less))
  | inr more ↦ omega arith
]

no_order : (ks : List Role) (i : ℕ) → IsFirstOf (misplaced_at ks) (length ks + 1) None → WrongAt ks BadOrder i → ⊥
no_order ks i none w = not_both (misplaced_at ks i) w.1 (none i (let l = w.0 in omega arith))

no_paren : (ks : List Role) (i : ℕ) → IsFirstOf (unclosed_at ks) (length ks) None → WrongAt ks ParenOpen i → ⊥
no_paren ks i none w = nowhere (unclosed_at ks) (length ks) i (unclosed_past ks) none w

no_ring : (ks : List Role) (i : ℕ) → IsFirstOpen (reverse ks) None → WrongAt ks RingOpen i → ⊥
no_ring ks i none (n, end, is, at) = no_open n (reverse ks) end (none n) is

no_clash : (ks : List Role) (i : ℕ) → IsFirstOf (clash_at ks) (length ks) None → WrongAt ks RingClash i → ⊥
no_clash ks i none w = nowhere (clash_at ks) (length ks) i (clash_past ks) none w

no_pair : (ks : List Role) (i : ℕ) → IsFirstOf (pair_again_at ks) (length ks) None → WrongAt ks RingPair i → ⊥
no_pair ks i none w = nowhere (pair_again_at ks) (length ks) i (pair_past ks) none w

before_order : (ks : List Role) → (kind : Kind) (place : ℕ) → number kind < 20 → WrongAt ks kind place → ⊥
before_order ks BadOrder place less w = omega arith
before_order ks ParenOpen place less w = omega arith
before_order ks RingOpen place less w = omega arith
before_order ks RingClash place less w = omega arith
before_order ks RingPair place less w = omega arith
before_order ks _ place less w = w

pub shows_order : (ks : List Role) (i : ℕ) → IsFirstOf (misplaced_at ks) (length ks + 1) (Some i) → IsFirstFault (WrongAt ks) (Some (record { kind = BadOrder; place = i }))
shows_order ks i h = record {
  stands = (let l = h.0 in omega arith, h.1);
  least = λ place w. earliest (misplaced_at ks) (length ks + 1) i place h w.1;
  first = before_order ks;
  reason = (refl, refl);
}

before_paren : (ks : List Role) → IsFirstOf (misplaced_at ks) (length ks + 1) None → (kind : Kind) (place : ℕ) → number kind < 21 → WrongAt ks kind place → ⊥
before_paren ks a BadOrder place less w = no_order ks place a w
before_paren ks a ParenOpen place less w = omega arith
before_paren ks a RingOpen place less w = omega arith
before_paren ks a RingClash place less w = omega arith
before_paren ks a RingPair place less w = omega arith
before_paren ks a _ place less w = w

pub shows_paren : (ks : List Role) (i : ℕ) → IsFirstOf (misplaced_at ks) (length ks + 1) None → IsFirstOf (unclosed_at ks) (length ks) (Some i) → IsFirstFault (WrongAt ks) (Some (record { kind = ParenOpen; place = i }))
shows_paren ks i a h = record {
  stands = h.1;
  least = λ place w. earliest (unclosed_at ks) (length ks) i place h w;
  first = before_paren ks a;
  reason = (refl, refl);
}

before_ring : (ks : List Role) → IsFirstOf (misplaced_at ks) (length ks + 1) None → IsFirstOf (unclosed_at ks) (length ks) None → (kind : Kind) (place : ℕ) → number kind < 22 → WrongAt ks kind place → ⊥
before_ring ks a b BadOrder place less w = no_order ks place a w
before_ring ks a b ParenOpen place less w = no_paren ks place b w
before_ring ks a b RingOpen place less w = omega arith
before_ring ks a b RingClash place less w = omega arith
before_ring ks a b RingPair place less w = omega arith
before_ring ks a b _ place less w = w

pub shows_ring : (ks : List Role) (i : ℕ) → IsFirstOf (misplaced_at ks) (length ks + 1) None → IsFirstOf (unclosed_at ks) (length ks) None → IsFirstOpen (reverse ks) (Some i) → IsFirstFault (WrongAt ks) (Some (record { kind = RingOpen; place = i }))
shows_ring ks i a b h = record {
  stands = h.0;
  least = λ place (n, end, is, at). let le = h.1 n end is in omega arith;
  first = before_ring ks a b;
  reason = (refl, refl);
}

before_clash : (ks : List Role) → IsFirstOf (misplaced_at ks) (length ks + 1) None → IsFirstOf (unclosed_at ks) (length ks) None → IsFirstOpen (reverse ks) None → (kind : Kind) (place : ℕ) → number kind < 23 → WrongAt ks kind place → ⊥
before_clash ks a b c BadOrder place less w = no_order ks place a w
before_clash ks a b c ParenOpen place less w = no_paren ks place b w
before_clash ks a b c RingOpen place less w = no_ring ks place c w
before_clash ks a b c RingClash place less w = omega arith
before_clash ks a b c RingPair place less w = omega arith
before_clash ks a b c _ place less w = w

pub shows_clash : (ks : List Role) (i : ℕ) → IsFirstOf (misplaced_at ks) (length ks + 1) None → IsFirstOf (unclosed_at ks) (length ks) None → IsFirstOpen (reverse ks) None → IsFirstOf (clash_at ks) (length ks) (Some i) → IsFirstFault (WrongAt ks) (Some (record { kind = RingClash; place = i }))
shows_clash ks i a b c h = record {
  stands = h.1;
  least = λ place w. earliest (clash_at ks) (length ks) i place h w;
  first = before_clash ks a b c;
  reason = (refl, refl);
}

before_pair : (ks : List Role) → IsFirstOf (misplaced_at ks) (length ks + 1) None → IsFirstOf (unclosed_at ks) (length ks) None → IsFirstOpen (reverse ks) None → IsFirstOf (clash_at ks) (length ks) None → (kind : Kind) (place : ℕ) → number kind < 24 → WrongAt ks kind place → ⊥
before_pair ks a b c d BadOrder place less w = no_order ks place a w
before_pair ks a b c d ParenOpen place less w = no_paren ks place b w
before_pair ks a b c d RingOpen place less w = no_ring ks place c w
before_pair ks a b c d RingClash place less w = no_clash ks place d w
before_pair ks a b c d RingPair place less w = omega arith
before_pair ks a b c d _ place less w = w

pub shows_pair : (ks : List Role) (i : ℕ) → IsFirstOf (misplaced_at ks) (length ks + 1) None → IsFirstOf (unclosed_at ks) (length ks) None → IsFirstOpen (reverse ks) None → IsFirstOf (clash_at ks) (length ks) None → IsFirstOf (pair_again_at ks) (length ks) (Some i) → IsFirstFault (WrongAt ks) (Some (record { kind = RingPair; place = i }))
shows_pair ks i a b c d h = record {
  stands = h.1;
  least = λ place w. earliest (pair_again_at ks) (length ks) i place h w;
  first = before_pair ks a b c d;
  reason = (refl, refl);
}

pub shows_none : (ks : List Role) → IsFirstOf (misplaced_at ks) (length ks + 1) None → IsFirstOf (unclosed_at ks) (length ks) None → IsFirstOpen (reverse ks) None → IsFirstOf (clash_at ks) (length ks) None → IsFirstOf (pair_again_at ks) (length ks) None → IsFirstFault (WrongAt ks) None
shows_none ks a b c d e BadOrder place w = no_order ks place a w
shows_none ks a b c d e ParenOpen place w = no_paren ks place b w
shows_none ks a b c d e RingOpen place w = no_ring ks place c w
shows_none ks a b c d e RingClash place w = no_clash ks place d w
shows_none ks a b c d e RingPair place w = no_pair ks place e w
shows_none ks a b c d e _ place w = w
