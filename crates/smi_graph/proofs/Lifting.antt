-- From the tokens and the atoms of a text to the text: which kinds stand, and which stands first.
use Rattle.std.proofs.Common.{arith, ◌≡◌, ◌∙◌, ℕ, ◌+◌, ◌-◌, ◌<◌, List, [], length, drop, true, false, Some, None, refl, ap, sym, subst, inl, inr, length-drop}
use Rattle.std.specs.Prelude.{◌⊎◌}
use Rattle.mc_base.specs.declared.kind.Kind.{Kind}
use Rattle.mc_base.specs.declared.kind.Kind.TheVariants.{NotBuilt, BadToken, Wildcard, OtherChirality, BadOrder, ParenOpen, RingOpen, RingClash, RingPair, AromaticBond, LimitAtoms, LimitBonds, LimitRings, LimitIsotope, LimitClass, LimitCharge}
use Rattle.mc_base.specs.Kinds.{number}
use Rattle.mc_base.specs.Shown.{HasReason, IsFirst}
use Rattle.smi_lex.specs.Reading.{IsCause}
use Rattle.smi_lex.specs.Steps as lex
use Rattle.smi_lex.specs.Tokens.{unread}
use Rattle.smi_lex.proofs.Causes.{only_cause}
use Rattle.smi_graph.specs.declared.first_faults.Fault.{Fault}
use Rattle.smi_graph.specs.declared.role.Role.{Role}
use Rattle.smi_graph.specs.Rules.{roles_in, atoms_in, bonds_in, text_bonds_in, byte_place, is_built, StopsAt, WrongAt, TokenFails, AromaticAt, BeyondAt, BreaksAt}
use Rattle.smi_graph.specs.Faults.{refusal_at, IsFirstFault}
use Rattle.smi_graph.specs.Skeletons.{IsNoBarrier}
use Rattle.smi_graph.proofs.TokenFaults.{not_both}
use Rattle.smi_graph.proofs.Places.{places_rise}

-- Which rule a kind has

abbrev IsUnbuilt : List ℕ → Type 0
IsUnbuilt text = (unread text ≡ []) × (is_built text ≡ false)

early : (text : List ℕ) (kind : Kind) (place : ℕ) → number kind < 20 → BreaksAt text kind place → IsUnbuilt text ⊎ StopsAt text kind place
early text NotBuilt place less w = inl (w.1, w.2)
early text BadToken place less w = inr w
early text Wildcard place less w = inr w
early text OtherChirality place less w = inr w
early text BadOrder place less w = absurd (omega arith)
early text ParenOpen place less w = absurd (omega arith)
early text RingOpen place less w = absurd (omega arith)
early text RingClash place less w = absurd (omega arith)
early text RingPair place less w = absurd (omega arith)
early text AromaticBond place less w = absurd (omega arith)
early text LimitAtoms place less w = absurd (omega arith)
early text LimitBonds place less w = absurd (omega arith)
early text LimitRings place less w = absurd (omega arith)
early text LimitIsotope place less w = absurd (omega arith)
early text LimitClass place less w = absurd (omega arith)
early text LimitCharge place less w = absurd (omega arith)
early text _ place less w = absurd w

of_tokens : (text : List ℕ) (kind : Kind) (place : ℕ) → number kind < 25 → BreaksAt text kind place → (IsUnbuilt text ⊎ StopsAt text kind place) ⊎ TokenFails text kind place
of_tokens text NotBuilt place less w = inl (inl (w.1, w.2))
of_tokens text BadToken place less w = inl (inr w)
of_tokens text Wildcard place less w = inl (inr w)
of_tokens text OtherChirality place less w = inl (inr w)
of_tokens text BadOrder place less w = inr w
of_tokens text ParenOpen place less w = inr w
of_tokens text RingOpen place less w = inr w
of_tokens text RingClash place less w = inr w
of_tokens text RingPair place less w = inr w
of_tokens text AromaticBond place less w = absurd (omega arith)
of_tokens text LimitAtoms place less w = absurd (omega arith)
of_tokens text LimitBonds place less w = absurd (omega arith)
of_tokens text LimitRings place less w = absurd (omega arith)
of_tokens text LimitIsotope place less w = absurd (omega arith)
of_tokens text LimitClass place less w = absurd (omega arith)
of_tokens text LimitCharge place less w = absurd (omega arith)
of_tokens text _ place less w = absurd w

abbrev IsAromatic : List ℕ → Kind → ℕ → Type 0
IsAromatic text kind place = AromaticAt (atoms_in text) (text_bonds_in text) kind place

abbrev IsBeyond : List ℕ → Kind → ℕ → Type 0
IsBeyond text kind place = BeyondAt (atoms_in text) (bonds_in text) kind place

-- by the rules up to that of the tokens, by that of `:` bonds or by a limit
of_any : (text : List ℕ) (kind : Kind) (place : ℕ) → BreaksAt text kind place
    → ((IsUnbuilt text ⊎ StopsAt text kind place) ⊎ TokenFails text kind place) ⊎ (IsAromatic text kind place ⊎ IsBeyond text kind place)
of_any text NotBuilt place w = inl (inl (inl (w.1, w.2)))
of_any text BadToken place w = inl (inl (inr w))
of_any text Wildcard place w = inl (inl (inr w))
of_any text OtherChirality place w = inl (inl (inr w))
of_any text BadOrder place w = inl (inr w)
of_any text ParenOpen place w = inl (inr w)
of_any text RingOpen place w = inl (inr w)
of_any text RingClash place w = inl (inr w)
of_any text RingPair place w = inl (inr w)
of_any text AromaticBond place w = inr (inl w)
of_any text LimitAtoms place w = inr (inr w)
of_any text LimitBonds place w = inr (inr w)
of_any text LimitRings place w = inr (inr w)
of_any text LimitIsotope place w = inr (inr w)
of_any text LimitClass place w = inr (inr w)
of_any text LimitCharge place w = inr (inr w)
of_any text _ place w = absurd w

stop_breaks : (text : List ℕ) (kind : Kind) (place : ℕ) → StopsAt text kind place → BreaksAt text kind place
stop_breaks text BadToken place w = w
stop_breaks text Wildcard place w = w
stop_breaks text OtherChirality place w = w
stop_breaks text _ place w = absurd w.2

stop_early : (text : List ℕ) (kind : Kind) → IsCause kind text → number kind < 20
stop_early text BadToken w = omega arith
stop_early text Wildcard w = omega arith
stop_early text OtherChirality w = omega arith
stop_early text _ w = absurd w

stop_reason : (text : List ℕ) (kind : Kind) → IsCause kind text → HasReason IsNoBarrier kind [] 0
stop_reason text BadToken w = (refl, refl)
stop_reason text Wildcard w = (refl, refl)
stop_reason text OtherChirality w = (refl, refl)
stop_reason text _ w = absurd w

wrong_breaks : (text : List ℕ) (kind : Kind) (i : ℕ) → WrongAt (roles_in text) kind i → BreaksAt text kind (byte_place text i)
wrong_breaks text BadOrder i w = (i, w, refl)
wrong_breaks text ParenOpen i w = (i, w, refl)
wrong_breaks text RingOpen i w = (i, w, refl)
wrong_breaks text RingClash i w = (i, w, refl)
wrong_breaks text RingPair i w = (i, w, refl)
wrong_breaks text _ i w = absurd w

wrong_number : (ks : List Role) (kind : Kind) (i : ℕ) → WrongAt ks kind i → number kind < 25
wrong_number ks BadOrder i w = omega arith
wrong_number ks ParenOpen i w = omega arith
wrong_number ks RingOpen i w = omega arith
wrong_number ks RingClash i w = omega arith
wrong_number ks RingPair i w = omega arith
wrong_number ks _ i w = absurd w

wrong_reason : (ks : List Role) (kind : Kind) (i : ℕ) → WrongAt ks kind i → HasReason IsNoBarrier kind [] 0
wrong_reason ks BadOrder i w = (refl, refl)
wrong_reason ks ParenOpen i w = (refl, refl)
wrong_reason ks RingOpen i w = (refl, refl)
wrong_reason ks RingClash i w = (refl, refl)
wrong_reason ks RingPair i w = (refl, refl)
wrong_reason ks _ i w = absurd w

aromatic_breaks : (text : List ℕ) (kind : Kind) (place : ℕ) → IsAromatic text kind place → BreaksAt text kind place
aromatic_breaks text AromaticBond place w = w
aromatic_breaks text _ place w = absurd w

aromatic_number : (text : List ℕ) (kind : Kind) (place : ℕ) → IsAromatic text kind place → number kind ≡ 25
aromatic_number text AromaticBond place w = refl
aromatic_number text _ place w = absurd w

beyond_number : (text : List ℕ) (kind : Kind) (place : ℕ) → IsBeyond text kind place → 25 < number kind
beyond_number text LimitAtoms place w = omega arith
beyond_number text LimitBonds place w = omega arith
beyond_number text LimitRings place w = omega arith
beyond_number text LimitIsotope place w = omega arith
beyond_number text LimitClass place w = omega arith
beyond_number text LimitCharge place w = omega arith
beyond_number text _ place w = absurd w

beyond_breaks : (text : List ℕ) (kind : Kind) (place : ℕ) → IsBeyond text kind place → BreaksAt text kind place
beyond_breaks text LimitAtoms place w = w
beyond_breaks text LimitBonds place w = w
beyond_breaks text LimitRings place w = w
beyond_breaks text LimitIsotope place w = w
beyond_breaks text LimitClass place w = w
beyond_breaks text LimitCharge place w = w
beyond_breaks text _ place w = absurd w

-- The first byte at which no token begins

empty_unread : (text : List ℕ) → 0 < length (unread text) → unread text ≡ [] → ⊥
empty_unread text some none = let e : length (unread text) ≡ 0 = ap (λ (x : List ℕ). length x) none in omega arith

one_cause : (text : List ℕ) (kind other : Kind) → IsCause kind text → IsCause other text → number other < number kind → ⊥
one_cause text kind other why why' less =
    let e : number kind ≡ number other = ap number (sym (only_cause kind text why) ∙ only_cause other text why') in omega arith

pub shows_stop : (text : List ℕ) (at : ℕ) (kind : Kind) → lex.StopsAt text at kind → unread (drop at text) ≡ unread text → IsFirst (BreaksAt text) IsNoBarrier (refusal_at kind (at + 1))
shows_stop text at kind stops same =
    let rest : unread text ≡ drop at text = sym same ∙ stops.left in
    let inside = stops.inside in
    let size : length (unread text) ≡ length text - at = ap (λ (x : List ℕ). length x) rest ∙ length-drop at text in
    let why : IsCause kind (unread text) = subst (IsCause kind) (sym rest) stops.why in
    let some : 0 < length (unread text) = omega arith in
    record {
      stands = stop_breaks text kind (at + 1) (some, omega arith, why);
      least = λ place w. elim (early text kind place (stop_early (unread text) kind why) w) [
        | inl unbuilt ↦ absurd (empty_unread text some unbuilt.0)
        | inr s ↦ let e = s.1 in omega arith
      ];
      first = λ other place less w. elim (early text other place (let n = stop_early (unread text) kind why in omega arith) w) [
        | inl unbuilt ↦ absurd (empty_unread text some unbuilt.0)
        | inr s ↦ one_cause (unread text) kind other why s.2 less
      ];
      reason = stop_reason (unread text) kind why;
    }

-- The tokens

none_early : (text : List ℕ) → unread text ≡ [] → is_built text ≡ true → (kind : Kind) (place : ℕ) → IsUnbuilt text ⊎ StopsAt text kind place → ⊥
none_early text whole built kind place (inl unbuilt) = not_both _ built unbuilt.1
none_early text whole built kind place (inr s) = empty_unread text s.0 whole

pub shows_not_built : (text : List ℕ) → unread text ≡ [] → is_built text ≡ false → IsFirst (BreaksAt text) IsNoBarrier (refusal_at NotBuilt 1)
shows_not_built text whole unbuilt = record {
  stands = (refl, whole, unbuilt);
  least = λ place w. let e = w.0 in omega arith;
  first = λ kind place less w. absurd (omega arith);
  reason = (refl, refl);
}

pub shows_wrong : (text : List ℕ) (fault : Fault) → unread text ≡ [] → is_built text ≡ true → IsFirstFault (WrongAt (roles_in text)) (Some fault)
    → IsFirst (BreaksAt text) IsNoBarrier (refusal_at fault.kind (byte_place text fault.place))
shows_wrong text fault whole built h =
    let low = wrong_number (roles_in text) fault.kind fault.place h.stands in
    record {
      stands = wrong_breaks text fault.kind fault.place h.stands;
      least = λ place w. elim (of_tokens text fault.kind place low w) [
        | inl e ↦ absurd (none_early text whole built fault.kind place e)
        | inr f ↦ let (j, wrong, at) = f in let r = places_rise text fault.place j (h.least j wrong) in omega arith
      ];
      first = λ kind place less w. elim (of_tokens text kind place (omega arith) w) [
        | inl e ↦ none_early text whole built kind place e
        | inr f ↦ let (j, wrong, at) = f in h.first kind j less wrong
      ];
      reason = wrong_reason (roles_in text) fault.kind fault.place h.stands;
    }

-- no kind stands by the rules of the tokens
no_token_fault : (text : List ℕ) → unread text ≡ [] → is_built text ≡ true → IsFirstFault (WrongAt (roles_in text)) None
    → (kind : Kind) (place : ℕ) → (IsUnbuilt text ⊎ StopsAt text kind place) ⊎ TokenFails text kind place → ⊥
no_token_fault text whole built right kind place (inl e) = none_early text whole built kind place e
no_token_fault text whole built right kind place (inr (j, wrong, at)) = right kind j wrong

-- The `:` bonds

pub shows_aromatic : (text : List ℕ) (fault : Fault) → unread text ≡ [] → is_built text ≡ true → IsFirstFault (WrongAt (roles_in text)) None
    → IsFirstFault (AromaticAt (atoms_in text) (text_bonds_in text)) (Some fault) → IsFirst (BreaksAt text) IsNoBarrier (refusal_at fault.kind fault.place)
shows_aromatic text fault whole built right h =
    let n = aromatic_number text fault.kind fault.place h.stands in
    record {
      stands = aromatic_breaks text fault.kind fault.place h.stands;
      least = λ place w. elim (of_any text fault.kind place w) [
        | inl e ↦ absurd (no_token_fault text whole built right fault.kind place e)
        | inr later ↦ elim later [
          | inl a ↦ h.least place a
          | inr b ↦ let m = beyond_number text fault.kind place b in absurd (omega arith)
        ]
      ];
      first = λ kind place less w. no_token_fault text whole built right kind place (of_tokens text kind place (omega arith) w);
      reason = h.reason;
    }

-- The limits

pub shows_beyond : (text : List ℕ) (fault : Fault) → unread text ≡ [] → is_built text ≡ true → IsFirstFault (WrongAt (roles_in text)) None
    → IsFirstFault (AromaticAt (atoms_in text) (text_bonds_in text)) None
    → IsFirstFault (BeyondAt (atoms_in text) (bonds_in text)) (Some fault) → IsFirst (BreaksAt text) IsNoBarrier (refusal_at fault.kind fault.place)
shows_beyond text fault whole built right lower h = record {
  stands = beyond_breaks text fault.kind fault.place h.stands;
  least = λ place w. elim (of_any text fault.kind place w) [
    | inl e ↦ absurd (no_token_fault text whole built right fault.kind place e)
    | inr later ↦ elim later [
      | inl a ↦ absurd (lower fault.kind place a)
      | inr b ↦ h.least place b
    ]
  ];
  first = λ kind place less w. elim (of_any text kind place w) [
    | inl e ↦ no_token_fault text whole built right kind place e
    | inr later ↦ elim later [
      | inl a ↦ lower kind place a
      | inr b ↦ h.first kind place less b
    ]
  ];
  reason = h.reason;
}

pub shows_nothing : (text : List ℕ) → unread text ≡ [] → is_built text ≡ true → IsFirstFault (WrongAt (roles_in text)) None
    → IsFirstFault (AromaticAt (atoms_in text) (text_bonds_in text)) None → IsFirstFault (BeyondAt (atoms_in text) (bonds_in text)) None
    → (kind : Kind) (place : ℕ) → BreaksAt text kind place → ⊥
shows_nothing text whole built right lower within kind place w = elim (of_any text kind place w) [
  | inl e ↦ no_token_fault text whole built right kind place e
  | inr later ↦ elim later [
    | inl a ↦ lower kind place a
    | inr b ↦ within kind place b
  ]
]
