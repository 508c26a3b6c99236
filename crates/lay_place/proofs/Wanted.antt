-- What the molecule asks, as a row sees it: names, sides and ends fit together.
use Rattle.std.proofs.Common.{◌≡◌, ◌≢◌, ◌∙◌, ℕ, ◌⊎◌, Bool, true, sym, ap, subst, inl, inr, [], ◌∷◌, Option, Some, None, length}
use Rattle.std.proofs.lemmas.Option.{same_Some}
use Rattle.mc_mol.specs.declared.parts.Bond.{Bond}
use Rattle.mc_mol.specs.Molecule.{Molecule, joins, are_joined}
use Rattle.mc_rings.specs.Rings.{RingList}
use Rattle.mc_rings.specs.RingSizes.{RingSizeIs}
use Rattle.mc_mol.proofs.Apart.{joins_cases, one_bond}
use Rattle.mc_mol.proofs.Neighbours.{joined_at}
use Rattle.mc_mol.proofs.Neighbours.{joined_back}
use Rattle.lay_place.specs.declared.asking.Named.{Named}
use Rattle.ct_geometry.specs.Drawn.{IsOther}
use Rattle.lay_place.specs.Wanted.{MayBePlaced, FreeDouble, Wanted, named_at, side_from}
use Rattle.lay_place.specs.Asks.{IsAsking}
use Rattle.lay_place.proofs.Neighbours.{bond_at, joins_back, joins_apart, across, triangle}

module _ (m : Molecule) (rings : RingList) (may : MayBePlaced m rings) where
  pub turned_ends : (k u w : ℕ) → FreeDouble m rings.sizes k u w → FreeDouble m rings.sizes k w u
  turned_ends k u w d = record { bond = d.bond; is_bond = d.is_bond; joined = joins_back d.bond u w d.joined; double = d.double; free = d.free }

  pub ends_differ : (k u w : ℕ) → FreeDouble m rings.sizes k u w → u ≢ w
  ends_differ k u w d = joins_apart d.bond u w (bond_at (length m.atoms) m.bonds k d.bond may.well_formed.bonds d.is_bond).different d.joined

  pub one_pair : (k u w f p : ℕ) → FreeDouble m rings.sizes k u w → FreeDouble m rings.sizes k f p → ((u ≡ f) × (w ≡ p)) ⊎ ((u ≡ p) × (w ≡ f))
  one_pair k u w f p d e = pair (joins_cases d.bond u w d.joined) (joins_cases d.bond f p (subst (λ (b : Bond). joins b f p ≡ true) (same_Some e.bond d.bond (sym e.is_bond ∙ d.is_bond)) e.joined))
    where
      pair : ((d.bond.first.0 ≡ u) × (d.bond.second.0 ≡ w)) ⊎ ((d.bond.first.0 ≡ w) × (d.bond.second.0 ≡ u)) → ((d.bond.first.0 ≡ f) × (d.bond.second.0 ≡ p)) ⊎ ((d.bond.first.0 ≡ p) × (d.bond.second.0 ≡ f))
          → ((u ≡ f) × (w ≡ p)) ⊎ ((u ≡ p) × (w ≡ f))
      pair (inl (a, b)) (inl (c, g)) = inl (sym a ∙ c, sym b ∙ g)
      pair (inl (a, b)) (inr (c, g)) = inr (sym a ∙ c, sym b ∙ g)
      pair (inr (a, b)) (inl (c, g)) = inr (sym b ∙ g, sym a ∙ c)
      pair (inr (a, b)) (inr (c, g)) = inl (sym b ∙ g, sym a ∙ c)

  -- another neighbour of an end is no end
  pub other_apart : (k e p c : ℕ) → FreeDouble m rings.sizes k e p → IsOther m k e c → (c ≢ e) × (c ≢ p)
  other_apart k e p c d o =
      let a = across m may.well_formed k e c o in
      (a.different, λ same. a.other (one_bond m.bonds may.well_formed.once a.number k e p a.bond d.bond a.is_bond d.is_bond (subst (λ (x : ℕ). joins a.bond e x ≡ true) same a.joined) d.joined))

  -- no atom is a neighbour of both ends of a bond in no ring
  pub not_of_both : (k e p c : ℕ) → FreeDouble m rings.sizes k e p → IsOther m k e c → IsOther m k p c → ⊥
  not_of_both k e p c d o q =
      let a = across m may.well_formed k e c o in
      let b = across m may.well_formed k p c q in
      let ec = joined_at m.bonds a.number a.bond e c a.is_bond a.joined in
      let pc = joined_at m.bonds b.number b.bond p c b.is_bond b.joined in
      let ep = joined_at m.bonds k d.bond e p d.is_bond d.joined in
      let none : RingSizeIs m.bonds d.bond None = may.are_rings.sizes k None d.free d.bond d.is_bond in
      by none ec pc ep a.different b.different (joins_cases d.bond e p d.joined)
    where
      by : RingSizeIs m.bonds d.bond None → are_joined m.bonds e c ≡ true → are_joined m.bonds p c ≡ true → are_joined m.bonds e p ≡ true → c ≢ e → c ≢ p
          → ((d.bond.first.0 ≡ e) × (d.bond.second.0 ≡ p)) ⊎ ((d.bond.first.0 ≡ p) × (d.bond.second.0 ≡ e)) → ⊥
      by none ec pc ep ce cp (inl (f, s)) = none (d.bond.first.0 ∷ d.bond.second.0 ∷ c ∷ []) (triangle m.bonds d.bond c
          (bond_at (length m.atoms) m.bonds k d.bond may.well_formed.bonds d.is_bond).different (λ x. ce (sym (sym f ∙ x))) (λ x. cp (sym (sym s ∙ x)))
          (rw (f, s) ep) (rw s pc) (rw f (joined_back m.bonds e c ec)))
      by none ec pc ep ce cp (inr (f, s)) = none (d.bond.first.0 ∷ d.bond.second.0 ∷ c ∷ []) (triangle m.bonds d.bond c
          (bond_at (length m.atoms) m.bonds k d.bond may.well_formed.bonds d.is_bond).different (λ x. cp (sym (sym f ∙ x))) (λ x. ce (sym (sym s ∙ x)))
          (rw (f, s) (joined_back m.bonds e p ep)) (rw s ec) (rw f (joined_back m.bonds p c pc)))

  pub no_end : (k u w c : ℕ) (s : Bool) → FreeDouble m rings.sizes k u w → Wanted m rings.sizes k c s → (c ≢ u) × (c ≢ w)
  no_end k u w c s d x = by (one_pair k u w x.e x.p d x.ends) (other_apart k x.e x.p c x.ends x.other)
    where
      by : ((u ≡ x.e) × (w ≡ x.p)) ⊎ ((u ≡ x.p) × (w ≡ x.e)) → (c ≢ x.e) × (c ≢ x.p) → (c ≢ u) × (c ≢ w)
      by (inl (a, b)) (p, q) = ((λ e. p (e ∙ a)), (λ e. q (e ∙ b)))
      by (inr (a, b)) (p, q) = ((λ e. q (e ∙ a)), (λ e. p (e ∙ b)))

  named_alike : (x y : Option Named) (n r : Named) (c : ℕ) → x ≡ y → x ≡ Some n → y ≡ Some r → side_from n c ≡ side_from r c
  named_alike x y n r c e f g = ap (λ (p : Named). side_from p c) (same_Some n r (sym f ∙ e ∙ g))

  pub one_side : (k c : ℕ) (s t : Bool) → Wanted m rings.sizes k c s → Wanted m rings.sizes k c t → s ≡ t
  one_side k c s t x y = by (one_pair k x.e x.p y.e y.p x.ends y.ends)
    where
      by : ((x.e ≡ y.e) × (x.p ≡ y.p)) ⊎ ((x.e ≡ y.p) × (x.p ≡ y.e)) → s ≡ t
      by (inl (a, b)) = x.is ∙ named_alike (named_at m k x.e) (named_at m k y.e) x.name y.name c (ap (named_at m k) a) x.named y.named ∙ sym y.is
      by (inr (a, b)) = absurd (not_of_both k x.e x.p c x.ends x.other (subst (λ (z : ℕ). IsOther m k z c) (sym b) y.other))

  pub is_asking : IsAsking (FreeDouble m rings.sizes) (Wanted m rings.sizes)
  is_asking = record { ends_differ = ends_differ; one_pair = one_pair; no_end = no_end; one_side = one_side }
