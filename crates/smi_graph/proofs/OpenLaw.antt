-- Going back over closed branches finds the latest atom that is open.
use Rattle.std.proofs.Common.{arith, ◌≡◌, ◌∙◌, ℕ, zero, suc, ◌+◌, ◌≤◌, List, [], ◌∷◌, ◌++◌, true, false, refl, ap}
use Rattle.std.proofs.lemmas.Bool.{false_from_ne_true, and_parts, and_from, leb-true, le-leb}
use Rattle.smi_graph.specs.declared.role.Role.{Role}
use Rattle.smi_graph.specs.declared.role.Role.TheVariants.{Atom, Bond, Ring, Enter, Leave, Dot}
use Rattle.smi_graph.specs.Order.{latest}
use Rattle.smi_graph.specs.Bonds.{openers, closers, never_falls, latest_open, predecessor}
use Rattle.smi_graph.specs.Branches.{open_once_closed, is_dot, unless_dot}

-- how many branches are closed, going back over one more token
abbrev passed : ℕ → Role → ℕ
passed c Leave = suc c
passed zero Enter = zero
passed (suc c) Enter = c
passed c (Atom lower) = c
passed c (Bond mark) = c
passed c (Ring number) = c
passed c Dot = c

abbrev pass : ℕ → List Role → ℕ
pass c [] = c
pass c (k ∷ ks) = pass (passed c k) ks

pass_push : (c : ℕ) (ks : List Role) (k : Role) → pass c (ks ++ k ∷ []) ≡ passed (pass c ks) k
pass_push c [] k = refl
pass_push c (x ∷ ks) k = pass_push (passed c x) ks k

-- as open as if c more branches were closed behind the tokens
abbrev Opens : ℕ → List Role → Type 0
Opens c later = (never_falls later ≡ true) × (closers later + c ≤ openers later)

never_count : (later : List Role) → never_falls later ≡ true → closers later ≤ openers later
never_count [] h = omega arith
never_count (k ∷ later) h = leb-true _ _ (and_parts (never_falls later) _ h).1

opens_of_pass : (later : List Role) (c : ℕ) → pass c later ≡ 0 → Opens c later
opens_of_pass [] c h = (refl, omega arith)
opens_of_pass (Leave ∷ ks) c h = let (f, n) = opens_of_pass ks (suc c) h in (and_from (never_falls ks) _ f (le-leb _ _ (omega arith)), omega arith)
opens_of_pass (Enter ∷ ks) zero h = let (f, n) = opens_of_pass ks zero h in (and_from (never_falls ks) _ f (le-leb _ _ (omega arith)), omega arith)
opens_of_pass (Enter ∷ ks) (suc c) h = let (f, n) = opens_of_pass ks c h in (and_from (never_falls ks) _ f (le-leb _ _ (omega arith)), omega arith)
opens_of_pass (Atom lower ∷ ks) c h = let (f, n) = opens_of_pass ks c h in (and_from (never_falls ks) _ f (le-leb _ _ (omega arith)), n)
opens_of_pass (Bond mark ∷ ks) c h = let (f, n) = opens_of_pass ks c h in (and_from (never_falls ks) _ f (le-leb _ _ (omega arith)), n)
opens_of_pass (Ring number ∷ ks) c h = let (f, n) = opens_of_pass ks c h in (and_from (never_falls ks) _ f (le-leb _ _ (omega arith)), n)
opens_of_pass (Dot ∷ ks) c h = let (f, n) = opens_of_pass ks c h in (and_from (never_falls ks) _ f (le-leb _ _ (omega arith)), n)

pass_of_opens : (later : List Role) (c : ℕ) → never_falls later ≡ true → closers later + c ≤ openers later → pass c later ≡ 0
pass_of_opens [] c f n = omega arith
pass_of_opens (Leave ∷ ks) c f n = pass_of_opens ks (suc c) (and_parts (never_falls ks) _ f).0 (omega arith)
pass_of_opens (Enter ∷ ks) zero f n = let g = (and_parts (never_falls ks) _ f).0 in let m = never_count ks g in pass_of_opens ks zero g (omega arith)
pass_of_opens (Enter ∷ ks) (suc c) f n = pass_of_opens ks c (and_parts (never_falls ks) _ f).0 (omega arith)
pass_of_opens (Atom lower ∷ ks) c f n = pass_of_opens ks c (and_parts (never_falls ks) _ f).0 n
pass_of_opens (Bond mark ∷ ks) c f n = pass_of_opens ks c (and_parts (never_falls ks) _ f).0 n
pass_of_opens (Ring number ∷ ks) c f n = pass_of_opens ks c (and_parts (never_falls ks) _ f).0 n
pass_of_opens (Dot ∷ ks) c f n = pass_of_opens ks c (and_parts (never_falls ks) _ f).0 n

not_suc : (n c : ℕ) → n ≡ suc c → n ≡ 0 → ⊥
not_suc n c h k = omega arith

-- walking back with the tokens behind, and with the number of branches that these close
found : (before later : List Role) (c : ℕ) → pass 0 later ≡ c → latest_open later before ≡ open_once_closed c before
found [] later c h = refl
found (Atom lower ∷ before) later zero h = rw (opens_of_pass later 0 h).0 refl
found (Atom lower ∷ before) later (suc c) h =
    let shut : never_falls later ≡ false = false_from_ne_true (never_falls later) (λ f. let m = never_count later f in not_suc (pass 0 later) c h (pass_of_opens later 0 f (omega arith))) in
    rw shut (found before (later ++ Atom lower ∷ []) (suc c) (pass_push 0 later (Atom lower) ∙ h))
found (Leave ∷ before) later c h = found before (later ++ Leave ∷ []) (suc c) (pass_push 0 later Leave ∙ ap (λ (x : ℕ). passed x Leave) h)
found (Enter ∷ before) later zero h = found before (later ++ Enter ∷ []) zero (pass_push 0 later Enter ∙ ap (λ (x : ℕ). passed x Enter) h)
found (Enter ∷ before) later (suc c) h = found before (later ++ Enter ∷ []) c (pass_push 0 later Enter ∙ ap (λ (x : ℕ). passed x Enter) h)
found (Bond mark ∷ before) later c h = found before (later ++ Bond mark ∷ []) c (pass_push 0 later (Bond mark) ∙ h)
found (Ring number ∷ before) later c h = found before (later ++ Ring number ∷ []) c (pass_push 0 later (Ring number) ∙ h)
found (Dot ∷ before) later c h = found before (later ++ Dot ∷ []) c (pass_push 0 later Dot ∙ h)

pub latest_open_is : (before : List Role) → latest_open [] before ≡ open_once_closed 0 before
latest_open_is before = found before [] 0 refl

pub predecessor_is : (before : List Role) → predecessor before ≡ unless_dot (is_dot (latest before)) (open_once_closed 0 before)
predecessor_is [] = refl
predecessor_is (Dot ∷ before) = refl
predecessor_is (Atom lower ∷ before) = latest_open_is (Atom lower ∷ before)
predecessor_is (Bond mark ∷ before) = latest_open_is (Bond mark ∷ before)
predecessor_is (Ring number ∷ before) = latest_open_is (Ring number ∷ before)
predecessor_is (Enter ∷ before) = latest_open_is (Enter ∷ before)
predecessor_is (Leave ∷ before) = latest_open_is (Leave ∷ before)
