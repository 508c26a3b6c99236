-- Each symbol is one element's, and each element has its place in the list of all.
use Rattle.std.proofs.Common.{arith, ◌≡◌, ◌<◌, ℕ, Bool, true, false, List, [], ◌∷◌, Some, None, get_or, refl, sym, subst, cond, find, nat_eq}
use Rattle.std.specs.Cmp.Lexicographic.{pointwise, same_text}
use Rattle.mc_elements.specs.declared.element.Element.{Element}
use Rattle.mc_elements.specs.declared.element.Element.TheVariants.{H, He, Li, Be, B, C, N, O, F, Ne, Na, Mg, Al, Si, P, S, Cl, Ar, K, Ca, Sc, Ti, V, Cr, Mn, Fe, Co, Ni, Cu, Zn, Ga, Ge, As, Se, Br, Kr, Rb, Sr, Y, Zr, Nb, Mo, Tc, Ru, Rh, Pd, Ag, Cd, In, Sn, Sb, Te, I, Xe, Cs, Ba, La, Ce, Pr, Nd, Pm, Sm, Eu, Gd, Tb, Dy, Ho, Er, Tm, Yb, Lu, Hf, Ta, W, Re, Os, Ir, Pt, Au, Hg, Tl, Pb, Bi, Po, At, Rn, Fr, Ra, Ac, Th, Pa, U, Np, Pu, Am, Cm, Bk, Cf, Es, Fm, Md, No, Lr, Rf, Db, Sg, Bh, Hs, Mt, Ds, Rg, Cn, Nh, Fl, Mc, Lv, Ts, Og}
use Rattle.mc_elements.specs.Elements.{symbol, elements, element_of, is_symbol_text}

-- an element is found by its own symbol
pub element_of-symbol : (e : Element) → element_of (symbol e) ≡ Some e
unfolding element_of
element_of-symbol H = refl
element_of-symbol _ = refl

-- a text that no listed element has is no element's symbol
pub unlisted : (text : List ℕ) → ((j : ℕ) → j < 118 → symbol (get_or elements j H) ≡ text → ⊥)
    → (e : Element) → symbol e ≡ text → ⊥
unlisted text others H is = others 0 (omega arith) is
unlisted text others He is = others 1 (omega arith) is
unlisted text others Li is = others 2 (omega arith) is
unlisted text others Be is = others 3 (omega arith) is
unlisted text others B is = others 4 (omega arith) is
unlisted text others C is = others 5 (omega arith) is
unlisted text others N is = others 6 (omega arith) is
unlisted text others O is = others 7 (omega arith) is
unlisted text others F is = others 8 (omega arith) is
unlisted text others Ne is = others 9 (omega arith) is
unlisted text others Na is = others 10 (omega arith) is
unlisted text others Mg is = others 11 (omega arith) is
unlisted text others Al is = others 12 (omega arith) is
unlisted text others Si is = others 13 (omega arith) is
unlisted text others P is = others 14 (omega arith) is
unlisted text others S is = others 15 (omega arith) is
unlisted text others Cl is = others 16 (omega arith) is
unlisted text others Ar is = others 17 (omega arith) is
unlisted text others K is = others 18 (omega arith) is
unlisted text others Ca is = others 19 (omega arith) is
unlisted text others Sc is = others 20 (omega arith) is
unlisted text others Ti is = others 21 (omega arith) is
unlisted text others V is = others 22 (omega arith) is
unlisted text others Cr is = others 23 (omega arith) is
unlisted text others Mn is = others 24 (omega arith) is
unlisted text others Fe is = others 25 (omega arith) is
unlisted text others Co is = others 26 (omega arith) is
unlisted text others Ni is = others 27 (omega arith) is
unlisted text others Cu is = others 28 (omega arith) is
unlisted text others Zn is = others 29 (omega arith) is
unlisted text others Ga is = others 30 (omega arith) is
unlisted text others Ge is = others 31 (omega arith) is
unlisted text others As is = others 32 (omega arith) is
unlisted text others Se is = others 33 (omega arith) is
unlisted text others Br is = others 34 (omega arith) is
unlisted text others Kr is = others 35 (omega arith) is
unlisted text others Rb is = others 36 (omega arith) is
unlisted text others Sr is = others 37 (omega arith) is
unlisted text others Y is = others 38 (omega arith) is
unlisted text others Zr is = others 39 (omega arith) is
unlisted text others Nb is = others 40 (omega arith) is
unlisted text others Mo is = others 41 (omega arith) is
unlisted text others Tc is = others 42 (omega arith) is
unlisted text others Ru is = others 43 (omega arith) is
unlisted text others Rh is = others 44 (omega arith) is
unlisted text others Pd is = others 45 (omega arith) is
unlisted text others Ag is = others 46 (omega arith) is
unlisted text others Cd is = others 47 (omega arith) is
unlisted text others In is = others 48 (omega arith) is
unlisted text others Sn is = others 49 (omega arith) is
unlisted text others Sb is = others 50 (omega arith) is
unlisted text others Te is = others 51 (omega arith) is
unlisted text others I is = others 52 (omega arith) is
unlisted text others Xe is = others 53 (omega arith) is
unlisted text others Cs is = others 54 (omega arith) is
unlisted text others Ba is = others 55 (omega arith) is
unlisted text others La is = others 56 (omega arith) is
unlisted text others Ce is = others 57 (omega arith) is
unlisted text others Pr is = others 58 (omega arith) is
unlisted text others Nd is = others 59 (omega arith) is
unlisted text others Pm is = others 60 (omega arith) is
unlisted text others Sm is = others 61 (omega arith) is
unlisted text others Eu is = others 62 (omega arith) is
unlisted text others Gd is = others 63 (omega arith) is
unlisted text others Tb is = others 64 (omega arith) is
unlisted text others Dy is = others 65 (omega arith) is
unlisted text others Ho is = others 66 (omega arith) is
unlisted text others Er is = others 67 (omega arith) is
unlisted text others Tm is = others 68 (omega arith) is
unlisted text others Yb is = others 69 (omega arith) is
unlisted text others Lu is = others 70 (omega arith) is
unlisted text others Hf is = others 71 (omega arith) is
unlisted text others Ta is = others 72 (omega arith) is
unlisted text others W is = others 73 (omega arith) is
unlisted text others Re is = others 74 (omega arith) is
unlisted text others Os is = others 75 (omega arith) is
unlisted text others Ir is = others 76 (omega arith) is
unlisted text others Pt is = others 77 (omega arith) is
unlisted text others Au is = others 78 (omega arith) is
unlisted text others Hg is = others 79 (omega arith) is
unlisted text others Tl is = others 80 (omega arith) is
unlisted text others Pb is = others 81 (omega arith) is
unlisted text others Bi is = others 82 (omega arith) is
unlisted text others Po is = others 83 (omega arith) is
unlisted text others At is = others 84 (omega arith) is
unlisted text others Rn is = others 85 (omega arith) is
unlisted text others Fr is = others 86 (omega arith) is
unlisted text others Ra is = others 87 (omega arith) is
unlisted text others Ac is = others 88 (omega arith) is
unlisted text others Th is = others 89 (omega arith) is
unlisted text others Pa is = others 90 (omega arith) is
unlisted text others U is = others 91 (omega arith) is
unlisted text others Np is = others 92 (omega arith) is
unlisted text others Pu is = others 93 (omega arith) is
unlisted text others Am is = others 94 (omega arith) is
unlisted text others Cm is = others 95 (omega arith) is
unlisted text others Bk is = others 96 (omega arith) is
unlisted text others Cf is = others 97 (omega arith) is
unlisted text others Es is = others 98 (omega arith) is
unlisted text others Fm is = others 99 (omega arith) is
unlisted text others Md is = others 100 (omega arith) is
unlisted text others No is = others 101 (omega arith) is
unlisted text others Lr is = others 102 (omega arith) is
unlisted text others Rf is = others 103 (omega arith) is
unlisted text others Db is = others 104 (omega arith) is
unlisted text others Sg is = others 105 (omega arith) is
unlisted text others Bh is = others 106 (omega arith) is
unlisted text others Hs is = others 107 (omega arith) is
unlisted text others Mt is = others 108 (omega arith) is
unlisted text others Ds is = others 109 (omega arith) is
unlisted text others Rg is = others 110 (omega arith) is
unlisted text others Cn is = others 111 (omega arith) is
unlisted text others Nh is = others 112 (omega arith) is
unlisted text others Fl is = others 113 (omega arith) is
unlisted text others Mc is = others 114 (omega arith) is
unlisted text others Lv is = others 115 (omega arith) is
unlisted text others Ts is = others 116 (omega arith) is
unlisted text others Og is = others 117 (omega arith) is

-- what a search finds passes its test
find-passes : {X : Type 0} (p : X → Bool) (xs : List X) (x : X) → find p xs ≡ Some x → p x ≡ true
find-passes p [] x is = cc
find-passes p (y ∷ ys) x is =
    elim (p y) as (λ b. p y ≡ b → cond b (Some y) (find p ys) ≡ Some x → p x ≡ true) [
      | true ↦ λ here found. cc
      | false ↦ λ here found. find-passes p ys x found
    ] refl is

-- the element that is found for a text has it as its symbol
pub symbol-element_of : (text : List ℕ) (e : Element) → element_of text ≡ Some e → symbol e ≡ text
unfolding element_of
symbol-element_of text e found =
    same_text (symbol e) text (sym (find-passes (λ x. pointwise nat_eq (symbol x) text) elements e found))

-- an element is found exactly by its symbol
pub element_of_its_symbol : (text : List ℕ) (e : Element) → symbol e ≡ text → element_of text ≡ Some e
element_of_its_symbol text e is = subst (λ t. element_of t ≡ Some e) is (element_of-symbol e)

-- no element is found for a text that is no symbol
pub no_element_of : (text : List ℕ) → ((e : Element) → symbol e ≡ text → ⊥) → element_of text ≡ None
no_element_of text none =
    elim (element_of text) as (λ o. element_of text ≡ o → o ≡ None) [
      | None ↦ λ is. refl
      | Some e ↦ λ is. absurd (none e (symbol-element_of text e is))
    ] refl

-- two elements with one symbol are one
pub same_symbol : (e f : Element) → symbol e ≡ symbol f → e ≡ f
same_symbol e f is = let found = element_of_its_symbol (symbol f) e is in let other = element_of-symbol f in cc

-- each symbol is one or two letters
pub is_symbol_text-symbol : (e : Element) → is_symbol_text (symbol e) ≡ true
is_symbol_text-symbol H = refl
is_symbol_text-symbol _ = refl
