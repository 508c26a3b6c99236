-- The elements: their symbols, and their numbers from 1 to 118.
use Rattle.std.specs.Prelude.{ℕ, nat_eq, Bool, false, ◌&&◌, List, [], ◌∷◌, Option, codes, find}
use Rattle.std.specs.Char.{is_ascii_lowercase, is_ascii_uppercase}
use Rattle.std.specs.Cmp.Lexicographic.{pointwise}
use Rattle.mc_elements.specs.declared.element.Element.{Element}
use Rattle.mc_elements.specs.declared.element.Element.TheVariants.{H, He, Li, Be, B, C, N, O, F, Ne, Na, Mg, Al, Si, P, S, Cl, Ar, K, Ca, Sc, Ti, V, Cr, Mn, Fe, Co, Ni, Cu, Zn, Ga, Ge, As, Se, Br, Kr, Rb, Sr, Y, Zr, Nb, Mo, Tc, Ru, Rh, Pd, Ag, Cd, In, Sn, Sb, Te, I, Xe, Cs, Ba, La, Ce, Pr, Nd, Pm, Sm, Eu, Gd, Tb, Dy, Ho, Er, Tm, Yb, Lu, Hf, Ta, W, Re, Os, Ir, Pt, Au, Hg, Tl, Pb, Bi, Po, At, Rn, Fr, Ra, Ac, Th, Pa, U, Np, Pu, Am, Cm, Bk, Cf, Es, Fm, Md, No, Lr, Rf, Db, Sg, Bh, Hs, Mt, Ds, Rg, Cn, Nh, Fl, Mc, Lv, Ts, Og}

-- the symbol of an element (IUPAC, periodic table of the elements)
abbrev pub symbol : Element → List ℕ
symbol H = codes "H"
symbol He = codes "He"
symbol Li = codes "Li"
symbol Be = codes "Be"
symbol B = codes "B"
symbol C = codes "C"
symbol N = codes "N"
symbol O = codes "O"
symbol F = codes "F"
symbol Ne = codes "Ne"
symbol Na = codes "Na"
symbol Mg = codes "Mg"
symbol Al = codes "Al"
symbol Si = codes "Si"
symbol P = codes "P"
symbol S = codes "S"
symbol Cl = codes "Cl"
symbol Ar = codes "Ar"
symbol K = codes "K"
symbol Ca = codes "Ca"
symbol Sc = codes "Sc"
symbol Ti = codes "Ti"
symbol V = codes "V"
symbol Cr = codes "Cr"
symbol Mn = codes "Mn"
symbol Fe = codes "Fe"
symbol Co = codes "Co"
symbol Ni = codes "Ni"
symbol Cu = codes "Cu"
symbol Zn = codes "Zn"
symbol Ga = codes "Ga"
symbol Ge = codes "Ge"
symbol As = codes "As"
symbol Se = codes "Se"
symbol Br = codes "Br"
symbol Kr = codes "Kr"
symbol Rb = codes "Rb"
symbol Sr = codes "Sr"
symbol Y = codes "Y"
symbol Zr = codes "Zr"
symbol Nb = codes "Nb"
symbol Mo = codes "Mo"
symbol Tc = codes "Tc"
symbol Ru = codes "Ru"
symbol Rh = codes "Rh"
symbol Pd = codes "Pd"
symbol Ag = codes "Ag"
symbol Cd = codes "Cd"
symbol In = codes "In"
symbol Sn = codes "Sn"
symbol Sb = codes "Sb"
symbol Te = codes "Te"
symbol I = codes "I"
symbol Xe = codes "Xe"
symbol Cs = codes "Cs"
symbol Ba = codes "Ba"
symbol La = codes "La"
symbol Ce = codes "Ce"
symbol Pr = codes "Pr"
symbol Nd = codes "Nd"
symbol Pm = codes "Pm"
symbol Sm = codes "Sm"
symbol Eu = codes "Eu"
symbol Gd = codes "Gd"
symbol Tb = codes "Tb"
symbol Dy = codes "Dy"
symbol Ho = codes "Ho"
symbol Er = codes "Er"
symbol Tm = codes "Tm"
symbol Yb = codes "Yb"
symbol Lu = codes "Lu"
symbol Hf = codes "Hf"
symbol Ta = codes "Ta"
symbol W = codes "W"
symbol Re = codes "Re"
symbol Os = codes "Os"
symbol Ir = codes "Ir"
symbol Pt = codes "Pt"
symbol Au = codes "Au"
symbol Hg = codes "Hg"
symbol Tl = codes "Tl"
symbol Pb = codes "Pb"
symbol Bi = codes "Bi"
symbol Po = codes "Po"
symbol At = codes "At"
symbol Rn = codes "Rn"
symbol Fr = codes "Fr"
symbol Ra = codes "Ra"
symbol Ac = codes "Ac"
symbol Th = codes "Th"
symbol Pa = codes "Pa"
symbol U = codes "U"
symbol Np = codes "Np"
symbol Pu = codes "Pu"
symbol Am = codes "Am"
symbol Cm = codes "Cm"
symbol Bk = codes "Bk"
symbol Cf = codes "Cf"
symbol Es = codes "Es"
symbol Fm = codes "Fm"
symbol Md = codes "Md"
symbol No = codes "No"
symbol Lr = codes "Lr"
symbol Rf = codes "Rf"
symbol Db = codes "Db"
symbol Sg = codes "Sg"
symbol Bh = codes "Bh"
symbol Hs = codes "Hs"
symbol Mt = codes "Mt"
symbol Ds = codes "Ds"
symbol Rg = codes "Rg"
symbol Cn = codes "Cn"
symbol Nh = codes "Nh"
symbol Fl = codes "Fl"
symbol Mc = codes "Mc"
symbol Lv = codes "Lv"
symbol Ts = codes "Ts"
symbol Og = codes "Og"

-- a symbol is a letter in upper case, and maybe one more in lower case
abbrev pub is_symbol_text : List ℕ → Bool
is_symbol_text (a ∷ []) = is_ascii_uppercase a
is_symbol_text (a ∷ b ∷ []) = is_ascii_uppercase a && is_ascii_lowercase b
is_symbol_text _ = false

-- the atomic number
abbrev pub atomic_number : Element → ℕ
atomic_number H = 1
atomic_number He = 2
atomic_number Li = 3
atomic_number Be = 4
atomic_number B = 5
atomic_number C = 6
atomic_number N = 7
atomic_number O = 8
atomic_number F = 9
atomic_number Ne = 10
atomic_number Na = 11
atomic_number Mg = 12
atomic_number Al = 13
atomic_number Si = 14
atomic_number P = 15
atomic_number S = 16
atomic_number Cl = 17
atomic_number Ar = 18
atomic_number K = 19
atomic_number Ca = 20
atomic_number Sc = 21
atomic_number Ti = 22
atomic_number V = 23
atomic_number Cr = 24
atomic_number Mn = 25
atomic_number Fe = 26
atomic_number Co = 27
atomic_number Ni = 28
atomic_number Cu = 29
atomic_number Zn = 30
atomic_number Ga = 31
atomic_number Ge = 32
atomic_number As = 33
atomic_number Se = 34
atomic_number Br = 35
atomic_number Kr = 36
atomic_number Rb = 37
atomic_number Sr = 38
atomic_number Y = 39
atomic_number Zr = 40
atomic_number Nb = 41
atomic_number Mo = 42
atomic_number Tc = 43
atomic_number Ru = 44
atomic_number Rh = 45
atomic_number Pd = 46
atomic_number Ag = 47
atomic_number Cd = 48
atomic_number In = 49
atomic_number Sn = 50
atomic_number Sb = 51
atomic_number Te = 52
atomic_number I = 53
atomic_number Xe = 54
atomic_number Cs = 55
atomic_number Ba = 56
atomic_number La = 57
atomic_number Ce = 58
atomic_number Pr = 59
atomic_number Nd = 60
atomic_number Pm = 61
atomic_number Sm = 62
atomic_number Eu = 63
atomic_number Gd = 64
atomic_number Tb = 65
atomic_number Dy = 66
atomic_number Ho = 67
atomic_number Er = 68
atomic_number Tm = 69
atomic_number Yb = 70
atomic_number Lu = 71
atomic_number Hf = 72
atomic_number Ta = 73
atomic_number W = 74
atomic_number Re = 75
atomic_number Os = 76
atomic_number Ir = 77
atomic_number Pt = 78
atomic_number Au = 79
atomic_number Hg = 80
atomic_number Tl = 81
atomic_number Pb = 82
atomic_number Bi = 83
atomic_number Po = 84
atomic_number At = 85
atomic_number Rn = 86
atomic_number Fr = 87
atomic_number Ra = 88
atomic_number Ac = 89
atomic_number Th = 90
atomic_number Pa = 91
atomic_number U = 92
atomic_number Np = 93
atomic_number Pu = 94
atomic_number Am = 95
atomic_number Cm = 96
atomic_number Bk = 97
atomic_number Cf = 98
atomic_number Es = 99
atomic_number Fm = 100
atomic_number Md = 101
atomic_number No = 102
atomic_number Lr = 103
atomic_number Rf = 104
atomic_number Db = 105
atomic_number Sg = 106
atomic_number Bh = 107
atomic_number Hs = 108
atomic_number Mt = 109
atomic_number Ds = 110
atomic_number Rg = 111
atomic_number Cn = 112
atomic_number Nh = 113
atomic_number Fl = 114
atomic_number Mc = 115
atomic_number Lv = 116
atomic_number Ts = 117
atomic_number Og = 118

-- every element, in the order of its number
abbrev pub elements : List Element
elements =
    H ∷ He ∷ Li ∷ Be ∷ B ∷ C ∷ N ∷ O ∷ F ∷ Ne ∷ Na ∷ Mg ∷ Al ∷ Si ∷ P ∷ S ∷ Cl ∷ Ar ∷ K ∷ Ca ∷ Sc ∷
    Ti ∷ V ∷ Cr ∷ Mn ∷ Fe ∷ Co ∷ Ni ∷ Cu ∷ Zn ∷ Ga ∷ Ge ∷ As ∷ Se ∷ Br ∷ Kr ∷ Rb ∷ Sr ∷ Y ∷ Zr ∷
    Nb ∷ Mo ∷ Tc ∷ Ru ∷ Rh ∷ Pd ∷ Ag ∷ Cd ∷ In ∷ Sn ∷ Sb ∷ Te ∷ I ∷ Xe ∷ Cs ∷ Ba ∷ La ∷ Ce ∷ Pr ∷
    Nd ∷ Pm ∷ Sm ∷ Eu ∷ Gd ∷ Tb ∷ Dy ∷ Ho ∷ Er ∷ Tm ∷ Yb ∷ Lu ∷ Hf ∷ Ta ∷ W ∷ Re ∷ Os ∷ Ir ∷ Pt ∷
    Au ∷ Hg ∷ Tl ∷ Pb ∷ Bi ∷ Po ∷ At ∷ Rn ∷ Fr ∷ Ra ∷ Ac ∷ Th ∷ Pa ∷ U ∷ Np ∷ Pu ∷ Am ∷ Cm ∷ Bk ∷
    Cf ∷ Es ∷ Fm ∷ Md ∷ No ∷ Lr ∷ Rf ∷ Db ∷ Sg ∷ Bh ∷ Hs ∷ Mt ∷ Ds ∷ Rg ∷ Cn ∷ Nh ∷ Fl ∷ Mc ∷ Lv ∷
    Ts ∷ Og ∷ []

-- the element that has this symbol
unfoldable pub element_of : List ℕ → Option Element
element_of text = find (λ e. pointwise nat_eq (symbol e) text) elements
