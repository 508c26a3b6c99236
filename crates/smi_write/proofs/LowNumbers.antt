-- The ring numbers among the written tokens are those that are opened at some atom.
use Rattle.std.specs.Prelude.{false}
use Rattle.std.specs.Prelude.{Option}
use Rattle.smi_lex.specs.declared.token.BondMark.{BondMark}
use Rattle.std.proofs.Common.{arith, ◌≡◌, ◌<◌, ℕ, zero, suc, List, [], ◌∷◌, subst}
use Rattle.smi_lex.specs.declared.token.TokenKind.{TokenKind}
use Rattle.smi_lex.specs.declared.token.TokenKind.TheVariants.{Bare, Bracket, Bond, Ring, Enter, Leave, Dot}
use Rattle.smi_graph.specs.declared.role.Role.TheVariants as doing
use Rattle.smi_graph.specs.Roles.{role_of}
use Rattle.smi_mean.specs.Order.{Graph, order, atoms, parents, has_ring}
use Rattle.smi_mean.specs.Written.{graph_tokens}
use Rattle.smi_write.proofs.EachToken.{AllOpened, Each, HoldsBetween, any_symbols, each_written}
use Rattle.smi_write.proofs.TokensWritten.{RingsFit}

-- tokens whose ring numbers have one or two digits
abbrev IsLow : TokenKind → Type 0
IsLow (Ring number) = number < 100
IsLow (Bare element lower) = Unit {0}
IsLow (Bracket element lower isotope chiral hydrogens charge class) = Unit {0}
IsLow (Bond mark) = Unit {0}
IsLow Enter = Unit {0}
IsLow Leave = Unit {0}
IsLow Dot = Unit {0}

fit_of : (ks : List TokenKind) → Each IsLow ks → RingsFit ks
fit_of [] low n (i, inside, is) = absurd (omega arith)
fit_of (k ∷ ks) low n (zero, inside, is) = subst IsLow is low.0
fit_of (k ∷ ks) low n (suc i, inside, is) = fit_of ks low.1 n (i, omega arith, is)

low_between : HoldsBetween IsLow (λ m. Unit {0}) (λ n. n < 100)
low_between = record { mark = λ mark is. tt; ring = λ number is. is; enter = tt; leave = tt; dot = tt }

low_atom : (k : TokenKind) → role_of k ≡ doing.Atom false → IsLow k
low_atom (Ring number) is = cc
low_atom (Bare element lower) is = tt
low_atom (Bracket element lower isotope chiral hydrogens charge class) is = tt
low_atom (Bond mark) is = tt
low_atom Enter is = tt
low_atom Leave is = tt
low_atom Dot is = tt

-- where no opened number has more than two digits, no written one has
pub rings_fit : (g : Graph) (symbols : ℕ → ℕ → Option BondMark) (token : ℕ → TokenKind) → ((u : ℕ) → role_of (token u) ≡ doing.Atom false)
    → AllOpened (λ n. n < 100) symbols (λ j l. has_ring g j l) g.count → RingsFit (graph_tokens g symbols token)
rings_fit g symbols token atom opened =
    fit_of (graph_tokens g symbols token)
    (each_written IsLow (λ m. Unit {0}) (λ n. n < 100) symbols (λ j l. has_ring g j l) g.count 0 token (atoms (order g)) (parents (order g))
    low_between (any_symbols symbols) opened (λ u. low_atom (token u) (atom u)))
