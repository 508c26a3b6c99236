use Rattle.std.proofs.Common.{◌≡◌, ℕ, true}
use Rattle.mc_mol.proofs.Connected.{connected_self, connected_back, connected_on, joined_connected, kept_along}
use Rattle.mc_mol.proofs.independent.connected_law.Goals as goal

pub returns-clause-own : goal.returns-clause-own
returns-clause-own c = connected_self

pub returns-clause-joined : goal.returns-clause-joined
returns-clause-joined c = joined_connected

pub returns-clause-back : goal.returns-clause-back
returns-clause-back c = connected_back

pub returns-clause-onward : goal.returns-clause-onward
returns-clause-onward c = connected_on

pub returns-clause-least : goal.returns-clause-least
returns-clause-least c = λ kept bonds keeps u v leads at_u. kept_along (λ (x : ℕ). kept x ≡ true) bonds keeps u v leads at_u
