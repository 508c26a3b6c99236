use Rattle.mc_convert.proofs.Answering.{not_shown}
use Rattle.mc_convert.proofs.CheckFound.{read_refused, read_table}
use Rattle.mc_convert.proofs.SameRefusal.{shown_decides}
use Rattle.mc_convert.proofs.finding.refusal_finding.Goals as goal

pub returns-in_ok-shows-in-Refused : goal.returns-in_ok-shows-in-Refused
returns-in_ok-shows-in-Refused c = λ to given read.
    rw c.shown_finding.ensures (shown_decides to given c.args.refusal.now c.in_ok-shows-in-Refused.shows
    (c.in_ok-shows-in-Refused.ensures to given (read_refused given c.args.original.now c.in-Refused.shown c.in-Refused.skeleton c.in-Refused.is read)))

pub returns-in-Table : goal.returns-in-Table
returns-in-Table c = λ to given read shows.
    not_shown to given c.in-Table.mol (read_table given c.args.original.now c.in-Table.mol c.in-Table.name c.in-Table.headers c.in-Table.is read).stands (c.args.refusal.now, shows)
