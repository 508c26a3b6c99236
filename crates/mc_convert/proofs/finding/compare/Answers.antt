use Rattle.mc_convert.proofs.CheckFound.{refused_input}
use Rattle.mc_convert.proofs.finding.compare.Goals as goal

pub returns-in-Refused : goal.returns-in-Refused
returns-in-Refused c = λ to given next is also.
    refused_input to given next c.in-Refused.field-0 c.in-Refused.field-1 c.args.map.now (rw c.in-Refused.is at is)

pub returns-in_ok-finding-in-Stands : goal.returns-in_ok-finding-in-Stands
returns-in_ok-finding-in-Stands c = λ to given next is also.
    c.in_ok-finding-in-Stands.ensures to given next c.in-Stands.name (rw c.in-Stands.is at is) also

pub returns-in_ok-finding-in-Table : goal.returns-in_ok-finding-in-Table
returns-in_ok-finding-in-Table c = λ to given next is also.
    c.in_ok-finding-in-Table.ensures to given next c.in-Table.name c.in-Table.headers (rw c.in-Table.is at is) also
