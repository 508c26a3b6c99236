use Rattle.mc_convert.proofs.CheckFound.{found_by_next}
use Rattle.mc_convert.proofs.finding.map_finding.Goals as goal

pub returns-in_ok-finding-in-Some : goal.returns-in_ok-finding-in-Some
returns-in_ok-finding-in-Some c = λ to given next is also.
    found_by_next to given next c.in-Some.converted c.args.map.now c.in_ok-finding-in-Some.finding (rw c.in-Some.is at also)
    (λ converted reads. c.in_ok-finding-in-Some.ensures to given converted is reads)
