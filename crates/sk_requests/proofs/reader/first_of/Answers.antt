use Rattle.sk_requests.proofs.Typed.{first_some, first_none}
use Rattle.sk_requests.proofs.reader.first_of.Goals as goal

pub returns-in-Some : goal.returns-in-Some
returns-in-Some c = first_some c.args.part.now c.in-Some.first.now c.args.next c.in-Some.ensures.value

pub returns-in-None : goal.returns-in-None
returns-in-None c = first_none c.args.part.now c.args.next c.in-None.ensures.value
