-- The request is answered.
use Rattle.sk_crew.proofs.Served.{served_one}
use Rattle.sk_crew.proofs.service.answer.Goals as goal

pub returns-in-Ok : goal.returns-in-Ok
returns-in-Ok c = served_one c.args.server.now c.answer.new.self c.args.request c.answer.result c.answer.ensures
