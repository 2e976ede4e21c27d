-- The request is answered.
use Rattle.sk_crew.proofs.Served.{served_one}
use Rattle.sk_crew.proofs.remaining.serve.Goals as goal

pub returns-in-Ok-clause-served : goal.returns-in-Ok-clause-served
returns-in-Ok-clause-served g c = served_one c.args.server.now c.answer.new.self c.args.request c.answer.result c.answer.ensures
