use Rattle.std.proofs.Common.{refl}
use Rattle.sk_crew.proofs.Served.{not_served, served_more}
use Rattle.sk_crew.proofs.service.Service.serve.Goals as goal

pub loop-preserved : goal.loop-preserved
loop-preserved g c = served_more c.args.self.server c.loop.service.server c.go_on-service.result.server c.loop.invariant c.go_on-service.ensures

pub loop-preserved-then-is_none : goal.loop-preserved-then-is_none
loop-preserved-then-is_none g c = served_more c.args.self.server c.loop.service.server c.go_on-service.result.server c.loop.invariant c.go_on-service.ensures

pub loop-init : goal.loop-init
loop-init g c = not_served c.args.self.server c.args.self.server refl
