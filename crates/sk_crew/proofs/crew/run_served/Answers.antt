-- Worker 0 leads, and its replies are its own to give.
use Rattle.sk_crew.proofs.Names.{◌∙◌, ap, sym, subst, WorkerView, AllKeepTo, AllTookTurns}
use Rattle.std.proofs.Common.{List, ◌++◌}
use Rattle.sk_crew.proofs.Duties.{served_keep, served_took}
use Rattle.sk_crew.proofs.crew.run_served.Goals as goal

pub returns-in-Ok-append-clause-duties : goal.returns-in-Ok-append-clause-duties
returns-in-Ok-append-clause-duties g c = λ fresh.
    let plan = c.args.plan in
    let served = c.work_served-lead in
    let keeps =
    served_keep plan c.deref.result.now c.args.workers.items c.split_off.new.self.items c.in-Ok.others.items c.pop.new.self.items served.result.others.items
    c.in-Some.worker served.result.lead.worker c.in_ok-first.first fresh
    c.in-Ok.ensures.items c.in-Ok.ensures.tail c.in-Some.ensures.items
    served.ensures.lead served.ensures.others c.in_ok-first.ensures.replies in
    subst (λ (ps : List _). AllKeepTo plan ps c.append.new.self.items) c.deref.ensures.value
    (subst (AllKeepTo plan c.deref.result.now) (sym (c.in-Ok-append.ensures.items ∙ ap (λ (ws : List WorkerView). ws ++ served.result.others.items) c.push_reserved.ensures.items)) keeps)

pub returns-in-Ok-append-clause-turns : goal.returns-in-Ok-append-clause-turns
returns-in-Ok-append-clause-turns g c = λ fresh.
    let plan = c.args.plan in
    let served = c.work_served-lead in
    let took =
    served_took plan c.deref.result.now c.args.workers.items c.split_off.new.self.items c.in-Ok.others.items c.pop.new.self.items served.result.others.items
    c.in-Some.worker served.result.lead.worker c.in_ok-first.first fresh
    c.in-Ok.ensures.items c.in-Ok.ensures.tail c.in-Some.ensures.items
    served.ensures.lead served.ensures.others c.in_ok-first.ensures.replies in
    subst (λ (ps : List _). AllTookTurns plan ps c.append.new.self.items) c.deref.ensures.value
    (subst (AllTookTurns plan c.deref.result.now) (sym (c.in-Ok-append.ensures.items ∙ ap (λ (ws : List WorkerView). ws ++ served.result.others.items) c.push_reserved.ensures.items)) took)
