-- A number of 16 bits is read of each process; that it is from 1 on is known of every boot.
use Rattle.sk_client.proofs.Names.{◌∙◌, ◌<◌, sym, subst, All, take_all, All-more, BootProcess, HasNumber}
use Rattle.sk_client.proofs.laws.numbered.Goals as goal

pub loop-process-preserved : goal.loop-process-preserved
loop-process-preserved c =
    let xs = c.processes-process-items.result.now in
    let i = c.loop-process.process-index in
    let p = c.process-item.result in
    let positive : All (λ p. (0 < p.number) × (0 < p.terminal)) xs = subst (All (λ (p : BootProcess). (0 < p.number) × (0 < p.terminal))) (sym c.processes-process-items.ensures.value) c.processes-process-items.ensures.limits.processes_numbered in
    let fits : HasNumber p = (subst (λ (p : BootProcess). 0 < p.number) (sym c.process-item.is) (positive i p c.loop-process-test.true).0, subst (λ n. n < 65536) c.number_of.ensures.value c.number_of.type_inv) in
    All-more HasNumber xs i p c.loop-process-test.true c.loop-process.invariant (subst HasNumber c.process-item.is fits)

pub returns : goal.returns
returns c =
    let xs = c.processes-process-items.result.now in
    subst (All HasNumber) (take_all c.loop-process.process-index xs c.loop-process-test.false ∙ c.processes-process-items.ensures.value) c.loop-process.invariant
