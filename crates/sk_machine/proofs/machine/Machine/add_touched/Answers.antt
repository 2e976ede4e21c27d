-- Where the process depends on all that are open, nothing else that is touched depends on more.
use Rattle.sk_machine.proofs.Names.{◌∙◌, ◌||◌, ◌++◌, ap, sym, has, numbers, Parts, Proc, tags_in, looked, looks_of}
use Rattle.sk_machine.proofs.Names.{input_in, signals_read, looked_at}
use Rattle.sk_machine.proofs.Tags.{all_have}
use Rattle.sk_machine.proofs.machine.Machine.add_touched.Goals as goal

pub returns-clause-members : goal.returns-clause-members
returns-clause-members c = λ g.
    let m = c.args.self.now in
    let own = tags_in m.slots (Proc c.args.pid) in
    let rest = signals_read c.args.pid (input_in c.args.input) ++ looked_at (looked (looks_of c.args.plan.now)) in
    let is = c.tags_of-process.ensures ∙ ap (λ (p : Parts). tags_in p.slots (Proc c.args.pid)) c.self.view_is in
    let all = sym is ∙ c.are_all.ensures c.if-not-are_all.false ∙ ap (λ (p : Parts). numbers p.opens) c.self.view_is in
    c.in_ok-tags.ensures g ∙ ap (λ ts. has g c.args.own || has g ts) is
    ∙ all_have m c.requires.tidy own all g (has g c.args.own) rest c.args.written.now
