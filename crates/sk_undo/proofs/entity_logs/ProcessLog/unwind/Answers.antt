use Rattle.sk_undo.proofs.Cites.{ap, ◌∙◌, unwound, restores, is_process_whole}
use Rattle.sk_undo.proofs.Runs.{runs_can, log_runs, grows_whole, unwound_runs, unwound_apart, unwound_grows}
use Rattle.sk_undo.proofs.entity_logs.ProcessLog.unwind.Goals as goal

pub unwind-requires : goal.unwind-requires
unwind-requires c = record { can = runs_can c.args.value.now c.args.self.now.log.notes.items c.args.self.now.whole }

pub invariant_of-self : goal.invariant_of-self
invariant_of-self c =
    let old = c.args.self.now.log.notes.items in
    let new = c.unwind.new.self.notes.items in
    let left = c.unwind.ensures.left (λ n. restores is_process_whole n.undo) c.args.self.now.whole in
    let grows = grows_whole c.args.guess c.args.value.now c.unwind.new.value old new c.args.self.now.grows c.args.self.now.whole left in
    record {
      grows = unwound_grows c.args.guess c.args.value.now c.unwind.new.value old new c.args.self.now.grows c.args.self.now.whole left (c.unwind.ensures.log grows);
      whole = left;
      apart = unwound_apart c.args.guess c.args.value.now c.unwind.new.value old new c.args.self.now.grows c.args.self.now.whole left c.args.self.now.apart (c.unwind.ensures.log grows);
    }

pub returns-clause-value : goal.returns-clause-value
returns-clause-value c =
    let old = c.args.self.now.log.notes.items in
    let left = c.unwind.ensures.left (λ n. restores is_process_whole n.undo) c.args.self.now.whole in
    c.unwind.ensures.value (grows_whole c.args.guess c.args.value.now c.unwind.new.value old c.unwind.new.self.notes.items c.args.self.now.grows c.args.self.now.whole left)
    ∙ ap (λ log. unwound c.args.guess log c.args.value.now) (log_runs c.args.value.now old c.args.self.now.whole)

pub returns-clause-runs : goal.returns-clause-runs
returns-clause-runs c =
    let old = c.args.self.now.log.notes.items in
    let new = c.unwind.new.self.notes.items in
    let left = c.unwind.ensures.left (λ n. restores is_process_whole n.undo) c.args.self.now.whole in
    unwound_runs c.args.guess c.args.value.now c.unwind.new.value old new c.args.self.now.grows c.args.self.now.whole left
    (c.unwind.ensures.log (grows_whole c.args.guess c.args.value.now c.unwind.new.value old new c.args.self.now.grows c.args.self.now.whole left))
