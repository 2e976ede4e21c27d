use Rattle.sk_undo.proofs.Cites.{None, ap, subst, sym, ◌∙◌, IsGrowing, log_of, object_undone}
use Rattle.sk_undo.proofs.Commits.{commit_seen, grow_commit}
use Rattle.sk_undo.proofs.Growing.{grows_seen, grows_there}
use Rattle.sk_undo.proofs.entity_logs.ObjectLog.commit.Goals as goal

pub returns-clause-log : goal.returns-clause-log
returns-clause-log c now =
    ap (log_of object_undone now) (c.commit.ensures.notes c.args.self.now.grows)
    ∙ commit_seen object_undone c.args.guess c.args.self.now.log.notes.items now (grows_seen object_undone now c.args.self.now.log.notes.items c.args.self.now.grows)

pub returns-clause-can : goal.returns-clause-can
returns-clause-can c now can = c.commit.ensures.can now can

pub invariant_of-self : goal.invariant_of-self
invariant_of-self c =
    let old = c.args.self.now.log.notes.items in
    let grows = grows_seen object_undone None old c.args.self.now.grows in
    let whole = ap (log_of object_undone None) (c.commit.ensures.notes c.args.self.now.grows) ∙ commit_seen object_undone c.args.guess old None grows in
    record { grows = grows_there object_undone None c.commit.new.self.notes.items (subst IsGrowing (sym whole) (grow_commit c.args.guess (log_of object_undone None old) grows)) }
