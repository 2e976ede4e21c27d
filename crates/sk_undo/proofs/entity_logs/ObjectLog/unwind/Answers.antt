use Rattle.sk_undo.proofs.Cites.{subst, sym, IsGrowing, log_of, object_undone}
use Rattle.sk_undo.proofs.SeenNotes.{grow_cut}
use Rattle.sk_undo.proofs.Growing.{grows_seen, grows_there}
use Rattle.sk_undo.proofs.entity_logs.ObjectLog.unwind.Goals as goal

pub invariant_of-self : goal.invariant_of-self
invariant_of-self c =
    let log = log_of object_undone c.args.value.now c.args.self.now.log.notes.items in
    let grows = grows_seen object_undone c.args.value.now c.args.self.now.log.notes.items c.args.self.now.grows in
    record { grows = grows_there object_undone c.unwind.new.value c.unwind.new.self.notes.items (subst IsGrowing (sym (c.unwind.ensures.log grows)) (grow_cut c.args.guess log grows)) }

pub returns-clause-value : goal.returns-clause-value
returns-clause-value c = c.unwind.ensures.value (grows_seen object_undone c.args.value.now c.args.self.now.log.notes.items c.args.self.now.grows)

pub returns-clause-log : goal.returns-clause-log
returns-clause-log c = c.unwind.ensures.log (grows_seen object_undone c.args.value.now c.args.self.now.log.notes.items c.args.self.now.grows)
