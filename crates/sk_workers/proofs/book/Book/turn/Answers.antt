-- The answer that is entered is the desk's.
use Rattle.sk_workers.proofs.Names.{◌++◌, ◌∷◌, [], List, sym, ap, ◌∙◌, subst, Answered, HistoryEntry, CallPost, entry}
use Rattle.sk_workers.specs.declared.entry.DeskCall.TheVariants as calls
use Rattle.sk_workers.proofs.Runs.{entered}
use Rattle.sk_workers.proofs.book.Book.turn.Goals as goal

pub invariant_of-self-2 : goal.invariant_of-self-2
invariant_of-self-2 g c =
    let old = c.self.inside in
    let call = calls.Turn c.args.pid in
    let e = entry c.worker.inside.number call c.turned.result c.requests_taken-taken.result in
    entered old.desk c.turn_of.new.desk old.history.items c.enter.new.history.items e old.tally.total c.enter.new.tally.total g.L.Ledger.parts
    c.self.invariant c.requests_taken-taken.ensures
    (subst (λ (a : Answered). CallPost old.desk call a c.turn_of.new.desk) (sym c.turned.ensures) c.in-Some.ensures)
    (c.enter.ensures.history ∙ ap (λ (es : List HistoryEntry). es ++ e ∷ []) c.make_room.ensures.history)
    c.enter.ensures.tally
