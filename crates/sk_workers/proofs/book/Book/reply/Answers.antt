-- The answer that is entered is the desk's, without the reply that comes back.
use Rattle.sk_workers.proofs.Names.{◌++◌, ◌∷◌, [], List, sym, ap, ◌∙◌, subst, false≢true, DeskCall, Replied}
use Rattle.sk_workers.proofs.Names.{HistoryEntry, CallPost, entry}
use Rattle.sk_workers.proofs.Runs.{entered}
use Rattle.sk_workers.proofs.Steps.{with_back}
use Rattle.sk_workers.proofs.book.Book.reply.Goals as goal

pub invariant_of-self-2 : goal.invariant_of-self-2
invariant_of-self-2 g c =
    let old = c.self.inside in
    let left = c.give_reply-given.new.self in
    let answer = c.without_reply-answer.result in
    let e = entry c.worker.inside.number c.in-Ok.call (Replied answer) c.requests_taken-taken.result in
    let told = with_back old.desk left c.args.reply c.give_reply-given.result answer c.give_reply-given.ensures c.without_reply-answer.ensures in
    entered old.desk left old.history.items c.enter.new.history.items e old.tally.total c.enter.new.tally.total g.L.Ledger.parts
    c.self.invariant c.requests_taken-taken.ensures
    (subst (λ (call : DeskCall). CallPost old.desk call (Replied answer) left) (sym c.in-Ok.ensures.0)
    (told, λ memory. false≢true (sym c.if-wants_memory.false ∙ c.wants_memory.ensures.1 memory)))
    (c.enter.ensures.history ∙ ap (λ (es : List HistoryEntry). es ++ e ∷ []) c.make_room.ensures.history)
    c.enter.ensures.tally
