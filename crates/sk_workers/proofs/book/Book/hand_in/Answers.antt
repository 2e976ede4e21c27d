-- The answer that is entered is the desk's.
use Rattle.sk_workers.proofs.Names.{◌++◌, ◌∷◌, [], List, Result, refl, sym, ap, ◌∙◌, subst, length, false≢true}
use Rattle.sk_workers.proofs.Names.{DeskCall, HandedIn, HistoryEntry, Receipt, CallPost, entry, receipt, DeskTakesIn}
use Rattle.sk_workers.proofs.Names.{HandIn}
use Rattle.sk_workers.proofs.Runs.{entered, received}
use Rattle.sk_workers.proofs.Steps.{hands_in, desk_takes}
use Rattle.sk_workers.proofs.book.Book.hand_in.Goals as goal

pub invariant_of-worker-2 : goal.invariant_of-worker-2
invariant_of-worker-2 g c =
    let old = c.worker.inside in
    let e = entry old.number c.calls_with-call.result.0 (HandedIn c.told_of-told.result) c.requests_taken-taken.result in
    let r = receipt (length c.make_room.new.history.items) e in
    received old.number old.share.parts c.enter.new.share.parts old.share.amount c.enter.new.share.amount old.receipts.items c.enter.new.receipts.items r
    c.worker.invariant c.enter.ensures.share.1 c.enter.ensures.share.0
    (c.enter.ensures.receipts ∙ ap (λ (rs : List Receipt). rs ++ r ∷ []) c.make_room.ensures.receipts)
    refl

pub invariant_of-self-2 : goal.invariant_of-self-2
invariant_of-self-2 g c =
    let old = c.self.inside in
    let left = c.hand_in-answer.new.self in
    let lease = c.args.lease in
    let answer = c.told_of-told.result in
    let took = subst (λ (r : Result (Unit {0}) HandIn). DeskTakesIn r lease old.desk left) (sym c.told_of-told.ensures)
    (desk_takes c.hand_in-answer.result lease old.desk left c.hand_in-answer.ensures) in
    let e = entry c.worker.inside.number c.calls_with-call.result.0 (HandedIn answer) c.requests_taken-taken.result in
    let told = hands_in old.desk left lease answer c.calls_with-call.ensures.done took in
    entered old.desk left old.history.items c.enter.new.history.items e old.tally.total c.enter.new.tally.total g.L.Ledger.parts
    c.self.invariant c.requests_taken-taken.ensures
    (subst (λ (call : DeskCall). CallPost old.desk call (HandedIn answer) left) (sym c.calls_with-call.ensures.call)
    (told, λ memory. false≢true (sym c.if-is_short.false ∙ c.is_short.ensures.1 memory)))
    (c.enter.ensures.history ∙ ap (λ (es : List HistoryEntry). es ++ e ∷ []) c.make_room.ensures.history)
    c.enter.ensures.tally
