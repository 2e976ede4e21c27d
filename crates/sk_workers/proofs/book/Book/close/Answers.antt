use Rattle.sk_workers.proofs.Closed.{closed}
use Rattle.sk_workers.proofs.book.Book.close.Goals as goal

pub returns-in-Ok-clause-closed : goal.returns-in-Ok-clause-closed
returns-in-Ok-clause-closed g c =
    let s = c.settle.ensures in
    closed (record { opening = c.args.opening.now; first = c.args.first }) c.args.self c.args.workers.items c.settle.result.entries.items c.settle.result.desk
    s.same.0 s.same.1 s.legal s.count c.in-Ok.ensures.ok c.requires.distinct
