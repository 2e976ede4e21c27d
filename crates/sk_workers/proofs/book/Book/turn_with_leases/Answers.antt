use Rattle.sk_workers.proofs.book.Book.turn_with_leases.Goals as goal

pub returns-clause-calls : goal.returns-clause-calls
returns-clause-calls g c = (c.take_any-worker.new.self, c.take_any-worker.result.0, c.take_any-worker.ensures.taken, c.turn-worker.ensures)
