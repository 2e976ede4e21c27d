use Rattle.sk_workers.proofs.Runs.{took}
use Rattle.sk_workers.proofs.book.Book.next_request.Goals as goal

pub invariant_of-self : goal.invariant_of-self
invariant_of-self g c = record {
  legal = took c.self.inside.desk c.take_request.new.self c.self.inside.history.items c.self.invariant.legal c.take_request.ensures.taken;
  count = c.self.invariant.count;
  shared = c.self.invariant.shared;
}
