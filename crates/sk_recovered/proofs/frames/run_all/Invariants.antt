-- What is left comes to the same.
use Rattle.sk_recovered.proofs.Names.{◌≡◌, into_iter_items, after_works}
use Rattle.sk_recovered.proofs.frames.run_all.Given as goal

abbrev pub invariant-loop-work : goal.invariant-loop-work
invariant-loop-work l = after_works (into_iter_items l.work-iterator) l.store ≡ after_works l.fn.works.items l.initial.store
