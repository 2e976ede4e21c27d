-- The names that are left give the same from here.
use Rattle.sk_store.proofs.Names.{◌≡◌, ◌+◌, drop, with_links}
use Rattle.sk_store.proofs.start.add_links.Given as goal

abbrev pub invariant-loop-place : goal.invariant-loop-place
invariant-loop-place l = with_links l.store (2 + l.place) (drop l.place l.objects) ≡ with_links l.fn.store 2 l.objects
