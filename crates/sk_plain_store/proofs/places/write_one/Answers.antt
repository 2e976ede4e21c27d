-- What is put in, or taken out, is what the key gets.
use Rattle.sk_plain_store.proofs.Names.{sym, ap, ◌∙◌, written_at, entries_of}
use Rattle.sk_plain_store.proofs.Placed.{puts_in, takes_out}
use Rattle.sk_plain_store.proofs.places.write_one.Goals as goal

pub returns-in_ok-insert-in-Some-clause-ok : goal.returns-in_ok-insert-in-Some-clause-ok
returns-in_ok-insert-in-Some-clause-ok c =
    let old = c.args.places.now.entries in
    ap entries_of c.in_ok-insert-in-Some.ensures.entries
    ∙ puts_in c.args.key c.in-Some.value old c.len-rising.ensures.ordered
    ∙ ap (λ has. written_at c.args.key.items has (entries_of old)) (sym c.in-Some.is)

pub returns-in-None-clause-ok : goal.returns-in-None-clause-ok
returns-in-None-clause-ok c =
    let old = c.args.places.now.entries in
    ap entries_of c.remove.ensures.entries
    ∙ takes_out c.as_slice.result.now old c.len-rising.ensures.ordered
    ∙ (λ i. written_at (c.as_slice.ensures.value i) (sym c.in-None.is i) (entries_of old))
