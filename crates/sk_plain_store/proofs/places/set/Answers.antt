-- What stands at the place of the key is written there.
use Rattle.sk_plain_store.proofs.Names.{ap, ◌∙◌, entries_of, has_place}
use Rattle.sk_plain_store.proofs.Placed.{keeps_set, sets_place}
use Rattle.sk_plain_store.proofs.places.set.Goals as goal

pub returns-in-Some-clause-written : goal.returns-in-Some-clause-written
returns-in-Some-clause-written c =
    ap entries_of ((c.get_mut.follows.holds c.args.value).0)
    ∙ sets_place c.args.key.now c.args.value c.args.places.now.entries c.get_mut.ensures.ordered c.requires

pub returns-in-Some-clause-keeps : goal.returns-in-Some-clause-keeps
returns-in-Some-clause-keeps c = λ key h.
    ap (λ es. has_place es key) ((c.get_mut.follows.holds c.args.value).0)
    ∙ keeps_set c.args.key.now c.args.value c.args.places.now.entries key h
