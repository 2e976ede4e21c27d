-- Nothing stood at the place that is let go.
use Rattle.sk_plain_store.proofs.Names.{Some, sym, ap, ◌∙◌, entries_of}
use Rattle.sk_plain_store.proofs.Placed.{lets_go}
use Rattle.sk_plain_store.proofs.places.let_go.Goals as goal

pub returns-in-Some-None : goal.returns-in-Some-None
returns-in-Some-None c =
    ap entries_of c.remove.ensures.entries
    ∙ lets_go c.args.key.now c.args.places.now.entries (sym c.in-Some-None.ensures.value ∙ ap Some c.in-Some-None.field-0-is)
