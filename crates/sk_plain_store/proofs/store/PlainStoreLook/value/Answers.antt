-- What stands at the place of the key is what it has.
use Rattle.sk_plain_store.proofs.Names.{sym, ap, ◌∙◌, held}
use Rattle.sk_plain_store.proofs.Placed.{finds, joined}
use Rattle.sk_plain_store.proofs.store.PlainStoreLook.value.Goals as goal

pub returns-in-None : goal.returns-in-None
returns-in-None c =
    ap joined c.in-None.ensures.value
    ∙ sym (finds c.self.inside.places.entries c.args.key.now c.len-rising.ensures.ordered)
    ∙ ap (λ es. held es c.args.key.now) c.self.view_is

pub returns-in-Some : goal.returns-in-Some
returns-in-Some c =
    c.as_ref.ensures.value
    ∙ ap joined c.in-Some.ensures.value
    ∙ sym (finds c.self.inside.places.entries c.args.key.now c.len-rising.ensures.ordered)
    ∙ ap (λ es. held es c.args.key.now) c.self.view_is
