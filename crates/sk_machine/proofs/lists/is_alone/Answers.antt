-- What depends on it is its list.
use Rattle.sk_machine.proofs.Names.{◌∷◌, [], subst, Covers, tags_in}
use Rattle.sk_machine.proofs.lists.is_alone.Goals as goal

pub returns : goal.returns
returns c = λ is. subst (λ es. Covers (c.args.id ∷ []) es (tags_in c.args.logs.now.slots)) c.dependents.ensures.value (c.rest_alone.ensures is)
