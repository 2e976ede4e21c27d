-- The zeros past a name's end are below its letters.
use Rattle.sk_ids.proofs.Names.{◌∙◌, nat_cmp, slice_cmp}
use Rattle.sk_ids.proofs.Padding.{as_names}
use Rattle.sk_ids.proofs.name.NameOrd.cmp.Goals as goal

pub returns : goal.returns
returns c =
    c.cells_compared.ensures
    ∙ as_names c.self.inside.cells c.other.inside.cells c.self.inside.len c.other.inside.len c.self.invariant c.other.invariant
    ∙ (λ i. slice_cmp nat_cmp (c.self.view_is i) (c.other.view_is i))
