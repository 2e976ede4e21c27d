-- The search tells it.
use Rattle.sk_outputs.proofs.Names.{nat_cmp, ◌∙◌, ap, subst, IsBinarySearchResult, has, tells, ChannelsView}
use Rattle.sk_outputs.proofs.channels.Channels.contains.Goals as goal

pub returns : goal.returns
returns c =
    let xs = c.self.inside.list.items in
    let at = subst (λ ys. IsBinarySearchResult (λ y. nat_cmp y c.args.channel) ys c.binary_search.result) c.deref.ensures.value c.binary_search.ensures.position in
    c.is_ok.ensures.value ∙ tells c.args.channel xs c.self.invariant c.binary_search.result at ∙ ap (λ (v : ChannelsView). has c.args.channel v.channels) c.self.view_is
