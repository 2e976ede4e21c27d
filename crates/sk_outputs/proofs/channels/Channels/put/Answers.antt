-- It goes where the search says.
use Rattle.sk_outputs.proofs.Names.{nat_cmp, ◌||◌, sym, ◌∙◌, ap, subst, Ok, Err, IsBinarySearchResult}
use Rattle.sk_outputs.proofs.Names.{IsStrictlySortedBy, has, ChannelsView}
use Rattle.std.proofs.Common.{◌==◌}
use Rattle.sk_outputs.proofs.Numbers.{placed, there}
use Rattle.sk_outputs.proofs.channels.Channels.put.Goals as goal

pub invariant_of-self : goal.invariant_of-self
invariant_of-self c =
    let xs = c.self.inside.list.items in
    let at = subst (λ ys. IsBinarySearchResult (λ y. nat_cmp y c.args.channel) ys (Err c.in-Err.place)) c.deref.ensures.value c.in-Err.ensures.position in
    subst (IsStrictlySortedBy nat_cmp) (sym c.in-Ok.ensures.items) (placed c.args.channel xs c.self.invariant c.in-Err.place at).0

pub returns-in-Ok-clause-has : goal.returns-in-Ok-clause-has
returns-in-Ok-clause-has c = λ t.
    let xs = c.self.inside.list.items in
    let at = subst (λ ys. IsBinarySearchResult (λ y. nat_cmp y c.args.channel) ys (Err c.in-Err.place)) c.deref.ensures.value c.in-Err.ensures.position in
    ap (has t) c.in-Ok.ensures.items ∙ (placed c.args.channel xs c.self.invariant c.in-Err.place at).1 t
    ∙ ap (λ (v : ChannelsView). (c.args.channel == t) || has t v.channels) c.self.view_is

pub returns-in_default-clause-has : goal.returns-in_default-clause-has
returns-in_default-clause-has c = λ t.
    let xs = c.self.inside.list.items in
    let at = subst (λ ys. IsBinarySearchResult (λ y. nat_cmp y c.args.channel) ys (Ok c.in_default.field-0)) c.deref.ensures.value c.in_default.ensures.position in
    ap (λ (v : ChannelsView). has t v.channels) (sym c.self.view_is) ∙ there c.args.channel xs c.self.invariant c.in_default.field-0 at t
    ∙ ap (λ (v : ChannelsView). (c.args.channel == t) || has t v.channels) c.self.view_is
