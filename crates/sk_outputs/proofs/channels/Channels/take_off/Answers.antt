-- The search tells the place.
use Rattle.sk_outputs.proofs.Names.{nat_cmp, not, sym, ◌∙◌, ap, subst, Ok, Err, IsBinarySearchResult}
use Rattle.sk_outputs.proofs.Names.{IsStrictlySortedBy, IsStrictlySortedBy-filter, without, taken_at, ChannelsView}
use Rattle.std.proofs.Common.{◌==◌}
use Rattle.sk_outputs.proofs.Numbers.{nothing_goes, place_is}
use Rattle.sk_outputs.proofs.channels.Channels.take_off.Goals as goal

pub invariant_of-self : goal.invariant_of-self
invariant_of-self c =
    let xs = c.self.inside.list.items in
    let at = subst (λ ys. IsBinarySearchResult (λ y. nat_cmp y c.args.channel) ys (Ok c.in-Ok.place)) c.deref.ensures.value c.in-Ok.ensures.position in
    let place = place_is c.args.channel xs c.self.invariant c.in-Ok.place at in
    subst (IsStrictlySortedBy nat_cmp) (sym (c.remove.ensures.items ∙ taken_at c.args.channel xs c.self.invariant c.in-Ok.place place.0 place.1))
    (IsStrictlySortedBy-filter nat_cmp (λ t. not (t == c.args.channel)) xs c.self.invariant)

pub returns-in-Ok-clause-channels : goal.returns-in-Ok-clause-channels
returns-in-Ok-clause-channels c =
    let xs = c.self.inside.list.items in
    let at = subst (λ ys. IsBinarySearchResult (λ y. nat_cmp y c.args.channel) ys (Ok c.in-Ok.place)) c.deref.ensures.value c.in-Ok.ensures.position in
    let place = place_is c.args.channel xs c.self.invariant c.in-Ok.place at in
    c.remove.ensures.items ∙ taken_at c.args.channel xs c.self.invariant c.in-Ok.place place.0 place.1
    ∙ ap (λ (v : ChannelsView). without c.args.channel v.channels) c.self.view_is

pub returns-in_default-clause-channels : goal.returns-in_default-clause-channels
returns-in_default-clause-channels c =
    let xs = c.self.inside.list.items in
    let at = subst (λ ys. IsBinarySearchResult (λ y. nat_cmp y c.args.channel) ys (Err c.in_default.field-0)) c.deref.ensures.value c.in_default.ensures.position in
    ap (λ (v : ChannelsView). v.channels) (sym c.self.view_is) ∙ nothing_goes c.args.channel xs c.self.invariant c.in_default.field-0 at
    ∙ ap (λ (v : ChannelsView). without c.args.channel v.channels) c.self.view_is
