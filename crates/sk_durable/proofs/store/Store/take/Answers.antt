-- What came is told to the channel, whatever its past was.
use Rattle.sk_durable.proofs.Names.{◌≡◌, rules, subst, sym, Err, Ok, Some, err_from_is_err_and, channel_at}
use Rattle.sk_durable.proofs.Names.{with_channel, the_view, End, end_of, MayFeed, TakePost, channel_refused, HavePasts}
use Rattle.sk_durable.proofs.Names.{StoreView}
use Rattle.sk_durable.proofs.Calls.{all_fed, has_past, not_fed, part_fed}
use Rattle.sk_durable.proofs.Ways.{becomes, lent_pasts}
use Rattle.sk_durable.proofs.store.Store.take.Goals as goal
use Rattle.sk_durable.proofs.store.Store.take.Goals.{After-feed}

-- the channel that was lent has some past then
pasts : (c : After-feed) → HavePasts c.self.inside.limits.requests (with_channel c.self.inside.channels c.args.channel c.feed.new.self)
pasts c =
    let there : channel_at c.self.inside.channels c.args.channel ≡ Some c.in-Some.from.now = sym c.in-Some.ensures.value in
    lent_pasts c.self.inside.limits.requests c.args.channel c.in-Some.from.now c.feed.new.self c.self.inside.channels c.self.invariant.2 there
    (has_past c.self.inside.limits.requests c.args.bytes.now c.in-Some.from.now c.feed.new.self c.feed.result c.feed.ensures.served
    (c.self.invariant.2 c.args.channel c.in-Some.from.now there))

may_feed : (c : After-feed) → MayFeed (the_view c.self.inside)
may_feed c = let may : MayFeed c.args.self.now = search rules in subst MayFeed (sym c.self.view_is) may

pub invariant_of-self-in_err-count : goal.invariant_of-self-in_err-count
invariant_of-self-in_err-count c = (c.self.invariant.0, c.self.invariant.1, pasts (goal.at.invariant_of-self-in_err-count c).After-feed)

pub returns-in_err-count : goal.returns-in_err-count
returns-in_err-count c =
    let p = err_from_is_err_and c.from_residual.result c.from_residual.ensures.1 in
    let left : StoreView = record (the_view c.self.inside) { channels = with_channel c.self.inside.channels c.args.channel c.feed.new.self } in
    rw (p.1, p.2)
    (subst (λ (a : StoreView). TakePost c.args.looks c.args.channel c.args.bytes.now (Err (channel_refused c.in_err-count.field-0.0)) a left) c.self.view_is
    (not_fed c.args.looks c.args.channel c.args.bytes.now (the_view c.self.inside) c.in-Some.from.now c.feed.new.self
    (with_channel c.self.inside.channels c.args.channel c.feed.new.self) (may_feed (goal.at.returns-in_err-count c).After-feed)
    (becomes c.self.inside.channels c.args.channel c.in-Some.from.now (sym c.in-Some.ensures.value) c.feed.new.self c.feed.ensures.most)
    c.in_err-count.field-0.0 c.in_err-count.ensures.served c.self.invariant.2))

pub invariant_of-self-in_default-asked : goal.invariant_of-self-in_default-asked
invariant_of-self-in_default-asked c = (c.self.invariant.0, c.self.invariant.1, pasts (goal.at.invariant_of-self-in_default-asked c).After-feed)

pub returns-in_default-asked : goal.returns-in_default-asked
returns-in_default-asked c =
    let left : StoreView = record (the_view c.self.inside) { channels = with_channel c.self.inside.channels c.args.channel c.feed.new.self } in
    subst (λ (end : End). TakePost c.args.looks c.args.channel c.args.bytes.now (Ok (record { count = c.in_ok-count.field-0.count; end = end })) c.args.self.now left)
    (sym c.end_of-end.ensures)
    (subst (λ (a : StoreView). TakePost c.args.looks c.args.channel c.args.bytes.now (Ok (record { count = c.in_ok-count.field-0.count; end = end_of c.is_posed.result })) a left) c.self.view_is
    (part_fed c.args.looks c.args.channel c.args.bytes.now (the_view c.self.inside) c.in-Some.from.now c.feed.new.self
    (with_channel c.self.inside.channels c.args.channel c.feed.new.self) (may_feed (goal.at.returns-in_default-asked c).After-feed)
    (becomes c.self.inside.channels c.args.channel c.in-Some.from.now (sym c.in-Some.ensures.value) c.feed.new.self c.feed.ensures.most)
    c.in_ok-count.field-0 c.in_ok-count.ensures.served c.self.invariant.2 c.in_default-asked.is c.is_posed.result c.is_posed.ensures))

pub invariant_of-self-2 : goal.invariant_of-self-2
invariant_of-self-2 c = (c.self.invariant.0, c.self.invariant.1, pasts (goal.at.invariant_of-self-2 c).After-feed)

pub returns : goal.returns
returns c =
    subst (λ (a : StoreView). TakePost c.args.looks c.args.channel c.args.bytes.now (Ok (record { count = c.in_ok-count.field-0.count; end = c.answer-end.result })) a c.answer-end.new.self) c.self.view_is
    (all_fed c.args.looks c.args.channel c.args.bytes.now (the_view c.self.inside) c.in-Some.from.now c.feed.new.self
    (with_channel c.self.inside.channels c.args.channel c.feed.new.self) (may_feed (goal.at.returns c).After-feed)
    (becomes c.self.inside.channels c.args.channel c.in-Some.from.now (sym c.in-Some.ensures.value) c.feed.new.self c.feed.ensures.most)
    c.in_ok-count.field-0 c.in_ok-count.ensures.served c.self.invariant.2
    c.in-Some-asked.field-0 c.in-Some-asked.is c.answer-end.result c.answer-end.new.self c.answer-end.ensures)
