-- One answer more is dropped; at the end none may go out.
use Rattle.sk_durable.proofs.Names.{◌≡◌, ◌∙◌, false, is_some, true, None, ap, refl, rules, subst, sym, channel_at}
use Rattle.sk_durable.proofs.Names.{the_view, Inside, FreesIfLast, HasNoneReady, first_answer, StoreView, Batches}
use Rattle.sk_durable.proofs.Calls.{let_go, none_is, some_dropped, still_taken, AreDropped}
use Rattle.sk_durable.proofs.store.Store.let_go.Goals as goal
use Rattle.sk_durable.proofs.store.Store.let_go.Goals.{After-is_none}

pub loop-preserved : goal.loop-preserved
loop-preserved c =
    let some : is_some c.released.result ≡ true = search rules in (
      ap (λ (i : Inside). record i { batched = c.released.new.self }) c.loop.invariant.0,
      some_dropped c.args.channel (the_view c.self.inside) (the_view c.loop.self-inside) c.released.result c.released.new.self c.loop.invariant.1
          (ap (λ (i : Inside). channel_at i.channels c.args.channel) c.loop.invariant.0
          ∙ ap (λ (s : StoreView). channel_at s.channels c.args.channel) c.self.view_is ∙ c.requires)
          some c.released.ensures.some c.released.ensures.rest,
    )

-- where the last of them is dropped
abbrev left_of : After-is_none → StoreView
left_of c = the_view (record c.loop.self-inside { batched = c.released.new.self })

dropped : (c : After-is_none) → AreDropped c.args.channel c.args.self.now (left_of c) × HasNoneReady c.args.channel (left_of c)
dropped c =
    let false_is : is_some c.released.result ≡ false = search rules in
    let none : c.released.result ≡ None = none_is c.released.result false_is in
    let same : c.released.new.self ≡ c.loop.self-inside.batched = c.released.ensures.none none in (
      subst (λ (a : StoreView). AreDropped c.args.channel a (left_of c)) c.self.view_is
          (subst (λ (b : Batches). AreDropped c.args.channel (the_view c.self.inside) (the_view (record c.loop.self-inside { batched = b }))) (sym same) c.loop.invariant.1),
      subst (λ (b : Batches). HasNoneReady c.args.channel (the_view (record c.loop.self-inside { batched = b }))) (sym same) (c.released.ensures.held none),
    )

pub returns-then-is_none : goal.returns-then-is_none
returns-then-is_none c =
    let at = (goal.at.returns-then-is_none c).After-is_none in
    let end : StoreView = the_view (record c.loop.self-inside { batched = c.released.new.self; channels = c.release.new.self }) in
    let none : first_answer (left_of at) c.args.channel ≡ None = search rules in
    let_go c.args.channel c.args.self.now (left_of at) end (dropped at).0 (dropped at).1
    (subst (λ first. FreesIfLast c.args.channel first (left_of at) end) (sym none) (none, c.release.ensures, (refl, refl, refl)))

pub returns-else-is_none : goal.returns-else-is_none
returns-else-is_none c =
    let at = (goal.at.returns-else-is_none c).After-is_none in
    let some : first_answer (left_of at) c.args.channel ≡ None → ⊥ = search rules in
    let_go c.args.channel c.args.self.now (left_of at) (left_of at) (dropped at).0 (dropped at).1
    (still_taken c.args.channel (first_answer (left_of at) c.args.channel) (left_of at) (left_of at) some refl)
