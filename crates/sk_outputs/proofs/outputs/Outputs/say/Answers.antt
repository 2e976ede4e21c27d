-- There is room for the output, for its channel, and for its count.
use Rattle.sk_outputs.proofs.Names.{shorter, sym, ◌∙◌, ap, has, subst, arith, SaidView, AreCounted, AreReady}
use Rattle.std.proofs.Common.{◌==◌}
use Rattle.sk_outputs.proofs.Counted.{counted_more}
use Rattle.sk_outputs.proofs.Resting.{above_more}
use Rattle.sk_outputs.proofs.outputs.Outputs.say.Goals as goal

pub put_next-requires : goal.put_next-requires
put_next-requires g c = let room = ap (λ (v : SaidView _). v.room) c.self.view_is in omega (arith, room, c.requires.0)

pub count_up-requires-clause-more : goal.count_up-requires-clause-more
count_up-requires-clause-more g c =
    let xs = c.self.inside.said.items in
    let few = shorter (λ x. x.0.0 == c.args.to) xs in
    omega (arith, c.self.invariant.2 c.args.to, few, c.self.inside.said.ok.0, c.self.inside.said.small.0, c.self.inside.said.small.1)

pub push_back_reserved-requires : goal.push_back_reserved-requires
push_back_reserved-requires g c = let room = ap (λ (v : SaidView _). v.room) c.self.view_is in omega (arith, room, c.requires.0)

pub invariant_of-self : goal.invariant_of-self
invariant_of-self g c =
    let xs = c.self.inside.said.items in
    let room = ap (λ (v : SaidView _). v.room) c.self.view_is in
    let counted = subst (AreCounted xs) (sym c.as_slice.ensures.value) c.self.invariant.2 in
    let behind = sym c.push_back_reserved.ensures.items in (
      subst (λ zs. AreReady zs c.put_next.new.ready.channels) behind (c.put_next.ensures.ready xs c.self.invariant.0 counted),
      omega (arith, room, c.requires.0, c.put_next.ensures.places, c.push_back_reserved.ensures.len, c.self.inside.said.ok.0, c.push_back_reserved.new.self.ok.0),
      subst (λ zs. AreCounted zs c.count_up.new.counts.items) behind
          (counted_more xs c.new-output.result c.args.to (ap (λ o. o.0.0) (sym c.new-output.ensures)) c.self.inside.counts.items c.count_up.new.counts.items c.self.invariant.2 c.count_up.ensures),
      above_more c.new-output.result c.self.inside.newest c.newest_with-self-inside.result c.newest_of.result xs c.push_back_reserved.new.self.items c.push_back_reserved.ensures.items c.self.invariant.3 (λ n above. ap (λ o. has n o.1) c.new-output.ensures ∙ c.newest_of.ensures n above) (λ n above. omega (above, c.newest_with-self-inside.ensures.newest, arith)) (λ n above. omega (above, c.newest_with-self-inside.ensures.other, arith)),
    )
