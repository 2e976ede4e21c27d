-- What is taken out is the first of its channel.
use Rattle.sk_outputs.proofs.Names.{◌<◌, [], ◌∷◌, length, sym, ◌∙◌, ap, subst, arith, true≢false, released, AreCounted}
use Rattle.sk_outputs.proofs.Names.{SaidView, said_at}
use Rattle.sk_outputs.proofs.Ready.{first_near, none_released}
use Rattle.sk_outputs.proofs.Resting.{above_removed}
use Rattle.sk_outputs.proofs.Taken.{taken_counted, taken_first, taken_later, taken_others, taken_ready, taken_some}
use Rattle.sk_outputs.proofs.outputs.Outputs.take_out.Goals as goal

pub returns-then-not-contains-clause-held : goal.returns-then-not-contains-clause-held
returns-then-not-contains-clause-held g c = λ _.
    let none = sym (c.self.invariant.0 c.args.to) ∙ sym c.contains.ensures ∙ c.if-not-contains.true in
    ap (λ (p : SaidView _). released (said_at p.said c.args.to)) (sym c.self.view_is) ∙ none_released c.self.inside.said.items c.args.to none

pub unreachable-requires : goal.unreachable-requires
unreachable-requires g c =
    let xs = c.self.inside.said.items in
    let ready = sym (c.self.invariant.0 c.args.to) ∙ sym c.contains.ensures ∙ c.if-not-contains.false in
    let near : c.others_before-place.result < length xs = first_near c.args.to c.others_before-place.result xs c.others_before-place.ensures ready in
    true≢false (sym (c.in_default.ensures.variant.1 (omega (arith, near, c.self.inside.said.ok.0))))

pub count_down-requires : goal.count_down-requires
count_down-requires g c =
    let xs = c.self.inside.said.items in
    let ready = sym (c.self.invariant.0 c.args.to) ∙ sym c.contains.ensures ∙ c.if-not-contains.false in
    taken_some xs c.remove.new.self.items c.args.to c.others_before-place.result c.in-Some.first ready c.others_before-place.ensures c.in-Some.ensures.value c.in-Some.ensures.items
    c.self.inside.counts.items c.self.invariant.2

pub take_off_last-requires-clause-there : goal.take_off_last-requires-clause-there
take_off_last-requires-clause-there g c = sym c.contains.ensures ∙ c.if-not-contains.false

pub take_off_last-requires-clause-others : goal.take_off_last-requires-clause-others
take_off_last-requires-clause-others g c =
    let xs = c.self.inside.said.items in
    let ready = sym (c.self.invariant.0 c.args.to) ∙ sym c.contains.ensures ∙ c.if-not-contains.false in
    taken_ready xs c.remove.new.self.items c.args.to c.others_before-place.result c.in-Some.first ready c.others_before-place.ensures c.in-Some.ensures.value c.in-Some.ensures.items
    c.self.inside.ready.channels c.self.invariant.0

pub take_off_last-requires-clause-counted : goal.take_off_last-requires-clause-counted
take_off_last-requires-clause-counted g c =
    let xs = c.self.inside.said.items in
    let ready = sym (c.self.invariant.0 c.args.to) ∙ sym c.contains.ensures ∙ c.if-not-contains.false in
    subst (AreCounted c.remove.new.self.items) (sym c.as_slice.ensures.value)
    (taken_counted xs c.remove.new.self.items c.args.to c.others_before-place.result c.in-Some.first ready c.others_before-place.ensures c.in-Some.ensures.value c.in-Some.ensures.items
    c.self.inside.counts.items c.count_down.new.counts.items c.self.invariant.2 c.count_down.ensures)

pub take_off_last-requires-clause-later : goal.take_off_last-requires-clause-later
take_off_last-requires-clause-later g c =
    let xs = c.self.inside.said.items in
    let ready = sym (c.self.invariant.0 c.args.to) ∙ sym c.contains.ensures ∙ c.if-not-contains.false in
    taken_later xs c.remove.new.self.items c.args.to c.others_before-place.result c.in-Some.first ready c.others_before-place.ensures c.in-Some.ensures.value c.in-Some.ensures.items

pub invariant_of-self : goal.invariant_of-self
invariant_of-self g c =
    let xs = c.self.inside.said.items in
    let ready = sym (c.self.invariant.0 c.args.to) ∙ sym c.contains.ensures ∙ c.if-not-contains.false in (
      c.take_off_last.ensures.ready,
      omega (arith, c.in-Some.ensures.len, c.self.inside.said.ok.0, c.remove.new.self.ok.0, c.self.invariant.1, c.take_off_last.ensures.places),
      taken_counted xs c.remove.new.self.items c.args.to c.others_before-place.result c.in-Some.first ready c.others_before-place.ensures c.in-Some.ensures.value c.in-Some.ensures.items
          c.self.inside.counts.items c.count_down.new.counts.items c.self.invariant.2 c.count_down.ensures,
      above_removed c.others_before-place.result c.self.inside.newest xs c.remove.new.self.items c.in-Some.ensures.items c.self.invariant.3,
    )

pub returns-clause-some : goal.returns-clause-some
returns-clause-some g c =
    let xs = c.self.inside.said.items in
    let ready = sym (c.self.invariant.0 c.args.to) ∙ sym c.contains.ensures ∙ c.if-not-contains.false in
    ap (λ (p : SaidView _). said_at p.said c.args.to) (sym c.self.view_is)
    ∙ taken_first xs c.remove.new.self.items c.args.to c.others_before-place.result c.in-Some.first ready c.others_before-place.ensures c.in-Some.ensures.value c.in-Some.ensures.items
    ∙ ap (λ o. ((c.args.to, o), []) ∷ said_at c.remove.new.self.items c.args.to) (sym c.output.ensures)

pub returns-clause-others : goal.returns-clause-others
returns-clause-others g c = λ t apart.
    let xs = c.self.inside.said.items in
    let ready = sym (c.self.invariant.0 c.args.to) ∙ sym c.contains.ensures ∙ c.if-not-contains.false in
    taken_others xs c.remove.new.self.items c.args.to c.others_before-place.result c.in-Some.first ready c.others_before-place.ensures c.in-Some.ensures.value c.in-Some.ensures.items t apart
    ∙ ap (λ (p : SaidView _). said_at p.said t) c.self.view_is
