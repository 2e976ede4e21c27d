-- Those that agree, and then the change.
use Rattle.sk_guesses.proofs.Names.{AllZip, ◌∙◌, List, length, map, ap, sym, subst, without_entity, InOrder}
use Rattle.sk_guesses.specs.Shared.{is_named, changing, seen, AreReady, Agrees}
use Rattle.sk_guesses.proofs.Opens.{guess_of}
use Rattle.sk_guesses.proofs.Shared.{IsTurned, turned_seen, less_ready}
use Rattle.sk_guesses.proofs.Named.{seen_rising, agreed_rising, agreed_within, changed_within}
use Rattle.sk_guesses.proofs.open_row.Opens.leave.Goals as goal

pub agree-changes-requires-clause-ready : goal.agree-changes-requires-clause-ready
agree-changes-requires-clause-ready g c = subst (λ xs. AreReady (length xs) c.self.inside.row.items) (sym c.as_slice.ensures.entities) c.self.invariant.0

pub agree-changes-requires-clause-ids : goal.agree-changes-requires-clause-ids
agree-changes-requires-clause-ids g c =
    seen_rising c.self.inside.shared.entities c.self.inside.row.items c.args.self.now.items (ap (λ (r : InOrder _). r.items) c.self.view_is) c.requires

pub leave_own-requires : goal.leave_own-requires
leave_own-requires g c =
    agreed_rising c.as_slice.result.now (is_named c.args.within c.args.tags.now) c.agree-changes.result c.self.inside.row.items c.agree-changes.new.row.items c.agree-changes.ensures
    (seen_rising c.self.inside.shared.entities c.self.inside.row.items c.args.self.now.items (ap (λ (r : InOrder _). r.items) c.self.view_is) c.requires)

pub invariant_of-self : goal.invariant_of-self
invariant_of-self g c =
    let os = c.self.inside.row.items in
    let ms = c.agree-changes.new.row.items in
    let ns = c.leave_own.new.row.items in
    let es = c.self.inside.shared.entities in
    let c2 = is_named c.args.within c.args.tags.now in
    let b = c.agree-changes.result in
    let agree : AllZip (Agrees es c2 b) os ms = subst (λ xs. AllZip (Agrees xs c2 b) os ms) c.as_slice.ensures.entities c.agree-changes.ensures in
    let turned : IsTurned (λ (xs : List _). without_entity g.E.Key.order xs c.args.entity.now) c2 b es os ms ns =
    record { ready = c.self.invariant.0; agree = agree; change = c.leave_own.ensures } in (
      subst (λ xs. AreReady (length xs) ns) (sym c.remove_if.ensures) (less_ready g.E.Key.order c.args.entity.now turned),
      c.self.invariant.1,
      changed_within c.self.inside.sharers.oldest c.self.inside.sharers.newest (λ (xs : List _). without_entity g.E.Key.order xs c.args.entity.now) c2 ms ns c.leave_own.ensures
          (agreed_within c.self.inside.sharers.oldest c.self.inside.sharers.newest es c2 b os ms agree c.self.invariant.2),
    )

pub returns : goal.returns
returns g c =
    let os = c.self.inside.row.items in
    let ms = c.agree-changes.new.row.items in
    let ns = c.leave_own.new.row.items in
    let es = c.self.inside.shared.entities in
    let c2 = is_named c.args.within c.args.tags.now in
    let b = c.agree-changes.result in
    let f = λ (xs : List _). without_entity g.E.Key.order xs c.args.entity.now in
    let agree : AllZip (Agrees es c2 b) os ms = subst (λ xs. AllZip (Agrees xs c2 b) os ms) c.as_slice.ensures.entities c.agree-changes.ensures in
    let turned : IsTurned f c2 b es os ms ns = record { ready = c.self.invariant.0; agree = agree; change = c.leave_own.ensures } in
    ap (λ xs. map guess_of (map (seen xs) ns)) c.remove_if.ensures ∙ turned_seen turned
    ∙ ap (λ (r : InOrder _). map (changing f c2) (map guess_of r.items)) c.self.view_is
