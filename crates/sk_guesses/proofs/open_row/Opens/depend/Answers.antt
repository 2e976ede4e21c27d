-- Room, those that agree, and then the change.
use Rattle.sk_guesses.proofs.Names.{◌≡◌, ◌∙◌, List, true, false, ◌<◌, length, map, ap, sym, subst, AllByRecursion, has}
use Rattle.sk_guesses.proofs.Names.{AllZip, with_entity, ℕ, InOrder}
use Rattle.sk_guesses.specs.Shared.{changing, seen, AreReady, Agrees, HasPlace, Sharing}
use Rattle.sk_guesses.proofs.Opens.{guess_of}
use Rattle.sk_guesses.proofs.Shared.{on_err, all_of, IsReserved, reserved_ready, reserved_seen, places_stay, IsTurned}
use Rattle.sk_guesses.proofs.Shared.{turned_seen, more_ready, will_turn, will_fit}
use Rattle.sk_guesses.proofs.Named.{seen_rising, roomier_rising, agreed_rising, roomier_within, agreed_within, changed_within}
use Rattle.sk_guesses.proofs.open_row.Opens.depend.Goals as goal

pub invariant_of-self-in_err-reserve_own : goal.invariant_of-self-in_err-reserve_own
invariant_of-self-in_err-reserve_own g c =
    let room : IsReserved c.self.inside.shared.entities c.as_slice-count.result.now c.reserve.new.self.entities c.self.inside.row.items c.reserve_own.new.row.items =
    record { same = c.reserve.ensures.entities; count = c.as_slice-count.ensures.entities; ready = c.self.invariant.0; roomier = c.reserve_own.ensures.same } in (
      reserved_ready room,
      c.reserve_spare.ensures,
      roomier_within c.self.inside.sharers.oldest c.self.inside.sharers.newest (length c.as_slice-count.result.now) c.self.inside.row.items c.reserve_own.new.row.items c.reserve_own.ensures.same c.self.invariant.2,
    )

pub returns-in_err-reserve_own-clause-err : goal.returns-in_err-reserve_own-clause-err
returns-in_err-reserve_own-clause-err g c =
    let room : IsReserved c.self.inside.shared.entities c.as_slice-count.result.now c.reserve.new.self.entities c.self.inside.row.items c.reserve_own.new.row.items =
    record { same = c.reserve.ensures.entities; count = c.as_slice-count.ensures.entities; ready = c.self.invariant.0; roomier = c.reserve_own.ensures.same } in
    on_err _ _ (reserved_seen room ∙ ap (λ (r : InOrder _). r.items) c.self.view_is)

pub agree-changes-requires-clause-ready : goal.agree-changes-requires-clause-ready
agree-changes-requires-clause-ready g c =
    let room : IsReserved c.self.inside.shared.entities c.as_slice-count.result.now c.reserve.new.self.entities c.self.inside.row.items c.reserve_own.new.row.items =
    record { same = c.reserve.ensures.entities; count = c.as_slice-count.ensures.entities; ready = c.self.invariant.0; roomier = c.reserve_own.ensures.same } in
    subst (λ xs. AreReady (length xs) c.reserve_own.new.row.items) (sym c.as_slice.ensures.entities) (reserved_ready room)

pub reserve_own-requires-clause-ids : goal.reserve_own-requires-clause-ids
reserve_own-requires-clause-ids g c =
    seen_rising c.self.inside.shared.entities c.self.inside.row.items c.args.self.now.items (ap (λ (r : InOrder _). r.items) c.self.view_is) c.requires

pub agree-changes-requires-clause-ids : goal.agree-changes-requires-clause-ids
agree-changes-requires-clause-ids g c =
    roomier_rising (length c.as_slice-count.result.now) c.self.inside.row.items c.reserve_own.new.row.items c.reserve_own.ensures.same
    (seen_rising c.self.inside.shared.entities c.self.inside.row.items c.args.self.now.items (ap (λ (r : InOrder _). r.items) c.self.view_is) c.requires)

pub depend_own-requires-clause-ids : goal.depend_own-requires-clause-ids
depend_own-requires-clause-ids g c =
    let c2 = λ (h : ℕ). has h c.args.tags.now in
    agreed_rising c.as_slice.result.now c2 c.agree-changes.result c.reserve_own.new.row.items c.agree-changes.new.row.items c.agree-changes.ensures
    (roomier_rising (length c.as_slice-count.result.now) c.self.inside.row.items c.reserve_own.new.row.items c.reserve_own.ensures.same
    (seen_rising c.self.inside.shared.entities c.self.inside.row.items c.args.self.now.items (ap (λ (r : InOrder _). r.items) c.self.view_is) c.requires))

pub depend_own-requires-clause-room : goal.depend_own-requires-clause-room
depend_own-requires-clause-room g c =
    let n = length c.as_slice-count.result.now in
    let c2 = λ (h : ℕ). has h c.args.tags.now in
    let stay = places_stay c2 c.agree-changes.result n c.as_slice.result.now c.self.inside.row.items c.reserve_own.new.row.items c.agree-changes.new.row.items c.in_ok-reserve_own.ensures.ok c.agree-changes.ensures in
    all_of (HasPlace c2 n) (HasPlace c2 n) (λ (o : Sharing _). o.shares ≡ false → c2 o.guess.id ≡ true → 0 < o.room) c.agree-changes.new.row.items
    (λ o place _ own here. (place here).1 own) stay stay

pub invariant_of-self-2 : goal.invariant_of-self-2
invariant_of-self-2 g c =
    let first = c.self.inside.sharers.oldest in
    let last = c.self.inside.sharers.newest in
    let ls = c.reserve_own.new.row.items in
    let ms = c.agree-changes.new.row.items in
    let c2 = λ (h : ℕ). has h c.args.tags.now in
    let b = c.agree-changes.result in
    let xs = c.as_slice-count.result.now in
    let es = c.reserve.new.self.entities in
    let room : IsReserved c.self.inside.shared.entities xs es c.self.inside.row.items ls =
    record { same = c.reserve.ensures.entities; count = c.as_slice-count.ensures.entities; ready = c.self.invariant.0; roomier = c.reserve_own.ensures.same } in
    let agree : AllZip (Agrees es c2 b) ls ms = subst (λ ys. AllZip (Agrees ys c2 b) ls ms) c.as_slice.ensures.entities c.agree-changes.ensures in
    let turned : IsTurned (λ (ys : List _). with_entity g.E.Key.order ys c.args.entity.now) c2 b es ls ms c.depend_own.new.row.items =
    record { ready = reserved_ready room; agree = agree; change = c.depend_own.ensures } in
    let stay : AllByRecursion (HasPlace c2 (length es)) ms =
    subst (λ ys. AllByRecursion (HasPlace c2 (length ys)) ms) c.as_slice-count.ensures.entities (places_stay c2 b (length xs) es c.self.inside.row.items ls ms c.in_ok-reserve_own.ensures.ok agree) in (
      subst (λ ys. AreReady (length ys) c.depend_own.new.row.items) (sym c.add_if.ensures.entities) (more_ready g.E.Key.order c.args.entity.now turned stay),
      c.add_if.ensures.empty,
      changed_within first last (λ (ys : List _). with_entity g.E.Key.order ys c.args.entity.now) c2 ms c.depend_own.new.row.items c.depend_own.ensures
          (agreed_within first last es c2 b ls ms agree (roomier_within first last (length xs) c.self.inside.row.items ls c.reserve_own.ensures.same c.self.invariant.2)),
    )

pub returns-clause-ok : goal.returns-clause-ok
returns-clause-ok g c =
    let ls = c.reserve_own.new.row.items in
    let ms = c.agree-changes.new.row.items in
    let c2 = λ (h : ℕ). has h c.args.tags.now in
    let b = c.agree-changes.result in
    let es = c.reserve.new.self.entities in
    let f = λ (xs : List _). with_entity g.E.Key.order xs c.args.entity.now in
    let room : IsReserved c.self.inside.shared.entities c.as_slice-count.result.now es c.self.inside.row.items ls =
    record { same = c.reserve.ensures.entities; count = c.as_slice-count.ensures.entities; ready = c.self.invariant.0; roomier = c.reserve_own.ensures.same } in
    let agree : AllZip (Agrees es c2 b) ls ms = subst (λ ys. AllZip (Agrees ys c2 b) ls ms) c.as_slice.ensures.entities c.agree-changes.ensures in
    let turned : IsTurned f c2 b es ls ms c.depend_own.new.row.items = record { ready = reserved_ready room; agree = agree; change = c.depend_own.ensures } in
    ap (λ xs. map guess_of (map (seen xs) c.depend_own.new.row.items)) c.add_if.ensures.entities ∙ turned_seen turned
    ∙ ap (λ xs. map (changing f c2) (map guess_of xs)) (reserved_seen room ∙ ap (λ (r : InOrder _). r.items) c.self.view_is)

pub invariant_of-self-then-all_change : goal.invariant_of-self-then-all_change
invariant_of-self-then-all_change g c =
    let os = c.self.inside.row.items in
    let c2 = λ (h : ℕ). has h c.args.tags.now in
    let xs = c.as_slice-count.result.now in
    let es = c.reserve.new.self.entities in
    let will = c.all_change.ensures c.if-all_change.true in
    let ready : AreReady (length es) os = subst (λ ys. AreReady (length ys) os) (sym c.reserve.ensures.entities) c.self.invariant.0 in
    let turned = will_turn (λ (ys : List _). with_entity g.E.Key.order ys c.args.entity.now) c2 (length xs) es os will ready in
    let fit : AllByRecursion (HasPlace c2 (length es)) os = subst (λ ys. AllByRecursion (HasPlace c2 (length ys)) os) c.as_slice-count.ensures.entities
    (will_fit c2 (length xs) os will (subst (λ ys. AreReady (length ys) os) (sym c.as_slice-count.ensures.entities) ready)) in
    (subst (λ ys. AreReady (length ys) os) (sym c.add_over.ensures.entities) (more_ready g.E.Key.order c.args.entity.now turned fit), c.add_over.ensures.empty, c.self.invariant.2)

pub returns-then-all_change-clause-ok : goal.returns-then-all_change-clause-ok
returns-then-all_change-clause-ok g c =
    let os = c.self.inside.row.items in
    let es = c.reserve.new.self.entities in
    let c2 = λ (h : ℕ). has h c.args.tags.now in
    let f = λ (xs : List _). with_entity g.E.Key.order xs c.args.entity.now in
    let ready : AreReady (length es) os = subst (λ xs. AreReady (length xs) os) (sym c.reserve.ensures.entities) c.self.invariant.0 in
    ap (λ xs. map guess_of (map (seen xs) os)) c.add_over.ensures.entities
    ∙ turned_seen (will_turn f c2 (length c.as_slice-count.result.now) es os (c.all_change.ensures c.if-all_change.true) ready)
    ∙ ap (λ xs. map (changing f c2) (map guess_of xs)) (ap (λ xs. map (seen xs) os) c.reserve.ensures.entities ∙ ap (λ (r : InOrder _). r.items) c.self.view_is)

pub agree-changes-requires-clause-sharers : goal.agree-changes-requires-clause-sharers
agree-changes-requires-clause-sharers g c =
    roomier_within c.self.inside.sharers.oldest c.self.inside.sharers.newest (length c.as_slice-count.result.now) c.self.inside.row.items c.reserve_own.new.row.items c.reserve_own.ensures.same c.self.invariant.2
