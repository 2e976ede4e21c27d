-- The shared list stays, and those that are relieved share it no more.
use Rattle.sk_guesses.proofs.Names.{AllZip, ◌∙◌, List, length, map, ap, sym, subst, without_entity, relieved_beyond, InOrder}
use Rattle.sk_guesses.specs.Shared.{is_beyond, AreReady, IsRelieved}
use Rattle.sk_guesses.proofs.Opens.{guess_of}
use Rattle.sk_guesses.proofs.Shared.{relieved_ready, relieved_seen}
use Rattle.sk_guesses.proofs.Named.{seen_rising, relieved_within}
use Rattle.sk_guesses.proofs.open_row.Opens.relieve_beyond.Goals as goal

pub relieve_seen-requires-clause-ready : goal.relieve_seen-requires-clause-ready
relieve_seen-requires-clause-ready g c = subst (λ xs. AreReady (length xs) c.self.inside.row.items) (sym c.as_slice.ensures.entities) c.self.invariant.0

pub relieve_seen-requires-clause-ids : goal.relieve_seen-requires-clause-ids
relieve_seen-requires-clause-ids g c =
    seen_rising c.self.inside.shared.entities c.self.inside.row.items c.args.self.now.items (ap (λ (r : InOrder _). r.items) c.self.view_is) c.requires

pub invariant_of-self : goal.invariant_of-self
invariant_of-self g c =
    let f = λ (xs : List _). without_entity g.E.Key.order xs c.args.entity.now in (
      relieved_ready c.as_slice.result.now f (is_beyond c.args.tags.now c.args.own.now) (length c.self.inside.shared.entities) c.self.inside.row.items c.relieve_seen.new.row.items c.self.invariant.0 c.relieve_seen.ensures,
      c.self.invariant.1,
      relieved_within c.self.inside.sharers.oldest c.self.inside.sharers.newest c.as_slice.result.now f c.args.tags.now c.args.own.now c.self.inside.row.items c.relieve_seen.new.row.items c.relieve_seen.ensures c.self.invariant.2,
    )

pub returns : goal.returns
returns g c =
    let os = c.self.inside.row.items in
    let ns = c.relieve_seen.new.row.items in
    let es = c.self.inside.shared.entities in
    let f = λ (xs : List _). without_entity g.E.Key.order xs c.args.entity.now in
    let c2 = is_beyond c.args.tags.now c.args.own.now in
    let each : AllZip (IsRelieved es f c2) os ns = subst (λ xs. AllZip (IsRelieved xs f c2) os ns) c.as_slice.ensures.entities c.relieve_seen.ensures in
    relieved_seen g.E.Key.order c.args.entity.now es c.args.tags.now c.args.own.now os ns each
    ∙ ap (λ (r : InOrder _). map (relieved_beyond g.E.Key.order c.args.tags.now c.args.own.now c.args.entity.now) (map guess_of r.items)) c.self.view_is
