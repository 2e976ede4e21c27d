-- The step is taken as the machine takes it: its tags are those of the first key that it writes, and nothing comes to depend on more.
use Rattle.sk_speculator.proofs.Names.{None, refl, sym, subst, IsTotalOrder, IsAntisymmetric, OnErr, OnOk, opens_of}
use Rattle.sk_speculator.proofs.Names.{keys_of, look_at, made_by, GoesOn, IsSame, Parts, Takes}
use Rattle.sk_speculator.proofs.Taking.{on_same, on_sound, on_takes}
use Rattle.sk_speculator.proofs.speculator.Speculator.take_on.Goals as goal

pub perform_on-requires-clause-slots : goal.perform_on-requires-clause-slots
perform_on-requires-clause-slots g c = (subst (λ (p : Parts _ _ _). GoesOn g.K.Key.order p.slots c.args.step.now.looked.items (keys_of c.args.step.now.written.items)) (sym c.self.view_is) c.requires).slots

pub invariant_of-self : goal.invariant_of-self
invariant_of-self g c =
    let R = g.K.Key.order in
    let total = subst IsTotalOrder g.met.K.Key.same g.met.K.Ord.total in
    let exact = subst IsAntisymmetric g.met.K.Key.same g.met.K.Key.exact in
    let a : Parts _ _ _ = record { slots = c.self.inside.slots; guesses = c.self.inside.guesses.view; opens = opens_of c.self.inside.guesses.opens; said = c.self.inside.said.said } in
    let looked = c.args.step.now.looked.items in
    let ws = c.args.step.now.written.items in
    let goes = subst (λ (p : Parts _ _ _). GoesOn R p.slots looked (keys_of ws)) (sym c.self.view_is) c.requires in
    let e = c.perform_on.ensures in (
      c.self.invariant.0,
      on_sound total exact a c.self.inside.guesses.opens c.self.invariant.1 refl g.I.Inversion.written looked ws c.args.step.now.said goes e.rising c.perform_on.new.slots c.perform_on.new.said.said e.settled e.log
          c.perform_on.result e.look e.says e.slots e.said,
    )

pub returns-clause-ok : goal.returns-clause-ok
returns-clause-ok g c =
    let R = g.K.Key.order in
    let total = subst IsTotalOrder g.met.K.Key.same g.met.K.Ord.total in
    let exact = subst IsAntisymmetric g.met.K.Key.same g.met.K.Key.exact in
    let a : Parts _ _ _ = record { slots = c.self.inside.slots; guesses = c.self.inside.guesses.view; opens = opens_of c.self.inside.guesses.opens; said = c.self.inside.said.said } in
    let looked = c.args.step.now.looked.items in
    let ws = c.args.step.now.written.items in
    let wr = g.I.Inversion.written in
    let goes = subst (λ (p : Parts _ _ _). GoesOn R p.slots looked (keys_of ws)) (sym c.self.view_is) c.requires in
    let b : Parts _ _ _ = record { slots = c.perform_on.new.slots; guesses = c.self.inside.guesses.view; opens = opens_of c.self.inside.guesses.opens; said = c.perform_on.new.said.said } in
    let made = λ (p : Parts _ _ _). made_by R wr (look_at R p.slots) ws in
    let e = c.perform_on.ensures in
    subst (λ (p : Parts _ _ _). OnOk c.perform_on.result (Takes R p (record { looked = looked; written = made p; said = c.args.step.now.said }) None b)) c.self.view_is
    (on_takes total exact a c.self.inside.guesses.opens c.self.invariant.1 refl wr looked ws c.args.step.now.said goes e.rising c.perform_on.new.slots c.perform_on.new.said.said e.settled e.log c.perform_on.result e.look e.says)

pub returns-clause-err : goal.returns-clause-err
returns-clause-err g c =
    let R = g.K.Key.order in
    let total = subst IsTotalOrder g.met.K.Key.same g.met.K.Ord.total in
    let exact = subst IsAntisymmetric g.met.K.Key.same g.met.K.Key.exact in
    let a : Parts _ _ _ = record { slots = c.self.inside.slots; guesses = c.self.inside.guesses.view; opens = opens_of c.self.inside.guesses.opens; said = c.self.inside.said.said } in
    let looked = c.args.step.now.looked.items in
    let ws = c.args.step.now.written.items in
    let goes = subst (λ (p : Parts _ _ _). GoesOn R p.slots looked (keys_of ws)) (sym c.self.view_is) c.requires in
    let b : Parts _ _ _ = record { slots = c.perform_on.new.slots; guesses = c.self.inside.guesses.view; opens = opens_of c.self.inside.guesses.opens; said = c.perform_on.new.said.said } in
    let e = c.perform_on.ensures in
    subst (λ (p : Parts _ _ _). OnErr c.perform_on.result (IsSame R p b)) c.self.view_is
    (on_same total exact a c.self.inside.guesses.opens c.self.invariant.1 refl g.I.Inversion.written looked ws c.args.step.now.said goes e.rising c.perform_on.new.slots c.perform_on.new.said.said e.settled e.log c.perform_on.result e.slots e.said)
