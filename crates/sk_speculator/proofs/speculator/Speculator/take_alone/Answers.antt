-- A step is taken as the machine takes it, and nothing is seen of one that is refused.
use Rattle.sk_speculator.proofs.Names.{None, refl, ◌∙◌, ap, subst, IsTotalOrder, IsAntisymmetric, OnOk, OnErr, opens_of}
use Rattle.sk_speculator.proofs.Names.{Deed, Takes, look_at, is_in, made_by, IsSame, Parts}
use Rattle.sk_speculator.proofs.Writing.{keys_made}
use Rattle.sk_speculator.proofs.Taking.{alone_clean, alone_sound, alone_takes, alone_same}
use Rattle.sk_speculator.proofs.speculator.Speculator.take_alone.Goals as goal

pub perform_alone-requires-clause-clean : goal.perform_alone-requires-clause-clean
perform_alone-requires-clause-clean g c = λ q here.
    let R = g.K.Key.order in
    let total = subst IsTotalOrder g.met.K.Key.same g.met.K.Ord.total in
    let exact = subst IsAntisymmetric g.met.K.Key.same g.met.K.Key.exact in
    let a : Parts _ _ _ = record { slots = c.self.inside.slots; guesses = c.self.inside.guesses.view; opens = opens_of c.self.inside.guesses.opens; said = c.self.inside.said.said } in
    let ws = c.args.step.now.written.items in
    let wr = g.I.Inversion.written in
    let d : Deed _ _ _ = record { looked = c.args.step.now.looked.items; written = made_by R wr (look_at R a.slots) ws; said = c.args.step.now.said } in
    alone_clean total exact a c.self.inside.guesses.opens c.self.invariant.1 refl (ap (λ (p : Parts _ _ _). p.opens) c.self.view_is ∙ c.requires) d q (ap (λ ks. is_in R ks q) (keys_made R wr (look_at R a.slots) ws) ∙ here)

pub invariant_of-self : goal.invariant_of-self
invariant_of-self g c =
    let R = g.K.Key.order in
    let total = subst IsTotalOrder g.met.K.Key.same g.met.K.Ord.total in
    let exact = subst IsAntisymmetric g.met.K.Key.same g.met.K.Key.exact in
    let a : Parts _ _ _ = record { slots = c.self.inside.slots; guesses = c.self.inside.guesses.view; opens = opens_of c.self.inside.guesses.opens; said = c.self.inside.said.said } in
    let d : Deed _ _ _ = record { looked = c.args.step.now.looked.items; written = made_by R g.I.Inversion.written (look_at R a.slots) c.args.step.now.written.items; said = c.args.step.now.said } in
    let e = c.perform_alone.ensures in
    (c.self.invariant.0, alone_sound total exact a c.self.inside.guesses.opens c.self.invariant.1 refl (ap (λ (p : Parts _ _ _). p.opens) c.self.view_is ∙ c.requires) c.perform_alone.new.slots c.perform_alone.new.said.said e.settled c.perform_alone.result d e.writes e.says e.look e.log e.said)

pub returns-clause-ok : goal.returns-clause-ok
returns-clause-ok g c =
    let R = g.K.Key.order in
    let total = subst IsTotalOrder g.met.K.Key.same g.met.K.Ord.total in
    let exact = subst IsAntisymmetric g.met.K.Key.same g.met.K.Key.exact in
    let wr = g.I.Inversion.written in
    let ws = c.args.step.now.written.items in
    let a : Parts _ _ _ = record { slots = c.self.inside.slots; guesses = c.self.inside.guesses.view; opens = opens_of c.self.inside.guesses.opens; said = c.self.inside.said.said } in
    let d : Deed _ _ _ = record { looked = c.args.step.now.looked.items; written = made_by R wr (look_at R a.slots) ws; said = c.args.step.now.said } in
    let b : Parts _ _ _ = record { slots = c.perform_alone.new.slots; guesses = c.self.inside.guesses.view; opens = opens_of c.self.inside.guesses.opens; said = c.perform_alone.new.said.said } in
    let made = λ (p : Parts _ _ _). made_by R wr (look_at R p.slots) ws in
    let e = c.perform_alone.ensures in
    subst (λ (p : Parts _ _ _). OnOk c.perform_alone.result (Takes R p (record { looked = c.args.step.now.looked.items; written = made p; said = c.args.step.now.said }) None b)) c.self.view_is
    (alone_takes total exact a c.self.inside.guesses.opens c.self.invariant.1 refl (ap (λ (p : Parts _ _ _). p.opens) c.self.view_is ∙ c.requires) c.perform_alone.new.slots c.perform_alone.new.said.said e.settled c.perform_alone.result d e.writes e.says)

pub returns-clause-err : goal.returns-clause-err
returns-clause-err g c =
    let R = g.K.Key.order in
    let total = subst IsTotalOrder g.met.K.Key.same g.met.K.Ord.total in
    let exact = subst IsAntisymmetric g.met.K.Key.same g.met.K.Key.exact in
    let a : Parts _ _ _ = record { slots = c.self.inside.slots; guesses = c.self.inside.guesses.view; opens = opens_of c.self.inside.guesses.opens; said = c.self.inside.said.said } in
    let b : Parts _ _ _ = record { slots = c.perform_alone.new.slots; guesses = c.self.inside.guesses.view; opens = opens_of c.self.inside.guesses.opens; said = c.perform_alone.new.said.said } in
    let e = c.perform_alone.ensures in
    subst (λ (p : Parts _ _ _). OnErr c.perform_alone.result (IsSame R p b)) c.self.view_is
    (alone_same total exact a c.self.inside.guesses.opens c.self.invariant.1 refl (ap (λ (p : Parts _ _ _). p.opens) c.self.view_is ∙ c.requires) c.perform_alone.new.slots c.perform_alone.new.said.said e.settled c.perform_alone.result e.look e.log e.said)
