-- A step is taken as the machine takes it, and nothing is seen of one that is refused.
use Rattle.sk_speculator.proofs.Names.{ℕ, ◌||◌, None, sym, ap, ◌∙◌, subst, IsTotalOrder, IsAntisymmetric, opens_of}
use Rattle.sk_speculator.proofs.Names.{Deed, Takes, look_at, log_at, tags_by, with_tags, AllExact, is_in, is_marked}
use Rattle.sk_speculator.proofs.Names.{any_rests, made_by, IsSame, IsSound, Parts, Performed}
use Rattle.sk_speculator.proofs.Writing.{keys_made}
use Rattle.sk_speculator.proofs.Taking.{after_take, clean, sound_refused}
use Rattle.sk_speculator.proofs.speculator.Speculator.take_apart.Given.{Over}
use Rattle.sk_speculator.proofs.speculator.Speculator.take_apart.Goals as goal
use Rattle.sk_speculator.proofs.speculator.Speculator.take_apart.Goals.{After-perform}

pub invariant_of-self : goal.invariant_of-self
invariant_of-self g c =
    let R = g.K.Key.order in
    let total = subst IsTotalOrder g.met.K.Key.same g.met.K.Ord.total in
    let exact = subst IsAntisymmetric g.met.K.Key.same g.met.K.Key.exact in
    let a : Parts _ _ _ = record { slots = c.self.inside.slots; guesses = c.self.inside.guesses.view; opens = opens_of c.self.inside.guesses.opens; said = c.self.inside.said.said } in
    let os = c.self.inside.guesses.opens in
    let b : Parts _ _ _ = record { slots = c.ask.new.slots; guesses = c.ask.new.guesses.view; opens = opens_of c.ask.new.guesses.opens; said = c.ask.new.said.said } in
    let same : IsSame R a b = record { look = c.ask.ensures.look; logs = c.ask.ensures.log; guesses = c.ask.ensures.view; opens = c.ask.ensures.opens; said = c.ask.ensures.said } in
    (c.self.invariant.0, sound_refused total exact a os c.self.invariant.1 b c.ask.new.guesses.opens same c.in_err-ask.ensures.settled c.in_err-ask.ensures.lists)

pub perform-requires-clause-clean : goal.perform-requires-clause-clean
perform-requires-clause-clean g c = λ q here none.
    let R = g.K.Key.order in
    let total = subst IsTotalOrder g.met.K.Key.same g.met.K.Ord.total in
    let exact = subst IsAntisymmetric g.met.K.Key.same g.met.K.Key.exact in
    let a : Parts _ _ _ = record { slots = c.self.inside.slots; guesses = c.self.inside.guesses.view; opens = opens_of c.self.inside.guesses.opens; said = c.self.inside.said.said } in
    let os = c.self.inside.guesses.opens in
    let wr = g.I.Inversion.written in
    let ws = c.args.step.now.written.items in
    let looked = c.args.step.now.looked.items in
    let d : Deed _ _ _ = record { looked = looked; written = made_by R wr (look_at R a.slots) ws; said = c.args.step.now.said } in
    let keys = keys_made R wr (look_at R a.slots) ws in
    let members = λ (n : ℕ). c.in_ok-ask.ensures.members n ∙ ap (λ ks. (is_marked None n || any_rests R a.slots n looked) || any_rests R a.slots n ks) (sym keys) in
    c.ask.ensures.log q ∙ clean total exact a os c.self.invariant.1 d (None) c.ask.new.both.tags members q (ap (λ ks. is_in R ks q) keys ∙ here) none

taken : (g : Over) (c : After-perform g) →
    let b : Parts _ _ _ = record { slots = c.perform.new.slots; guesses = c.ask.new.guesses.view; opens = opens_of c.ask.new.guesses.opens; said = c.perform.new.said.said } in
    let written = made_by g.K.Key.order g.I.Inversion.written (look_at g.K.Key.order c.self.inside.slots) c.args.step.now.written.items in
    Takes g.K.Key.order (record { slots = c.self.inside.slots; guesses = c.self.inside.guesses.view; opens = opens_of c.self.inside.guesses.opens; said = c.self.inside.said.said }) (record { looked = c.args.step.now.looked.items; written = written; said = c.args.step.now.said }) None b
    × IsSound g.K.Key.order b c.ask.new.guesses.opens
taken g c =
    let R = g.K.Key.order in
    let total = subst IsTotalOrder g.met.K.Key.same g.met.K.Ord.total in
    let exact = subst IsAntisymmetric g.met.K.Key.same g.met.K.Key.exact in
    let a : Parts _ _ _ = record { slots = c.self.inside.slots; guesses = c.self.inside.guesses.view; opens = opens_of c.self.inside.guesses.opens; said = c.self.inside.said.said } in
    let os = c.self.inside.guesses.opens in
    let wr = g.I.Inversion.written in
    let ws = c.args.step.now.written.items in
    let looked = c.args.step.now.looked.items in
    let d : Deed _ _ _ = record { looked = looked; written = made_by R wr (look_at R a.slots) ws; said = c.args.step.now.said } in
    let keys = keys_made R wr (look_at R a.slots) ws in
    let members = λ (n : ℕ). c.in_ok-ask.ensures.members n ∙ ap (λ ks. (is_marked None n || any_rests R a.slots n looked) || any_rests R a.slots n ks) (sym keys) in
    let writes = subst (λ vs. Performed R c.ask.new.slots c.ask.new.both.tags vs c.perform.new.slots) (λ i. made_by R wr (λ q. c.ask.ensures.look q i) ws) c.perform.ensures.writes in
    let exactly = subst (λ ks. AllExact R (with_tags R c.ask.new.both.tags ks (tags_by (log_at R a.slots))) c.ask.new.guesses.opens) (sym keys) c.in_ok-ask.ensures.exact in
    after_take total exact a os c.self.invariant.1 c.ask.new.slots c.perform.new.slots d c.ask.new.both.tags c.ask.new.guesses.view c.ask.new.guesses.opens c.ask.new.said.said c.perform.new.said.said
    c.ask.ensures.look c.ask.ensures.log c.ask.ensures.view c.ask.ensures.opens c.ask.ensures.said c.in_ok-ask.ensures.rising writes c.perform.ensures.says c.perform.ensures.settled exactly
    members

pub invariant_of-self-2 : goal.invariant_of-self-2
invariant_of-self-2 g c = (c.self.invariant.0, (taken g (goal.at.invariant_of-self-2 g c).After-perform).1)

pub returns-clause-ok : goal.returns-clause-ok
returns-clause-ok g c =
    let R = g.K.Key.order in
    let b : Parts _ _ _ = record { slots = c.perform.new.slots; guesses = c.ask.new.guesses.view; opens = opens_of c.ask.new.guesses.opens; said = c.perform.new.said.said } in
    let made = λ (p : Parts _ _ _). made_by R g.I.Inversion.written (look_at R p.slots) c.args.step.now.written.items in
    subst (λ (p : Parts _ _ _). Takes R p (record { looked = c.args.step.now.looked.items; written = made p; said = c.args.step.now.said }) None b)
    c.self.view_is (taken g (goal.at.returns-clause-ok g c).After-perform).0
