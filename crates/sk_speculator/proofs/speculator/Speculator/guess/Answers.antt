-- A guess is taken as the machine takes it, and nothing is seen of one that is refused.
use Rattle.sk_speculator.proofs.Names.{◌≡◌, ℕ, ◌<◌, ◌||◌, length, arith, Some, refl, sym, ◌∙◌, ap, subst, IsTotalOrder}
use Rattle.sk_speculator.proofs.Names.{IsAntisymmetric, eq-eqb, leb-false, or_left, has, keys_of, opens_of, Deed}
use Rattle.sk_speculator.proofs.Names.{next_of, Takes, look_at, log_at, tags_by, with_tags, AllExact, is_in, is_marked}
use Rattle.sk_speculator.proofs.Names.{any_rests, made_by, IsSame, IsSound, Parts, Performed}
use Rattle.sk_speculator.proofs.Writing.{keys_made}
use Rattle.sk_speculator.proofs.Taking.{after_guess, clean, opens_length, sound_refused}
use Rattle.sk_speculator.proofs.speculator.Speculator.guess.Given.{Over}
use Rattle.sk_speculator.proofs.speculator.Speculator.guess.Goals as goal
use Rattle.sk_speculator.proofs.speculator.Speculator.guess.Goals.{After-perform}

pub invariant_of-self : goal.invariant_of-self
invariant_of-self g c =
    let R = g.K.Key.order in
    let total = subst IsTotalOrder g.met.K.Key.same g.met.K.Ord.total in
    let exact = subst IsAntisymmetric g.met.K.Key.same g.met.K.Key.exact in
    let a : Parts _ _ _ = record { slots = c.self.inside.slots; guesses = c.self.inside.guesses.view; opens = opens_of c.self.inside.guesses.opens; said = c.self.inside.said.said } in
    let os = c.self.inside.guesses.opens in
    let b : Parts _ _ _ = record { slots = c.ask-asked.new.slots; guesses = c.ask-asked.new.guesses.view; opens = opens_of c.ask-asked.new.guesses.opens; said = c.ask-asked.new.said.said } in
    let same : IsSame R a b = record { look = c.ask-asked.ensures.look; logs = c.ask-asked.ensures.log; guesses = c.ask-asked.ensures.view; opens = c.ask-asked.ensures.opens; said = c.ask-asked.ensures.said } in
    (c.self.invariant.0, sound_refused total exact a os c.self.invariant.1 b c.ask-asked.new.guesses.opens same c.in_default-asked.ensures.settled c.in_default-asked.ensures.lists)

pub draw-guess-requires-clause-few : goal.draw-guess-requires-clause-few
draw-guess-requires-clause-few g c =
    let v = c.self.inside.guesses.view in
    let lt : length c.self.inside.guesses.opens < v.limit = leb-false v.limit (length c.self.inside.guesses.opens) (sym c.if-is_full.ensures) in
    let same : length c.ask-asked.new.guesses.opens ≡ length c.self.inside.guesses.opens = sym (opens_length c.ask-asked.new.guesses.opens) ∙ ap length c.ask-asked.ensures.opens ∙ opens_length c.self.inside.guesses.opens in
    let limit : c.ask-asked.new.guesses.view.limit ≡ v.limit = ap (λ w. w.limit) c.ask-asked.ensures.view in
    omega (arith, lt, same, limit)

pub draw-guess-requires-clause-own : goal.draw-guess-requires-clause-own
draw-guess-requires-clause-own g c =
    let id = c.in-Some.id in
    ap (has id) (c.in-Ok.ensures.own refl) ∙ c.in-Ok.ensures.members id ∙ or_left _ _ (or_left _ _ (eq-eqb id id refl))

pub perform-requires-clause-clean : goal.perform-requires-clause-clean
perform-requires-clause-clean g c = λ q here none.
    let R = g.K.Key.order in
    let total = subst IsTotalOrder g.met.K.Key.same g.met.K.Ord.total in
    let exact = subst IsAntisymmetric g.met.K.Key.same g.met.K.Key.exact in
    let a : Parts _ _ _ = record { slots = c.self.inside.slots; guesses = c.self.inside.guesses.view; opens = opens_of c.self.inside.guesses.opens; said = c.self.inside.said.said } in
    let os = c.self.inside.guesses.opens in
    let wr = g.I.Inversion.written in
    let ws = c.args.step.now.written.items in
    let looked = c.args.step.now.looked.items in
    let d : Deed _ _ _ = record { looked = looked; written = made_by R wr (look_at R a.slots) ws; said = c.args.step.now.said } in
    let keys = keys_made R wr (look_at R a.slots) ws in
    let members = λ (n : ℕ). c.in-Ok.ensures.members n ∙ ap (λ ks. (is_marked (Some c.in-Some.id) n || any_rests R a.slots n looked) || any_rests R a.slots n ks) (sym keys) in
    c.ask-asked.ensures.log q ∙ clean total exact a os c.self.invariant.1 d (Some c.in-Some.id) c.ask-asked.new.both.tags members q (ap (λ ks. is_in R ks q) keys ∙ here) none

taken : (g : Over) (c : After-perform g) →
    let b : Parts _ _ _ = record { slots = c.perform.new.slots; guesses = c.draw-guess.new.self.view; opens = opens_of c.draw-guess.new.self.opens; said = c.perform.new.said.said } in
    let written = made_by g.K.Key.order g.I.Inversion.written (look_at g.K.Key.order c.self.inside.slots) c.args.step.now.written.items in
    Takes g.K.Key.order (record { slots = c.self.inside.slots; guesses = c.self.inside.guesses.view; opens = opens_of c.self.inside.guesses.opens; said = c.self.inside.said.said }) (record { looked = c.args.step.now.looked.items; written = written; said = c.args.step.now.said }) (Some (next_of c.self.inside.guesses.view)) b
    × IsSound g.K.Key.order b c.draw-guess.new.self.opens
taken g c =
    let R = g.K.Key.order in
    let total = subst IsTotalOrder g.met.K.Key.same g.met.K.Ord.total in
    let exact = subst IsAntisymmetric g.met.K.Key.same g.met.K.Key.exact in
    let a : Parts _ _ _ = record { slots = c.self.inside.slots; guesses = c.self.inside.guesses.view; opens = opens_of c.self.inside.guesses.opens; said = c.self.inside.said.said } in
    let os = c.self.inside.guesses.opens in
    let wr = g.I.Inversion.written in
    let ws = c.args.step.now.written.items in
    let looked = c.args.step.now.looked.items in
    let d : Deed _ _ _ = record { looked = looked; written = made_by R wr (look_at R a.slots) ws; said = c.args.step.now.said } in
    let keys = keys_made R wr (look_at R a.slots) ws in
    let members = λ (n : ℕ). c.in-Ok.ensures.members n ∙ ap (λ ks. (is_marked (Some c.in-Some.id) n || any_rests R a.slots n looked) || any_rests R a.slots n ks) (sym keys) in
    let writes = subst (λ vs. Performed R c.ask-asked.new.slots c.ask-asked.new.both.tags vs c.perform.new.slots) (λ i. made_by R wr (λ q. c.ask-asked.ensures.look q i) ws) c.perform.ensures.writes in
    let exactly = subst (λ ks. AllExact R (with_tags R c.ask-asked.new.both.tags ks (tags_by (log_at R a.slots))) c.ask-asked.new.guesses.opens) (sym keys) c.in-Ok.ensures.exact in
    after_guess total exact a os c.self.invariant.1 c.ask-asked.new.slots c.perform.new.slots d c.ask-asked.new.both.tags c.ask-asked.new.guesses.view c.ask-asked.new.guesses.opens c.ask-asked.new.said.said c.perform.new.said.said
    c.ask-asked.ensures.look c.ask-asked.ensures.log c.ask-asked.ensures.view c.ask-asked.ensures.opens c.ask-asked.ensures.said c.in-Ok.ensures.rising writes c.perform.ensures.says c.perform.ensures.settled exactly
    c.ask-asked.new.both.own c.in-Some.id c.draw-guess.new.self.view c.draw-guess.new.self.opens (keys_of c.as_slice-3.result.now) c.in-Some.ensures.0 members (c.in-Ok.ensures.own refl) c.draw-guess.ensures.view
    c.draw-guess.ensures.opens (ap keys_of c.as_slice-3.ensures.value ∙ sym keys) c.draw-guess.ensures.statuses

pub invariant_of-self-2 : goal.invariant_of-self-2
invariant_of-self-2 g c = (c.self.invariant.0, (taken g (goal.at.invariant_of-self-2 g c).After-perform).1)

pub returns-clause-ok : goal.returns-clause-ok
returns-clause-ok g c =
    let R = g.K.Key.order in
    let b : Parts _ _ _ = record { slots = c.perform.new.slots; guesses = c.draw-guess.new.self.view; opens = opens_of c.draw-guess.new.self.opens; said = c.perform.new.said.said } in
    let made = λ (p : Parts _ _ _). made_by R g.I.Inversion.written (look_at R p.slots) c.args.step.now.written.items in
    subst (λ (p : Parts _ _ _). Takes R p (record { looked = c.args.step.now.looked.items; written = made p; said = c.args.step.now.said }) (Some (next_of p.guesses)) b)
    c.self.view_is (taken g (goal.at.returns-clause-ok g c).After-perform).0
