-- Nothing that is seen changes.
use Rattle.sk_speculator.proofs.Names.{◌≡◌, true, length, refl, sym, ◌∙◌, ap, subst, IsAntisymmetric, or_right}
use Rattle.sk_speculator.proofs.Names.{AllExact, tags_by, with_tags, keys_of, HasKeptRoom, is_in, log_at}
use Rattle.std.proofs.Common.{is_some}
use Rattle.sk_speculator.proofs.Afterwards.{any_of}
use Rattle.sk_speculator.proofs.Writing.{from_ok}
use Rattle.sk_speculator.proofs.asking.ask.Goals as goal

pub make_ready-requires-clause-covers : goal.make_ready-requires-clause-covers
make_ready-requires-clause-covers g c = λ k n here rests.
    let exact = subst IsAntisymmetric g.met.K.Key.same g.met.K.Key.exact in
    c.in_ok-tags_of_step.ensures.members n ∙ or_right _ _ (any_of g.K.Key.order exact c.args.slots.now n (keys_of c.args.step.now.written.items) k (ap (λ xs. is_in g.K.Key.order (keys_of xs) k) (sym c.as_slice-written.ensures.value) ∙ here) rests)

pub returns-then-is_err-clause-look : goal.returns-then-is_err-clause-look
returns-then-is_err-clause-look g c = λ q. c.settle_all.ensures.look q ∙ c.make_ready.ensures.look q

pub returns-then-is_err-clause-log : goal.returns-then-is_err-clause-log
returns-then-is_err-clause-log g c = λ q. c.settle_all.ensures.log q ∙ c.make_ready.ensures.log q

pub returns-then-is_err-clause-settled : goal.returns-then-is_err-clause-settled
returns-then-is_err-clause-settled g c = c.settle_all.ensures.settled (c.make_ready.ensures.settled (λ k s is _. c.requires.settled k s is refl))

pub returns-clause-unsettled : goal.returns-clause-unsettled
returns-clause-unsettled g c = λ k s is out.
    c.make_ready.ensures.settled (λ k s is _. c.requires.settled k s is refl) k s is (ap (λ xs. is_in g.K.Key.order (keys_of xs) k) c.as_slice-written.ensures.value ∙ out)

pub returns-clause-exact : goal.returns-clause-exact
returns-clause-exact g c =
    let R = g.K.Key.order in
    subst (λ xs. AllExact R (with_tags R c.tags_of_step.new.both.tags (keys_of xs) (tags_by (log_at R c.args.slots.now))) c.make_ready.new.guesses.opens) c.as_slice-written.ensures.value
    (from_ok c.make_ready.result c.if-is_err.ensures.value c.make_ready.ensures.ok)

pub returns-clause-places : goal.returns-clause-places
returns-clause-places g c = λ own.
    let room : is_some c.args.own.now ≡ true → HasKeptRoom c.make_ready.new.guesses (length c.as_slice-written.result.now) = from_ok c.make_ready.result c.if-is_err.ensures.value c.make_ready.ensures.places in
    subst (λ xs. HasKeptRoom c.make_ready.new.guesses (length xs)) c.as_slice-written.ensures.value (room own)
