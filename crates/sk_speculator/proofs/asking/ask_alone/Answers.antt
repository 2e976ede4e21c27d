-- What is written is ready.
use Rattle.sk_speculator.proofs.Names.{◌≡◌, true, subst, keys_of, is_in, IsReady, SettledBut}
use Rattle.sk_speculator.proofs.asking.ask_alone.Goals as goal

pub returns-clause-settled : goal.returns-clause-settled
returns-clause-settled g c =
    subst (λ xs. SettledBut g.K.Key.order (keys_of xs) c.args.slots.now → SettledBut g.K.Key.order (keys_of xs) c.prepare_all.new.slots)
    c.as_slice-written.ensures.value c.prepare_all.ensures.settled

pub returns-in_err-prepare_all-clause-settled : goal.returns-in_err-prepare_all-clause-settled
returns-in_err-prepare_all-clause-settled g c =
    subst (λ xs. SettledBut g.K.Key.order (keys_of xs) c.args.slots.now → SettledBut g.K.Key.order (keys_of xs) c.prepare_all.new.slots)
    c.as_slice-written.ensures.value c.prepare_all.ensures.settled

pub returns-clause-ready : goal.returns-clause-ready
returns-clause-ready g c =
    subst (λ xs. (q : _) → is_in g.K.Key.order (keys_of xs) q ≡ true → IsReady g.K.Key.order c.args.no_tags.now c.prepare_all.new.slots q)
    c.as_slice-written.ensures.value c.in_ok-prepare_all.ensures.ready
