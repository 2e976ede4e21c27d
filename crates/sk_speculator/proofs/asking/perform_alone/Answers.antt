-- All is ready, or nothing is seen.
use Rattle.sk_speculator.proofs.Names.{[], refl, sym, ◌∙◌, subst, keys_of, look_at, IsReady, SettledBut, Performed}
use Rattle.sk_speculator.proofs.Names.{made_by, says}
use Rattle.sk_speculator.proofs.Writing.{from_ok, performed_before}
use Rattle.sk_speculator.proofs.asking.perform_alone.Goals as goal

pub returns-then-is_err-clause-settled : goal.returns-then-is_err-clause-settled
returns-then-is_err-clause-settled g c =
    c.settle_all.ensures.settled (subst (λ xs. SettledBut g.K.Key.order (keys_of xs) c.ask_alone.new.slots) (sym c.as_slice-refused.ensures.value)
    (c.ask_alone.ensures.settled (λ k s is _. c.requires.settled k s is refl)))

pub returns-then-is_err-clause-look : goal.returns-then-is_err-clause-look
returns-then-is_err-clause-look g c = λ q. c.settle_all.ensures.look q ∙ c.ask_alone.ensures.look q

pub returns-then-is_err-clause-log : goal.returns-then-is_err-clause-log
returns-then-is_err-clause-log g c = λ q. c.settle_all.ensures.log q ∙ c.ask_alone.ensures.log q

pub perform-requires-clause-ready : goal.perform-requires-clause-ready
perform-requires-clause-ready g c = λ q here.
    subst (λ tags. IsReady g.K.Key.order tags c.ask_alone.new.slots q) (c.requires.no_tags ∙ sym c.new-none.ensures)
    (from_ok c.ask_alone.result c.if-is_err.ensures.value c.ask_alone.ensures.ready q here)

pub perform-requires-clause-clean : goal.perform-requires-clause-clean
perform-requires-clause-clean g c = λ q here _. c.ask_alone.ensures.log q ∙ c.requires.clean q here

pub perform-requires-clause-unsettled : goal.perform-requires-clause-unsettled
perform-requires-clause-unsettled g c = c.ask_alone.ensures.settled (λ k s is _. c.requires.settled k s is refl)

pub perform-requires-clause-room : goal.perform-requires-clause-room
perform-requires-clause-room g c = from_ok c.ask_alone.result c.if-is_err.ensures.value c.ask_alone.ensures.room

pub returns-clause-writes : goal.returns-clause-writes
returns-clause-writes g c =
    let R = g.K.Key.order in
    let wr = g.I.Inversion.written in
    let ws = c.args.step.now.written.items in
    let old = c.args.slots.now in
    performed_before R old c.ask_alone.new.slots c.perform.new.slots [] (made_by R wr (look_at R old) ws) c.ask_alone.ensures.look c.ask_alone.ensures.log
    (subst (λ tags. Performed R c.ask_alone.new.slots tags (made_by R wr (look_at R old) ws) c.perform.new.slots) c.new-none.ensures
    (subst (λ vs. Performed R c.ask_alone.new.slots c.new-none.result vs c.perform.new.slots) (λ i. made_by R wr (λ q. c.ask_alone.ensures.look q i) ws) c.perform.ensures.writes))

pub returns-clause-says : goal.returns-clause-says
returns-clause-says g c = c.perform.ensures.says ∙ (λ i. says c.args.step.now.said (c.new-none.ensures i) (c.ask_alone.ensures.said i))
