-- The next frame is carried out, or left.
use Rattle.sk_recovered.proofs.Names.{rules, sym, ◌∙◌, arith, on_ok_weaker}
use Rattle.sk_recovered.proofs.Taken.{made_damaged, made_left, made_on}
use Rattle.sk_recovered.proofs.frames.Frames.take.Goals as goal

pub returns-then-is_some-clause-taken : goal.returns-then-is_some-clause-taken
returns-then-is_some-clause-taken c = λ first start payloads has number.
    made_left first start payloads c.args.self.now.store c.args.payload.now c.args.self.now.damage c.args.self.now.works
    (sym c.is_some.ensures ∙ c.if-is_some.true) has

pub returns-in-Ok-clause-taken : goal.returns-in-Ok-clause-taken
returns-in-Ok-clause-taken c =
    on_ok_weaker c.run_all.result (λ is first start payloads has number.
    made_on first start payloads c.args.self.now.store c.run_all.new.store c.args.payload.now c.in-Ok.works.items c.args.self.now.damage c.args.self.now.works
    c.saturating_add-self.result (sym c.is_some.ensures ∙ c.if-is_some.false) has c.in-Ok.ensures.read is (omega (arith, c.saturating_add-self.ensures, c.len.ensures))) c.run_all.ensures

pub returns-in-Err-clause-taken : goal.returns-in-Err-clause-taken
returns-in-Err-clause-taken c = λ first start payloads has number.
    made_damaged first start payloads c.args.self.now.store c.args.payload.now c.args.self.now.damage
    (record { place = c.args.place; why = c.in-Err.why }) c.args.self.now.works
    (sym c.is_some.ensures ∙ c.if-is_some.false) has number c.in-Err.ensures.read (search rules)
