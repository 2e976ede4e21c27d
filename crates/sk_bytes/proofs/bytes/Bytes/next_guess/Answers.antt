-- What is told of the kernel inside has the same guesses.
use Rattle.sk_bytes.proofs.Names.{◌≡◌, subst, IfErr, IfOk, OnOk, next_of, Refuses, RefusesNext, ByteView}
use Rattle.sk_speculator.specs.declared.refusal.Refusal.TheVariants as inner
use Rattle.sk_bytes.proofs.Fitting.{answer_told}
use Rattle.sk_bytes.proofs.bytes.Bytes.next_guess.Goals as goal

pub returns-clause-ok : goal.returns-clause-ok
returns-clause-ok g c =
    subst (λ (v : ByteView _ _). IfOk c.next_number.result (λ id. id ≡ next_of v.parts.guesses)) c.self.view_is c.next_number.ensures.ok

pub returns-clause-may : goal.returns-clause-may
returns-clause-may g c =
    subst (λ (v : ByteView _ _). OnOk c.next_number.result (Refuses v.parts inner.Memory)) c.self.view_is c.next_number.ensures.may

pub returns-clause-why : goal.returns-clause-why
returns-clause-why g c =
    subst (λ (v : ByteView _ _). IfErr c.next_number.result (RefusesNext v.parts)) c.self.view_is
    (answer_told c.self.inside.keys.index c.self.inside.kernel c.next_number.result c.next_number.ensures.why)
