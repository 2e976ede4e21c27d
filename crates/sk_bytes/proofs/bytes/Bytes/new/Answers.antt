-- No string has a number.
use Rattle.sk_bytes.proofs.Names.{[], None, ap, ◌∙◌, nat_cmp, at_key, look_at, log_at, number_of, string_of}
use Rattle.sk_bytes.proofs.Fitting.{fits_new, told_still}
use Rattle.sk_bytes.proofs.Told.{look_told, log_told}
use Rattle.sk_bytes.proofs.bytes.Bytes.new.Goals as goal

pub invariant_of-result : goal.invariant_of-result
invariant_of-result g c = (
  told_still c.new.result.index c.new-2.result c.new.result.loose.items
      (fits_new c.new.result.index c.new-2.result c.args.number c.args.limit.value c.new.ensures.index c.new-2.ensures.look c.new-2.ensures.log c.new-2.ensures.guesses c.new-2.ensures.opens c.new-2.ensures.said)
      (λ n _ _. ap (λ es. string_of es n) c.new.ensures.index) c.new.ensures.loose,
  c.new.ensures.looked,
  c.new.ensures.written,
  c.new.ensures.said,
  c.new-3.ensures,
)

pub returns-clause-look : goal.returns-clause-look
returns-clause-look g c = λ k.
    look_told c.new.result.index c.new-2.result.slots k
    ∙ ap (λ es. at_key None (look_at nat_cmp c.new-2.result.slots) (number_of es k)) c.new.ensures.index

pub returns-clause-log : goal.returns-clause-log
returns-clause-log g c = λ k.
    log_told c.new.result.index c.new-2.result.slots k
    ∙ ap (λ es. at_key [] (log_at nat_cmp c.new-2.result.slots) (number_of es k)) c.new.ensures.index
