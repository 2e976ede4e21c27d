-- The string that stands at its hint has the number of that place.
use Rattle.sk_index.proofs.Names.{sym, ap, ◌∙◌, number_of, string_of}
use Rattle.sk_index.proofs.Strings.{number_at, slot_of}
use Rattle.sk_index.proofs.index.Index.find.Goals as goal

pub returns-in-Some : goal.returns-in-Some
returns-in-Some c =
    let vs = c.self.inside.strings.slots in
    let n = c.in-Some.number in
    let slot = slot_of vs n c.args.bytes.now (ap (λ es. string_of es n) c.self.view_is ∙ c.in-Some.ensures.some) in
    sym (number_at vs c.self.invariant.apart n slot.0 c.args.bytes.now slot.1 (sym slot.2))
    ∙ ap (λ es. number_of es c.args.bytes.now) c.self.view_is
