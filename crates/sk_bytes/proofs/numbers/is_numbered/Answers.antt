-- The string of the number is compared.
use Rattle.std.proofs.Common.{Some, sym, ap, ◌∙◌}
use Rattle.std.proofs.lemmas.Slice.Eq.{bytes_eq-Decides}
use Rattle.sk_bytes.proofs.numbers.is_numbered.Goals as goal

pub returns-in-Some : goal.returns-in-Some
returns-in-Some c = λ e.
    sym c.in-Some.ensures
    ∙ ap Some ((bytes_eq-Decides c.in-Some.own.now c.args.key.now).0 (sym c.eq.ensures ∙ e))
