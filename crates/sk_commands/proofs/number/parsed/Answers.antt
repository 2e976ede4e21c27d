-- A text that is not read is the decimal text of none.
use Rattle.sk_commands.proofs.Names.{ℤ, ℕ, List, Option, sym, subst, IfNone, result_ok, IsNoNumber}
use Rattle.sk_commands.proofs.Numbers.{no_utf8, none_of_parse}
use Rattle.sk_commands.proofs.number.parsed.Goals as goal

pub returns-in-Ok-clause-none : goal.returns-in-Ok-clause-none
returns-in-Ok-clause-none c =
    subst (λ (r : Option ℤ). IfNone r (IsNoNumber c.args.text.now)) (sym c.ok.ensures.value)
    (subst (λ (t : List ℕ). IfNone (result_ok c.parse.result) (IsNoNumber t)) c.in-Ok.ensures.cases.0
    (none_of_parse c.in-Ok.text.now c.parse.result c.parse.ensures.value.0))

pub returns-in-Err-clause-none : goal.returns-in-Err-clause-none
returns-in-Err-clause-none c = no_utf8 c.args.text.now c.in-Err.ensures.cases.0
