-- A word is a number just where std reads it as one, a plus sign aside.
use Rattle.std.proofs.Common.{rules, ◌≡◌, ◌≢◌, get_or, sym, ◌∙◌}
use Rattle.sk_words.proofs.Numbers.{no_text, parsed, no_plus}
use Rattle.sk_words.proofs.values.parsed_integer.Goals as goal

pub returns-in_default : goal.returns-in_default
returns-in_default c = no_text c.args.word.now c.in_default.ensures.cases.0

pub returns : goal.returns
returns c =
    let same : c.in-Ok.text.now ≡ c.args.word.now = search rules in
    let plus : get_or c.args.word.now 0 0 ≢ 43 = no_plus c.args.word.now (sym c.starts_with.ensures.value ∙ c.if-starts_with.false) in
    rw c.ok.ensures.value (parsed c.args.word.now c.parse.result (rw same at c.parse.ensures.value.0) plus)
