-- A rising list of undecided guesses that is as long as that of all.
use Rattle.sk_machine.proofs.Names.{length, ap, sym, subst, ◌∙◌, nat_cmp, IsStrictlySortedBy, eqb-true, numbers}
use Rattle.sk_machine.proofs.Names.{opens_of}
use Rattle.sk_machine.proofs.AsProcess.{as_long, count_is}
use Rattle.sk_machine.proofs.as_process.are_all.Goals as goal

pub returns : goal.returns
returns c = λ is.
    let os = c.args.guesses.now.opens in
    as_long c.args.tags.now (numbers (opens_of os)) (subst (IsStrictlySortedBy nat_cmp) c.ids.ensures.members c.ids.ensures.rising) c.requires.rising c.requires.known
    (ap length (sym c.ids.ensures.members) ∙ eqb-true _ _ is ∙ c.undecided.ensures.opens ∙ sym (count_is os))
