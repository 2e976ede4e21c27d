-- A fetch of a copy that is there is its row.
use Rattle.sk_plain.proofs.Cites.{rules, option_copied}
use Rattle.sk_plain.proofs.replies.put_good.Goals as goal

pub returns-then-puts_fetch-clause-row : goal.returns-then-puts_fetch-clause-row
returns-then-puts_fetch-clause-row g c =
    let row = c.puts_fetch.ensures.row c.if-puts_fetch.true (option_copied c.args.instruction) in
    search (rules, row)
