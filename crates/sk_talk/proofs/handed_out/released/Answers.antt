-- What the terminal shows are the texts that the trace says to it; where there is none, nothing was said.
use Rattle.sk_talk.proofs.Names.{◌≡◌, [], sym, ap, ◌∙◌, released, said_there, shown_there, nothing_there}
use Rattle.sk_talk.proofs.handed_out.released.Goals as goal

pub returns-in-Some : goal.returns-in-Some
returns-in-Some c =
    let said : said_there c.args.kernel.now c.args.number ≡ c.in-Some.terminal.now = shown_there c.args.kernel.now c.args.number c.in-Some.terminal.now c.in-Some.ensures in
    c.released.ensures ∙ sym (ap released said)

pub returns-in-None : goal.returns-in-None
returns-in-None c =
    let said : said_there c.args.kernel.now c.args.number ≡ [] = nothing_there c.args.kernel.now c.args.number c.in-None.ensures.0 in
    sym (ap released said)
