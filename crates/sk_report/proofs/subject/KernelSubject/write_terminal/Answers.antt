-- What the terminal shows are the texts that the trace says to it; where there is none, nothing was said.
use Rattle.sk_report.proofs.Names.{◌≡◌, [], append-nil, said_there, counts_line}
use Rattle.sk_report.proofs.Shown.{shown_there, nothing_there}
use Rattle.sk_report.proofs.subject.KernelSubject.write_terminal.Goals as goal

pub returns-in-Some : goal.returns-in-Some
returns-in-Some g c =
    let said : said_there c.args.self.now c.args.number ≡ c.in-Some.terminal.now = shown_there c.args.self.now c.args.number c.in-Some.terminal.now c.in-Some.ensures in
    rw said c.write_shown.ensures

pub returns-in-None : goal.returns-in-None
returns-in-None g c =
    let said : said_there c.args.self.now c.args.number ≡ [] = nothing_there c.args.self.now c.args.number c.in-None.ensures.0 in
    rw (said, append-nil (counts_line c.args.number 0 0)) c.write_counts.ensures
