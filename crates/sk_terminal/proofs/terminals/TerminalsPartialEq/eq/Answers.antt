-- The test of the maps is exact.
use Rattle.sk_terminal.proofs.Names.{◌≡◌, rules, Decides-at, same_terminals, exact_terminals}
use Rattle.sk_terminal.proofs.terminals.TerminalsPartialEq.eq.Goals as goal

pub returns-clause-exact : goal.returns-clause-exact
returns-clause-exact c =
    let told : c.eq.result ≡ same_terminals c.args.self.now c.args.other.now = search rules in
    Decides-at c.eq.result (same_terminals c.args.self.now c.args.other.now) told (exact_terminals c.args.self.now c.args.other.now)
