-- The test of the instructions is exact.
use Rattle.sk_script.proofs.Names.{◌≡◌, rules, Decides-at, same_script, exact_script}
use Rattle.sk_script.proofs.script.ScriptPartialEq.eq.Goals as goal

pub returns-clause-exact : goal.returns-clause-exact
returns-clause-exact c =
    let told : c.eq.result ≡ same_script c.args.self.now c.args.other.now = search rules in
    Decides-at c.eq.result (same_script c.args.self.now c.args.other.now) told (exact_script c.args.self.now c.args.other.now)
