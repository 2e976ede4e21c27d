-- The test of the three parts is exact.
use Rattle.sk_plain.proofs.Cites.{rules, false, Decides-at, same_plain, exact_plain}
use Rattle.sk_plain.proofs.plain.PlainPartialEq.eq.Goals as goal

pub returns-then-ne-clause-exact : goal.returns-then-ne-clause-exact
returns-then-ne-clause-exact c =
    Decides-at false (same_plain c.args.self.now c.args.other.now) (search rules) (exact_plain c.args.self.now c.args.other.now)

pub returns-then-ne-2-clause-exact : goal.returns-then-ne-2-clause-exact
returns-then-ne-2-clause-exact c =
    Decides-at false (same_plain c.args.self.now c.args.other.now) (search rules) (exact_plain c.args.self.now c.args.other.now)

pub returns-clause-exact : goal.returns-clause-exact
returns-clause-exact c =
    Decides-at c.eq.result (same_plain c.args.self.now c.args.other.now) (search rules) (exact_plain c.args.self.now c.args.other.now)
