-- A commit goes on whatever the scripts are.
use Rattle.sk_plain.proofs.standing.Standing.go_on.Goals as goal

pub returns-in-Commit : goal.returns-in-Commit
returns-in-Commit c = rw c.in-Commit.is (c.commit.ensures c.args.scripts.now)
