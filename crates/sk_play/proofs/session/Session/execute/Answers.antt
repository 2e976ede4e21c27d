-- A decision spends the token of its guess, where there is one.
use Rattle.sk_trace.specs.declared.event.Event.TheVariants as events
use Rattle.sk_play.proofs.Decided.{decides_held}
use Rattle.sk_play.proofs.session.Session.execute.Goals as goal

pub returns-in-Commit-clause-held : goal.returns-in-Commit-clause-held
returns-in-Commit-clause-held c = rw c.in-Commit.is (decides_held c.commit.result (events.Commit c.in-Commit.id) c.in-Commit.id c.args.self.now.holder c.commit.new.self c.commit.ensures)

pub returns-in-Fail-clause-held : goal.returns-in-Fail-clause-held
returns-in-Fail-clause-held c = rw c.in-Fail.is (decides_held c.fail.result (events.Fail c.in-Fail.id) c.in-Fail.id c.args.self.now.holder c.fail.new.self c.fail.ensures)
