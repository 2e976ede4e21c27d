use Rattle.sk_scenario.proofs.Names.{rules, skipped, line_rules, declared_next}
use Rattle.sk_scenario.specs.Declarations.{says_next}
use Rattle.sk_scenario.proofs.declarations.Declarations.said.Goals as goal

pub returns-in_default : goal.returns-in_default
unfolding says_next
returns-in_default c = rw (skipped (line_rules c.args.self.now) (declared_next c.args.self.now c.args.word.now) c.args.word.now (search rules)) c.declared.ensures
