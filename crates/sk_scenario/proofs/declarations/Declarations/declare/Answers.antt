-- A word that begins no declaration is unknown.
use Rattle.sk_scenario.proofs.Names.{refl, rules, unknown, skipped, declaration_rules}
use Rattle.sk_scenario.specs.Declarations.{declares}
use Rattle.sk_scenario.proofs.declarations.Declarations.declare.Goals as goal

pub returns-in_default : goal.returns-in_default
unfolding declares
returns-in_default c = (rw (skipped (declaration_rules c.args.self.now) unknown c.args.word.now (search rules)) refl, refl)
