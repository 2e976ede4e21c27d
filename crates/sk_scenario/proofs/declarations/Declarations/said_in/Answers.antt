use Rattle.sk_scenario.proofs.Names.{refl, unknown, skipped, no_text, declared_next, line_rules, declaration_rules}
use Rattle.sk_scenario.specs.Declarations.{says_next, declares}
use Rattle.sk_scenario.proofs.declarations.Declarations.said_in.Goals as goal

pub returns-in-Err : goal.returns-in-Err
unfolding says_next declares
returns-in-Err c =
    let d = c.args.self.now in
    (rw (skipped (line_rules d) (declared_next d c.args.word.now) c.args.word.now (no_text (line_rules d) c.args.word.now refl c.in-Err.ensures.cases.0), skipped (declaration_rules d) unknown c.args.word.now (no_text (declaration_rules d) c.args.word.now refl c.in-Err.ensures.cases.0)) refl, refl)
