-- The test of the maps, which is exact.
use Rattle.sk_script.proofs.Names.{◌∙◌, Decides-at, same_scripts, exact_scripts}
use Rattle.sk_script.proofs.scripts.ScriptsPartialEq.eq.Goals as goal

pub returns-clause-computed : goal.returns-clause-computed
returns-clause-computed c = c.eq.ensures.computed ∙ (λ i. same_scripts (c.self.view_is i) (c.other.view_is i))

pub returns-clause-exact : goal.returns-clause-exact
returns-clause-exact c =
    Decides-at c.eq.result (same_scripts c.args.self.now c.args.other.now) (returns-clause-computed c) (exact_scripts c.args.self.now c.args.other.now)
