-- The scenario opens nothing.
use Rattle.sk_handles.proofs.Names.{rules, ◌≡◌, None, scenario_view, opening}
use Rattle.sk_handles.proofs.opening.play_of.Goals as goal

pub returns-in-Ok-None : goal.returns-in-Ok-None
returns-in-Ok-None c =
    let none : opening (scenario_view c.in-Ok.scenario) ≡ None = search rules in
    (scenario_view c.in-Ok.scenario, c.in-Ok.ensures, none)
