-- The scenario declares no desk.
use Rattle.sk_handles.proofs.Names.{rules, ◌≡◌, None, section_view, scenario_view, client_in}
use Rattle.sk_handles.proofs.client.client_of.Goals as goal

pub returns-in-Ok-None : goal.returns-in-Ok-None
returns-in-Ok-None c =
    let s = c.in-Ok.scenario in
    let none : client_in s.declarations (section_view s.section) ≡ None = search rules in
    (scenario_view s, c.in-Ok.ensures, none)
