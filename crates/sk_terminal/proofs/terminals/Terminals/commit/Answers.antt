-- What a terminal has are its texts, lightened.
use Rattle.sk_terminal.proofs.Names.{[], refl, ◌∙◌, ap, option_map, unwrap_or, lightened}
use Rattle.std.specs.FinMap as map
use Rattle.sk_terminal.proofs.TerminalMaps.{changed_texts}
use Rattle.sk_terminal.proofs.terminals.Terminals.commit.Goals as goal

pub returns-clause-terminals : goal.returns-clause-terminals
returns-clause-terminals c t = c.lighten.ensures.terminals t ∙ ap (λ m. option_map (lightened c.args.id) (map.get m t)) c.self.view_is

pub returns-clause-texts : goal.returns-clause-texts
returns-clause-texts c t =
    ap (λ texts. unwrap_or texts []) (returns-clause-terminals c t) ∙ changed_texts (lightened c.args.id) refl (map.get c.args.self.now t)
