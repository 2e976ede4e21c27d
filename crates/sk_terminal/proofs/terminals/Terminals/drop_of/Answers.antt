-- What a terminal has left are its texts that are left.
use Rattle.sk_terminal.proofs.Names.{[], refl, ◌∙◌, ap, option_map, unwrap_or, not_dropped}
use Rattle.std.specs.FinMap as map
use Rattle.sk_terminal.proofs.TerminalMaps.{changed_texts}
use Rattle.sk_terminal.proofs.terminals.Terminals.drop_of.Goals as goal

pub returns-clause-terminals : goal.returns-clause-terminals
returns-clause-terminals c t = c.throw_away.ensures.terminals t ∙ ap (λ m. option_map (not_dropped c.args.id) (map.get m t)) c.self.view_is

pub returns-clause-texts : goal.returns-clause-texts
returns-clause-texts c t =
    ap (λ texts. unwrap_or texts []) (returns-clause-terminals c t) ∙ changed_texts (not_dropped c.args.id) refl (map.get c.args.self.now t)
