-- The released texts depend on nothing and stay: from the view, and what `throw_away` and `release` say.
use Rattle.sk_terminal.proofs.Names.{◌++◌, map, sym, ◌∙◌, ap, not_dropped, clear, texts_of}
use Rattle.sk_terminal.proofs.Views.{not_dropped-clear}
use Rattle.sk_terminal.proofs.terminal.Terminal.drop_of.Goals as goal

pub returns : goal.returns
returns c =
    c.release.ensures.texts ∙ ap (λ ws. map clear c.self.inside.out.items ++ ws) (c.throw_away.ensures.texts c.self.inside.newest c.self.invariant.bounds)
    ∙ sym (not_dropped-clear c.args.id c.self.inside.out.items (texts_of c.self.inside.waiting.items)) ∙ ap (not_dropped c.args.id) c.self.view_is
