-- The released texts depend on nothing and stay: from the view, and what `take_out` and `release` say.
use Rattle.sk_terminal.proofs.Names.{◌++◌, map, sym, ◌∙◌, ap, lightened, clear, texts_of}
use Rattle.sk_terminal.proofs.Views.{lightened-clear}
use Rattle.sk_terminal.proofs.terminal.Terminal.commit.Goals as goal

pub returns : goal.returns
returns c =
    c.release.ensures.texts ∙ ap (λ ws. map clear c.self.inside.out.items ++ ws) (c.take_out.ensures.texts c.self.inside.newest c.self.invariant.bounds)
    ∙ sym (lightened-clear c.args.id c.self.inside.out.items (texts_of c.self.inside.waiting.items)) ∙ ap (lightened c.args.id) c.self.view_is
