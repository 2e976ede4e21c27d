-- The released texts depend on nothing: from the view, and what `any_rest_on` says.
use Rattle.sk_terminal.proofs.Names.{List, sym, ◌∙◌, ap, subst, list_any, any_rests, texts_of, AreBounded, Held}
use Rattle.sk_terminal.proofs.HeldTexts.{rests, rests_texts}
use Rattle.sk_terminal.proofs.Views.{rests-clear}
use Rattle.sk_terminal.proofs.terminal.Terminal.rests_on.Goals as goal

pub returns : goal.returns
returns c =
    let hs = c.self.inside.waiting.items in
    let n = c.self.inside.newest in
    let slice = c.as_slice.ensures.value in
    c.any_rest_on.ensures n (subst (λ (xs : List Held). AreBounded 0 xs n) (sym slice) c.self.invariant.bounds) ∙ ap (list_any (rests c.args.id)) slice
    ∙ rests_texts c.args.id hs ∙ sym (rests-clear c.args.id c.self.inside.out.items (texts_of hs)) ∙ ap (any_rests c.args.id) c.self.view_is
