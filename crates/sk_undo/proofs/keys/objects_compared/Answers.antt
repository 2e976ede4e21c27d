-- The makers are compared by their paths, of which none is 0.
use Rattle.sk_undo.proofs.Cites.{◌∙◌}
use Rattle.sk_undo.proofs.Makers.{by_numbers}
use Rattle.sk_undo.proofs.keys.objects_compared.Goals as goal

pub returns : goal.returns
returns c =
    let first = c.maker_path.ensures in
    let second = c.maker_path-2.ensures in
    c.made_compared.ensures ∙ by_numbers c.args.one.now.maker c.args.other.now.maker _ _ _ first.value second.value first.some second.some
