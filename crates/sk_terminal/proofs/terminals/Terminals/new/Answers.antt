-- Nothing is listed, and no text is there.
use Rattle.sk_terminal.proofs.Names.{◌∙◌, ap, sym, subst, [], nat_cmp, unwrap_or, any_rests, is_listed, rests_at}
use Rattle.sk_terminal.proofs.Names.{AreTidy}
use Rattle.std.specs.FinMap as map
use Rattle.sk_terminal.proofs.terminals.Terminals.new.Goals as goal

pub invariant_of-result : goal.invariant_of-result
invariant_of-result c = (
  subst AreTidy (sym c.new-lists.ensures.items) tt,
  λ g t.
      ap (is_listed g t) c.new-lists.ensures.items
      ∙ sym (ap (λ m. rests_at g m t) c.new-numbered.ensures ∙ ap (λ o. any_rests g (unwrap_or o [])) (map.get-empty nat_cmp t)),
)
