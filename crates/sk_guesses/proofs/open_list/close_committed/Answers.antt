-- The tag goes, and then its guess.
use Rattle.sk_guesses.proofs.Names.{◌∙◌, ap, map, sym, subst, nat_cmp, IsStrictlySortedBy, but}
use Rattle.sk_guesses.proofs.Opens.{guess_of, named, same_named}
use Rattle.sk_guesses.proofs.Passes.{but_without}
use Rattle.sk_guesses.proofs.open_list.close_committed.Goals as goal

pub close-requires : goal.close-requires
close-requires g c =
    subst (λ os. IsStrictlySortedBy nat_cmp (named os)) (sym c.withdraw.ensures.opens)
    (subst (IsStrictlySortedBy nat_cmp) (sym (same_named c.args.id (map guess_of c.args.opens.now.items))) c.requires.rising)

pub returns-clause-opens : goal.returns-clause-opens
returns-clause-opens g c = c.close.ensures.opens ∙ ap (but c.args.id) c.withdraw.ensures.opens ∙ but_without c.args.id (map guess_of c.args.opens.now.items)
