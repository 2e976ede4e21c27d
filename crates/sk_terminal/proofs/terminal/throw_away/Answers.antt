-- The texts that stand last depend on the guess and those before them do not, or what stays is a filter.
use Rattle.sk_terminal.proofs.Names.{◌≡◌, List, drop, take, true, false, sym, ◌∙◌, ap, subst, list_all, list_any}
use Rattle.sk_terminal.proofs.Names.{texts_of, AreBounded, Held}
use Rattle.sk_terminal.proofs.HeldTexts.{rests, taken_texts, filtered_texts, bounded_take, bounded_filter}
use Rattle.sk_terminal.proofs.terminal.throw_away.Goals as goal

pub returns-then-may_rest_before-clause-texts : goal.returns-then-may_rest_before-clause-texts
returns-then-may_rest_before-clause-texts c high b = ap texts_of c.drop_resting.ensures.texts ∙ filtered_texts c.args.id c.args.texts.now.items

pub returns-then-may_rest_before-clause-bounds : goal.returns-then-may_rest_before-clause-bounds
returns-then-may_rest_before-clause-bounds c high b = subst (λ (xs : List Held). AreBounded 0 xs high) (sym c.drop_resting.ensures.texts) (bounded_filter _ 0 high c.args.texts.now.items b)

pub returns-clause-texts : goal.returns-clause-texts
returns-clause-texts c high b =
    let hs = c.args.texts.now.items in
    let from = c.resting_from-from.result in
    let all = subst (λ (xs : List Held). list_all (rests c.args.id) (drop from xs) ≡ true) c.as_slice.ensures.value c.resting_from-from.ensures.rest in
    let slice = c.as_slice-2.ensures.value in
    let none = subst (λ (xs : List Held). list_any (rests c.args.id) (take from xs) ≡ false) slice
    (c.may_rest_before.ensures high (subst (λ (xs : List Held). AreBounded 0 xs high) (sym slice) b) c.if-may_rest_before.false) in
    ap texts_of c.truncate.ensures.items ∙ taken_texts c.args.id from hs all none

pub returns-clause-bounds : goal.returns-clause-bounds
returns-clause-bounds c high b = subst (λ (xs : List Held). AreBounded 0 xs high) (sym c.truncate.ensures.items) (bounded_take 0 high c.resting_from-from.result c.args.texts.now.items b)
