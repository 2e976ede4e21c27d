-- What is passed over is below the next of the set, and not below what comes before that.
use Rattle.sk_guesses.proofs.Names.{◌≡◌, true, ◌∙◌, sym, ap, slice_index_or, arith, has}
use Rattle.sk_guesses.specs.Shared.{is_named}
use Rattle.sk_guesses.proofs.Named.{all_passed_over, passed_over}
use Rattle.sk_guesses.proofs.open_row.next_named.Goals as goal

pub returns-then-passed-ids-clause-none : goal.returns-then-passed-ids-clause-none
returns-then-passed-ids-clause-none g c = λ k d low lt.
    let os = c.args.row.now.items in
    let tags = c.ids-ids.result.now in
    let l = c.at.result.now in
    let within : c.args.within ≡ true = c.if-not-within.false in
    let none = all_passed_over tags os c.args.from c.count_below-passed.result l c.ids-ids.ensures.rising c.requires.rising c.at.ensures
    (λ j e before. omega (arith, c.count_below-passed.ensures.below j e before, c.id.ensures)) (omega (arith, c.if-passed-ids.true))
    k d low (omega (arith, lt, c.len-then-passed-ids.ensures)) in
    ap (λ b. is_named b c.args.tags.now (slice_index_or os k d).guess.id) within
    ∙ ap (λ xs. has (slice_index_or os k d).guess.id xs) (sym c.ids-ids.ensures.members) ∙ none

pub returns-clause-none : goal.returns-clause-none
returns-clause-none g c = λ k d low lt.
    let os = c.args.row.now.items in
    let tags = c.ids-ids.result.now in
    let l = c.at.result.now in
    let within : c.args.within ≡ true = c.if-not-within.false in
    let none = passed_over tags os c.args.from c.count_below-passed.result l c.ids-ids.ensures.rising c.requires.rising c.at.ensures
    (λ j e before. omega (arith, c.count_below-passed.ensures.below j e before, c.id.ensures))
    c.index-ids-passed.result c.first_from.result (omega (arith, c.if-passed-ids.false)) c.index-ids-passed.is c.first_from.ensures.bound c.first_from.ensures.below k d low lt in
    ap (λ b. is_named b c.args.tags.now (slice_index_or os k d).guess.id) within
    ∙ ap (λ xs. has (slice_index_or os k d).guess.id xs) (sym c.ids-ids.ensures.members) ∙ none
