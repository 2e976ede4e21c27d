-- The newest of these is below the oldest in the set, or the set has none.
use Rattle.sk_guesses.proofs.Names.{◌≡◌, true≢false, sym, ◌≤◌, ◌<◌, ◌-◌, ◌∙◌, ap, length, arith, subst, slice_index_or}
use Rattle.sk_guesses.proofs.Names.{nat_cmp, IsStrictlySortedBy, ltb-true}
use Rattle.sk_guesses.proofs.Earlier.{IsBefore, all_apart, all_earlier, none_there, of_no_tags}
use Rattle.sk_guesses.proofs.open_list.are_earlier.Given.{Over}
use Rattle.sk_guesses.proofs.open_list.are_earlier.Goals as goal
use Rattle.sk_guesses.proofs.open_list.are_earlier.Goals.{After-number-2}

before : (g : Over) (c : After-number-2 g) → c.number.result < c.number-2.result → IsBefore c.args.opens.now.items c.args.tags.now c.at-newest.result c.oldest-item.result
before g c below =
    let same = c.ids-ids.ensures.members in
    let ls = c.args.opens.now.items in
    let newest = c.at-newest.result in
    record {
      opens_rise = c.requires;
      tags_rise = subst (IsStrictlySortedBy nat_cmp) same c.ids-ids.ensures.rising;
      some = omega (arith, c.if-len-eq0.false, c.len.ensures);
      last = c.at-newest.ensures ∙ ap (λ n. slice_index_or ls (n - 1) newest) c.len-2.ensures;
      any = subst (λ xs. 1 ≤ length xs) same c.in-len1-up.len_at_least;
      first = subst (λ xs. c.oldest-item.result ≡ slice_index_or xs 0 c.oldest-item.result) same c.oldest-item.is;
      below = omega (below, c.id.ensures, c.number.ensures.value, c.number-2.ensures.value, arith);
    }

pub returns-in_default-clause-same : goal.returns-in_default-clause-same
returns-in_default-clause-same g c = λ is e. of_no_tags g.E.Key.order c.args.tags.now e _ (let same = ap length c.ids-ids.ensures.members in omega (same, c.in_default.len_below, arith))

pub returns-clause-same : goal.returns-clause-same
returns-clause-same g c = λ is e. all_earlier (before g (goal.at.returns-clause-same g c).After-number-2 (ltb-true c.number.result c.number-2.result is)) g.E.Key.order e

pub returns-in_default-clause-apart : goal.returns-in_default-clause-apart
returns-in_default-clause-apart g c = λ is h here. absurd (true≢false (sym here ∙ none_there h c.args.tags.now (let same = ap length c.ids-ids.ensures.members in omega (same, c.in_default.len_below, arith))))

pub returns-clause-apart : goal.returns-clause-apart
returns-clause-apart g c = λ is h here. all_apart (before g (goal.at.returns-clause-apart g c).After-number-2 (ltb-true c.number.result c.number-2.result is)) h here
