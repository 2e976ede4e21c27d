-- The terminals that are not listed are as they were.
use Rattle.sk_terminal.proofs.Names.{◌≡◌, ℕ, false, refl, sym, ◌∙◌, ap, has, not_dropped, rests_at}
use Rattle.sk_terminal.proofs.Decided.{drop_leaves, drop_takes, decided, failed_listed, untouched_listed}
use Rattle.sk_terminal.proofs.terminals.throw_away.Goals as goal

pub returns-in-Some-clause-terminals : goal.returns-in-Some-clause-terminals
returns-in-Some-clause-terminals c t =
    let id = c.args.id in
    let m = c.args.numbered.now in
    let rests : (k : ℕ) → has k c.as_slice-freed.result.now ≡ rests_at id m k = λ k. ap (has k) c.as_slice-freed.ensures.numbers ∙ c.in-Some.ensures.taken k ∙ c.requires.listed id k in
    decided id (not_dropped id) (drop_leaves id) (drop_takes id) m c.drop_of.new.self (λ k. has k c.as_slice-freed.result.now) rests c.drop_of.ensures t

pub returns-in-Some-clause-listed : goal.returns-in-Some-clause-listed
returns-in-Some-clause-listed c =
    let id = c.args.id in
    let m = c.args.numbered.now in
    let rests : (k : ℕ) → has k c.as_slice-freed.result.now ≡ rests_at id m k = λ k. ap (has k) c.as_slice-freed.ensures.numbers ∙ c.in-Some.ensures.taken k ∙ c.requires.listed id k in
    failed_listed id m c.drop_of.new.self c.args.lists.now.items c.take_list.new.lists.items c.take_off_all.new.lists.items (λ k. has k c.as_slice-freed.result.now)
    c.requires.listed (returns-in-Some-clause-terminals c) (c.take_list.ensures.gone, c.take_list.ensures.others) rests c.take_off_all.ensures.left

pub returns-in_default-clause-terminals : goal.returns-in_default-clause-terminals
returns-in_default-clause-terminals c t =
    let id = c.args.id in
    let m = c.args.numbered.now in
    decided id (not_dropped id) (drop_leaves id) (drop_takes id) m m (λ k. false) (λ k. sym (c.in_default.ensures.taken k) ∙ c.requires.listed id k) (λ k. refl) t

pub returns-in_default-clause-listed : goal.returns-in_default-clause-listed
returns-in_default-clause-listed c =
    untouched_listed c.args.id c.args.numbered.now c.args.lists.now.items c.take_list.new.lists.items c.requires.listed c.in_default.ensures.taken (c.take_list.ensures.gone, c.take_list.ensures.others)
