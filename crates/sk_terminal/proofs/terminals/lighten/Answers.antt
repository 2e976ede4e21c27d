-- The terminals that are not listed are as they were.
use Rattle.sk_terminal.proofs.Names.{◌≡◌, ℕ, false, refl, sym, ◌∙◌, ap, has, lightened, rests_at}
use Rattle.sk_terminal.proofs.Decided.{light_leaves, light_takes, decided, committed_listed, untouched_listed}
use Rattle.sk_terminal.proofs.terminals.lighten.Goals as goal

pub returns-in-Some-clause-terminals : goal.returns-in-Some-clause-terminals
returns-in-Some-clause-terminals c t =
    let id = c.args.id in
    let m = c.args.numbered.now in
    let rests : (k : ℕ) → has k c.as_slice.result.now ≡ rests_at id m k = λ k. ap (has k) c.as_slice.ensures.numbers ∙ c.in-Some.ensures.taken k ∙ c.requires.listed id k in
    decided id (lightened id) (light_leaves id) (light_takes id) m c.commit.new.self (λ k. has k c.as_slice.result.now) rests c.commit.ensures t

pub returns-in-Some-clause-listed : goal.returns-in-Some-clause-listed
returns-in-Some-clause-listed c =
    committed_listed c.args.id c.args.numbered.now c.commit.new.self c.args.lists.now.items c.take_list.new.lists.items c.requires.listed
    (returns-in-Some-clause-terminals c) (c.take_list.ensures.gone, c.take_list.ensures.others)

pub returns-in_default-clause-terminals : goal.returns-in_default-clause-terminals
returns-in_default-clause-terminals c t =
    let id = c.args.id in
    let m = c.args.numbered.now in
    decided id (lightened id) (light_leaves id) (light_takes id) m m (λ k. false) (λ k. sym (c.in_default.ensures.taken k) ∙ c.requires.listed id k) (λ k. refl) t

pub returns-in_default-clause-listed : goal.returns-in_default-clause-listed
returns-in_default-clause-listed c =
    untouched_listed c.args.id c.args.numbered.now c.args.lists.now.items c.take_list.new.lists.items c.requires.listed c.in_default.ensures.taken (c.take_list.ensures.gone, c.take_list.ensures.others)
