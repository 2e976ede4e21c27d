-- What is moved over is what was run on, and none of it made an undecided guess.
use Rattle.sk_plain.proofs.Others.{from_ok}
use Rattle.sk_plain.proofs.Cites.{◌≡◌, List, ◌∙◌, take, ap, refl, rules, prefix_len, run, EntryView, plain, Standing}
use Rattle.sk_plain.proofs.Cites.{is_settled}
use Rattle.sk_plain.proofs.Settled.{settles, on_two}
use Rattle.sk_plain.proofs.standing.settle.Goals as goal

pub returns : goal.returns
returns c =
    let old = c.args.standing.now in
    let new : Standing = record { settled = c.move_over.new.settled; after = c.run_on.new.store; behind = c.move_over.new.behind; undecided = old.undecided } in
    let entries : c.deref.result.now ≡ old.behind.items = search rules in
    let undecided : c.deref-2.result.now ≡ old.undecided.items = search rules in
    let again : c.deref-3.result.now ≡ old.behind.items = search rules in
    let count : c.settled_in-count.result ≡ prefix_len (is_settled old.undecided.items) old.behind.items =
    c.settled_in-count.ensures.count ∙ (λ i. prefix_len (is_settled (undecided i)) (entries i)) in
    let after : c.run_on.new.store ≡ run (plain c.args.scripts.now) old.after (take c.settled_in-count.result old.behind.items) =
    from_ok c.run_on.result c.if-is_err.ensures.value c.run_on.ensures
    ∙ ap (λ (ns : List EntryView). run (plain c.args.scripts.now) old.after (take c.settled_in-count.result ns)) again in
    on_two c.move_over.result c.move_over.ensures.settled c.move_over.ensures.behind
    (λ settled behind. settles c.args.scripts.now old new c.settled_in-count.result count settled behind after refl)
