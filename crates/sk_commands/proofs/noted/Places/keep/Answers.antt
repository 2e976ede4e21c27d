-- The place behind the others is kept of the key, under its digest or by its bytes.
use Rattle.sk_commands.proofs.Names.{◌≡◌, true, false, ◌∙◌, refl, sym, ap, subst, length, Some, cond, is_eq, nat_cmp, List, ℕ}
use Rattle.sk_commands.proofs.Placings.{keeps}
use Rattle.sk_commands.proofs.Digests.{first_kept, other_kept}
use Rattle.sk_commands.specs.Noted.{digest_of, first_under, goes_first}
use Rattle.sk_commands.proofs.noted.Places.keep.Goals as goal

pub returns-in_ok-insert-clause-ok : goal.returns-in_ok-insert-clause-ok
returns-in_ok-insert-clause-ok c = λ w own kept.
    let p = c.args.self.now in
    let ws = c.args.writes.now in
    first_kept p (record { firsts = c.insert.new.self; others = p.others }) ws w
    (subst (λ (k : List ℕ). goes_first k ws (first_under p.firsts.entries k) ≡ true) (sym own) (sym c.goes_first.ensures ∙ c.if-goes_first.true))
    (λ q.
    c.in_ok-insert.ensures.updates.0 (digest_of q)
    ∙ ap (λ d. cond (is_eq (nat_cmp d (digest_of q))) (Some (length ws)) (first_under p.firsts.entries q)) (c.digest_of.ensures ∙ ap digest_of (sym own)))
    refl kept

pub returns-in_ok-insert-2-clause-ok : goal.returns-in_ok-insert-2-clause-ok
returns-in_ok-insert-2-clause-ok c = λ w own kept.
    let p = c.args.self.now in
    let ws = c.args.writes.now in
    let new = c.insert-else-goes_first.new.self in
    other_kept p (record { firsts = p.firsts; others = new }) ws w
    (subst (λ (k : List ℕ). goes_first k ws (first_under p.firsts.entries k) ≡ false) (sym own) (sym c.goes_first.ensures ∙ c.if-goes_first.false))
    (λ q. keeps c.in_ok-copy.copy (length ws) p.others.entries new.entries w.0.items q c.in_ok-insert-2.ensures.entries (c.in_ok-copy.ensures.items ∙ sym own))
    refl kept
