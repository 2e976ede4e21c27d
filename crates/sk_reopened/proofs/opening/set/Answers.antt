-- The work that was carried out sets the entry.
use Rattle.sk_reopened.proofs.Names.{rules, ◌≡◌, false, subst, Work, Entries, after_work, set_of, Next, IsNew, is_wrong}
use Rattle.sk_reopened.proofs.opening.set.Goals as goal

pub returns-in-Ok : goal.returns-in-Ok
returns-in-Ok c =
    let old = c.args.store.now in
    let new = c.restore.new.self in
    let right : is_wrong c.args.entry.now.0 ≡ false = search rules in
    let work : c.in_ok-work.work ≡ set_of c.args.entry.now = search rules in (
      right,
      subst (λ (w : Work). (next : Next) (start : Entries) → IsNew old.limits next start old → IsNew old.limits next (after_work w start) new)
          work c.in-Ok.ensures,
    )
