-- A store goes on, or it is told why none does.
use Rattle.sk_handles.proofs.Names.{rules, ◌≡◌, ℕ, List, refl, subst, inr, Entries, Limits, IsAgainst, Reopens, Refusal}
use Rattle.sk_handles.proofs.Names.{Reading, Refused, StoreLimits, last_of, AreGiven, HasFound, IsCause, place_of}
use Rattle.sk_reopened.specs.declared.refusal.Refusal.TheVariants as refusals
use Rattle.sk_handles.proofs.reopening.opened.Goals as goal

refused : (why : Refusal) (given : StoreLimits) (read : Reading) (limits : Limits) (entries : Entries) (room filled : List ℕ)
    → AreGiven given limits → HasFound read entries → IsAgainst why limits (last_of read) entries room → filled ≡ room
    → IsCause (Refused why) given read room filled
refused refusals.Limits given read limits entries room filled are found against same = (inr (limits, are, entries, found, against), same)
refused refusals.Memory given read limits entries room filled are found against same = tt
refused s given read limits entries room filled are found against same = ((limits, are, entries, found, against), same)

pub returns-in-Err : goal.returns-in-Err
returns-in-Err c =
    let limits = c.in-Some.limits in
    let entries = c.in-Found.entries in
    let read = c.args.read.now in
    let are : AreGiven c.args.limits.now limits = search rules in
    let found : HasFound read entries = (search rules, search rules) in
    let slice : c.left.result.now ≡ entries = search rules in
    let against : IsAgainst c.in-Err.why limits (last_of read) c.left.result.now c.args.room.now = search rules in
    let same : c.reopen.new.room ≡ c.args.room.now = search rules in
    let here = subst (λ (e : Entries). IsAgainst c.in-Err.why limits (last_of read) e c.args.room.now) slice against in
    (refused c.in-Err.why c.args.limits.now read limits entries c.args.room.now c.reopen.new.room are found here same, refl)

pub returns : goal.returns
returns c =
    let limits = c.in-Some.limits in
    let entries = c.in-Found.entries in
    let read = c.args.read.now in
    let opened = c.in-Ok.reopened in
    let are : AreGiven c.args.limits.now limits = search rules in
    let found : HasFound read entries = (search rules, search rules) in
    let slice : c.left.result.now ≡ entries = search rules in
    let goes : Reopens limits (last_of read) c.left.result.now opened c.args.room.now c.reopen.new.room = search rules in
    let here = subst (λ (e : Entries). Reopens limits (last_of read) e opened c.args.room.now c.reopen.new.room) slice goes in
    let kept : c.in-Ok-new.store.value ≡ opened.store = search rules in
    let place : c.place_of.result ≡ place_of opened.head = search rules in
    (limits, are, entries, found, opened, here, kept, place)
