-- Room for a value, and for a key.
use Rattle.sk_guesses.proofs.Names.{length, sym, ap, subst, arith, IsOk, true≢false, Slab, slab_len, InOrder, in_order}
use Rattle.sk_guesses.proofs.Rows.{as_many, on_ok}
use Rattle.sk_guesses.proofs.row.Row.reserve.Goals as goal

pub returns-in_err-reserve-clause-room : goal.returns-in_err-reserve-clause-room
returns-in_err-reserve-clause-room g c = λ room.
    let many = as_many c.self.inside.values.slots c.self.inside.keys.items c.self.invariant.present in
    let same = ap (λ (r : InOrder _). length r.items) c.self.view_is in
    let places = ap (λ (r : InOrder _). r.places) c.self.view_is in
    let ok = c.reserve.ensures.succeeds (omega (arith, many, same, places, room, c.self.invariant.all)) in
    absurd (true≢false (sym (subst IsOk c.in_err-reserve.was ok)))

pub returns-clause-ok : goal.returns-clause-ok
returns-clause-ok g c =
    let many = as_many c.self.inside.values.slots c.self.inside.keys.items c.self.invariant.present in
    let kept = ap (λ (s : Slab _). length (in_order s.slots c.reserve-2.new.self.items)) c.reserve.ensures.rest_kept in
    let keys = ap (λ ks. length (in_order c.self.inside.values.slots ks)) c.reserve-2.ensures.items in
    let count = ap (λ (s : Slab _). slab_len s) c.reserve.ensures.rest_kept in
    on_ok c.reserve-2.result _ _ (λ room. omega (arith, many, kept, keys, count, room, c.self.invariant.all, c.in_ok-reserve.ensures.room)) c.reserve-2.ensures.ok

pub returns-clause-room : goal.returns-clause-room
returns-clause-room g c = λ room.
    let many = as_many c.self.inside.values.slots c.self.inside.keys.items c.self.invariant.present in
    let same = ap (λ (r : InOrder _). length r.items) c.self.view_is in
    let places = ap (λ (r : InOrder _). r.places) c.self.view_is in
    c.reserve-2.ensures.succeeds (omega (arith, many, same, places, room))
