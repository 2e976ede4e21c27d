-- The token of the guess that is drawn is pushed.
use Rattle.sk_batched.proofs.Names.{rules, ◌≡◌, false, is_err, [], ◌∷◌, ◌++◌, None, subst, next_of, batch_key, opening}
use Rattle.sk_batched.proofs.Names.{IsInStep, Some, Takes, bytes_cmp, open_numbers}
use Rattle.sk_batched.proofs.Barred.{opening_bars, same_barred, taken_barred}
use Rattle.sk_batched.proofs.Moves.{agrees}
use Rattle.sk_batched.proofs.Answering.{drawn_as, opened_deed, room_for}
use Rattle.sk_batched.proofs.Queues.{begins, same_seen}
use Rattle.sk_batched.proofs.batched.Batched.begin.Goals as goal

pub invariant_of-self-in-Ok : goal.invariant_of-self-in-Ok
invariant_of-self-in-Ok g c =
    let m = c.self.inside.kernel.parts in
    let q = c.self.inside.queue in
    let ts = c.self.inside.tokens.items in
    let h : IsInStep c.self.inside.kernel.parts q false ts = subst (λ b. IsInStep c.self.inside.kernel.parts q b ts) c.if-self.false c.self.invariant.0 in
    let may : is_err c.next_guess.result ≡ false = search rules in
    let more : c.push_reserved-in-Ok.new.self.items ≡ ts ++ c.in-Ok.token ∷ [] = search rules in
    let key : c.in_ok-key.key.items ≡ batch_key q.number = search rules in
    let written : c.push_reserved.new.self.items ≡ (c.in_ok-key.key, None) ∷ [] = search rules in
    let drawn : Takes bytes_cmp m (opening q.number) (Some q.number) c.guess.new.self.parts =
    (drawn_as m c.guess.new.self.parts _ (opening q.number) (next_of m.guesses) q.number
    (opened_deed (record { looked = c.new-step.result.looked; written = c.push_reserved.new.self; said = c.new-step.result.said }) q.number c.in_ok-key.key c.new-step.ensures.looked written key c.new-step.ensures.said)
    h.number c.in-Ok.ensures.ok) in (
      begins m c.guess.new.self.parts q ts c.push_reserved-in-Ok.new.self.items c.in-Ok.token h (room_for m c.next_guess.result may c.next_guess.ensures.may) c.in-Ok.ensures.token more drawn,
      taken_barred m c.guess.new.self.parts c.self.invariant.1 _ (agrees m (open_numbers q false) h.row) (opening q.number) (Some q.number) (opening_bars q.number) drawn,
    )

pub invariant_of-self-in-Err : goal.invariant_of-self-in-Err
invariant_of-self-in-Err g c =
    let same : c.reserve-2.new.self.items ≡ c.self.inside.tokens.items = search rules in (
      rw same (same_seen c.self.inside.kernel.parts c.self.inside.queue c.self.inside.begun c.self.inside.tokens.items c.self.invariant.0 c.guess.new.self.parts c.in-Err.ensures.err.parts),
      same_barred c.self.inside.kernel.parts c.guess.new.self.parts c.self.invariant.1 c.in-Err.ensures.err.parts,
    )
