-- The next frame is taken, or why it is not.
use Rattle.sk_led.proofs.Names.{◌≡◌, ℕ, List, length, Err, subst, rules, err_from_is_err_and, FramePost, TakePost}
use Rattle.sk_batches.specs.declared.refusal.Refusal.TheVariants.{Full}
use Rattle.sk_led.proofs.Last.{not_turned, taken_at_first, taken_behind, turned}
use Rattle.sk_led.proofs.winding.take.Goals as goal

pub returns-in_err-turn : goal.returns-in_err-turn
returns-in_err-turn c =
    let is : c.take_frame-taken.result ≡ Err Full = search rules in
    let p = err_from_is_err_and c.from_residual.result c.from_residual.ensures.1 in
    let full = subst (λ r. FramePost r c.args.room.now c.take_frame-taken.new.room c.args.store.now c.take_frame-taken.new.self) is
    c.take_frame-taken.ensures in
    rw (p.1, p.2) (not_turned c.in_err-turn.field-0.0 c.args.store.now c.take_frame-taken.new.self c.turn.new.self c.args.room.now
    c.take_frame-taken.new.room full c.in_err-turn.ensures)

pub returns-then-is_full : goal.returns-then-is_full
returns-then-is_full c =
    let is : c.take_frame-taken.result ≡ Err Full = search rules in
    let full = subst (λ r. FramePost r c.args.room.now c.take_frame-taken.new.room c.args.store.now c.take_frame-taken.new.self) is
    c.take_frame-taken.ensures in
    let goes = turned c.args.store.now c.take_frame-taken.new.self c.turn.new.self c.args.room.now c.take_frame-taken.new.room full
    c.in_ok-turn.ensures in
    subst (λ (room : List ℕ). TakePost c.take_frame.result (length room) c.args.store.now c.take_frame.new.self) full.0.3
    (taken_behind c.take_frame.result c.args.store.now c.turn.new.self c.take_frame.new.self c.take_frame-taken.new.room
    c.take_frame.new.room goes c.take_frame.ensures)

pub returns : goal.returns
returns c =
    let not : c.take_frame-taken.result ≡ Err Full → ⊥ = search rules in
    taken_at_first c.take_frame-taken.result c.args.store.now c.take_frame-taken.new.self c.args.room.now c.take_frame-taken.new.room not
    c.take_frame-taken.ensures
