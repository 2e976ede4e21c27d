-- The queue takes the frame's payload into the room behind the head, which is sealed in front of it.
use Rattle.sk_batches.proofs.Names.{◌≡◌, ◌+◌, ◌-◌, length, drop, take, ap, ◌∙◌, put_mid, frame, next_payload, sealed_of}
use Rattle.sk_batches.proofs.Names.{Sealed}
use Rattle.sk_batches.specs.Places.{behind}
use Rattle.sk_batches.proofs.Sealing.{framed, refused_frame}
use Rattle.sk_batches.proofs.frames.take_frame.Goals as goal

pub returns-in_err-taken : goal.returns-in_err-taken
returns-in_err-taken c =
    let may = c.in_ok-may_take_frame.ensures in
    let told = c.in_err-taken.ensures in
    refused_frame c.from_residual-in_err-taken.result c.in_err-taken.field-0.0 c.args.queue.now c.take.new.self c.args.places.now c.args.room.now c.take.new.room
    c.from_residual-in_err-taken.ensures.1 may.ok may.free told.0 told.1 told.2

pub returns : goal.returns
returns c =
    let q = c.args.queue.now in
    let p = c.args.places.now in
    let room = c.args.room.now in
    let len = c.next_len-len.ensures in
    let took = c.in_ok-taken.ensures in
    let place = c.advance-place.ensures.place in
    let number = ap (λ t. t.frame) took.1 in
    let made : Sealed = record { frame = c.in_ok-taken.taken.frame; segment = c.advance-place.result.segment; offset = c.advance-place.result.offset; len = 24 + c.next_len-len.result } in
    let answer : made ≡ sealed_of q p =
    (λ i. record { frame = number i; segment = (place i).segment; offset = (place i).offset; len = 24 + len i }) in
    let seal = c.seal.ensures
    ∙ (λ i. frame ((place i).segment) (number i) (drop 24 (take (24 + c.next_len-len.result) (put_mid 24 (length room - 24) room c.take.new.room)))) in (
      c.in_ok-may_take_frame.ensures.ok,
      answer,
      took.2,
      c.advance-place.ensures.left ∙ ap (behind p) len,
      framed room (next_payload q) c.take.new.room c.seal.new.room p.segment q.frame c.next_len-len.result c.in_ok-may_take_frame.ensures.head len took.3 seal,
    )
