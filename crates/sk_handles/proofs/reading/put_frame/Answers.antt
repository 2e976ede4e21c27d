-- The payload stands behind the place of the head, which is sealed in front of it.
use Rattle.sk_handles.proofs.Names.{◌≡◌, ◌+◌, ◌≤◌, ◌++◌, length, take, sym, ap, ◌∙◌, arith, drop-drop, frame, filled}
use Rattle.sk_handles.proofs.Names.{sealed_room}
use Rattle.std.proofs.Common.{drop}
use Rattle.sk_handles.proofs.reading.put_frame.Goals as goal

pub returns : goal.returns
returns c =
    let room = c.args.room.now in
    let payload = c.args.payload.now in
    let behind = c.write_at.new.room in
    let n = 24 + length payload in
    let large : 24 ≤ length room = omega (arith, c.requires.0) in
    let is : behind ≡ filled room payload =
    c.write_at.ensures ∙ ap (λ r. take 24 room ++ (payload ++ r)) (sym (drop-drop (length payload) 24 room)) in
    ap (λ s. s ++ drop n behind) c.seal.ensures
    ∙ ap (λ r. frame 0 c.args.number (drop 24 (take n r)) ++ drop n r) is
    ∙ sealed_room room payload 0 c.args.number large
