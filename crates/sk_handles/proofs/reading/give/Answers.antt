-- The piece has room, and is sealed there.
use Rattle.sk_handles.proofs.Names.{rules, ◌≡◌, ◌+◌, ◌-◌, ◌<◌, ◌≤◌, ◌++◌, ◌^◌, ℕ, List, length, Ok, sym, ap, subst}
use Rattle.sk_handles.proofs.Names.{◌∙◌, arith, min-le_left, min-le_right, frame, Entries, IsPiece, IsGiven, NextIs}
use Rattle.std.proofs.Common.{drop}
use Rattle.sk_handles.proofs.Given.{piece_fits}
use Rattle.sk_handles.proofs.reading.give.Goals as goal

-- where the next entry has room, so has a piece
has_room : (entries left : Entries) (room most : ℕ) (payload : List ℕ) → NextIs entries room (Ok most) → IsPiece most entries payload left
    → (24 + length payload ≤ room) × (24 + length payload < 2 ^ 28)
has_room entries left room most payload (entry, begins, (fits, is)) piece =
    let here = subst (λ es. IsPiece most es payload left) begins.are piece in
    let low = min-le_left room (2 ^ 28 - 1) in
    let high = min-le_right room (2 ^ 28 - 1) in
    let short : length payload ≤ most = piece_fits most entry begins.rest left payload here (omega (arith, fits, is)) (omega (arith, is, high)) in
    (omega (arith, short, is, fits, low), omega (arith, short, is, fits, high))

given : (number most len : ℕ) (entries left : Entries) (room filled payload slice : List ℕ) → NextIs entries (length room) (Ok most)
    → IsPiece most entries payload left → slice ≡ payload → len ≡ 24 + length payload
    → filled ≡ frame 0 number slice ++ drop (24 + length slice) room → IsGiven number most len entries left room filled
given number most len entries left room filled payload slice next piece same is written = record {
  payload = payload;
  piece = piece;
  len_is = is;
  fits = omega (arith, is, (has_room entries left (length room) most payload next piece).0);
  written = written ∙ ap (λ p. frame 0 number p ++ drop (24 + length p) room) same ∙ ap (λ n. frame 0 number payload ++ drop n room) (sym is);
}

pub put_frame-requires : goal.put_frame-requires
put_frame-requires c =
    let same : c.as_slice.result.now ≡ c.in_ok-payload.payload.items = c.as_slice.ensures.value in
    subst (λ p. (24 + length p ≤ length c.args.room.now) × (24 + length p < 2 ^ 28)) (sym same)
    (has_room c.args.entries.now c.piece.new.self (length c.args.room.now) c.args.most c.in_ok-payload.payload.items c.requires c.in_ok-payload.ensures.ok)

pub returns-clause-ok : goal.returns-clause-ok
returns-clause-ok c =
    given c.args.number c.args.most _ c.args.entries.now c.piece.new.self c.args.room.now c.put_frame.new.room c.in_ok-payload.payload.items c.as_slice.result.now
    c.requires c.in_ok-payload.ensures.ok c.as_slice.ensures.value (search rules) c.put_frame.ensures
