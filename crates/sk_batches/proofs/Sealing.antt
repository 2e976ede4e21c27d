-- A frame that is sealed in the room that its payload was written into.
use Rattle.sk_batches.proofs.Names.{◌≡◌, ℕ, ◌+◌, ◌-◌, ◌≤◌, false, None, List, [], ◌++◌, length, take, drop, Result, Ok}
use Rattle.sk_batches.proofs.Names.{Err, refl, sym, ap, ◌∙◌, arith, nat_tests, IsErrAnd, append-nil, drop-drop}
use Rattle.sk_batches.proofs.Names.{length-append, length-drop, length-take-le, take_rest, drop-append_seam}
use Rattle.sk_batches.proofs.Names.{drop-length, take-append_seam, mid_of, post_of, put_mid, put_same, Post-is, frame}
use Rattle.sk_batches.proofs.Names.{Sealed, Refusal, cause_of, take_refused, frame_refused, FramePost, PlacesView}
use Rattle.sk_batches.proofs.Names.{QueueView}
use Rattle.std.proofs.Common.{nat_lt}
use Rattle.std.proofs.lemmas.List.{append_assoc}

-- the room with a payload behind the place of a head
abbrev pub filled : List ℕ → List ℕ → List ℕ
filled room payload = take 24 room ++ (payload ++ drop (length payload) (drop 24 room))

front_size : (room payload : List ℕ) → 24 ≤ length room → length (take 24 room ++ payload) ≡ 24 + length payload
front_size room payload large = length-append (take 24 room) payload ∙ ap (λ n. n + length payload) (length-take-le 24 room large)

pub front_of_filled : (room payload : List ℕ) → 24 ≤ length room → take (24 + length payload) (filled room payload) ≡ take 24 room ++ payload
front_of_filled room payload large =
    let rest = drop (length payload) (drop 24 room) in
    ap (take (24 + length payload)) (sym (append_assoc (take 24 room) payload rest))
    ∙ ap (λ n. take n ((take 24 room ++ payload) ++ rest)) (sym (front_size room payload large))
    ∙ take-append_seam (take 24 room ++ payload) rest

pub rest_of_filled : (room payload : List ℕ) → 24 ≤ length room → drop (24 + length payload) (filled room payload) ≡ drop (length payload) (drop 24 room)
rest_of_filled room payload large =
    let rest = drop (length payload) (drop 24 room) in
    ap (drop (24 + length payload)) (sym (append_assoc (take 24 room) payload rest))
    ∙ ap (λ n. drop n ((take 24 room ++ payload) ++ rest)) (sym (front_size room payload large))
    ∙ drop-append_seam (take 24 room ++ payload) rest

pub payload_in : (room payload : List ℕ) → 24 ≤ length room → drop 24 (take 24 room ++ payload) ≡ payload
payload_in room payload large =
    ap (λ n. drop n (take 24 room ++ payload)) (sym (length-take-le 24 room large)) ∙ drop-append_seam (take 24 room) payload

pub sealed_room : (room payload : List ℕ) (segment number : ℕ) → 24 ≤ length room → frame segment number (drop 24 (take (24 + length payload) (filled room payload))) ++ drop (24 + length payload) (filled room payload) ≡ frame segment number payload ++ drop (24 + length payload) room
sealed_room room payload segment number large =
    ap (λ f. frame segment number (drop 24 f) ++ drop (24 + length payload) (filled room payload)) (front_of_filled room payload large)
    ∙ ap (λ p. frame segment number p ++ drop (24 + length payload) (filled room payload)) (payload_in room payload large)
    ∙ ap (λ r. frame segment number payload ++ r) (rest_of_filled room payload large ∙ drop-drop (length payload) 24 room)

-- the room behind the place of a head is all the rest
pub part_len : (room : List ℕ) → length (mid_of 24 (length room - 24) room) ≡ length room - 24
part_len room = ap length (take_rest room 24) ∙ length-drop 24 room

-- what is written into it stands behind that place
pub written : (room payload new : List ℕ) → 24 ≤ length room → new ≡ payload ++ drop (length payload) (mid_of 24 (length room - 24) room) → put_mid 24 (length room - 24) room new ≡ filled room payload
written room payload new large is =
    let none : post_of 24 (length room - 24) room ≡ [] = Post-is 24 (length room) room large ∙ drop-length room in
    ap (λ n. take 24 room ++ (n ++ post_of 24 (length room - 24) room)) (is ∙ ap (λ d. payload ++ drop (length payload) d) (take_rest room 24))
    ∙ ap (λ r. take 24 room ++ ((payload ++ drop (length payload) (drop 24 room)) ++ r)) none
    ∙ ap (λ r. take 24 room ++ r) (append-nil (payload ++ drop (length payload) (drop 24 room)))

-- the frame is sealed at the front of the room
pub framed : (room payload new sealed : List ℕ) (segment number len : ℕ) → 24 ≤ length room → len ≡ length payload → new ≡ payload ++ drop (length payload) (mid_of 24 (length room - 24) room)
    → sealed ≡ frame segment number (drop 24 (take (24 + len) (put_mid 24 (length room - 24) room new)))
    → sealed ++ drop (24 + len) (put_mid 24 (length room - 24) room new) ≡ frame segment number payload ++ drop (24 + length payload) room
framed room payload new sealed segment number len large same is made =
    ap (λ s. s ++ drop (24 + len) (put_mid 24 (length room - 24) room new)) made
    ∙ ap (λ n. frame segment number (drop 24 (take (24 + n) (put_mid 24 (length room - 24) room new))) ++ drop (24 + n) (put_mid 24 (length room - 24) room new)) same
    ∙ ap (λ r. frame segment number (drop 24 (take (24 + length payload) r)) ++ drop (24 + length payload) r) (written room payload new large is)
    ∙ sealed_room room payload segment number large

pub above : (n : ℕ) → 24 ≤ n → nat_lt n 24 ≡ false
above n h = grind (arith, nat_tests)

-- after a refusal the room is as it was
pub unwritten : (room new : List ℕ) → new ≡ mid_of 24 (length room - 24) room → put_mid 24 (length room - 24) room new ≡ room
unwritten room new is = ap (put_mid 24 (length room - 24) room) is ∙ put_same 24 (length room - 24) room

-- want of memory, the only cause that is left, changes nothing
pub refused_frame : (r : Result Sealed Refusal) (why : Refusal) (q q' : QueueView) (p : PlacesView) (room new : List ℕ) → IsErrAnd r (λ e. e ≡ why) → frame_refused q p (length room) ≡ None
    → take_refused q (length room - 24) ≡ None → take_refused q (length (mid_of 24 (length room - 24) room)) ≡ cause_of why → q' ≡ q → new ≡ mid_of 24 (length room - 24) room
    → FramePost r q p room q' p (put_mid 24 (length room - 24) room new)
refused_frame (Ok sealed) why q q' p room new told none free cause same is = absurd told
refused_frame (Err e) why q q' p room new told none free cause same is =
    (none ∙ sym free ∙ ap (take_refused q) (sym (part_len room)) ∙ cause ∙ ap cause_of (sym told), same, refl, unwritten room new is)
