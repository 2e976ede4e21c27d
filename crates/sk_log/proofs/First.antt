-- What the first frame of a segment tells after a crash.
use Rattle.sk_log.proofs.Names.{append_assoc, ◌≡◌, ℕ, zero, suc, ◌<◌, ◌≤◌, ◌^◌, List, [], ◌∷◌, ◌++◌, length, slice_index, take, drop}
use Rattle.sk_log.proofs.Names.{sum, sym, ◌∙◌, ap, subst, arith, length-append, take-append-drop, get_or_append_left}
use Rattle.sk_log.proofs.Names.{head_of, head, frame, Ends, log, AreFrames, IsFaded, Keeps, Crashed}
use Rattle.sk_log.proofs.Digits.{limit-eight, same_digits, length-head_of, length-head, first-head_of}
use Rattle.sk_log.proofs.Fade.{faded_parts, faded_head, front_numbers}
use Rattle.sk_log.proofs.Crash.{kept_frame}

first_of_frames : (segment number n len total : ℕ) (payloads : List (List ℕ)) (left more : List ℕ) → AreFrames segment number payloads → n < 2 ^ 56
    → IsFaded (log segment number payloads) left → left ≡ head_of segment n len total ++ more → n ≡ number
first_of_frames segment number n len total [] left more fine small faded is =
    let at : slice_index left 0 ≡ slice_index (head_of segment n len total) 0 =
    ap (λ (xs : List ℕ). slice_index xs 0) is ∙ get_or_append_left (head_of segment n len total) more 0 0 (omega (arith, length-head_of segment n len total)) in
    absurd (omega (arith, at, faded 0, first-head_of segment n len total))
first_of_frames segment number n len total (f ∷ fs) left more fine small faded is =
    let behind = f ++ log segment (suc number) fs in
    let written : IsFaded (head segment number f ++ behind) left = subst (λ w. IsFaded w left) (append_assoc (head segment number f) f (log segment (suc number) fs)) faded in
    let heads = faded_parts (head segment number f) (head_of segment n len total) behind more (length-head segment number f ∙ sym (length-head_of segment n len total)) (subst (IsFaded (head segment number f ++ behind)) is written) in
    let digits = front_numbers segment n len total segment number (length f) (sum f) (faded_head segment number (length f) (sum f) segment n len total heads.0) in
    same_digits 8 n number (omega (arith, limit-eight, small)) (omega (arith, limit-eight, fine.0.number_small)) digits

pub first_is : (segment number synced n len total : ℕ) (payloads : List (List ℕ)) (left : List ℕ) → Crashed segment number payloads synced left → n < 2 ^ 56
    → take 24 left ≡ head_of segment n len total → n ≡ number
first_is segment number synced n len total payloads left crashed small is =
    first_of_frames segment number n len total payloads left (drop 24 left) crashed.frames small crashed.faded (sym (take-append-drop 24 left) ∙ ap (λ xs. xs ++ drop 24 left) is)

first_kept : (segment number synced : ℕ) (payloads : List (List ℕ)) (left : List ℕ) → AreFrames segment number payloads → 0 < synced → synced ≤ length payloads
    → length (log segment number payloads) ≤ length left → Keeps (length (log segment number (take synced payloads))) (log segment number payloads) left → Ends segment number left → ⊥
first_kept segment number zero payloads left fine some within room kept ends = omega (arith, some)
first_kept segment number (suc m) [] left fine some within room kept ends = omega (arith, within)
first_kept segment number (suc m) (f ∷ fs) left fine some within room kept ends =
    let len = length-append (frame segment number f) (log segment (suc number) fs) in
    let len' = length-append (frame segment number f) (log segment (suc number) (take m fs)) in
    ends f (drop (length (frame segment number f)) left) fine.0 (kept_frame (frame segment number f) (log segment (suc number) fs) left _ (omega (arith, len, room)) (omega (arith, len')) kept)

-- Where a frame was told as synced, one stands at the front.
pub first_stands : (segment number synced : ℕ) (payloads : List (List ℕ)) (left : List ℕ) → Crashed segment number payloads synced left → 0 < synced → Ends segment number left → ⊥
first_stands segment number synced payloads left crashed some = first_kept segment number synced payloads left crashed.frames some crashed.within crashed.room crashed.kept
