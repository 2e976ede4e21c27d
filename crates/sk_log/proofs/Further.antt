-- Further crashes, and what is written on.
use Rattle.sk_log.proofs.Names.{◌≡◌, ℕ, zero, suc, ◌+◌, ◌-◌, ◌≤◌, List, [], ◌∷◌, ◌++◌, length, slice_index, take, ◌∙◌}
use Rattle.sk_log.proofs.Names.{ap, inl, inr, arith, length-append, get_or_append_left, get_or-drop, get_or_past}
use Rattle.sk_log.proofs.Names.{cases_lt, frame, log, CrashesAgain, GoesOn, CrashesAreShort}
use Rattle.sk_log.proofs.Crash.{crash_keeps_prefix}
use Rattle.sk_log.proofs.Blanked.{log_append, faded_twice}

log_len_take : (segment number m n : ℕ) (ps : List (List ℕ)) → m ≤ n → length (log segment number (take m ps)) ≤ length (log segment number (take n ps))
log_len_take segment number zero n ps less = omega arith
log_len_take segment number (suc m) zero ps less = absurd (omega (arith, less))
log_len_take segment number (suc m) (suc n) [] less = omega arith
log_len_take segment number (suc m) (suc n) (p ∷ ps) less =
    omega (arith, length-append (frame segment number p) (log segment (suc number) (take m ps)), length-append (frame segment number p) (log segment (suc number) (take n ps)), log_len_take segment (suc number) m n ps (omega (arith, less)))

pub crashes_again : CrashesAgain
crashes_again segment number synced payloads before after crashed blanked = record {
  frames = crashed.frames;
  within = crashed.within;
  room = omega (arith, crashed.room, blanked.room);
  faded = faded_twice (log segment number payloads) before after crashed.faded blanked.faded;
  kept = λ i lt. blanked.keeps i lt ∙ crashed.kept i lt;
}

pub goes_on : GoesOn
goes_on segment number synced read more before left written = record {
  frames = written.frames;
  within = written.within;
  room = written.room;
  faded = λ i.
      let front = log segment number read in
      let behind = log segment (number + length read) more in
      let all : slice_index (log segment number (read ++ more)) i ≡ slice_index (front ++ behind) i = ap (λ (xs : List ℕ). slice_index xs i) (log_append segment number read more) in
      elim (written.old_or_new i) [
        | inr new ↦ omega (arith, new)
        | inl old ↦ elim (cases_lt i (length front)) [
          | inl low ↦ omega (arith, old, written.zeros i, all, get_or_append_left front behind 0 i low)
          | inr past ↦ omega (arith, old, written.zeros i, get_or_past front i 0 past)
        ]
      ];
  kept = written.kept;
}

pub crashes_are_short : CrashesAreShort
crashes_are_short segment number synced in_flight n payloads read left crashed is few uses =
    let got = crash_keeps_prefix segment number synced payloads read left crashed is in
    let long = log_len_take segment number synced got.0 payloads got.1 in
    let same : length (log segment number read) ≡ length (log segment number (take got.0 payloads)) = ap (λ ps. length (log segment number ps)) got.3 in
    let front = length (log segment number read) in
    elim (cases_lt in_flight n) [
      | inr low ↦ low
      | inl more ↦
          let i = n - 1 in
          let zero_there : slice_index left (front + i) ≡ 0 = omega (arith, crashed.faded (front + i), get_or_past (log segment number payloads) (front + i) 0 (omega (arith, long, same, few, more))) in
          absurd (uses.last i (omega (arith, more)) (get_or-drop front left i 0 ∙ zero_there))
    ]
