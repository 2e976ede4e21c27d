-- Blanking behind the frames that were read.
use Rattle.sk_log.proofs.Names.{append_assoc, ◌≡◌, ℕ, suc, ◌+◌, ◌≤◌, List, [], ◌∷◌, ◌++◌, length, slice_index, take, drop, sym, ◌∙◌}
use Rattle.sk_log.proofs.Names.{ap, subst, inl, inr, arith, length-append, add-zero, take-append-drop, take_at}
use Rattle.sk_log.proofs.Names.{get_or_append_left, get_or-drop, get_or_past, cases_lt, frame, Ends, log, AreFrames}
use Rattle.sk_log.proofs.Names.{IsLog, IsFaded, Keeps, BlankingKeeps}
use Rattle.sk_log.proofs.Fade.{faded_tail, torn_is_told}
use Rattle.sk_log.proofs.Crash.{no_frame, kept_frame, crash_keeps_prefix}

pub faded_twice : (written left after : List ℕ) → IsFaded written left → IsFaded left after → IsFaded written after
faded_twice written left after one two i = omega (arith, one i, two i)

module _ (segment : ℕ) where
  pub log_append : (number : ℕ) (ps qs : List (List ℕ)) → log segment number (ps ++ qs) ≡ log segment number ps ++ log segment (number + length ps) qs
  log_append number [] qs = ap (λ n. log segment n qs) (sym (add-zero number))
  log_append number (p ∷ ps) qs =
      let next : suc number + length ps ≡ number + length (p ∷ ps) = omega arith in
      ap (λ xs. frame segment number p ++ xs) (log_append (suc number) ps qs ∙ ap (λ n. log segment (suc number) ps ++ log segment n qs) next)
      ∙ sym (append_assoc (frame segment number p) (log segment (suc number) ps) (log segment (number + length (p ∷ ps)) qs))

  pub frames_tail : (number : ℕ) (ps qs : List (List ℕ)) → AreFrames segment number (ps ++ qs) → AreFrames segment (number + length ps) qs
  frames_tail number [] qs fine = subst (λ n. AreFrames segment n qs) (sym (add-zero number)) fine
  frames_tail number (p ∷ ps) qs fine =
      let next : suc number + length ps ≡ number + length (p ∷ ps) = omega arith in
      subst (λ n. AreFrames segment n qs) next (frames_tail (suc number) ps qs fine.1)

  -- What was torn stays torn.
  stays_torn : (number : ℕ) (frames : List (List ℕ)) (rest after : List ℕ) → AreFrames segment number frames → length (log segment number frames) ≤ length rest
      → IsFaded (log segment number frames) rest → IsFaded rest after → Ends segment number rest → Ends segment number after
  stays_torn number [] rest after fine room faded blanked ends p more made is = no_frame segment number p more (subst (IsFaded []) is (faded_twice [] rest after faded blanked))
  stays_torn number (f ∷ fs) rest after fine room faded blanked ends p more made is =
      let written = log segment (suc number) fs in
      let same : p ≡ f = (torn_is_told segment number segment number f p written more fine.0 made (subst (IsFaded (log segment number (f ∷ fs))) is (faded_twice (log segment number (f ∷ fs)) rest after faded blanked))).2 in
      let here : after ≡ frame segment number f ++ more = is ∙ ap (λ q. frame segment number q ++ more) same in
      let keeps : Keeps (length (frame segment number f)) (frame segment number f ++ written) rest = λ i lt.
      let a : slice_index after i ≡ slice_index (frame segment number f) i = ap (λ (xs : List ℕ). slice_index xs i) here ∙ get_or_append_left (frame segment number f) more 0 i lt in
      let b : slice_index (frame segment number f ++ written) i ≡ slice_index (frame segment number f) i = get_or_append_left (frame segment number f) written 0 i lt in
      omega (arith, a, b, blanked i, faded i) in
      ends f (drop (length (frame segment number f)) rest) fine.0
      (kept_frame (frame segment number f) written rest (length (frame segment number f)) (omega (arith, length-append (frame segment number f) written)) (omega arith) keeps)

pub blanking_keeps : BlankingKeeps
blanking_keeps segment number synced payloads read before after crashed is blanked =
    let got = crash_keeps_prefix segment number synced payloads read before crashed is in
    let qs = drop got.0 payloads in
    let split : payloads ≡ read ++ qs = sym (take-append-drop got.0 payloads) ∙ ap (λ xs. xs ++ qs) (sym got.3) in
    let logs : log segment number payloads ≡ log segment number read ++ log segment (number + length read) qs = ap (log segment number) split ∙ log_append segment number read qs in
    let front = log segment number read in
    let rest = is.rest in
    let rest' = drop (length front) after in
    let long = length-append front rest in
    let there : after ≡ front ++ rest' = kept_frame front rest after (length front) (omega (arith, ap length is.begins, blanked.room, long)) (omega arith) (subst (λ b. Keeps (length front) b after) is.begins blanked.keeps) in
    let faded : IsFaded (log segment (number + length read) qs) rest =
    faded_tail front (log segment (number + length read) qs) rest (subst (λ w. IsFaded w (front ++ rest)) logs (subst (IsFaded (log segment number payloads)) is.begins crashed.faded)) in
    let blank : IsFaded rest rest' = faded_tail front rest rest' (subst (λ b. IsFaded b (front ++ rest')) is.begins (subst (IsFaded before) there blanked.faded)) in
    let room = length-append front (log segment (number + length read) qs) in
    record {
      frames = is.frames;
      rest = rest';
      begins = there;
      ends = stays_torn segment (number + length read) qs rest rest' (frames_tail segment number read qs (subst (AreFrames segment number) split crashed.frames))
          (omega (arith, ap length logs, room, crashed.room, ap length is.begins, long)) faded blank is.ends;
    }

-- Zeros stand behind the frames that were read.
module _ (segment number place : ℕ) (payloads : List (List ℕ)) (old new : List ℕ) (is : IsLog segment number payloads old) (ends : place ≡ length (log segment number payloads))
    (kept : take place new ≡ take place old) (zeros : (i : ℕ) → place ≤ i → slice_index new i ≡ 0) where
  front_is : new ≡ log segment number payloads ++ drop place new
  front_is =
      sym (take-append-drop place new) ∙ ap (λ xs. xs ++ drop place new) (kept ∙ ap (take place) is.begins ∙ take_at (log segment number payloads) is.rest place (sym ends))

  pub blanked_log : IsLog segment number payloads new
  blanked_log = record {
    frames = is.frames;
    rest = drop place new;
    begins = front_is;
    ends = λ p more made begins. no_frame segment (number + length payloads) p more
        (λ i. omega (arith, ap (λ (xs : List ℕ). slice_index xs i) begins, get_or-drop place new i 0, zeros (place + i) (omega arith)));
  }

  pub blanked_ready : (i : ℕ) → slice_index new i ≡ slice_index (log segment number payloads) i
  blanked_ready i = elim (cases_lt i place) [
    | inl low ↦ ap (λ (xs : List ℕ). slice_index xs i) front_is ∙ get_or_append_left (log segment number payloads) (drop place new) 0 i (omega (arith, ends, low))
    | inr past ↦ zeros i past ∙ sym (get_or_past (log segment number payloads) i 0 (omega (arith, ends, past)))
  ]
