-- The record along a trace, one event further.
use Rattle.sk_counts.proofs.Names.{Some, subst, ◌∷◌, ◌≡◌, ◌+◌, arith, List, get_or, ap, ◌++◌, length, ℕ, drop, sym}
use Rattle.sk_counts.proofs.Names.{suc, ◌≤◌, take, ◌<◌, refl, [], ◌∙◌, map, take_more, take_all, take-append-drop}
use Rattle.sk_counts.proofs.Names.{map-append, max, most_up_to, record_at, KernelView, HasSoundTrace, plain, image}
use Rattle.sk_counts.proofs.Names.{is_made, seen, Fits, Standing, marked_is, undecided_is, entries_are, fresh_from}
use Rattle.sk_counts.proofs.Names.{sound_before, recorded_more, has, Record, all_recorded, recorded, no_record, Fail}
use Rattle.sk_counts.proofs.Names.{IsSound, EntryView, Event}
use Rattle.sk_trace.specs.declared.event.Event.TheVariants as events

module _ (k : KernelView) where
  abbrev pub after_first : ℕ → Record EntryView
  after_first i = all_recorded (plain k.scripts) k.start no_record (map image (take i k.trace))

  pub one_more : (i : ℕ) (x : Event) → i < length k.trace → x ≡ get_or k.trace i x → after_first (i + 1) ≡ recorded (plain k.scripts) k.start (after_first i) (image x)
  one_more i x lt is =
      ap (λ (es : List Event). all_recorded (plain k.scripts) k.start no_record (map image es)) (take_more k.trace i x lt ∙ ap (λ (y : Event). take i k.trace ++ y ∷ []) (sym is))
      ∙ ap (all_recorded (plain k.scripts) k.start no_record) (map-append image (take i k.trace) (x ∷ []))
      ∙ recorded_more (plain k.scripts) k.start no_record (map image (take i k.trace)) (image x)

  most_next : (i j most count new : ℕ) → j ≡ suc i → most ≡ most_up_to k i → count ≡ length (after_first j).undecided → new ≡ max most count → new ≡ most_up_to k j
  most_next i j most count new next before here is =
      is
      ∙ ap (λ m. max m count) before
      ∙ ap (λ n. max (most_up_to k i) n) (here ∙ ap (λ n. length (after_first n).undecided) next)
      ∙ sym (ap (most_up_to k) next)

  pub most_more : (i most count new : ℕ) → most ≡ most_up_to k i → count ≡ length (after_first (i + 1)).undecided → new ≡ max most count → new ≡ most_up_to k (i + 1)
  most_more i most count new before here is = most_next i (i + 1) most count new (omega arith) before here is

  pub all_entries : (i : ℕ) → length k.trace ≤ i → (after_first i).entries ≡ record_at k
  all_entries i past =
      ap (λ (es : List Event). (all_recorded (plain k.scripts) k.start no_record (map image es)).entries) (take_all i k.trace past)
      ∙ entries_are (plain k.scripts) k.start (map image k.trace)

  -- ---- what comes next may come
  front_sound : (n : ℕ) → HasSoundTrace k → IsSound (plain k.scripts) k.start (map image (take n k.trace))
  front_sound n whole =
      sound_before (plain k.scripts) k.start (map image (take n k.trace)) (map image (drop n k.trace))
      (subst (λ es. IsSound (plain k.scripts) k.start es) (sym (sym (map-append image (take n k.trace) (drop n k.trace)) ∙ ap (λ (es : List Event). map image es) (take-append-drop n k.trace))) whole.sound)

  fits_from : (i : ℕ) (x : Event) (s : Standing) → IsSound (plain k.scripts) k.start (map image (take i k.trace) ++ image x ∷ []) → seen s ≡ after_first i → Fits s x
  fits_from i (events.Step pid input) s sound is = tt
  fits_from i (events.Guess id pid input) s sound is =
      ap (λ (r : Record EntryView). is_made r.entries id) is
      ∙ sym (marked_is (plain k.scripts) k.start k.start (after_first i).entries id)
      ∙ (fresh_from (plain k.scripts) k.start (map image (take i k.trace)) (record { pid = pid; input = input; guess = Some id }) sound).1
  fits_from i (events.Commit id) s sound is = tt
  fits_from i (events.Fail id) s sound is =
      ap (λ (r : Record EntryView). has id r.undecided) is
      ∙ (undecided_is (plain k.scripts) k.start (map image (take i k.trace)) (sound_before (plain k.scripts) k.start (map image (take i k.trace)) (Fail id ∷ []) sound) id).1
      (sound.allowed (map image (take i k.trace)) [] (Fail id) refl)

  pub fits_next : (i : ℕ) (x : Event) (s : Standing) → i < length k.trace → x ≡ get_or k.trace i x → HasSoundTrace k → seen s ≡ after_first i → Fits s x
  fits_next i x s lt is whole stands =
      let next : map image (take (i + 1) k.trace) ≡ map image (take i k.trace) ++ image x ∷ [] =
      ap (λ (es : List Event). map image es) (take_more k.trace i x lt ∙ ap (λ (y : Event). take i k.trace ++ y ∷ []) (sym is)) ∙ map-append image (take i k.trace) (x ∷ []) in
      fits_from i x s (subst (λ es. IsSound (plain k.scripts) k.start es) next (front_sound (i + 1) whole)) stands
