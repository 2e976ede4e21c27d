-- One event more in an epoch: its trace is sound in the epoch where it is sound.
use Rattle.sk_kernel.proofs.Names.{◌≡◌, ℕ, ◌<◌, ◌≤◌, length, true, List, [], ◌∷◌, map, Option, Some, None, inl, inr}
use Rattle.sk_kernel.proofs.Names.{refl, ◌∙◌, ap, subst, arith, fold, list_any, or_left, or_right, eq-eqb, Happens}
use Rattle.sk_kernel.proofs.Names.{Taken, Commit, Fail, IsDrawn, IsSound, draws, drawn_more, is_drawn, Input, EntryView}
use Rattle.sk_kernel.proofs.Names.{Event, plain, image, KernelView, events_of, next_guess, number_after, with_event}
use Rattle.sk_kernel.proofs.Names.{HasSoundTrace}
use Rattle.sk_trace.specs.declared.event.Event.TheVariants as events
use Rattle.sk_kernel.proofs.Whole.{map_more, some_same}

module _ (k : KernelView) (sound : HasSoundTrace k) where
  -- each guess that these events make has a number above those of earlier epochs
  abbrev AllAbove : List Event → Type 0
  AllAbove es = (g : ℕ) → list_any (draws (plain k.scripts) g) (map image es) ≡ true → length k.earlier < g

  last_above : (es : List Event) (last : ℕ) → length k.earlier ≤ last → AllAbove es → length k.earlier ≤ fold number_after last es
  last_above [] last le all = le
  last_above (events.Step pid input ∷ es) last le all = last_above es last le (λ g here. all g here)
  last_above (events.Guess id pid input ∷ es) last le all =
      let less = all id (or_left _ _ (eq-eqb id id refl)) in
      last_above es id (omega (arith, less)) (λ g here. all g (or_right _ _ here))
  last_above (events.Commit id ∷ es) last le all = last_above es last le (λ g here. all g here)
  last_above (events.Fail id ∷ es) last le all = last_above es last le (λ g here. all g here)

  -- the next guess has one too
  pub next_above : length k.earlier < next_guess k
  next_above =
      let least = last_above k.trace (length k.earlier) (omega arith) (λ g here. sound.above g ((is_drawn (plain k.scripts) (events_of k) g).0 here)) in
      omega (arith, least)

  abbrev IsAbove : Happens EntryView → Type 0
  IsAbove e = (n : EntryView) (g : ℕ) → e ≡ Taken n → n.guess ≡ Some g → length k.earlier < g

  more : (e : Event) → IsSound (plain k.scripts) k.start (events_of (with_event k e)) → IsAbove (image e) → HasSoundTrace (with_event k e)
  more e is new = record {
    sound = is;
    decided = sound.decided;
    above = λ g drawn. elim (drawn_more (plain k.scripts) k.start (events_of k) (image e) g (subst (λ (es : List (Happens EntryView)). IsDrawn (plain k.scripts) es g) (map_more k.trace e) drawn)) [
      | inl before ↦ sound.above g before
      | inr here ↦ new here.0 g here.1 here.2
    ];
  }

  none_marked : (g : ℕ) → None ≡ Some g → length k.earlier < g
  none_marked g is = cc

  abbrev guess_of : Happens EntryView → Option ℕ
  guess_of (Taken n) = n.guess
  guess_of (Commit g) = None
  guess_of (Fail g) = None

  pub epoch_step : (pid : ℕ) (input : Input) → IsSound (plain k.scripts) k.start (events_of (with_event k (events.Step pid input))) → HasSoundTrace (with_event k (events.Step pid input))
  epoch_step pid input is = more (events.Step pid input) is (λ n g taken mark. none_marked g (ap guess_of taken ∙ mark))

  pub epoch_guess : (pid : ℕ) (input : Input) → IsSound (plain k.scripts) k.start (events_of (with_event k (events.Guess (next_guess k) pid input))) → HasSoundTrace (with_event k (events.Guess (next_guess k) pid input))
  epoch_guess pid input is =
      more (events.Guess (next_guess k) pid input) is (λ n g taken mark.
      let own : next_guess k ≡ g = some_same (next_guess k) g (ap guess_of taken ∙ mark) in
      let above = next_above in
      omega (arith, own, above))

  pub epoch_commit : (g : ℕ) → IsSound (plain k.scripts) k.start (events_of (with_event k (events.Commit g))) → HasSoundTrace (with_event k (events.Commit g))
  epoch_commit g is = more (events.Commit g) is (λ n h taken mark. none_marked h (ap guess_of taken ∙ mark))

  pub epoch_fail : (g : ℕ) → IsSound (plain k.scripts) k.start (events_of (with_event k (events.Fail g))) → HasSoundTrace (with_event k (events.Fail g))
  epoch_fail g is = more (events.Fail g) is (λ n h taken mark. none_marked h (ap guess_of taken ∙ mark))
