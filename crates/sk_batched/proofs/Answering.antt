-- What calls of the kernel leave of the step that kernel and queue keep, whatever they answer.
use Rattle.sk_batched.proofs.Names.{◌≡◌, ℕ, ◌+◌, ◌<◌, ◌≤◌, Bool, true, false, cond, is_err, List, [], ◌∷◌, length, map}
use Rattle.sk_batched.proofs.Names.{Option, Some, None, Result, Ok, Err, inl, inr, refl, sym, ◌∙◌, ap, subst, arith, nat_lt}
use Rattle.sk_batched.proofs.Names.{OnErr, OnOk, Vec, vec_items, true≢false, leb-false, ltb-false, Token, bytes_cmp}
use Rattle.sk_batched.proofs.Names.{Deed, Refuses, Takes, Parts, IsSame, WholeStep, Unchanged, byte_deed, ByteView}
use Rattle.sk_batched.proofs.Names.{QueueView, FramePost, PlacesView, Sealed, Refusal, batch_key, capped, opening}
use Rattle.sk_batched.proofs.Names.{BatchedView, Begins, Draws, IsStill, MayBegin, IsInStep, open_numbers}
use Rattle.std.proofs.lemmas.Option.{none-some, same_Some}
use Rattle.sk_batches.specs.Calls.{append_refused}
use Rattle.sk_batches.specs.Queue.{undecided}
use Rattle.sk_batches.specs.declared.refusal.Refusal.TheVariants as queued
use Rattle.sk_batched.specs.Base.{TooMany, option_map, option_or}
use Rattle.sk_batched.specs.Batched.{is_full, log_refused}
use Rattle.sk_batched.specs.Refused.{cause_of, refusal_of, step_refused}
use Rattle.sk_speculator.specs.declared.refusal.Refusal.TheVariants as inner
use Rattle.sk_batched.proofs.Moves.{agrees, status_in, Spares}
use Rattle.sk_batched.specs.Barred.{HasNoneBarred}
use Rattle.sk_batched.proofs.Barred.{same_barred, taken_barred, Bars}
use Rattle.sk_batched.proofs.Queues.{same_seen, step_taken, taken}
use Rattle.sk_batched.proofs.Same.{all_same, takes_to}

pub capped_small : (most : ℕ) → capped most ≤ 63
capped_small most = elim (nat_lt 63 most) as (λ b. nat_lt 63 most ≡ b → cond b 63 most ≤ 63) [
  | true ↦ λ _. omega arith
  | false ↦ λ is. let le = ltb-false 63 most is in omega (arith, le)
] refl

-- what holds between calls
abbrev pub Keeps : {V O : Type 0} → Parts (List ℕ) V O → QueueView → Bool → List Token → Type 0
Keeps m q begun ts = IsInStep m q begun ts × HasNoneBarred m

-- a step is taken or refused
pub step_or_not : {V O E : Type 0} (r : Result (Unit {0}) E) (old new : ByteView V O) (q : QueueView) (begun : Bool) (ts : List Token) (d : Deed (List ℕ) V O) → Spares d → Bars d.written
    → OnOk r (Takes bytes_cmp old.parts d None new.parts) → OnErr r (Unchanged old new) → Keeps old.parts q begun ts → Keeps new.parts q begun ts
step_or_not (Ok u) old new q begun ts d spares bars takes still h = (
  step_taken old.parts q begun ts h.0 new.parts d spares takes,
  taken_barred old.parts new.parts h.1 (status_in (open_numbers q begun)) (agrees old.parts (open_numbers q begun) h.0.row) d None bars takes,
)
step_or_not (Err why) old new q begun ts d spares bars takes still h =
    (same_seen old.parts q begun ts h.0 new.parts still.parts, same_barred old.parts new.parts h.1 still.parts)

-- there is room for one guess more
pub room_for : {V O E : Type 0} (m : Parts (List ℕ) V O) (r : Result ℕ E) → is_err r ≡ false → OnOk r (Refuses m inner.Memory) → length m.opens < m.guesses.limit
room_for m (Ok id) is may = leb-false m.guesses.limit (length m.opens) may.0
room_for m (Err why) is may = absurd (true≢false is)

-- the step that draws a guess
pub opened_deed : {V O : Type 0} (step : WholeStep (Vec ℕ) V O) (number : ℕ) (key : Vec ℕ) → step.looked.items ≡ [] → step.written.items ≡ (key, None) ∷ [] → key.items ≡ batch_key number → step.said ≡ None
    → byte_deed step ≡ opening number
opened_deed {V} step number key looked written named said = (λ i. record {
  looked = map vec_items (looked i);
  written = (map (λ (w : Vec ℕ × Option V). (vec_items w.0, w.1)) (written i));
  said = said i;
}) ∙ (λ i. record { looked = []; written = (named i, None) ∷ []; said = None })

pub drawn_as : {V O : Type 0} (a b : Parts (List ℕ) V O) (d e : Deed (List ℕ) V O) (g n : ℕ) → d ≡ e → g ≡ n → Takes bytes_cmp a d (Some g) b → Takes bytes_cmp a e (Some n) b
drawn_as a b d e g n same next takes = subst (λ m. Takes bytes_cmp a e (Some m) b) next (subst (λ f. Takes bytes_cmp a f (Some g) b) same takes)

-- a guess was drawn where it was not, and then a step refused
pub still_parts : {V O : Type 0} (old new : ByteView V O) → IsStill old new → IsSame bytes_cmp old.parts new.parts
still_parts old new (inl is) = subst (λ (b : ByteView _ _). IsSame bytes_cmp old.parts b.parts) (sym is) (all_same bytes_cmp old.parts)
still_parts old new (inr still) = still.parts

module _ {V O : Type 0} (old mid new : BatchedView V O) where
  began_by : (b : Bool) → old.begun ≡ b → Draws b old.kernel old.queue.number mid.kernel → mid.queue ≡ old.queue → mid.begun ≡ true → IsStill mid.kernel new.kernel → new.queue ≡ mid.queue → new.begun ≡ mid.begun → MayBegin old new
  began_by true is same queue begun still queue_too begun_too =
      inl (record { kernel = subst (λ k. IsStill k new.kernel) same still; queue = queue_too ∙ queue; begun = begun_too ∙ begun ∙ sym is })
  began_by false is takes queue begun still queue_too begun_too =
      inr (is, (subst (λ b. Draws b old.kernel old.queue.number new.kernel) (sym is) (takes_to bytes_cmp old.kernel.parts mid.kernel.parts new.kernel.parts (opening old.queue.number) (Some old.queue.number) (still_parts mid.kernel new.kernel still) takes), queue_too ∙ queue, begun_too ∙ begun))

  pub began_still : Begins old mid → IsStill mid.kernel new.kernel → new.queue ≡ mid.queue → new.begun ≡ mid.begun → MayBegin old new
  began_still (draws, queue, begun) still queue_too begun_too = began_by old.begun refl draws queue begun still queue_too begun_too

-- the next frame is taken or refused
pub sent : {V O : Type 0} (r : Result Sealed Refusal) (m : Parts (List ℕ) V O) (q q' : QueueView) (p p' : PlacesView) (room filled : List ℕ) (ts : List Token) → FramePost r q p room q' p' filled → IsInStep m q true ts → IsInStep m q' (is_err r) ts
sent (Ok sealed) m q q' p p' room filled ts post h = subst (λ x. IsInStep m x false ts) (sym post.2) (taken m q ts h)
sent (Err why) m q q' p p' room filled ts post h = subst (λ x. IsInStep m x true ts) (sym post.1) h

-- what the queue says against one record more is told as its cause
module _ (q : QueueView) (len : ℕ) (why : Refusal) where
  refused_by : (stopped full : Bool) → cond stopped (Some queued.Stopped) (cond full (Some queued.Full) None) ≡ Some why → cause_of (refusal_of why) ≡ Some (refusal_of why)
  refused_by true full is = subst (λ w. cause_of (refusal_of w) ≡ Some (refusal_of w)) (same_Some queued.Stopped why is) refl
  refused_by false true is = subst (λ w. cause_of (refusal_of w) ≡ Some (refusal_of w)) (same_Some queued.Full why is) refl
  refused_by false false is = absurd (none-some why is)

  pub refused_as : append_refused q len ≡ Some why → cause_of (refusal_of why) ≡ Some (refusal_of why)
  refused_as is = refused_by q.stopped (nat_lt q.most_bytes (undecided q + len)) is

pub log_refused_by : {V O : Type 0} (b : BatchedView V O) (step : WholeStep (Vec ℕ) V O) (len : ℕ) (why : Refusal) → step_refused step ≡ None → append_refused b.queue len ≡ Some why
    → log_refused b step len ≡ Some (refusal_of why)
log_refused_by b step len why free is =
    ap (λ o. option_or o (option_or (option_map refusal_of (append_refused b.queue len)) (cond (is_full b) (Some TooMany) None))) free
    ∙ ap (λ o. option_or (option_map refusal_of o) (cond (is_full b) (Some TooMany) None)) is
