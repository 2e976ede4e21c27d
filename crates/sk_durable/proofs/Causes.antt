-- Why work is not carried out is why its step is not taken.
use Rattle.sk_durable.proofs.Names.{arith, ◌≡◌, ℕ, Bool, true, false, cond, ◌||◌, List, [], ◌∷◌, length, Option, Some}
use Rattle.sk_durable.proofs.Names.{None, Result, Ok, Err, inl, inr, ⊎_elim, refl, sym, ap, ◌∙◌, subst, nat_lt}
use Rattle.sk_durable.proofs.Names.{IfSome, OnErr, OnOk, list_any, option_map, option_or, IsErr, IsErrAnd, released}
use Rattle.sk_durable.proofs.Names.{said_at, TakesOut, Deed, KEY_LIMIT, has_long_key, byte_deed, append_refused}
use Rattle.sk_durable.proofs.Names.{Queued, Reserved, is_full, log_refused, LogPost, Stays, is_reserved}
use Rattle.sk_durable.proofs.Names.{has_reserved_key, refusal_of, step_refused, any_touched, Work, Answer, log_text}
use Rattle.sk_durable.proofs.Names.{may_write_some, Asked, NotDone, Asker, against, asked_by, ahead_in, deed_now}
use Rattle.sk_durable.proofs.Names.{names_wrong, touched, Batches, CarryPost, IsAhead, IsHanded, IsNotDone}
use Rattle.sk_durable.proofs.Names.{KnowsIfTold, LetsOut, TakesAlone, WorkStep}
use Rattle.std.proofs.lemmas.Bool.Decides.{nat_tests}
use Rattle.sk_batched.specs.declared.refusal.Refusal.{Refusal}
use Rattle.sk_batched.specs.declared.refusal.Refusal.TheVariants.{LongKey, TooMany, Memory}
use Rattle.sk_batched.specs.Batched.{TakePost}
use Rattle.sk_durable.specs.declared.refusal.NotDone.TheVariants as undone
use Rattle.sk_durable.specs.Refused as told
use Rattle.sk_durable.specs.Works.{RestorePost}

abbrev Done : Type 0
Done = Deed (List ℕ) (List ℕ) (ℕ × Answer)

-- ---- what a step names

mixed : (a b c d : Bool) → ((a || b) || (c || d)) ≡ ((a || c) || (b || d))
mixed true b c d = refl
mixed false true true d = refl
mixed false true false d = refl
mixed false false c d = refl

module _ (p q : List ℕ → Bool) where
  pub either : (keys : List (List ℕ)) → list_any (λ k. p k || q k) keys ≡ (list_any p keys || list_any q keys)
  either [] = refl
  either (k ∷ keys) = ap (λ b. (p k || q k) || b) (either keys) ∙ mixed (p k) (q k) (list_any p keys) (list_any q keys)

abbrev pub too_long : List ℕ → Bool
too_long k = nat_lt KEY_LIMIT (length k)

long_is : (step : WorkStep) → list_any too_long (touched (byte_deed step)) ≡ has_long_key step
long_is step = any_touched too_long step.looked.items step.written.items

reserved_is : (step : WorkStep) → list_any is_reserved (touched (byte_deed step)) ≡ has_reserved_key step
reserved_is step = any_touched is_reserved step.looked.items step.written.items

pub wrong_is : (step : WorkStep) → names_wrong (byte_deed step) ≡ (has_long_key step || has_reserved_key step)
wrong_is step =
    either too_long is_reserved (touched (byte_deed step)) ∙ (λ i. long_is step i || reserved_is step i)

-- ---- causes, and what they are told as

abbrev told_as : Option Refusal → Option NotDone
told_as first = option_map told.step_refused first

-- a key is too long, or reserved
abbrev of_step : Bool → Bool → Option Refusal
of_step long reserved = cond long (Some LongKey) (cond reserved (Some Reserved) None)

-- what the queue says, or that as many batches are undecided as may be
abbrev of_queue : Option Queued → Bool → Option Refusal
of_queue queued full = option_or (option_map refusal_of queued) (cond full (Some TooMany) None)

step_told : (long reserved : Bool) (rest : Option Refusal)
    → told_as (option_or (of_step long reserved) rest) ≡ cond (long || reserved) (Some undone.LongKey) (told_as rest)
step_told true reserved rest = refl
step_told false true rest = refl
step_told false false rest = refl

step_alone : (long reserved : Bool)
    → told_as (of_step long reserved) ≡ cond (long || reserved) (Some undone.LongKey) None
step_alone true reserved = refl
step_alone false true = refl
step_alone false false = refl

queue_told : (queued : Option Queued) (full : Bool)
    → told_as (of_queue queued full)
    ≡ option_or (option_map (λ why. told.step_refused (refusal_of why)) queued) (cond full (Some undone.TooMany) None)
queue_told (Some why) full = refl
queue_told None true = refl
queue_told None false = refl

not_full : (first : Option Refusal) (queued : Option Queued) (full : Bool)
    → option_or first (of_queue queued full) ≡ None → full ≡ false
not_full (Some why) queued full is = cc
not_full None (Some why) full is = cc
not_full None None true is = cc
not_full None None false is = refl

first_none : (first rest : Option Refusal) → option_or first rest ≡ None → first ≡ None
first_none None rest is = refl
first_none (Some why) rest is = is

none_reserved : (long reserved : Bool) → of_step long reserved ≡ None → reserved ≡ false
none_reserved true reserved is = cc
none_reserved false true is = cc
none_reserved false false is = refl

-- ---- work whose step is handed in

module _ (b : Batches) (asker : Asker) (work : Work) (step : WorkStep) (h : IsHanded b.kernel asker work step) where
  abbrev asked : Asked
  asked = asked_by asker h.known work

  abbrev queued : ℕ → Option Queued
  queued len = append_refused b.queue len

  abbrev now : Done
  now = deed_now b.kernel asked

  wrong_now : (has_long_key step || has_reserved_key step) ≡ names_wrong now
  wrong_now = sym (wrong_is step) ∙ ap (λ (d : Done). names_wrong d) h.does

  logs_against : may_write_some work ≡ true → (bytes : List ℕ) → bytes ≡ log_text work
      → told_as (log_refused b step (length bytes)) ≡ against b asked
  logs_against writes bytes is =
      grind (arith, nat_tests, step_told (has_long_key step) (has_reserved_key step), wrong_now, queue_told)

  takes_against : may_write_some work ≡ false → told_as (step_refused step) ≡ against b asked
  takes_against reads = grind (arith, nat_tests, step_alone (has_long_key step) (has_reserved_key step), wrong_now)

  plain : step_refused step ≡ None → list_any is_reserved (touched now) ≡ false
  plain none =
      grind (arith, nat_tests, reserved_is step, none_reserved (has_long_key step) (has_reserved_key step) none)

  -- nothing is done, for this cause
  abbrev Left : NotDone → Batches → Type 0
  Left cause c =
      (known : List (List ℕ)) × KnowsIfTold b.kernel work known × (against b (asked_by asker known work) ≡ Some cause)
      × Stays b c

  left : (c : Batches) (first : Option Refusal) (why : Refusal) → told_as first ≡ against b asked → first ≡ Some why
      → Stays b c → Left (told.step_refused why) c
  left c first why is at stays = (h.known, h.knows, sym is ∙ ap told_as at, stays)

  still : (c : Batches) → c ≡ b → Stays b c
  still c same = grind (arith, nat_tests)

  -- what is told ahead is its answer
  ahead_now : (looks : Bool) (ahead : Option (List ℕ)) → ahead ≡ ahead_in looks step.said → IsAhead looks b asked ahead
  ahead_now looks ahead is = is ∙ ap (λ (d : Done). ahead_in looks d.said) h.does

  -- ---- it is to be logged

  module _ (writes : may_write_some work ≡ true) (bytes : List ℕ) (is : bytes ≡ log_text work) (c : Batches)
      (after : WorkStep) where
    abbrev first : Option Refusal
    first = log_refused b step (length bytes)

    room : first ≡ None → is_full b ≡ false
    room none = not_full (step_refused step) (queued (length bytes)) (is_full b) none

    pub not_logged : (why : Refusal) → LogPost (Err why) step after bytes b c
        → IsNotDone (told.step_refused why) b asker work c
    not_logged Memory post = ⊎_elim (λ stays. inl stays) (λ begins. inr (room post.0, begins.1)) post.1
    not_logged why post = left c first why (logs_against writes bytes is) post.0 (still c post.1)

    pub logged : (number : ℕ) (looks : Bool) (ahead : Option (List ℕ)) → LogPost (Ok number) step after bytes b c
        → ahead ≡ ahead_in looks step.said → CarryPost looks asker work (Ok ahead) b c
    logged number looks ahead post told =
        grind (
          arith,
          nat_tests,
          logs_against writes bytes is,
          plain,
          first_none (step_refused step),
          room post.0,
          ahead_now looks ahead told,
        )

  -- ---- it is not

  module _ (reads : may_write_some work ≡ false) (c : Batches) (after : WorkStep) where
    pub not_taken : (why : Refusal) → TakePost (Err why) step after b c
        → IsNotDone (told.step_refused why) b asker work c
    not_taken Memory post = inl post.1
    not_taken why post = left c (step_refused step) why (takes_against reads) post.0 post.1

    pub taken : (looks : Bool) (ahead : Option (List ℕ)) → TakePost (Ok tt) step after b c
        → ahead ≡ ahead_in looks step.said → CarryPost looks asker work (Ok ahead) b c
    taken looks ahead post told =
        grind (arith, nat_tests, takes_against reads, plain post.0, ahead_now looks ahead told)

-- it is told as its cause here
module _ (b c : Batches) (asker : Asker) (work : Work) (why : Refusal) (looks : Bool) where
  pub told_so : (result : Result (Option (List ℕ)) NotDone) → IsErr result
      → IsErrAnd result (λ cause. cause ≡ told.step_refused why)
      → IsNotDone (told.step_refused why) b asker work c → CarryPost looks asker work result b c
  told_so (Ok ahead) is gives left = absurd (cc)
  told_so (Err cause) is gives left = subst (λ w. IsNotDone w b asker work c) (sym gives) left

-- ---- work that is in the log already

-- what is taken out of a channel, if anything is
module _ (t : ℕ) (b c : Batches) where
  pub lets_out : (told : Option (ℕ × Answer)) → IfSome told (λ output. TakesOut b.kernel.parts t output c.kernel.parts)
      → (told ≡ None → c ≡ b) → (told ≡ None → released (said_at b.kernel.parts.said t) ≡ [])
      → c ≡ record b { kernel = c.kernel } → LetsOut t told b c
  lets_out None some none held rest = (held refl, none refl)
  lets_out (Some told) some none held rest = grind (arith, nat_tests)

module _ (asker : Asker) (work : Work) (b behind c : Batches) (told : Option (ℕ × Answer))
    (lets : LetsOut asker.channel told behind c) where
  pub restored : (result : Result (Unit {0}) NotDone) → OnOk result (TakesAlone asker work b behind)
      → OnErr result (Stays b behind) → RestorePost asker work result b c
  restored (Ok done) ok err = record { behind = behind; takes = ok; dropped = told; lets = lets }
  restored (Err why) ok err = record { behind = behind; stays = err; dropped = told; lets = lets }
