-- Works that are carried out by what keys have at once, in the open batch where they may write.
use Rattle.std.specs.Prelude.{◌≡◌, ◌⊎◌, ◌||◌, ℕ, Bool, true, false, nat_lt, List, [], ◌++◌, length, map, Option, Some, None, if◌then◌else◌, Result, Ok, Err}
use Rattle.sk_durable.specs.Base.{list_any, LeavesOut, option_map, option_or, Vec, is_marked, released, has}
use Rattle.sk_durable.specs.Base.{Deed, look_at, log_at, said_at, bytes_cmp, Takes, TakesOut, WholeStep, KEY_LIMIT}
use Rattle.sk_durable.specs.Base.{byte_deed, ByteView, append_refused, is_full, is_touched, BatchedView, Begins, Logs}
use Rattle.sk_durable.specs.Base.{Stays, is_reserved, refusal_of, Work, Answer, log_text, Have, answer_text}
use Rattle.sk_durable.specs.Base.{comes_to, may_write_some, wants_all, deed, Asked, Runs, NotDone, LongKey, TooMany, Asker}
use Rattle.sk_durable.specs.declared.refusal.NotDone.TheVariants.{Memory}
use Rattle.sk_durable.specs.Refused.{step_refused}

-- a kernel over byte strings whose outputs are tickets with answers, and the queue of its batches
abbrev pub Kernel : Type 0
Kernel = ByteView (List ℕ) (ℕ × Answer)

abbrev pub Batches : Type 0
Batches = BatchedView (List ℕ) (ℕ × Answer)

abbrev pub WorkStep : Type 0
WorkStep = WholeStep (Vec ℕ) (List ℕ) (ℕ × Answer)

-- what keys have
abbrev pub has_now : Kernel → Have
has_now kernel = look_at bytes_cmp kernel.parts.slots

-- ---- all keys, for work that is told of them

-- The keys rise by their bytes, and each that is not among them is absent and depends on nothing, but for reserved ones.
abbrev pub LacksNone : Kernel → List (List ℕ) → Type 0
LacksNone kernel known = LeavesOut (λ key. (has_now kernel key ≡ None) × (log_at bytes_cmp kernel.parts.slots key ≡ [])) known

abbrev pub KnowsIfTold : Kernel → Work → List (List ℕ) → Type 0
KnowsIfTold kernel work known = wants_all work ≡ true → LacksNone kernel known

-- ---- work is handed in

-- what was asked for, before a batch logs it
abbrev pub asked_by : Asker → List (List ℕ) → Work → Asked
asked_by asker known work = record { channel = asker.channel; ticket = asker.ticket; known = known; batch = None; work = work }

-- what the work does now
abbrev pub deed_now : Kernel → Asked → Deed (List ℕ) (List ℕ) (ℕ × Answer)
deed_now kernel asked = deed (Runs asked) (has_now kernel)

-- the step is what the work does now
pub record IsHanded (kernel : Kernel) (asker : Asker) (work : Work) (step : WorkStep) : Type 0 where
  pub known : List (List ℕ)
  pub knows : KnowsIfTold kernel work known
  pub does : byte_deed step ≡ deed_now kernel (asked_by asker known work)

-- ---- work is carried out

-- the keys that it looks at or writes
abbrev pub touched : Deed (List ℕ) (List ℕ) (ℕ × Answer) → List (List ℕ)
touched d = d.looked ++ map (λ w. w.0) d.written

-- whether one of them is longer than may be, or reserved, which none is that work names
abbrev pub names_wrong : Deed (List ℕ) (List ℕ) (ℕ × Answer) → Bool
names_wrong d = list_any (λ k. nat_lt KEY_LIMIT (length k) || is_reserved k) (touched d)

-- the first cause against logging it, whatever memory there is, or none
abbrev pub log_against : Batches → Asked → Option NotDone
log_against b asked = option_or
    (option_map (λ why. step_refused (refusal_of why)) (append_refused b.queue (length (log_text asked.work))))
    (if is_full b then Some TooMany else None)

-- the first cause against it, or none
abbrev pub against : Batches → Asked → Option NotDone
against b asked =
    if names_wrong (deed_now b.kernel asked) then Some LongKey
    else if may_write_some asked.work then log_against b asked
    else None

-- the work is taken in the open batch, which logs it, or in none
abbrev pub TakenIn : Bool → Batches → Asked → Batches → Type 0
TakenIn true b asked c = (is_full b ≡ false) × Logs b (deed_now b.kernel asked) (log_text asked.work) c
TakenIn false b asked c =
    Takes bytes_cmp b.kernel.parts (deed_now b.kernel asked) None c.kernel.parts × (c.queue ≡ b.queue) × (c.begun ≡ b.begun)

-- a command is carried out by what keys have: in the open batch where it may write
pub record CarriesOut (b : Batches) (asked : Asked) (c : Batches) : Type 0 where
  pub knows : KnowsIfTold b.kernel asked.work asked.known
  pub plain : list_any is_reserved (touched (deed_now b.kernel asked)) ≡ false
  pub taken : TakenIn (may_write_some asked.work) b asked c

-- nothing has changed, or just the guess of the open batch is drawn
abbrev pub MayDraw : Batches → Batches → Type 0
MayDraw b c = Stays b c ⊎ ((is_full b ≡ false) × Begins b c)

-- nothing of the work is done, for this reason
abbrev pub IsNotDone : NotDone → Batches → Asker → Work → Batches → Type 0
IsNotDone Memory b asker work c = MayDraw b c
IsNotDone why b asker work c =
    (known : List (List ℕ)) × KnowsIfTold b.kernel work known × (against b (asked_by asker known work) ≡ Some why) × Stays b c

-- the text of an answer, where it is looked at ahead
abbrev pub ahead_of : Bool → Answer → Option (List ℕ)
ahead_of true answer = Some (answer_text answer)
ahead_of false answer = None

-- the text of what is said, where it is looked at ahead
abbrev pub ahead_in : Bool → Option (ℕ × (ℕ × Answer)) → Option (List ℕ)
ahead_in looks None = None
ahead_in looks (Some said) = ahead_of looks said.1.1

-- the answer of what is carried out is told ahead, where it is looked at
abbrev pub IsAhead : Bool → Batches → Asked → Option (List ℕ) → Type 0
IsAhead looks b asked ahead = ahead ≡ ahead_of looks (comes_to asked.known asked.work (has_now b.kernel)).reply

abbrev pub CarryPost : Bool → Asker → Work → Result (Option (List ℕ)) NotDone → Batches → Batches → Type 0
CarryPost looks asker work (Ok ahead) b c = (known : List (List ℕ)) × (against b (asked_by asker known work) ≡ None)
    × CarriesOut b (asked_by asker known work) c × IsAhead looks b (asked_by asker known work) ahead
CarryPost looks asker work (Err why) b c = IsNotDone why b asker work c

-- ---- what is told of it

-- the batch that logs it, if one does
abbrev pub batch_for : Batches → Work → Option ℕ
batch_for b work = if may_write_some work then Some b.queue.number else None

-- its answer, and the guesses that it depends on: those of what it looks at or writes, and its batch's
pub record IsTold (b : Batches) (asked : Asked) (answer : Answer) (rests : List ℕ) : Type 0 where
  pub batch : asked.batch ≡ batch_for b asked.work
  pub answer_is : answer ≡ (comes_to asked.known asked.work (has_now b.kernel)).reply
  pub rests_are : (g : ℕ) → has g rests
      ≡ (is_touched b.kernel.parts (deed_now b.kernel (record asked { batch = None })) g || is_marked asked.batch g)

-- ---- answers are taken out

-- the first answer of a channel, where it depends on nothing
abbrev pub LetsOut : ℕ → Option (ℕ × Answer) → Batches → Batches → Type 0
LetsOut t None b c = (released (said_at b.kernel.parts.said t) ≡ []) × (c ≡ b)
LetsOut t (Some told) b c = TakesOut b.kernel.parts t told c.kernel.parts × (c.queue ≡ b.queue) × (c.begun ≡ b.begun)

-- ---- work that is in the log already

-- work that is in the log already is carried out in no batch
pub record TakesAlone (asker : Asker) (work : Work) (b c : Batches) : Type 0 where
  pub known : List (List ℕ)
  pub knows : KnowsIfTold b.kernel work known
  pub taken : TakenIn false b (asked_by asker known work) c

-- and its answer is dropped where it may go out
pub record Restores (asker : Asker) (work : Work) (b c : Batches) : Type 0 where
  pub behind : Batches
  pub takes : TakesAlone asker work b behind
  pub dropped : Option (ℕ × Answer)
  pub lets : LetsOut asker.channel dropped behind c

-- nothing of it is done, and an answer may be dropped that was there
pub record IsNotRestored (why : NotDone) (asker : Asker) (b c : Batches) : Type 0 where
  pub behind : Batches
  pub stays : Stays b behind
  pub dropped : Option (ℕ × Answer)
  pub lets : LetsOut asker.channel dropped behind c

abbrev pub RestorePost : Asker → Work → Result (Unit {0}) NotDone → Batches → Batches → Type 0
RestorePost asker work (Ok _) b c = Restores asker work b c
RestorePost asker work (Err why) b c = IsNotRestored why asker b c
