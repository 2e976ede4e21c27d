-- An engine as its hosts see it: each transaction is carried out whole, at one moment, and its answer is what was so at that moment.
use Rattle.std.specs.Prelude.{◌==◌, ◌&&◌, ℕ, Bool, not, nat_le, nat_lt, is_none, List, Option, Some, None, if◌then◌else◌}
use Rattle.sk_engine.specs.declared.answer.BatchAnswer.{BatchAnswer}
use Rattle.sk_engine.specs.declared.answer.BatchAnswer.TheVariants as batch
use Rattle.sk_engine.specs.declared.answer.FenceAnswer.{FenceAnswer}
use Rattle.sk_engine.specs.declared.answer.FenceAnswer.TheVariants as fence
use Rattle.sk_engine.specs.declared.request.Batch.{Batch}
use Rattle.sk_engine.specs.declared.request.Fence.{Fence}
use Rattle.sk_engine.specs.Told.{leads, held_of}

-- what stands under each number
abbrev pub Entries : Type 0
Entries = ℕ → Option (List ℕ)

-- Its keys: of which leadership the leader is, if there is one; the leadership that fenced last; the log; and up to which number it was
-- cut. And the newest leadership that there was.
pub record EngineView : Type 0 where
  pub leader : Option ℕ
  pub newest : ℕ
  pub fence : ℕ
  pub log : Entries
  pub snap : ℕ

-- with bytes under a number; without all from a number on; without all up to a number
abbrev pub with_entry : ℕ → List ℕ → Entries → Entries
with_entry number value log = λ i. if i == number then Some value else log i

abbrev pub without_from : ℕ → Entries → Entries
without_from gap log = λ i. if nat_lt i gap then log i else None

abbrev pub without_to : ℕ → Entries → Entries
without_to last log = λ i. if nat_le i last then None else log i

-- ---- a batch: if the leader is of its leadership, and nothing stands under its number, its bytes are put there

abbrev pub may_put : EngineView → Batch → Bool
may_put e b = leads b.leadership e.leader && is_none (e.log b.number)

abbrev pub after_batch : EngineView → Batch → List ℕ → EngineView
after_batch e b value = if may_put e b then record e { log = with_entry b.number value e.log } else e

abbrev pub batch_answer : EngineView → Batch → List ℕ → BatchAnswer
batch_answer e b value =
    if may_put e b then batch.Done
    else batch.Not (record { leader = e.leader; held = held_of value (e.log b.number); snap = e.snap })

-- ---- a fence: if the leader is of its leadership, which has not fenced, all from the gap on is deleted

abbrev pub may_fence : EngineView → Fence → Bool
may_fence e f = leads f.leadership e.leader && not (e.fence == f.leadership)

abbrev pub after_fence : EngineView → Fence → EngineView
after_fence e f = if may_fence e f then record e { fence = f.leadership; log = without_from f.gap e.log } else e

abbrev pub fence_answer : EngineView → Fence → FenceAnswer
fence_answer e f = if may_fence e f then fence.Done else fence.Not (record { leader = e.leader; fence = e.fence })

-- ---- a cut: if the leader is of its leadership, and the log was cut less far, all up to a number is deleted

abbrev pub may_cut : EngineView → ℕ → ℕ → Bool
may_cut e leadership last = leads leadership e.leader && nat_lt e.snap last

abbrev pub after_cut : EngineView → ℕ → ℕ → EngineView
after_cut e leadership last =
    if may_cut e leadership last then record e { log = without_to last e.log; snap = last } else e
