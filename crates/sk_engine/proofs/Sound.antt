-- What is so of an engine and its hosts at any moment.
use Rattle.sk_engine.proofs.Names.{◌≡◌, ℕ, ◌<◌, ◌≤◌, List, Option, Some, None, BatchAnswer, Synced, Lost, Batch, Fence}
use Rattle.sk_engine.proofs.Names.{batch_told, Entries, Has, FenceTry, World, batch_of, fence_of, owner_of, whole}
use Rattle.sk_engine.proofs.Names.{ServesFrom}
use Rattle.sk_engine.specs.declared.answer.BatchAnswer.TheVariants as batch
use Rattle.sk_engine.specs.declared.answer.FenceAnswer.TheVariants as fence

abbrev pub IsThere : Option (List ℕ) → Type 0
IsThere o = (v : List ℕ) × (o ≡ Some v)

-- the log is whole before a number
abbrev pub IsDense : Entries → ℕ → Type 0
IsDense all g = (i : ℕ) → 0 < i → i < g → IsThere (all i)

-- a fence was carried out, a batch was put
abbrev pub HasFenced : World → ℕ → ℕ → Type 0
HasFenced w leadership gap = Has (record { fence = fence_of leadership gap; answer = fence.Done }) w.fences

abbrev pub HasPut : World → ℕ → ℕ → List ℕ → Type 0
HasPut w leadership number value = Has (record { batch = batch_of leadership number; value = value; answer = batch.Done }) w.batches

pub record AtGap (snap : ℕ) (all : Entries) (gap : ℕ) : Type 0 where
  pub behind : snap < gap
  pub absent : all gap ≡ None
  pub dense : IsDense all gap

pub record AfterFence (reads : List Fence) (fence : ℕ) (all : Entries) (leadership gap : ℕ) : Type 0 where
  pub read : Has (fence_of leadership gap) reads
  pub under : leadership ≤ fence
  pub low : 0 < gap
  pub dense : IsDense all gap
  pub own : (i : ℕ) (v : List ℕ) → gap ≤ i → all i ≡ Some v → leadership ≤ owner_of v

pub record AsSent (fences : List FenceTry) (b : Batch) (value : List ℕ) : Type 0 where
  pub own : owner_of value ≡ b.leadership
  pub gap : ℕ
  pub fenced : Has (record { fence = fence_of b.leadership gap; answer = fence.Done }) fences
  pub behind : gap ≤ b.number

-- its leadership is over, and it doesn't stand in the log
pub record IsOver (leader : Option ℕ) (newest : ℕ) (all : Entries) (b : Batch) : Type 0 where
  pub led : b.leadership ≤ newest
  pub ended : leader ≡ Some b.leadership → ⊥
  pub never : (u : List ℕ) → all b.number ≡ Some u → owner_of u ≡ b.leadership → ⊥

pub record IsSound (w : World) : Type 0 where
  pub led : (r : ℕ) → w.engine.leader ≡ Some r → (r ≡ w.engine.newest) × (0 < r)
  pub fence_led : w.engine.fence ≤ w.engine.newest
  pub read_led : (r g : ℕ) → Has (fence_of r g) w.reads → r ≤ w.engine.newest
  pub read_once : (r g h : ℕ) → Has (fence_of r g) w.reads → Has (fence_of r h) w.reads → g ≡ h
  pub gap : (r g : ℕ) → Has (fence_of r g) w.reads → w.engine.fence < r → r ≡ w.engine.newest → AtGap w.engine.snap (whole w) g
  pub after : (r g : ℕ) → HasFenced w r g → AfterFence w.reads w.engine.fence (whole w) r g
  pub fence_done : 0 < w.engine.fence → (g : ℕ) × HasFenced w w.engine.fence g
  pub served : (r g : ℕ) → ServesFrom w r g → HasFenced w r g
  pub tried_fence : (t : FenceTry) → Has t w.fences → Has t.fence w.reads
  pub cut : (i : ℕ) → 0 < i → i ≤ w.engine.snap → IsThere (whole w i)
  pub in_log : (i : ℕ) (v : List ℕ) → w.engine.log i ≡ Some v → HasPut w (owner_of v) i v
  pub in_whole : (i : ℕ) (v : List ℕ) → whole w i ≡ Some v → HasPut w (owner_of v) i v
  pub sends : (b : Batch) (v : List ℕ) → Has (record { batch = b; value = v }) w.sent → AsSent w.fences b v
  pub same : (b : Batch) (v u : List ℕ) → Has (record { batch = b; value = v }) w.sent → Has (record { batch = b; value = u }) w.sent → v ≡ u
  pub tried : (b : Batch) (v : List ℕ) (a : BatchAnswer) → Has (record { batch = b; value = v; answer = a }) w.batches
      → Has (record { batch = b; value = v }) w.sent
  pub synced : (b : Batch) (v : List ℕ) (a : BatchAnswer) → Has (record { batch = b; value = v; answer = a }) w.batches
      → batch_told b a ≡ Synced b.number → HasPut w b.leadership b.number v
  pub put : (n : ℕ) (v : List ℕ) → HasPut w w.engine.fence n v → whole w n ≡ Some v
  pub firm : (r g n : ℕ) → HasFenced w r g → ((i : ℕ) → g ≤ i → i ≤ n → (v : List ℕ) × HasPut w r i v)
      → (i : ℕ) (v : List ℕ) → g ≤ i → i ≤ n → HasPut w r i v → whole w i ≡ Some v
  pub rising : (i j : ℕ) (v u : List ℕ) → i ≤ j → whole w i ≡ Some v → whole w j ≡ Some u → owner_of v ≤ owner_of u
  pub over : (b : Batch) (v : List ℕ) (a : BatchAnswer) → Has (record { batch = b; value = v; answer = a }) w.batches
      → batch_told b a ≡ Lost b.number → IsOver w.engine.leader w.engine.newest (whole w) b
