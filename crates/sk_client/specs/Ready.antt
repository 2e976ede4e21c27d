-- A kernel that can begin a world, of whatever epoch, and a world that begins.
use Rattle.std.specs.Prelude.{◌≡◌, ◌+◌, ◌≤◌, length, List, []}
use Rattle.sk_client.specs.Base.{KernelView, undecided_at, HasSoundTrace, LAST_REQUEST, WorldEvent}
use Rattle.sk_client.specs.Desk.{opened_at}
use Rattle.sk_client.specs.WorldView.{WorldView, joined}
use Rattle.sk_client.specs.Exchanges.{Exchanges, Leads}
pub use Rattle.sk_plain.specs.TidyState.{IsCounted, IsPlaced, IsCopy, IsTidyState}

-- a kernel was booted, whatever it did since: its start is tidy, and its trace sound, with a place for the decision of each
-- undecided guess
pub record WasBooted (k : KernelView) : Type 0 where
  pub start : IsTidyState k.start
  pub sound : HasSoundTrace k
  pub place : length k.trace + length (undecided_at k) ≤ k.limit

-- a kernel can begin a world: all its guesses are decided
abbrev pub IsReady : KernelView → Type 0
IsReady k = WasBooted k × (undecided_at k ≡ [])

-- a world begins, in whatever epoch of its kernel: no request is made in it, and the desk's first one is the server's next
pub record Begins (w : WorldView) : Type 0 where
  pub ready : IsReady w.desk.kernel
  pub world : w ≡ joined (opened_at w.desk.kernel w.server.next) w.server
  pub last : w.server.next ≤ LAST_REQUEST + 1

-- what holds of a world that begins and of each one that any events lead it to, with what was served on the way
abbrev pub Always : (WorldView → Exchanges → WorldView → Type 0) → Type 0
Always P = (w : WorldView) → Begins w → (es : List WorldEvent) (served : Exchanges) (v : WorldView) → Leads w es served v → P w served v

-- and of each one that any further events lead that to, with what was served behind
abbrev pub AlwaysLater : (WorldView → Exchanges → WorldView → Exchanges → WorldView → Type 0) → Type 0
AlwaysLater P = Always (λ w served v. (later : List WorldEvent) (more : Exchanges) (last : WorldView) → Leads v later more last → P w served v more last)
