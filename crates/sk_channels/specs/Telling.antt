-- What the tickets of a channel were told, and what of it was handed over.
use Rattle.std.specs.Prelude.{◌≡◌, ℕ, ◌+◌, ◌-◌, ◌<◌, List, ◌++◌, codes, flat_map, length, replicate, Option, Some, None, Result, Ok, Err}
use Rattle.sk_channels.specs.Base.{error_text, Outlet, Refusal, NoTicket, Full, Memory}

-- what the tickets from 1 on were told: each a text, or that its write did not reach the disk
abbrev pub Told : Type 0
Told = List (Option (List ℕ))

-- what a ticket is told, as bytes: its text, or that its write did not reach the disk
abbrev pub told_text : Option (List ℕ) → List ℕ
told_text (Some text) = text
told_text None = error_text (codes "IOERR the write did not reach the disk, nothing of it was done")

-- so many tickets whose writes did not
abbrev pub refused : ℕ → Told
refused count = replicate count None

-- what tickets are told, from the next on, that stand before this one: that their writes did not reach the disk
abbrev pub refused_up_to : Told → ℕ → Told
refused_up_to told ticket = refused (ticket - (length told + 1))

-- The tickets from 1 on were told this, each once. Of its bytes these were handed over, and the others wait.
pub record HasTold (told : Told) (handed : List ℕ) (outlet : Outlet) : Type 0 where
  pub next : outlet.next ≡ length told + 1
  pub bytes : handed ++ outlet.waiting ≡ flat_map told_text told

-- No more is taken: more bytes wait than may, or there was no memory. Nothing has changed then.
abbrev pub IsRefused : Told → List ℕ → Refusal → Outlet → Type 0
IsRefused told handed NoTicket outlet = ⊥
IsRefused told handed Full outlet = HasTold told handed outlet × (outlet.most < length outlet.waiting)
IsRefused told handed Memory outlet = HasTold told handed outlet

-- The next tickets are told more.
abbrev pub Tells : Told → List ℕ → Told → Result (Unit {0}) Refusal → Outlet → Type 0
Tells told handed more (Ok _) outlet = HasTold (told ++ more) handed outlet
Tells told handed more (Err why) outlet = IsRefused told handed why outlet
