-- What a channel asked for, and what of its replies it handed over.
use Rattle.std.specs.Prelude.{◌⊎◌, ℕ, ◌+◌, ◌<◌, ◌≤◌, List, [], ◌∷◌, ◌++◌, length, Some, Result, Ok, Err}
use Rattle.sk_channels.specs.Base.{Limits, Refusal, NoTicket, Full, Memory, Ask, Fed, Channel}
use Rattle.sk_channels.specs.Hearing.{Feeds, HasHeard}
use Rattle.sk_channels.specs.Telling.{Told, refused_up_to, HasTold}

-- The stream came, and this was asked for, in this order, with the tickets 1, 2 and so on. Of these as many tickets were told this,
-- each once, and of its bytes these were handed over.
pub record HasServed (limits : Limits) (asked : List Ask) (stream : List ℕ) (told : Told) (handed : List ℕ) (channel : Channel) : Type 0 where
  pub heard : HasHeard limits asked stream channel.inlet
  pub said : HasTold told handed channel.outlet
  pub given : length told ≤ length asked

-- What a call with these bytes leaves and answers: so many came, at least one where not only the host is asked, and they end a
-- request or none. After a refusal nothing has changed.
abbrev pub FeedPost : Limits → List Ask → List ℕ → Told → List ℕ → List ℕ → Result Fed Refusal → Channel → Type 0
FeedPost limits asked stream told handed bytes result channel =
    Feeds (λ asked stream. HasServed limits asked stream told handed channel) asked stream bytes result channel.inlet

-- A ticket that was given and told nothing is told a text, and those before it that were told nothing that their writes did not reach
-- the disk. After a refusal nothing has changed: there is no such ticket, more bytes wait than may, or there was no memory.
abbrev pub ReplyPost : Limits → List Ask → List ℕ → Told → List ℕ → ℕ → List ℕ → Result (Unit {0}) Refusal → Channel → Type 0
ReplyPost limits asked stream told handed ticket text (Ok _) channel = (length told < ticket) × (ticket ≤ length asked)
    × HasServed limits asked stream (told ++ (refused_up_to told ticket ++ Some text ∷ [])) handed channel
ReplyPost limits asked stream told handed ticket text (Err NoTicket) channel =
    HasServed limits asked stream told handed channel × ((ticket ≤ length told) ⊎ (length asked < ticket))
ReplyPost limits asked stream told handed ticket text (Err Full) channel =
    HasServed limits asked stream told handed channel × (channel.outlet.most < length channel.outlet.waiting)
ReplyPost limits asked stream told handed ticket text (Err Memory) channel = HasServed limits asked stream told handed channel

-- The tickets before this one that were told nothing are told that their writes did not reach the disk.
abbrev pub RefusePost : Limits → List Ask → List ℕ → Told → List ℕ → ℕ → Result (Unit {0}) Refusal → Channel → Type 0
RefusePost limits asked stream told handed ticket (Ok _) channel =
    (ticket ≤ length asked + 1) × HasServed limits asked stream (told ++ refused_up_to told ticket) handed channel
RefusePost limits asked stream told handed ticket (Err NoTicket) channel =
    HasServed limits asked stream told handed channel × (length asked + 1 < ticket)
RefusePost limits asked stream told handed ticket (Err Full) channel =
    HasServed limits asked stream told handed channel × (channel.outlet.most < length channel.outlet.waiting)
RefusePost limits asked stream told handed ticket (Err Memory) channel = HasServed limits asked stream told handed channel
