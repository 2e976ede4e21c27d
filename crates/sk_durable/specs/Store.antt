-- A store, as its callers see it; and what came on its channels.
use Rattle.std.specs.Prelude.{◌≡◌, ◌+◌, ◌*◌, ℕ, Bool, true, false, nat_lt, List, [], ◌∷◌, ◌++◌, Option, Some, None}
use Rattle.sk_durable.specs.Base.{is_sorted, slice_get, non_zero_u16_get, tags_at, none_drawn, log_at}
use Rattle.sk_durable.specs.Base.{said_at, first_of, undo_state_of, bytes_cmp, new_queue, places_at, PlacesView}
use Rattle.sk_durable.specs.Base.{capped, held, Entries, HasNoReserved, Requests, Channel, Ask, word_at, HasServed}
use Rattle.sk_durable.specs.Base.{channel_at, place_at, with_channel, refused_up_to, Told, Answer, Limits, Next}
use Rattle.sk_channels.specs.declared.table.Channels.{Channels}
use Rattle.sk_durable.specs.Works.{has_now, Batches}

-- what it takes, its kernel with the queue of batches, its channels, where the next frame stands, and what is told ahead of what was
-- carried out last
pub record StoreView : Type 0 where
  pub limits : Limits
  pub batched : Batches
  pub channels : Channels
  pub places : PlacesView
  pub ahead : Option (List ℕ)

-- the first answer of a channel, whether it waits or not
abbrev pub first_answer : StoreView → ℕ → Option (ℕ × Answer)
first_answer s t = first_of (said_at s.batched.kernel.parts.said t)

-- the batch at a place among those that a key depends on
abbrev pub rests_on_at : List ℕ → ℕ → StoreView → Option ℕ
rests_on_at key place s = slice_get (tags_at (undo_state_of bytes_cmp s.batched.kernel.parts) key) place

-- each key has just what these entries hold, and nothing else has happened
pub record IsNew (limits : Limits) (next : Next) (start : Entries) (s : StoreView) : Type 0 where
  pub takes : s.limits ≡ limits
  pub look : (key : List ℕ) → has_now s.batched.kernel key ≡ held start key
  pub in_order : is_sorted bytes_cmp start ≡ true
  pub none_reserved : HasNoReserved (held start)
  pub log : (key : List ℕ) → log_at bytes_cmp s.batched.kernel.parts.slots key ≡ []
  pub guesses : (number : ℕ) × (s.batched.kernel.parts.guesses ≡ none_drawn number (2 * capped (non_zero_u16_get limits.in_flight) + 1))
  pub opens : s.batched.kernel.parts.opens ≡ []
  pub said : s.batched.kernel.parts.said ≡ []
  pub queue : s.batched.queue ≡ new_queue (capped (non_zero_u16_get limits.in_flight)) limits.undecided next.frame
  pub begun : s.batched.begun ≡ false
  pub channels : (t : ℕ) → place_at s.channels t ≡ None
  pub places : s.places ≡ places_at limits.segment next.segment next.offset

-- ---- what came on a channel

-- what was asked for, the bytes that came, what its tickets were told, and what of that was handed over
pub record Past : Type 0 where
  pub asked : List Ask
  pub stream : List ℕ
  pub told : Told
  pub handed : List ℕ

abbrev pub no_past : Past
no_past = record { asked = []; stream = []; told = []; handed = [] }

abbrev pub HasPast : Requests → Past → Channel → Type 0
HasPast limits p channel = HasServed limits p.asked p.stream p.told p.handed channel

-- each channel has some past
abbrev pub HavePasts : Requests → Channels → Type 0
HavePasts limits channels = (t : ℕ) (channel : Channel) → channel_at channels t ≡ Some channel → (p : Past) × HasPast limits p channel

abbrev pub came : List ℕ → Past → Past
came bytes p = record p { stream = p.stream ++ bytes }

abbrev pub asked_for : List ℕ → Ask → Past → Past
asked_for bytes ask p = record p { stream = p.stream ++ bytes; asked = p.asked ++ ask ∷ [] }

-- a ticket is told a text, and those before it that were told nothing that nothing of what they asked for was done
abbrev pub was_told : ℕ → List ℕ → Past → Past
was_told ticket text p = record p { told = p.told ++ (refused_up_to p.told ticket ++ Some text ∷ []) }

abbrev pub was_refused : ℕ → Past → Past
was_refused ticket p = record p { told = p.told ++ refused_up_to p.told ticket }

abbrev pub was_handed : List ℕ → Past → Past
was_handed bytes p = record p { handed = p.handed ++ bytes }

-- a channel whose past changes so, whatever it was
abbrev pub Goes : (Past → Past) → Channel → Channel → Type 0
Goes change before after = (limits : Requests) (p : Past) → HasPast limits p before → HasPast limits (change p) after

-- the channel at a number becomes another, and all other channels stay
pub record Becomes (t : ℕ) (before after : Channel) (old new : Channels) : Type 0 where
  pub there : channel_at old t ≡ Some before
  pub left : new ≡ with_channel old t after
  pub most : after.outlet.most ≡ before.outlet.most

-- whether a fault was told on it
abbrev pub is_closed : Option Channel → Bool
is_closed None = false
is_closed (Some channel) = channel.inlet.closed

-- how many bytes the commands take that wait for EXEC on it
abbrev pub queued : Option Channel → ℕ
queued None = 0
queued (Some channel) = channel.inlet.session.bytes

-- a word of the request that the host is asked on it
abbrev pub asked_at : ℕ → Option Channel → Option (List ℕ)
asked_at place None = None
asked_at place (Some channel) = word_at place channel.inlet.posed

-- ---- tickets that are told that nothing was done

-- the ticket of the first answer, or the next that is given
abbrev pub bound : Channel → Option (ℕ × Answer) → ℕ
bound channel None = channel.inlet.next
bound channel (Some told) = told.0

-- whether some ticket before it was told nothing
abbrev pub has_refusals : Option Channel → Option (ℕ × Answer) → Bool
has_refusals None first = false
has_refusals (Some channel) first = nat_lt channel.outlet.next (bound channel first)
