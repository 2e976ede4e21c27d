-- Channels by number.
use Rattle.std.specs.Prelude.{◌≡◌, ◌≢◌, ℕ, ◌<◌, ◌≤◌, Bool, true, false, Option, Some, None, Result, Ok, Err}
use Rattle.sk_channels.specs.Base.{get, with_value, Refusal, NoTicket, Full, Memory, Channel, Channels}

-- what has this number: nothing, or a place, where there is a channel or what was one
abbrev pub place_at : Channels → ℕ → Option (Option Channel)
place_at channels number = get channels.places number

-- the channel of a place
abbrev pub channel_of : Option (Option Channel) → Option Channel
channel_of None = None
channel_of (Some place) = place

abbrev pub channel_at : Channels → ℕ → Option Channel
channel_at channels number = channel_of (place_at channels number)

-- a place of what was hung up
abbrev pub is_hung_up : Option (Option Channel) → Bool
is_hung_up (Some None) = true
is_hung_up other = false

-- a channel is hung up
abbrev pub hung_up : Option (Option Channel) → Option (Option Channel)
hung_up None = None
hung_up (Some place) = Some None

-- the place of a channel that was hung up is free
abbrev pub released : Option (Option Channel) → Option (Option Channel)
released (Some None) = None
released place = place

-- the channels with this one at the number
abbrev pub with_channel : Channels → ℕ → Channel → Channels
with_channel channels number channel = record channels { places = with_value channels.places number (Some channel) }

-- The places of all other numbers have what they had.
abbrev pub KeepsOthers : ℕ → Channels → Channels → Type 0
KeepsOthers number old new = (other : ℕ) → other ≢ number → place_at new other ≡ place_at old other

abbrev pub KeepsAll : Channels → Channels → Type 0
KeepsAll old new = (number : ℕ) → place_at new number ≡ place_at old number

-- A channel gets a number that had none, below 10,000; it is refused where the next number would be none such, or for want of memory.
abbrev pub Connects : Channel → Result ℕ Refusal → Channels → Channels → Type 0
Connects channel (Ok number) old new =
    (number < 10000) × (place_at old number ≡ None) × (place_at new number ≡ Some (Some channel)) × KeepsOthers number old new
Connects channel (Err NoTicket) old new = ⊥
Connects channel (Err Full) old new = (10000 ≤ old.places.vacant_key) × KeepsAll old new
Connects channel (Err Memory) old new = KeepsAll old new

-- The channel is hung up, and the number stays taken.
abbrev pub HangsUp : ℕ → Channels → Channels → Type 0
HangsUp number old new = (place_at new number ≡ hung_up (place_at old number)) × KeepsOthers number old new

-- The number is free, if its channel was hung up.
abbrev pub Releases : ℕ → Channels → Channels → Type 0
Releases number old new = (place_at new number ≡ released (place_at old number)) × KeepsOthers number old new
