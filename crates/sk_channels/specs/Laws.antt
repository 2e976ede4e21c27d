-- What holds of all channels.
use Rattle.std.specs.Prelude.{◌≡◌, ℕ, ◌≤◌, true, false, List, [], ◌∷◌, ◌++◌, flat_map, length, map, Option, Some, None}
use Rattle.sk_channels.specs.Base.{Fault, Limits, Splits, IsPart, Ask, Unknown, Error, Say, Do, Reject, Channel}
use Rattle.sk_channels.specs.Base.{Rejection}
use Rattle.sk_channels.specs.Asking.{Requests, with_words, asks_of, untold, HadMemory}
use Rattle.sk_channels.specs.Telling.{Told, told_text}
use Rattle.sk_channels.specs.Serving.{HasServed}

-- what was asked for, with what the host is asked behind it, if it is
abbrev pub with_ask : List Ask → Option (List (List ℕ)) → List Ask
with_ask asked None = asked
with_ask asked (Some words) = asked ++ Do (Say (Error Unknown)) ∷ []

-- what a channel asked for, and the host with it; of the host's requests it stands that no command has this name, whatever it told
abbrev pub all_asked : List Ask → Channel → List Ask
all_asked asked channel = with_ask (map untold asked) channel.inlet.posed

-- Where there was memory and room to queue, a channel that is open asked for just what the requests of its stream say, one after another: the
-- stream is requests of which this is told, and then no request that is whole.
abbrev pub AsksAreSaid : Type 0
AsksAreSaid = (limits : Limits) (asked : List Ask) (stream : List ℕ) (told : Told) (handed : List ℕ) (channel : Channel)
    → HasServed limits asked stream told handed channel → channel.inlet.closed ≡ false → HadMemory asked
    → (requests : Requests) × (rest : List ℕ) × Splits limits requests rest stream × IsPart limits rest
    × (all_asked asked channel ≡ asks_of None (with_words requests))

-- Where there was memory and room to queue, two channels asked for the same of a stream, whatever way it was cut for each; where one of them was
-- told a fault that the other is not told yet, for this beside.
abbrev pub CutsDontMatter : Type 0
CutsDontMatter = (limits : Limits) (asked other : List Ask) (stream : List ℕ) (told said : Told) (handed given : List ℕ)
    (channel channel' : Channel) → HasServed limits asked stream told handed channel → HasServed limits other stream said given channel'
    → HadMemory asked → HadMemory other
    → (channel.inlet.closed ≡ channel'.inlet.closed → all_asked asked channel ≡ all_asked other channel')
    × (channel.inlet.closed ≡ false → channel'.inlet.closed ≡ true
    → (fault : Fault) × (all_asked other channel' ≡ all_asked asked channel ++ Reject (Rejection.Fault fault) ∷ []))

-- What was handed over is a front part of what the tickets are told, in order, each once; only tickets that were given are told anything.
abbrev pub TicketsInOrder : Type 0
TicketsInOrder = (limits : Limits) (asked : List Ask) (stream : List ℕ) (told : Told) (handed : List ℕ) (channel : Channel)
    → HasServed limits asked stream told handed channel
    → ((waiting : List ℕ) × (flat_map told_text told ≡ handed ++ waiting)) × (length told ≤ length asked)
