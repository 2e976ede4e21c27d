-- A host that serves a store beside an engine, and lets nothing old out.
use Rattle.std.specs.Prelude.{◌≡◌, ◌==◌, ◌<◌, ◌≤◌, ◌≢◌, ℕ, Bool, true, false, List, [], ◌∷◌, ◌++◌, flat_map, if◌then◌else◌}
use Rattle.sk_led.specs.Base.{list_any, Ask, Answer, Entries, Asked, Limits, Next, Call, Carries, Connects, Tells}
use Rattle.sk_led.specs.Base.{HasDone, IsLogged, StoreView, HasDecided, ServesFrom, World, new_hosted, Calls, Hosted}
use Rattle.sk_led.specs.Base.{HostDoes, Step, may_tell, CarriesOut, IsHeld, RoundCall, RoundDoes}
use Rattle.sk_durable.specs.Calls as calls
use Rattle.sk_led.specs.Laws.{IsInEngine}
use Rattle.sk_led.specs.Led.{IsLed}

-- its store; its rounds, beside the engine with all hosts; and the mark of each channel
pub record Host : Type 0 where
  pub store : StoreView
  pub hosted : Hosted
  pub marks : ℕ → ℕ

-- Does: the store does something, and what it carries out has this mark. Goes: the engine moves, or any host, or the rounds of this one do.
pub data Act : Type 0 where
  Does : (call : Call) → (mark : ℕ) → Act
  Goes : (step : Step) → Act

-- What is carried out has a mark, which its channel keeps until more is. A channel that is connected has any.
abbrev pub Marks : Call → ℕ → Host → Host → Type 0
Marks (Carries t bytes ask asked answer rests) mark h g = RoundDoes h.hosted.rounds (CarriesOut mark) g.hosted.rounds
    × (g.marks ≡ (λ u. if u == t then mark else h.marks u))
Marks (Connects t) mark h g = (g.hosted.rounds ≡ h.hosted.rounds) × ((u : ℕ) → (t == u) ≡ false → g.marks u ≡ h.marks u)
Marks other mark h g = (g.hosted.rounds ≡ h.hosted.rounds) × (g.marks ≡ h.marks)

abbrev pub HostActs : ℕ → Host → Act → Host → Type 0
HostActs leadership h (Does call mark) g = calls.Does h.store call g.store × Marks call mark h g
    × (g.hosted ≡ record h.hosted { rounds = g.hosted.rounds })
HostActs leadership h (Goes step) g = HostDoes leadership h.hosted step g.hosted × (g.store ≡ h.store) × (g.marks ≡ h.marks)

-- any acts of a host, one after another
abbrev pub AllActs : ℕ → Host → List Act → Host → Type 0
AllActs leadership h [] last = h ≡ last
AllActs leadership h (a ∷ acts) last = (g : Host) × HostActs leadership h a g × AllActs leadership g acts last

-- what the host calls of its rounds
abbrev pub called_by : Act → List RoundCall
called_by (Does (Carries t bytes ask asked answer rests) mark) = CarriesOut mark ∷ []
called_by (Goes (Calls call)) = call ∷ []
called_by other = []

abbrev pub called : List Act → List RoundCall
called acts = flat_map called_by acts

-- whether the channel is connected anew
abbrev pub connects : ℕ → Act → Bool
connects t (Does (Connects u) mark) = u == t
connects t other = false

-- A command was carried out as the engine was so; and by these calls its reply goes out. Among them a round was taken, and it or a later one
-- has held. All that any other leadership had decided, this one had found as it began, before this gap: so all that another store had
-- told as logged.
pub record IsNewest (payload_in : List ℕ → List ℕ) (w : World) (leadership gap : ℕ) (cs : List RoundCall) : Type 0 where
  pub round : IsHeld cs
  pub found : (other from last : ℕ) → HasDecided w other from last → from ≤ last → other ≢ leadership → last < gap
  pub told : (other from : ℕ) (limits : Limits) (next : Next) (start : Entries) (ds : List Call) (s : StoreView)
      → HasDone limits next start ds s → IsLed payload_in w other from next ds → other ≢ leadership
      → (batch : ℕ) → IsLogged ds batch → (it : IsInEngine payload_in w other ds batch) × (it.number < gap)

-- A host that serves carries a command out. Later its reply is told, and later still the mark that its channel had then may be told: so the
-- reply goes out, and tells the newest.
abbrev pub RepliesAreNewest : Type 0
RepliesAreNewest = (payload_in : List ℕ → List ℕ) (leadership gap t mark any : ℕ) (first h m g : Host) (before between after : List Act)
    (bytes : List ℕ) (ask : Ask) (asked : Asked) (answer : Answer) (rests : List ℕ)
    → first.hosted ≡ new_hosted → AllActs leadership first before h → ServesFrom h.hosted.world leadership gap
    → AllActs leadership h (Does (Carries t bytes ask asked answer rests) mark ∷ between) m → list_any (connects t) between ≡ false
    → AllActs leadership m (Does (Tells t asked.ticket answer) any ∷ after) g → may_tell (m.marks t) g.hosted.rounds ≡ true
    → IsNewest payload_in h.hosted.world leadership gap (called (between ++ Does (Tells t asked.ticket answer) any ∷ after))
