-- A host that tells nothing old: its rounds beside an engine with any number of hosts.
use Rattle.std.specs.Prelude.{◌≡◌, ◌⊎◌, ◌<◌, ◌≤◌, ◌≢◌, ℕ, true, List, [], ◌∷◌}
use Rattle.sk_engine.specs.declared.answer.RoundAnswer.{RoundAnswer}
use Rattle.sk_engine.specs.declared.answer.RoundAnswer.TheVariants.{Seen}
use Rattle.sk_engine.specs.declared.request.Batch.{Batch}
use Rattle.sk_engine.specs.declared.request.Round.{Round}
use Rattle.sk_engine.specs.declared.request.Told.TheVariants.{Still}
use Rattle.sk_engine.specs.Told.{round_told}
use Rattle.sk_engine.specs.Moves.{batch_of, new_world, Happens, Has, HasDecided, Move, ServesFrom, WasSynced, World}
use Rattle.sk_engine.specs.Rounds.{may_tell, no_rounds, CarriesOut, Holds, RoundCall, RoundDoes, RoundsView}

-- a round that the engine carried out, and its answer, which may have reached the host or not
pub record RoundTry : Type 0 where
  pub round : ℕ
  pub answer : RoundAnswer

-- a batch that stands for a round
pub record Ride : Type 0 where
  pub number : ℕ
  pub round : ℕ

-- an engine with all its hosts; the rounds of one of them, those that the engine carried out, and the batches that stand for rounds
pub record Hosted : Type 0 where
  pub world : World
  pub rounds : RoundsView
  pub answered : List RoundTry
  pub rides : List Ride

abbrev pub new_hosted : Hosted
new_hosted = record { world = new_world; rounds = no_rounds; answered = []; rides = [] }

-- Acts: the engine or any host moves. Calls: the host calls its rounds. Asks: the engine carries out a round that was taken. Rides: a
-- batch that was not sent yet stands for a round that was taken.
pub data Step : Type 0 where
  Acts : (move : Move) → Step
  Calls : (call : RoundCall) → Step
  Asks : (round : ℕ) → Step
  Rides : (number round : ℕ) → Step

abbrev pub round_of : ℕ → ℕ → Round
round_of leadership number = record { leadership = leadership; number = number }

-- the host was told that this round has held: by its answer, or by the word on a batch that stands for it
abbrev pub IsKnown : ℕ → Hosted → ℕ → Type 0
IsKnown leadership h round =
    ((answer : RoundAnswer) × Has (record { round = round; answer = answer }) h.answered × (round_told (round_of leadership round) answer ≡ Still round))
    ⊎ ((number : ℕ) × Has (record { number = number; round = round }) h.rides × WasSynced h.world (batch_of leadership number))

-- The host says only of a round of which it was told so that it has held.
abbrev pub IsHeeded : ℕ → Hosted → RoundCall → Type 0
IsHeeded leadership h (Holds round) = IsKnown leadership h round
IsHeeded leadership h other = Unit {0}

abbrev pub WasSent : World → Batch → Type 0
WasSent w b = (value : List ℕ) × Has (record { batch = b; value = value }) w.sent

-- what a step of the host that serves this leadership needs, and what it leaves
abbrev pub HostDoes : ℕ → Hosted → Step → Hosted → Type 0
HostDoes leadership h (Acts move) g = (w : World) × Happens h.world move w × (g ≡ record h { world = w })
HostDoes leadership h (Calls call) g = (rounds : RoundsView) × RoundDoes h.rounds call rounds × IsHeeded leadership h call
    × (g ≡ record h { rounds = rounds })
HostDoes leadership h (Asks round) g = (round ≤ h.rounds.taken)
    × (g ≡ record h { answered = record { round = round; answer = Seen h.world.engine.leader } ∷ h.answered })
HostDoes leadership h (Rides number round) g = (round ≤ h.rounds.taken) × (WasSent h.world (batch_of leadership number) → ⊥)
    × (g ≡ record h { rides = record { number = number; round = round } ∷ h.rides })

abbrev pub HostRuns : ℕ → Hosted → List Step → Hosted → Type 0
HostRuns leadership h [] last = h ≡ last
HostRuns leadership h (s ∷ ss) last = (g : Hosted) × HostDoes leadership h s g × HostRuns leadership g ss last

-- A host that serves carries something out, and later its mark may be told: all that any other leadership had decided before, it had found
-- as it began.
abbrev pub ToldIsNewest : Type 0
ToldIsNewest = (before after : List Step) (h g : Hosted) (leadership gap other from last mark : ℕ) → HostRuns leadership new_hosted before h
    → ServesFrom h.world leadership gap → HasDecided h.world other from last → from ≤ last → other ≢ leadership
    → HostRuns leadership h (Calls (CarriesOut mark) ∷ after) g → may_tell mark g.rounds ≡ true → last < gap
