-- Who leads: an engine of which the words of its leaders are seen.
use Rattle.std.specs.Prelude.{◌≡◌, ℕ, Bool, true, false, List, [], ◌∷◌, Option, Some, None}
use Rattle.sk_engine.specs.declared.answer.LeadAnswer.{LeadAnswer}
use Rattle.sk_engine.specs.declared.answer.LeadAnswer.TheVariants as lead
use Rattle.sk_engine.specs.declared.request.Told.TheVariants.{Claimed}
use Rattle.sk_engine.specs.Told.{held_of, lead_told}
use Rattle.sk_engine.specs.Moves.{new_world, Has, Happens, Leads, Move, World}

-- a try to lead that was carried out, by this word, with its answer, which may have reached its host or not
pub record LeadTry : Type 0 where
  pub word : List ℕ
  pub answer : LeadAnswer

-- an engine with its hosts, the word of the last leader, and the tries to lead
pub record Worded : Type 0 where
  pub world : World
  pub word : List ℕ
  pub tries : List LeadTry

abbrev pub new_worded : Worded
new_worded = record { world = new_world; word = []; tries = [] }

-- what a try is answered: where there is no leader its leadership is this one
abbrev pub lead_answer : List ℕ → ℕ → List ℕ → Option ℕ → LeadAnswer
lead_answer mine leadership there None = lead.Done leadership
lead_answer mine leadership there (Some leader) = lead.Not (record { leadership = leader; held = held_of mine (Some there) })

-- Claims: a try is carried out, at whatever moment. Goes: anything else happens.
pub data ClaimMove : Type 0 where
  Claims : (word : List ℕ) → (leadership : ℕ) → ClaimMove
  Goes : (move : Move) → ClaimMove

abbrev pub is_lead : Move → Bool
is_lead (Leads leadership) = true
is_lead other = false

-- Where there is no leader the leadership begins; else nothing does.
abbrev pub Begins : Option ℕ → List ℕ → ℕ → Worded → World → List ℕ → Type 0
Begins None word leadership c w now = Happens c.world (Leads leadership) w × (now ≡ word)
Begins (Some leader) word leadership c w now = (w ≡ c.world) × (now ≡ c.word)

abbrev pub ClaimHappens : Worded → ClaimMove → Worded → Type 0
ClaimHappens c (Claims word leadership) d = Begins c.world.engine.leader word leadership c d.world d.word
    × (d.tries ≡ record { word = word; answer = lead_answer word leadership c.word c.world.engine.leader } ∷ c.tries)
ClaimHappens c (Goes move) d = (is_lead move ≡ false) × Happens c.world move d.world × (d.word ≡ c.word) × (d.tries ≡ c.tries)

abbrev pub ClaimRuns : Worded → List ClaimMove → Worded → Type 0
ClaimRuns c [] last = c ≡ last
ClaimRuns c (m ∷ ms) last = (d : Worded) × ClaimHappens c m d × ClaimRuns d ms last

-- a host that puts this word was told that this leadership is its own
abbrev pub WasClaimed : Worded → List ℕ → ℕ → Type 0
WasClaimed c word leadership = (answer : LeadAnswer) × Has (record { word = word; answer = answer }) c.tries × (lead_told answer ≡ Claimed leadership)

-- No leadership is told to two words.
abbrev pub LeadershipIsOne : Type 0
LeadershipIsOne = (moves : List ClaimMove) (c : Worded) (leadership : ℕ) (word other : List ℕ) → ClaimRuns new_worded moves c
    → WasClaimed c word leadership → WasClaimed c other leadership → word ≡ other
