-- What numbers say of an engine's answer, and the numbers of what is told.
use Rattle.std.specs.Prelude.{◌==◌, ℕ, Option, Some, None, if◌then◌else◌}
use Rattle.sk_handles.specs.Base.{Held, Absent, Mine, Another, BatchAnswer, FenceAnswer, LeadAnswer, RoundAnswer, Word}
use Rattle.sk_handles.specs.Base.{Synced, Lost, Unknowable, Still, Serves, Over, Again, Claimed, Waits, Breach, AGAIN}
use Rattle.sk_handles.specs.Base.{BREACH, CARRIED_OUT, CLAIMED, LOST, OVER, SEEN, SERVES, STILL, SYNCED, UNKNOWABLE}
use Rattle.sk_handles.specs.Base.{WAITS, Told}
use Rattle.sk_handles.specs.Told.{just}

-- 0 says that there is no leader
abbrev pub leader_of : ℕ → Option ℕ
leader_of leader = if leader == 0 then None else Some leader

abbrev pub held_by : ℕ → Held
held_by held = if held == 0 then Absent else if held == 1 then Mine else Another

-- the answer of a try to put a batch: it was carried out; it was not, and this was seen; or nothing is known
abbrev pub batch_answer_of : ℕ → ℕ → ℕ → ℕ → BatchAnswer
batch_answer_of answer leader held snap =
    if answer == CARRIED_OUT then BatchAnswer.Done
    else if answer == SEEN then BatchAnswer.Not (record { leader = leader_of leader; held = held_by held; snap = snap })
    else BatchAnswer.Unknown

abbrev pub fence_answer_of : ℕ → ℕ → ℕ → FenceAnswer
fence_answer_of answer leader fence =
    if answer == CARRIED_OUT then FenceAnswer.Done
    else if answer == SEEN then FenceAnswer.Not (record { leader = leader_of leader; fence = fence })
    else FenceAnswer.Unknown

abbrev pub round_answer_of : ℕ → ℕ → RoundAnswer
round_answer_of answer leader = if answer == SEEN then RoundAnswer.Seen (leader_of leader) else RoundAnswer.Unknown

-- of which leadership the word that was put is, or the one that was there
abbrev pub lead_answer_of : ℕ → ℕ → ℕ → LeadAnswer
lead_answer_of answer leadership held =
    if answer == CARRIED_OUT then LeadAnswer.Done leadership
    else if answer == SEEN then LeadAnswer.Not (record { leadership = leadership; held = held_by held })
    else LeadAnswer.Unknown

abbrev pub word_told : Word → Told
word_told (Synced number) = just SYNCED number
word_told (Lost number) = just LOST number
word_told (Unknowable number) = just UNKNOWABLE number
word_told (Still number) = just STILL number
word_told Serves = just SERVES 0
word_told Over = just OVER 0
word_told Again = just AGAIN 0
word_told (Claimed leadership) = just CLAIMED leadership
word_told Waits = just WAITS 0
word_told Breach = just BREACH 0
