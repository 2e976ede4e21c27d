-- What each answer of the engine tells a host.
use Rattle.std.specs.Prelude.{◌==◌, ℕ, Bool, true, false, nat_le, List, Option, Some, None, if◌then◌else◌}
use Rattle.std.specs.Str.{bytes_eq}
use Rattle.sk_engine.specs.declared.answer.Held.{Held}
use Rattle.sk_engine.specs.declared.answer.Held.TheVariants.{Absent, Mine, Another}
use Rattle.sk_engine.specs.declared.answer.BatchAnswer.{BatchAnswer}
use Rattle.sk_engine.specs.declared.answer.BatchAnswer.TheVariants as batch
use Rattle.sk_engine.specs.declared.answer.FenceAnswer.{FenceAnswer}
use Rattle.sk_engine.specs.declared.answer.FenceAnswer.TheVariants as fence
use Rattle.sk_engine.specs.declared.answer.LeadAnswer.{LeadAnswer}
use Rattle.sk_engine.specs.declared.answer.LeadAnswer.TheVariants as lead
use Rattle.sk_engine.specs.declared.answer.RoundAnswer.{RoundAnswer}
use Rattle.sk_engine.specs.declared.answer.RoundAnswer.TheVariants as round
use Rattle.sk_engine.specs.declared.request.Told.{Told}
use Rattle.sk_engine.specs.declared.request.Told.TheVariants.{Synced, Lost, Unknowable, Still, Serves, Over, Again, Claimed, Waits, Breach}
use Rattle.sk_engine.specs.declared.request.Batch.{Batch}
use Rattle.sk_engine.specs.declared.request.Fence.{Fence}
use Rattle.sk_engine.specs.declared.request.Round.{Round}

-- whether the leader is of this leadership
abbrev pub leads : ℕ → Option ℕ → Bool
leads leadership None = false
leads leadership (Some leader) = leader == leadership

-- what stands under a number, beside the bytes that were to be put there
abbrev pub held_of : List ℕ → Option (List ℕ) → Held
held_of mine None = Absent
held_of mine (Some there) = if bytes_eq mine there then Mine else Another

-- A batch that was not put: whether its own bytes stand there, its leadership holds, and the log is cut up to it or further.
abbrev pub refused_told : ℕ → Held → Bool → Bool → Told
refused_told number Mine led cut = Synced number
refused_told number other true cut = Breach
refused_told number other false true = Unknowable number
refused_told number other false false = Lost number

abbrev pub batch_told : Batch → BatchAnswer → Told
batch_told b batch.Done = Synced b.number
batch_told b (batch.Not seen) = refused_told b.number seen.held (leads b.leadership seen.leader) (nat_le b.number seen.snap)
batch_told b batch.Unknown = Again

-- A fence that was not carried out: whether its leadership holds, and an earlier try of it was carried out.
abbrev pub unfenced_told : Bool → Bool → Told
unfenced_told false fenced = Over
unfenced_told true true = Serves
unfenced_told true false = Breach

abbrev pub fence_told : Fence → FenceAnswer → Told
fence_told f fence.Done = Serves
fence_told f (fence.Not seen) = unfenced_told (leads f.leadership seen.leader) (seen.fence == f.leadership)
fence_told f fence.Unknown = Again

abbrev pub round_told : Round → RoundAnswer → Told
round_told r (round.Seen leader) = if leads r.leadership leader then Still r.number else Over
round_told r round.Unknown = Again

-- A leader that was not put: of which leadership the one is that there was, and whether it has the host's word.
abbrev pub claim_told : ℕ → Held → Told
claim_told leadership Mine = Claimed leadership
claim_told leadership Another = Waits
claim_told leadership Absent = Breach

abbrev pub lead_told : LeadAnswer → Told
lead_told (lead.Done leadership) = Claimed leadership
lead_told (lead.Not seen) = claim_told seen.leadership seen.held
lead_told lead.Unknown = Again
