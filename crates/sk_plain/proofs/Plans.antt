-- What a plan writes and says, from the plan alone.
use Rattle.sk_plain.proofs.Cites.{◌≡◌, ℕ, ◌+◌, ◌<◌, ◌^◌, true, false, [], Option, Some, None, Result, Ok, Err, refl}
use Rattle.sk_plain.proofs.Cites.{sym, subst, is_some, unwrap_or, true≢false, perform, Entity, Proc, Process}
use Rattle.sk_plain.proofs.Cites.{Instruction, Input, private_step, process_in, EntityState, Scripts, StepTree, does}
use Rattle.sk_plain.proofs.Cites.{private_or, row, Nowhere, planned, said_in, written_by, PlansAfter, PlansRow}
use Rattle.sk_plain.proofs.Cites.{beside_of, or_refused, seen_with, written_in, written_row, Refusal, Plan, Private}
use Rattle.sk_plain.proofs.Cites.{Acts, Row, Beside, Nothing}
use Rattle.sk_script.specs.declared.instruction.Input.TheVariants as inputs
use Rattle.sk_plain.specs.Plan as views

-- a row says nothing
pub row_quiet : (q p : Process) (b : Beside) → said_in q (beside_of p b) ≡ None
row_quiet q p Nothing = refl
row_quiet q p b = refl

row_written : (p : Process) (pid : ℕ) (b : Beside) → written_by pid (beside_of p b) ≡ written_row pid b
row_written p pid Nothing = refl
row_written p pid b = refl

-- what a plan writes
pub written_is : (look : Entity → Option EntityState) (scripts : Scripts) (pid : ℕ) (input : Input) (plan : Plan) → written_by pid (seen_with look scripts pid input plan).beside ≡ written_in pid plan
written_is look scripts pid input (Acts r) = row_written (process_in (look (Proc pid))) pid r.beside
written_is look scripts pid input plan = refl

-- ---- private instructions
private_or_other : (look : Entity → Option EntityState) (pid : ℕ) (p : Process) (other : StepTree) (q : Option Process) → is_some q ≡ true
    → perform look (private_or pid q other) ≡ planned [] look pid (Ok (record { process = unwrap_or q p; looks = Nowhere; beside = views.Nothing }))
private_or_other look pid p other (Some next) h = refl
private_or_other look pid p other None h = absurd (true≢false (sym h))

-- a private instruction is done
pub private_done : (look : Entity → Option EntityState) (pid : ℕ) (p : Process) (i : Instruction) → is_some (private_step p i) ≡ true → p.place + 1 < 2 ^ 32
    → PlansAfter look (Some i) inputs.None p [] pid (does pid p (Some i)) (Ok Private)
private_done look pid p i is small = record {
  plans = private_or_other look pid p (row pid p i) (private_step p i) is;
  can = tt;
  apart = tt;
  fits = (refl, small);
  named = tt;
}

not_private : (pid : ℕ) (other : StepTree) (q : Option Process) → is_some q ≡ false → other ≡ private_or pid q other
not_private pid other (Some next) h = absurd (true≢false h)
not_private pid other None h = refl

-- and another one is a row
pub row_done : (look : Entity → Option EntityState) (pid : ℕ) (p : Process) (i : Instruction) (r : Result Plan Refusal) → is_some (private_step p i) ≡ false
    → PlansAfter look (Some i) inputs.None p [] pid (row pid p i) r → PlansAfter look (Some i) inputs.None p [] pid (does pid p (Some i)) r
row_done look pid p i r is h = subst (λ step. PlansAfter look (Some i) inputs.None p [] pid step r) (not_private pid (row pid p i) (private_step p i) is) h

-- the plan of a row
pub rows_after : (look : Entity → Option EntityState) (i : Option Instruction) (input : Input) (p : Process) (pid : ℕ) (step : StepTree) (r : Result Row Refusal)
    → PlansRow look p pid step r → PlansAfter look i input p [] pid step (or_refused Acts r)
rows_after look i input p pid step (Ok r) h = record { plans = h.plans; can = h.can; apart = h.apart; fits = h.fits; named = h.named }
rows_after look i input p pid step (Err why) h = record { plans = h.plans; can = h.can; apart = h.apart; fits = h.fits; named = h.named }

pub row_after : (look : Entity → Option EntityState) (i : Option Instruction) (input : Input) (p : Process) (pid : ℕ) (step : StepTree) (r : Row)
    → PlansRow look p pid step (Ok r) → PlansAfter look i input p [] pid step (Ok (Acts r))
row_after look i input p pid step r h = rows_after look i input p pid step (Ok r) h

pub ruleset rows = (rows_after, row_after)
