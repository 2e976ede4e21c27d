-- The directory that a plan adds a name to is told by its writes.
use Rattle.sk_plain.proofs.Cites.{◌≡◌, ℕ, Bool, true, false, cond, List, Option, Some, None, Result, Ok, Err, refl}
use Rattle.sk_plain.proofs.Cites.{nat_lt, Effect, Ask, Refuse, Done, perform, with_read, Entity, Proc, Link}
use Rattle.sk_plain.proofs.Cites.{ContentView, LAST_VERSION, Process, Instruction, Input, process_in, EntityState}
use Rattle.sk_plain.proofs.Cites.{Scripts, StepTree, Saying, next_in, with_input, goes_on, act, adds_in, adds_of}
use Rattle.sk_plain.proofs.Cites.{adds_beside, writes_of, IsReply, from_copy, over_copy, good, fresh, stale, Refusal}
use Rattle.sk_plain.proofs.Cites.{seen_with, changed_by, looked, beside_of, Plan, Acts, Beside, Writes, LooksView}
use Rattle.sk_objects.specs.declared.value.Value.TheVariants as values
use Rattle.sk_script.specs.declared.instruction.Instruction.TheVariants as does_
use Rattle.sk_script.specs.declared.instruction.Input.TheVariants as inputs
use Rattle.sk_store.specs.declared.entity_state.EntityState.TheVariants as stored
use Rattle.sk_plain.specs.declared.plan.Beside.TheVariants as beside

one_added : (look : Entity → Option EntityState) (pid : ℕ) (q p : Process) (looks : LooksView) (e : Entity) (w : Writes)
    → adds_in (writes_of look pid (record { process = q; looks = looks; beside = beside_of p (beside.One e w) })) ≡ adds_beside (beside.One e w)
one_added look pid q p looks (Link d name) w = refl
one_added look pid q p looks e w = refl

row_added : (look : Entity → Option EntityState) (pid : ℕ) (q p : Process) (looks : LooksView) (b : Beside) → adds_in (writes_of look pid (record { process = q; looks = looks; beside = beside_of p b })) ≡ adds_beside b
row_added look pid q p looks beside.Nothing = refl
row_added look pid q p looks (beside.One e w) = one_added look pid q p looks e w
row_added look pid q p looks (beside.Gone e) = refl

pub adds_is : (look : Entity → Option EntityState) (scripts : Scripts) (pid : ℕ) (input : Input) (plan : Plan) → adds_in (writes_of look pid (seen_with look scripts pid input plan)) ≡ adds_of plan
adds_is look scripts pid input (Acts r) =
    let p = process_in (look (Proc pid)) in
    row_added look pid (changed_by look r.looks p r.change) p (looked r.looks) r.beside
adds_is look scripts pid input plan = refl

-- ---- a step with a reply adds no name
AddsNone : StepTree → Type 0
AddsNone (Ask e next) = (v : Option EntityState) → AddsNone (next v)
AddsNone (Refuse why) = Unit {0}
AddsNone (Done written said) = adds_in written ≡ None

abbrev pub NoneAdded : Result (Effect Entity EntityState Saying) Refusal → Type 0
NoneAdded (Ok f) = adds_in f.written ≡ None
NoneAdded (Err why) = Unit {0}

read_none : (e : Entity) (v : Option EntityState) (r : Result (Effect Entity EntityState Saying) Refusal) → NoneAdded r → NoneAdded (with_read e v r)
read_none e v (Ok f) none = none
read_none e v (Err why) none = tt

performs_none : (look : Entity → Option EntityState) (step : StepTree) → AddsNone step → NoneAdded (perform look step)
unfolding AddsNone
performs_none look (Ask e next) none = read_none e (look e) (perform look (next (look e))) (performs_none look (next (look e)) (none (look e)))
performs_none look (Refuse why) none = tt
performs_none look (Done written said) none = none

if_none : (t : Bool) (a b : StepTree) → AddsNone a → AddsNone b → AddsNone (cond t a b)
if_none true a b x y = x
if_none false a b x y = y

from_none : (pid : ℕ) (p : Process) (v : Option EntityState) → AddsNone (from_copy pid p v)
unfolding AddsNone
from_none pid p (Some (stored.Value (values.Copy content))) = refl
from_none pid p v = tt

over_none : (pid : ℕ) (p : Process) (name : List ℕ) (v : Option EntityState) → AddsNone (over_copy pid p name v)
unfolding AddsNone
over_none pid p name None = refl
over_none pid p name (Some (stored.Value (values.Copy content))) = if_none (nat_lt content.version LAST_VERSION) _ _ refl tt
over_none pid p name v = tt

good_none : (pid : ℕ) (p : Process) (i : Option Instruction) → AddsNone (good pid p i)
unfolding AddsNone
good_none pid p (Some (does_.Fetch name)) = from_none pid p
good_none pid p (Some (does_.Store name)) = over_none pid p name
good_none pid p i = tt

fresh_none : (pid : ℕ) (p : Process) (c : ContentView) (i : Option Instruction) → AddsNone (fresh pid p c i)
unfolding AddsNone
fresh_none pid p c (Some (does_.Fetch name)) = refl
fresh_none pid p c i = tt

stale_none : (pid : ℕ) (p : Process) (c : ContentView) (i : Option Instruction) → AddsNone (stale pid p c i)
unfolding AddsNone
stale_none pid p c (Some (does_.Store name)) = refl
stale_none pid p c i = tt

input_none : (pid : ℕ) (p : Process) (i : Option Instruction) (input : Input) → IsReply input → AddsNone (with_input pid p i input)
input_none pid p i inputs.None reply = absurd reply
input_none pid p i inputs.Good reply = good_none pid p i
input_none pid p i (inputs.Fresh c) reply = fresh_none pid p c i
input_none pid p i (inputs.Stale c) reply = stale_none pid p c i

goes_none : (scripts : Scripts) (pid : ℕ) (input : Input) (v : Option EntityState) → IsReply input → AddsNone (goes_on scripts pid input v)
unfolding AddsNone
goes_none scripts pid input (Some (stored.Process p)) reply = if_none p.ended _ _ tt (input_none pid p (next_in scripts p) input reply)
goes_none scripts pid input (Some (stored.Value v)) reply = tt
goes_none scripts pid input None reply = tt

pub reply_adds : (look : Entity → Option EntityState) (scripts : Scripts) (pid : ℕ) (input : Input) → IsReply input → NoneAdded (perform look (act scripts pid input))
unfolding AddsNone
reply_adds look scripts pid input reply = performs_none look (act scripts pid input) (λ v. goes_none scripts pid input v reply)
