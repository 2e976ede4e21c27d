-- Histories of a desk, and receipts for their entries.
use Rattle.std.specs.Prelude.{◌≡◌, ◌≢◌, ◌⊎◌, ℕ, zero, suc, List, [], ◌∷◌, ◌++◌, length, Option, Some, None, Result, Ok, Err, slice_get}
use Rattle.sk_script.specs.Lease.{LeaseView, after_private}
use Rattle.sk_plain.specs.Leased.{Lends}
use Rattle.sk_plain.specs.declared.refusal.Refusal.{Refusal}
use Rattle.sk_server.specs.declared.reply.Reply.{Reply}
use Rattle.sk_server.specs.declared.request.Request.{Request}
use Rattle.sk_client.specs.Desk.{DeskView, opened_at, first_sent, first_taken, requests_taken}
use Rattle.sk_kernel.specs.HandIn.{IsAsLent}
use Rattle.sk_kernel.specs.declared.hand_in.HandIn.{HandIn}
use Rattle.sk_client.specs.DeskCalls.{TurnPost, ReplyPost, handed_back}
use Rattle.sk_client.specs.Leasing.{DeskTakesIn, DeskHandInPost, desk_lease}
use Rattle.sk_client.specs.declared.desk.Turn.{Turn}
use Rattle.sk_client.specs.declared.desk.ReplyRefusal.{ReplyRefusal}
use Rattle.sk_workers.specs.declared.entry.DeskCall.{DeskCall}
use Rattle.sk_workers.specs.declared.entry.Answered.{Answered}
use Rattle.sk_workers.specs.declared.entry.HistoryEntry.{HistoryEntry}
use Rattle.sk_workers.specs.declared.entry.Receipt.{Receipt}
use Rattle.sk_workers.specs.Views.{BookView, WorkerView}

abbrev pub entry : ℕ → DeskCall → Answered → ℕ → HistoryEntry
entry worker call answer taken = record { worker = worker; call = call; answer = answer; taken = taken }

abbrev pub receipt : ℕ → HistoryEntry → Receipt
receipt place e = record { place = place; entry = e }

-- an answer alone, without what comes back where it is refused
abbrev pub answer_alone : {A B C : Type 0} → Result A (B × C) → Result A C
answer_alone (Ok given) = Ok given
answer_alone (Err back) = Err back.1

-- ---- histories

-- a desk as it was when its epoch began: over the kernel at its start, before any request
abbrev pub as_opened : DeskView → DeskView
as_opened d = opened_at (record d.kernel { trace = [] }) d.first

-- a lease of so many instructions on the process of this number as it stands: its script, no signal due, and each of them private
abbrev pub Leases : DeskView → ℕ → ℕ → LeaseView → Type 0
Leases d pid count l =
    IsAsLent d.kernel l × (l.lent.pid ≡ pid) × (l.count ≡ count) × (after_private l.script l.count l.lent ≡ Some l.now)

-- a hand-in does what the desk promises of it with such a lease; of a stale one nothing is said but that nothing changed
abbrev pub HandsIn : Result (Unit {0}) HandIn → DeskView → ℕ → ℕ → DeskView → Type 0
HandsIn (Err HandIn.Stale) d pid count d' = d' ≡ d
HandsIn r d pid count d' = (l : LeaseView) × Leases d pid count l × DeskTakesIn r l d d'

-- a call does what the desk promises of it; want of memory is no answer
abbrev pub CallPost : DeskView → DeskCall → Answered → DeskView → Type 0
CallPost d (DeskCall.Turn pid) (Answered.Turned r) d' = TurnPost r d pid d' × (r ≢ Err Refusal.Memory)
CallPost d (DeskCall.Reply reply) (Answered.Replied r) d' = ReplyPost (handed_back reply r) d reply d' × (r ≢ Err ReplyRefusal.Memory)
CallPost d (DeskCall.HandIn pid count) (Answered.HandedIn r) d' = HandsIn r d pid count d' × (r ≢ Err HandIn.Memory)
CallPost d call answer d' = ⊥

-- the oldest request that waits is taken, so many times
abbrev pub taking : ℕ → DeskView → DeskView
taking zero d = d
taking (suc n) d = let e = taking n d in first_taken e e.waiting

-- from a first desk on each answer is the desk's at that place, and the last desk is where the history ends: requests may be
-- taken before each call and after the last, and an entry tells how many had been
abbrev pub Runs : DeskView → List HistoryEntry → DeskView → Type 0
Runs d [] last = (n : ℕ) × (last ≡ taking n d)
Runs d (e ∷ es) last =
    (n : ℕ) × (d' : DeskView)
    × (e.taken ≡ requests_taken (taking n d))
    × CallPost (taking n d) e.call e.answer d'
    × Runs d' es last

-- a history from the opening of a desk to the desk
abbrev pub IsLegal : List HistoryEntry → DeskView → Type 0
IsLegal history d = Runs (as_opened d) history d

-- ---- calls

-- the call is the history's next entry and the worker's next receipt
abbrev pub Adds : BookView → WorkerView → DeskCall → Answered → BookView → WorkerView → Type 0
Adds b w call answer b' w' =
    let e = entry w.number call answer (requests_taken b.desk) in
    CallPost b.desk call answer b'.desk
    × (b'.history ≡ b.history ++ e ∷ [])
    × (w' ≡ record w { receipts = w.receipts ++ receipt (length b.history) e ∷ [] })

-- memory wants for a hand-in, and nothing has changed; or it is the desk's, and the history's next entry and the worker's next receipt
abbrev pub TakesInAdds : Result (Unit {0}) HandIn → BookView → WorkerView → LeaseView → BookView → WorkerView → Type 0
TakesInAdds r b w l b' w' =
    ((r ≡ Err HandIn.Memory) × (b' ≡ b) × (w' ≡ w))
    ⊎ (DeskTakesIn r l b.desk b'.desk × Adds b w (DeskCall.HandIn l.lent.pid l.count) (Answered.HandedIn r) b' w')

-- a lease is taken in, as in `TakesInAdds`, or comes back after a refusal
abbrev pub HandInAdds : Result (Unit {0}) (LeaseView × HandIn) → BookView → WorkerView → LeaseView → BookView → WorkerView → Type 0
HandInAdds r b w l b' w' =
    ((answer_alone r ≡ Err HandIn.Memory) × (b' ≡ b) × (w' ≡ w))
    ⊎ (DeskHandInPost r l b.desk b'.desk × Adds b w (DeskCall.HandIn l.lent.pid l.count) (Answered.HandedIn (answer_alone r)) b' w')

-- memory wants for a turn, and nothing has changed; or it is the history's next entry and the worker's next receipt
abbrev pub TurnAdds : Result Turn Refusal → BookView → WorkerView → ℕ → BookView → WorkerView → Type 0
TurnAdds r b w pid b' w' = ((r ≡ Err Refusal.Memory) × (b' ≡ b) × (w' ≡ w)) ⊎ Adds b w (DeskCall.Turn pid) (Answered.Turned r) b' w'

-- a lease is handed in, where there is one, and given up where it is refused
abbrev pub TakesAny : Option (Result (Unit {0}) HandIn) → BookView → WorkerView → Option LeaseView → BookView → WorkerView → Type 0
TakesAny None b w None b' w' = (b' ≡ b) × (w' ≡ w)
TakesAny (Some r) b w (Some l) b' w' = TakesInAdds r b w l b' w'
TakesAny r b w l b' w' = ⊥

-- a process is lent into its place, where one is asked for; else the place stays empty
abbrev pub LendsAny : Option (Result (Unit {0}) Refusal) → Option LeaseView → DeskView → Option ℕ → Type 0
LendsAny None None d None = Unit {0}
LendsAny (Some (Ok u)) (Some l) d (Some pid) = Lends (Ok l) (desk_lease d pid)
LendsAny (Some (Err why)) None d (Some pid) = Lends (Err why) (desk_lease d pid)
LendsAny r place d pid = ⊥

-- want of memory is no answer
abbrev pub IsAnswer : Answered → Type 0
IsAnswer (Answered.Turned r) = r ≢ Err Refusal.Memory
IsAnswer (Answered.Replied r) = r ≢ Err ReplyRefusal.Memory
IsAnswer (Answered.HandedIn r) = r ≢ Err HandIn.Memory

-- an answer and one receipt more, for this call and answer, at some place and after so many requests
abbrev pub Told : WorkerView → DeskCall → Answered → WorkerView → Type 0
Told w call answer w' =
    IsAnswer answer × (place : ℕ) × (taken : ℕ) × (w' ≡ record w { receipts = w.receipts ++ receipt place (entry w.number call answer taken) ∷ [] })

-- memory wants for a turn, or it is answered, with a receipt
abbrev pub TurnTold : Result Turn Refusal → WorkerView → ℕ → WorkerView → Type 0
TurnTold r w pid w' = ((r ≡ Err Refusal.Memory) × (w' ≡ w)) ⊎ Told w (DeskCall.Turn pid) (Answered.Turned r) w'

-- memory wants for a hand-in, or it is answered, with a receipt
abbrev pub HandInTold : Result (Unit {0}) HandIn → WorkerView → LeaseView → WorkerView → Type 0
HandInTold r w l w' = ((r ≡ Err HandIn.Memory) × (w' ≡ w)) ⊎ Told w (DeskCall.HandIn l.lent.pid l.count) (Answered.HandedIn r) w'

-- a hand-in is told of the lease, where there is one
abbrev pub AnyTold : Option (Result (Unit {0}) HandIn) → WorkerView → Option LeaseView → WorkerView → Type 0
AnyTold None w None w' = w' ≡ w
AnyTold (Some r) w (Some l) w' = HandInTold r w l w'
AnyTold r w l w' = ⊥

-- a process is lent, where one is asked for, as a desk with a legal history lends it
abbrev pub IsLentAny : Option (Result (Unit {0}) Refusal) → Option LeaseView → Option ℕ → Type 0
IsLentAny r place pid = (book : BookView) × IsLegal book.history book.desk × LendsAny r place book.desk pid

-- a lease of the process that was asked for, or none
abbrev pub IsLeaseOf : Option LeaseView → Option ℕ → Type 0
IsLeaseOf None pid = Unit {0}
IsLeaseOf (Some l) pid = pid ≡ Some l.lent.pid

-- a desk with a legal history hands it out: its oldest request that waits, or none where none does
abbrev pub IsHandedOut : Option Request → Type 0
IsHandedOut r = (book : BookView) × IsLegal book.history book.desk × (r ≡ first_sent book.desk.waiting)

-- ---- workers

-- each receipt is for a call of the worker of this number
abbrev pub AreOwn : ℕ → List Receipt → Type 0
AreOwn number rs = (k : ℕ) (r : Receipt) → slice_get rs k ≡ Some r → r.entry.worker ≡ number

abbrev pub fresh : ℕ → WorkerView
fresh number = record { number = number; turns = 0; receipts = [] }

-- workers numbered from 0, without receipts
abbrev pub AreFresh : ℕ → List WorkerView → Type 0
AreFresh n ws = (length ws ≡ n) × ((i : ℕ) (w : WorkerView) → slice_get ws i ≡ Some w → w ≡ fresh i)
