-- The calls of a store, one after another, and what they come to.
use Rattle.std.specs.Prelude.{◌≡◌, ℕ, true, false, List, [], ◌∷◌, ◌++◌, map, None}
use Rattle.sk_served.specs.Base.{FinMap, Event, Taken, record_of, tags_at, Machine, wants_all, held, Entries}
use Rattle.sk_served.specs.Base.{Moves, Starts, moves_of, told_more, Call, Does, TakenOut, Tells, Told, Answer}
use Rattle.sk_served.specs.Served.{served, Entry, Runs}
use Rattle.sk_served.specs.Names.{names_reserved}
use Rattle.sk_served.specs.Plain.{entries_after, replies_to}
use Rattle.sk_served.specs.Known.{LeavesOut}
use Rattle.sk_served.specs.Laws.{HoldsSame}

-- a kernel under the store
abbrev pub Kernel : Type 0
Kernel = Machine (List ℕ) (List ℕ) (ℕ × (ℕ × Answer))

-- Work that is taken names no reserved key, and where it is told of all keys just those are left out that are absent and depend on nothing.
abbrev pub IsProper : Kernel → Event Entry → Type 0
IsProper a (Taken (Runs asked)) = (names_reserved asked.work ≡ false)
    × (wants_all asked.work ≡ true → LeavesOut (λ key. (a.state.look key ≡ None) × (tags_at a.state key ≡ [])) asked.known)
IsProper a other = Unit {0}

-- what was taken out of each channel: tickets with answers
abbrev pub Out : Type 0
Out = Told (ℕ × Answer)

-- any such calls, and what was taken out by then
abbrev pub StoreCalls : Out → Kernel → List (Call Entry (ℕ × Answer)) → Out → Kernel → Type 0
StoreCalls told a [] last b = (told ≡ last) × (a ≡ b)
StoreCalls told a (Does e ∷ cs) last b =
    (m : Kernel) × IsProper a e × Moves served a e m × StoreCalls told m cs last b
StoreCalls told a (Tells t output ∷ cs) last b =
    (m : Kernel) × TakenOut a t output m × StoreCalls (told_more t output told) m cs last b

-- After any calls each key has just what the plain store holds after the works of the entries that depend on no failed
-- guess, and what was taken out of a channel, with what is in it, is just its answers to these.
abbrev pub CallsArePlain : Type 0
CallsArePlain =
    (start : FinMap served.order (List ℕ)) (entries : Entries) (a b : Kernel) (cs : List (Call Entry (ℕ × Answer))) (told : Out)
    → HoldsSame start entries → Starts served start a → StoreCalls (λ t. []) a cs told b
    → let left = record_of served start (moves_of cs) in
    ((key : List ℕ) → b.state.look key ≡ held (entries_after left entries) key)
    × ((t : ℕ) → told t ++ map (λ x. x.0) (b.texts t) ≡ replies_to t left entries)
