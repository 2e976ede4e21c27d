-- The calls of a kernel over own keys, one after another, with what is logged of its steps.
use Rattle.std.specs.Prelude.{◌≡◌, ℕ, List, [], ◌∷◌, ◌++◌, Option}
use Rattle.std.specs.FinMap.{FinMap, IsAntisymmetric}
use Rattle.std.specs.Cmp.{IsTotalOrder}
use Rattle.sk_record.specs.Run.{System}
use Rattle.sk_record.specs.declared.status.Status.{Status}
use Rattle.sk_guesses.specs.Kept.{AreStatuses}
use Rattle.sk_deeds.specs.Told.{Told, told_more}
use Rattle.sk_speculator.specs.Parts.{Parts, undo_state_of, machine_of}
use Rattle.sk_speculator.specs.Calls.{Forgets}
use Rattle.sk_speculator.specs.Law.{Call, Does, Tells, Returns, events_of, TakesOut, Happens, IsFirst}
use Rattle.sk_rests.specs.Logged.{Logged, IsLogOf}
use Rattle.sk_rests.specs.Laws.{IsAsLogged}

module _ {K V O F N : Type 0} (own : System K V (ℕ × O) F N) where
  -- any calls, one after another: what is logged of them, and what was taken out by then
  abbrev pub OwnLogs : Told O → Parts K V O → List (Call N O) → List (Logged N O) → Told O → Parts K V O → Type 0
  OwnLogs told a [] log last b = (log ≡ []) × (told ≡ last) × (a ≡ b)
  OwnLogs told a (Does e ∷ cs) log last b =
      (m : Parts K V O) × (one : List (Logged N O)) × (more : List (Logged N O)) × (log ≡ one ++ more)
      × Happens own a e m × IsLogOf own (undo_state_of own.order a) e one × OwnLogs told m cs more last b
  OwnLogs told a (Tells t output ∷ cs) log last b =
      (m : Parts K V O) × TakesOut a t output m × OwnLogs (told_more t output told) m cs log last b
  OwnLogs told a (Returns g ∷ cs) log last b =
      (m : Parts K V O) × Forgets own.order a g m × OwnLogs told m cs log last b

  -- after any calls all is as what is logged says, with the statuses of some function that agrees with what is kept of guesses
  abbrev pub OwnStandsAsLogged : Type 0
  OwnStandsAsLogged =
      IsTotalOrder own.order → IsAntisymmetric own.order → ((w : ℕ × O) → own.goes_to w ≡ w.0)
      → (start : FinMap own.order V) (a b : Parts K V O) (cs : List (Call N O))
      → (log : List (Logged N O)) (told : Told O)
      → IsFirst own start a → OwnLogs (λ t. []) a cs log told b
      → (status : ℕ → Option Status) × AreStatuses b.guesses b.opens status
      × IsAsLogged own start (events_of cs) log told (machine_of own.order b status)
