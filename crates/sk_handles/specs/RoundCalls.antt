-- What the calls of rounds do, and what they are told.
use Rattle.std.specs.Prelude.{◌≡◌, ℕ, Result}
use Rattle.sk_handles.specs.Base.{RoundRefusal, Nothing, Unknown, RoundsView, StillPost, TakePost, DONE, REFUSED, Told}
use Rattle.sk_engine.specs.declared.rounds.RoundRefusal.TheVariants.{Over, NoNumber}
use Rattle.sk_handles.specs.Told.{just, told_by}

abbrev pub round_refused : RoundRefusal → Told
round_refused Over = just REFUSED 1
round_refused Nothing = just REFUSED 2
round_refused NoNumber = just REFUSED 3
round_refused Unknown = just REFUSED 4

abbrev pub TakesRound : Told → RoundsView → RoundsView → Type 0
TakesRound told a b = (did : Result ℕ RoundRefusal) × (told ≡ told_by (just DONE) round_refused did) × TakePost did a b

abbrev pub SaysStill : ℕ → Told → RoundsView → RoundsView → Type 0
SaysStill round told a b = (did : Result (Unit {0}) RoundRefusal) × (told ≡ told_by (λ _. just DONE 0) round_refused did)
    × StillPost did round a b
