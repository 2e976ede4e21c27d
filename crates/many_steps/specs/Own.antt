-- A token with which there is something to decide.
use Rattle.std.specs.Prelude.{◌≡◌, true}
use Rattle.hidewillow.specs.RecordNotes.{has}
use Rattle.hidewillow.specs.UndoState.{numbers}
use Rattle.hidewillow.specs.Token.{Token}
use Rattle.hidewillow.specs.OwnParts.{Parts}

-- a token of this kernel, and of an undecided guess
abbrev pub IsOwn : {K V O : Type 0} → Parts K V O → Token → Type 0
IsOwn m token = (token.kernel ≡ m.guesses.kernel) × (has token.id (numbers m.opens) ≡ true)
