-- What is told of a wish for a new epoch.
use Rattle.std.specs.Prelude.{◌++◌, ℕ, List, [], ◌∷◌, codes, decimal}
use Rattle.sk_play.specs.declared.epoch.EpochTold.{EpochTold}

-- how many events are let go, or why no epoch begins
abbrev pub epoch_text : EpochTold → List ℕ
epoch_text (EpochTold.Begun n) = decimal n
epoch_text (EpochTold.Undecided n) = codes "refused " ++ decimal n ++ codes " undecided"
epoch_text (EpochTold.Pending n) = codes "refused " ++ decimal n ++ codes " pending"

-- its line
abbrev pub epoch_line : EpochTold → List ℕ
epoch_line told = codes "epoch " ++ epoch_text told ++ 10 ∷ []
