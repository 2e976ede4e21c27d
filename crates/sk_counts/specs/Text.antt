-- The text of counts.
use Rattle.std.specs.Prelude.{ℕ, List, [], ◌∷◌, ◌++◌, codes, decimal}
use Rattle.sk_counts.specs.declared.counts.Counts.{Counts}

-- the guesses, and what became of them
unfoldable pub guesses_text : Counts → List ℕ
guesses_text c =
    codes "guesses " ++ decimal c.guesses ++ codes " committed " ++ decimal c.committed ++ codes " failed " ++ decimal c.failed
    ++ codes " struck " ++ decimal c.struck ++ 10 ∷ []

-- the steps, and the most guesses that were undecided at once
unfoldable pub steps_text : Counts → List ℕ
steps_text c =
    codes "steps " ++ decimal c.steps ++ codes " back " ++ decimal c.taken_back ++ codes " open " ++ decimal c.most_open ++ 10 ∷ []

-- the notes that are held
unfoldable pub notes_text : Counts → List ℕ
notes_text c = codes "notes " ++ decimal c.notes ++ 10 ∷ []

-- a line of each
abbrev pub counts_text : Counts → List ℕ
counts_text c = guesses_text c ++ steps_text c ++ notes_text c
