-- What is found in a line of a section is what its reading tells, where it is so behind each first word.
use Rattle.sk_faults.proofs.Names.{ℕ, List, [], ◌∷◌, Some, None, Option, Result, Ok, Err, FaultKind, Rule, with_said}
use Rattle.sk_faults.proofs.Names.{with_line, first_of, Part, Found, found_behind, Agrees, IsToldIn}

said_agrees : {A : Type 0} (before : List A) (ws : List (List ℕ)) (r : Result A FaultKind) (found : Option Found) → Agrees ws r found → Agrees ws (with_said before r) found
said_agrees before ws (Ok a) None h = tt
said_agrees before ws (Ok a) (Some f) h = absurd h
said_agrees before ws (Err e) None h = h
said_agrees before ws (Err e) (Some f) h = h

pub list_told : {A : Type 0} (part : Part) (rule : List ℕ → Rule A) → ((w : List ℕ) (ws : List (List ℕ)) → Agrees ws (rule w ws) (found_behind part w ws)) → (before : List A) (ws : List (List ℕ))
    → IsToldIn part ws (with_line rule before (first_of ws))
list_told part rule h before [] = tt
list_told part rule h before (w ∷ ws) = said_agrees before ws (rule w ws) (found_behind part w ws) (h w ws)
