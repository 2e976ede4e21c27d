-- As many texts are released of a terminal's as of the record's: by recursion over the texts.
use Rattle.first_guess.proofs.Names.{◌≡◌, ℕ, suc, List, [], ◌∷◌, length, ap, refl, sym, ◌∙◌, released, said_at}
use Rattle.first_guess.proofs.Names.{TaggedText}
use Rattle.first_guess.proofs.shown.Goals as goal

as_many : (t : ℕ) (texts : List TaggedText) → length (released texts) ≡ length (released (said_at t texts))
as_many t [] = refl
as_many t ((text, []) ∷ texts) = ap suc (as_many t texts)
as_many t ((text, g ∷ tags) ∷ texts) = refl

pub returns-in-Some : goal.returns-in-Some
returns-in-Some c = ap length c.released.ensures ∙ as_many 1 c.in-Some.terminal.now ∙ ap (λ texts. length (released texts)) c.in-Some.ensures.said

pub returns-in-None : goal.returns-in-None
returns-in-None c = ap (λ texts. length (released texts)) (sym c.in-None.ensures.0)
