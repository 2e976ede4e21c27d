-- What a terminal shows are the texts that the trace says to it.
use Rattle.sk_report.proofs.Names.{◌≡◌, ℕ, List, [], ◌∷◌, map, refl, sym, ◌∙◌, ap, TaggedText, said_at, KernelView}
use Rattle.sk_report.proofs.Names.{texts_at, ShowsTerminal, said_there}

back : (t : ℕ) (texts : List TaggedText) → map (λ s. (s.0.text, s.1)) (said_at t texts) ≡ texts
back t [] = refl
back t (x ∷ texts) = ap (λ rest. x ∷ rest) (back t texts)

pub shown_there : (k : KernelView) (t : ℕ) (texts : List TaggedText) → ShowsTerminal k t texts → said_there k t ≡ texts
shown_there k t texts shows = ap (map (λ s. (s.0.text, s.1))) (sym shows.said) ∙ back t texts

pub nothing_there : (k : KernelView) (t : ℕ) → texts_at k t ≡ [] → said_there k t ≡ []
nothing_there k t none = ap (map (λ s. (s.0.text, s.1))) none
