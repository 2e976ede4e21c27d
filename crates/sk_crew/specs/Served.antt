-- What the server of a crew did.
use Rattle.std.specs.Prelude.{◌≡◌, List, [], ◌∷◌, Ok}
use Rattle.sk_crew.specs.Base.{Request, Reply, ServerView, Answers}

-- a server answers these requests, one after another
abbrev pub AnswersAll : ServerView → List Request → ServerView → Type 0
AnswersAll s [] t = t ≡ s
AnswersAll s (q ∷ qs) t = (reply : Reply) × (u : ServerView) × Answers s q (Ok reply) u × AnswersAll u qs t

-- a server comes from another by answers to requests, and by nothing else
abbrev pub IsServed : ServerView → ServerView → Type 0
IsServed s t = (qs : List Request) × AnswersAll s qs t
