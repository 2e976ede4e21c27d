-- What a server answers, one request after another.
use Rattle.sk_crew.proofs.Names.{List, [], ◌∷◌, ◌++◌, Result, Ok, Err, refl, subst, Request, Reply, ServerRefusal}
use Rattle.sk_crew.proofs.Names.{ServerView, Answers, AnswersAll, IsServed}
use Rattle.std.specs.Prelude.{◌≡◌}

pub not_served : (s t : ServerView) → t ≡ s → IsServed s t
not_served s t same = ([], same)

all_and_more : (s t u : ServerView) (qs rs : List Request) → AnswersAll s qs t → AnswersAll t rs u → AnswersAll s (qs ++ rs) u
all_and_more s t u [] rs one more = subst (λ (x : ServerView). AnswersAll x rs u) one more
all_and_more s t u (q ∷ qs) rs one more = (one.0, one.1, one.2, all_and_more one.1 t u qs rs one.3 more)

pub served_more : (s t u : ServerView) → IsServed s t → IsServed t u → IsServed s u
served_more s t u one more = (one.0 ++ more.0, all_and_more s t u one.0 more.0 one.1 more.1)

-- one answer, or a refusal that changes nothing
pub served_one : (s t : ServerView) (q : Request) (r : Result Reply (Request × ServerRefusal)) → Answers s q r t → IsServed s t
served_one s t q (Ok reply) answers = (q ∷ [], (reply, t, answers, refl))
served_one s t q (Err back) answers = ([], answers.2)
