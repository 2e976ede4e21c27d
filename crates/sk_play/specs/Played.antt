-- The line of an answer.
use Rattle.std.specs.Prelude.{ℕ, List, [], ◌∷◌, ◌++◌, codes, decimal}
use Rattle.sk_play.specs.Base.{refusal_words, CallAnswer}

abbrev pub answer_text : CallAnswer → List ℕ
answer_text CallAnswer.Stepped = codes "stepped"
answer_text (CallAnswer.Guessed id) = codes "guess " ++ decimal id
answer_text CallAnswer.Done = codes "done"
answer_text CallAnswer.Gone = codes "gone"
answer_text CallAnswer.NoToken = codes "no token"
answer_text (CallAnswer.Refused why) = codes "refused " ++ refusal_words why

-- the number of an event from 1 on, and what it was answered
abbrev pub answer_line : ℕ → CallAnswer → List ℕ
answer_line number answer = decimal number ++ 32 ∷ answer_text answer ++ 10 ∷ []
