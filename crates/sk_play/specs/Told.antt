-- The line of what is told of an event of a world.
use Rattle.std.specs.Prelude.{ℕ, List, [], ◌∷◌, ◌++◌, codes, decimal}
use Rattle.sk_play.specs.Base.{refusal_words, Answer, Turn, Given, WorldAnswer, WorldTold}

abbrev pub turn_text : Turn → List ℕ
turn_text Turn.Stepped = codes "stepped"
turn_text (Turn.Guessed id) = codes "guessed " ++ decimal id
turn_text (Turn.Asked request) = codes "asked " ++ decimal request

-- the text of a reply: of a content its version
abbrev pub reply_text : Answer → List ℕ
reply_text Answer.Yes = codes "yes"
reply_text (Answer.No content) = codes "no " ++ decimal content.version
reply_text (Answer.Copy content) = codes "copy " ++ decimal content.version
reply_text Answer.Dropped = codes "dropped"

abbrev pub given_text : Given → List ℕ
given_text (Given.Committed id) = codes "committed " ++ decimal id
given_text (Given.Failed id) = codes "failed " ++ decimal id
given_text (Given.Gone id) = codes "gone " ++ decimal id
given_text (Given.Taken request) = codes "taken " ++ decimal request
given_text (Given.Forgotten request) = codes "forgotten " ++ decimal request

-- what came of an event that was not refused
abbrev pub world_answer_text : WorldAnswer → List ℕ
world_answer_text (WorldAnswer.Turn turn) = turn_text turn
world_answer_text (WorldAnswer.Served reply) = reply_text reply.answer
world_answer_text (WorldAnswer.Given given) = given_text given
world_answer_text (WorldAnswer.Edited version) = codes "edited " ++ decimal version

abbrev pub told_text : WorldTold → List ℕ
told_text (WorldTold.Answered answer) = world_answer_text answer
told_text WorldTold.Idle = codes "idle"
told_text (WorldTold.Refused why) = codes "refused " ++ refusal_words why
told_text WorldTold.OtherVersion = codes "refused 1 Version"

-- the number of an event from 1 on, and what is told of it
abbrev pub told_line : ℕ → WorldTold → List ℕ
told_line number told = decimal number ++ 32 ∷ told_text told ++ 10 ∷ []
