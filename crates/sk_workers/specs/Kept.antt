-- What is seen of a reply that is kept.
use Rattle.sk_server.specs.declared.reply.Answer.{Answer}
use Rattle.sk_workers.specs.declared.kept_reply.BoxedAnswer.{BoxedAnswer}

-- the answer, with its content out of its box
abbrev pub answer_of : BoxedAnswer → Answer
answer_of BoxedAnswer.Yes = Answer.Yes
answer_of (BoxedAnswer.No b) = Answer.No b.value
answer_of (BoxedAnswer.Copy b) = Answer.Copy b.value
answer_of BoxedAnswer.Dropped = Answer.Dropped

-- an answer that brings a content, for which alone memory is wanted
abbrev pub HasContent : Answer → Type 0
HasContent (Answer.No c) = Unit {0}
HasContent (Answer.Copy c) = Unit {0}
HasContent answer = ⊥
