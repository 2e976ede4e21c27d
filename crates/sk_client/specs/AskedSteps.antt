-- The steps of asked requests.
use Rattle.std.specs.Prelude.{◌≡◌, ℕ, ◌∷◌, Some, None, Ok}
use Rattle.sk_client.specs.Base.{Input, Step, step_refused, with_event, Answer, Reply, Given, WorldEvent, WorldAnswer}
use Rattle.sk_client.specs.Desk.{entry, input_of}
use Rattle.sk_client.specs.WorldView.{WorldView, EventPost}
use Rattle.sk_client.specs.Pending.{PendingRequest}

-- the oldest reply is to an asked request of this number: the kernel accepts its step with what the reply gives, and takes it
pub record TakesStep (v : WorldView) (number : ℕ) (next : WorldView) : Type 0 where
  pub request : PendingRequest
  pub reply : Reply
  pub input : Input
  pub oldest : v.desk.taken ≡ request ∷ next.desk.taken
  pub its_reply : v.replies ≡ reply ∷ next.replies
  pub number_is : request.number ≡ number
  pub asked : request.guess ≡ None
  pub given : input_of reply.answer ≡ Some input
  pub accepted : step_refused v.desk.kernel (entry request.process input None) ≡ None
  pub kernel : next.desk.kernel ≡ with_event v.desk.kernel (Step request.process input)

-- where a reply is answered by Taken, the step was taken
abbrev pub StepsAreTaken : WorldView → Type 0
StepsAreTaken v = (number : ℕ) (next : WorldView) → EventPost (Ok (WorldAnswer.Given (Given.Taken number))) v WorldEvent.Reply next → TakesStep v number next

-- and where by Forgotten, the server dropped the request
abbrev pub ForgottenAreDropped : WorldView → Type 0
ForgottenAreDropped v =
    (number : ℕ) (next : WorldView) → EventPost (Ok (WorldAnswer.Given (Given.Forgotten number))) v WorldEvent.Reply next
    → (r : Reply) × (v.replies ≡ r ∷ next.replies) × (r.answer ≡ Answer.Dropped)
