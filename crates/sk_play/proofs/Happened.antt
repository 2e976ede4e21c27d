-- An event that was not refused, of which a line is made.
use Rattle.sk_play.proofs.Names.{◌≡◌, ℕ, List, Some, Ok, refl, WorldEvent, WorldAnswer}
use Rattle.sk_play.proofs.Names.{WorldView, EventPost, WorldTold, told_line, Happens}
use Rattle.sk_play.specs.declared.told.WorldTold.TheVariants as tells

pub told_answer : (n : ℕ) (w : WorldView) (e : WorldEvent) (new : WorldView) (line : List ℕ) (answer : WorldAnswer)
    → EventPost (Ok answer) w e new → line ≡ told_line n (tells.Answered answer)
    → (t : WorldTold) × Happens (Some t) w e new × (line ≡ told_line n t)
told_answer n w e new line answer h is = (tells.Answered answer, (Ok answer, refl, h), is)
