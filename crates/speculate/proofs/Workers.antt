-- What workers' runs come to.
use Rattle.speculate.proofs.Names.{ℕ, List, ◌++◌, Option, ServerView, DeskView, Declared, desk_report_text}
use Rattle.speculate.proofs.Names.{workers_line, End, CanLeave, EndsWork, IsTold}
use Rattle.sk_command.specs.declared.end.End.TheVariants as ends

-- what is told of a desk that a crew left
pub worked_out : (workers turns : ℕ) (d : Declared) (calls : ℕ) (desk : DeskView) (server : ServerView) (end : End) (old new : Option (List ℕ))
    → CanLeave workers turns d calls desk → IsTold (desk_report_text desk server ++ workers_line workers calls) end old new → EndsWork workers turns d end old new
worked_out workers turns d calls desk server ends.Done old new left text = (calls, desk, server, left, text)
worked_out workers turns d calls desk server ends.OutputRefused old new left text = (calls, desk, server, left, text)
worked_out workers turns d calls desk server s old new left text = text
