-- An output that is written out.
use Rattle.sk_command.proofs.Names.{◌≡◌, ℕ, List, Option, IfSome, Appends, Keeps, Appends-kept, End, EndsWithHelp}
use Rattle.sk_command.proofs.Names.{IsFlushed, IsWritten}
use Rattle.sk_command.specs.declared.end.End.TheVariants as ends

-- nothing is left of what was written out
pub written_is_flushed : (end : End) (buffer : List ℕ) → IsWritten end buffer → IsFlushed end buffer
written_is_flushed ends.Done buffer h = h
written_is_flushed ends.Refused buffer h = absurd h
written_is_flushed s buffer h = tt

-- help that is written out
pub help_written : (text : Option (List ℕ)) (end : End) (buffer help : List ℕ) (old mid new : Option (List ℕ)) → IfSome text (λ known. help ≡ known) → IsWritten end buffer → Appends old mid help → Keeps mid new → EndsWithHelp text end old new
help_written text ends.Done buffer help old mid new known h appends kept = (help, known, Appends-kept old mid new help appends kept)
help_written text ends.Trouble buffer help old mid new known h appends kept = absurd h
help_written text ends.OutputRefused buffer help old mid new known h appends kept = tt
help_written text s buffer help old mid new known h appends kept = h
