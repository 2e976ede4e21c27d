-- Name by name.
use Rattle.sk_commands.proofs.Spoken.{named_reads}
use Rattle.sk_commands.proofs.laws.names_tell_what_may_write.Goals as goal

pub returns : goal.returns
returns c = λ word words name is h. named_reads word words name is h
