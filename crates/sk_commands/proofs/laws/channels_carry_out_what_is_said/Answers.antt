-- By each row of the table.
use Rattle.sk_commands.proofs.Works.{what_is_said}
use Rattle.sk_commands.proofs.laws.channels_carry_out_what_is_said.Goals as goal

pub returns : goal.returns
returns c = λ queue words said. what_is_said queue words said
