-- A printed process: by its levels.
use Rattle.sk_words.proofs.PidAgain.{pid_again, pid_is_word}
use Rattle.sk_words.proofs.laws.processes.Goals as goal

pub returns-clause-again : goal.returns-clause-again
returns-clause-again c = pid_again

pub returns-clause-word : goal.returns-clause-word
returns-clause-word c = pid_is_word
