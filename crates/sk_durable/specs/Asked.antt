-- What is carried out for what a channel asked for.
use Rattle.std.specs.Prelude.{ℕ, List, codes, if◌then◌else◌}
use Rattle.sk_durable.specs.Base.{Rejected, Text, Work, Say, names_reserved, Ask, Do, Reject, rejection_words}

-- the words of the errors for keys that no command may name
abbrev pub reserved_words : List ℕ
reserved_words = codes "ERR a key begins as those that are kept for batches"

abbrev pub long_key_words : List ℕ
long_key_words = codes "ERR a key is longer than 65536 bytes"

-- the work that only replies an error of these words
abbrev pub error : List ℕ → Work
error words = Say (Rejected words)

-- the work that only replies what the host told
abbrev pub told_work : List ℕ → Work
told_work text = Say (Text text)

-- the work that was asked for; an error where it names a reserved key, and for a rejection
abbrev pub work_of : Ask → Work
work_of (Do work) = if names_reserved work then error reserved_words else work
work_of (Reject rejection) = error (rejection_words rejection)
