-- Why what came is not carried out, in the words that clients know.
use Rattle.std.specs.Prelude.{ℕ, List, [], ◌∷◌, ◌++◌, codes}
use Rattle.sk_channels.specs.Base.{Fault, Rejection}

-- the words of each fault
abbrev pub fault_words : Fault → List ℕ
fault_words Fault.Count = codes "ERR Protocol error: invalid multibulk length"
fault_words Fault.Length = codes "ERR Protocol error: invalid bulk length"
fault_words (Fault.Mark mark) = codes "ERR Protocol error: expected '$', got '" ++ mark ∷ 39 ∷ []
fault_words Fault.Line = codes "ERR Protocol error: too big inline request"
fault_words Fault.End = codes "ERR Protocol error: expected CRLF behind a bulk"

-- the words of the reply
abbrev pub rejection_words : Rejection → List ℕ
rejection_words (Rejection.Fault fault) = fault_words fault
rejection_words Rejection.TooLarge = codes "ERR the request is too large"
rejection_words Rejection.Memory = codes "OOM there is no memory to queue the command"
rejection_words Rejection.QueueFull = codes "ERR the commands that wait for EXEC take as many bytes as may"
