-- What is replied in the words that clients know.
use Rattle.std.specs.Prelude.{ℕ, List, ◌++◌, codes}
use Rattle.sk_commands.specs.Base.{Word, Fault, Unknown, WrongNumber, Syntax, NotInteger, Overflow, TooLong, Pattern}
use Rattle.sk_commands.specs.Base.{Nested, ExecAlone, DiscardAlone, Aborted}
use Rattle.sk_commands.specs.Names.{text_of}

-- the words of each fault
abbrev pub words_of : Fault → List ℕ
words_of Unknown = codes "ERR unknown command"
words_of (WrongNumber name) = codes "ERR wrong number of arguments for '" ++ text_of name ++ codes "' command"
words_of Syntax = codes "ERR syntax error"
words_of NotInteger = codes "ERR value is not an integer or out of range"
words_of Overflow = codes "ERR increment or decrement would overflow"
words_of TooLong = codes "ERR string exceeds maximum allowed size"
words_of Pattern = codes "ERR only patterns of a prefix and '*' are known"
words_of Nested = codes "ERR MULTI calls can not be nested"
words_of ExecAlone = codes "ERR EXEC without MULTI"
words_of DiscardAlone = codes "ERR DISCARD without MULTI"
words_of Aborted = codes "EXECABORT Transaction discarded because of previous errors."

-- a reply of one word
abbrev pub said_by : Word → List ℕ
said_by Word.Ok = codes "OK"
said_by Word.Pong = codes "PONG"
said_by Word.Queued = codes "QUEUED"
