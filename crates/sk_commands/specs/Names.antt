-- The names of commands.
use Rattle.std.specs.Prelude.{ℕ, Bool, true, false, List, Option, codes, find, map, bytes_eq}
use Rattle.sk_commands.specs.Base.{to_ascii_lowercase, Name, Incr, Decr, IncrBy, DecrBy, GetSet, Keys, NAMES}
use Rattle.sk_commands.specs.declared.name.Name.TheVariants.{Get, Set, Del, Exists, Append, StrLen, MGet, MSet, DbSize, FlushAll, Multi, Exec, Discard, Ping, Echo}

-- each in small letters
abbrev pub text_of : Name → List ℕ
text_of Get = codes "get"
text_of Set = codes "set"
text_of Del = codes "del"
text_of Exists = codes "exists"
text_of Incr = codes "incr"
text_of Decr = codes "decr"
text_of IncrBy = codes "incrby"
text_of DecrBy = codes "decrby"
text_of Append = codes "append"
text_of StrLen = codes "strlen"
text_of GetSet = codes "getset"
text_of MGet = codes "mget"
text_of MSet = codes "mset"
text_of DbSize = codes "dbsize"
text_of Keys = codes "keys"
text_of FlushAll = codes "flushall"
text_of Multi = codes "multi"
text_of Exec = codes "exec"
text_of Discard = codes "discard"
text_of Ping = codes "ping"
text_of Echo = codes "echo"

-- whether two words differ in the size of their letters alone
abbrev pub is_alike : List ℕ → List ℕ → Bool
is_alike a b = bytes_eq (map to_ascii_lowercase a) (map to_ascii_lowercase b)

-- the name that a word says
unfoldable pub name_of : List ℕ → Option Name
name_of word = find (λ name. is_alike word (text_of name)) NAMES

-- whether a request of this name may write, as a command or by carrying out a queue
abbrev pub may_write_by : Name → Bool
may_write_by Set = true
may_write_by Del = true
may_write_by Incr = true
may_write_by Decr = true
may_write_by IncrBy = true
may_write_by DecrBy = true
may_write_by Append = true
may_write_by GetSet = true
may_write_by MSet = true
may_write_by FlushAll = true
may_write_by Exec = true
may_write_by other = false
