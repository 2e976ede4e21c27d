-- Requests that say what was done, as a log keeps them.
use Rattle.std.specs.Prelude.{◌≡◌, ℕ, ◌-◌, ◌^◌, ℤ, negsuc, Bool, true, false, codes, List, [], ◌∷◌, ◌++◌, flat_map, map, Option, Some, None, Ok}
use Rattle.sk_commands.specs.Base.{signed_decimal, array, IsWithin, Limits, Fault, Syntax, NotInteger, Overflow, When}
use Rattle.sk_commands.specs.Base.{Command, Get, Set, Del, Exists, Add, Append, StrLen, MGet, MSet, DbSize, KeysWith}
use Rattle.sk_commands.specs.Base.{AllByRecursion, FlushAll, Ping, Echo, Wrong, Run, Queue, Work, Name}
use Rattle.sk_commands.specs.Names.{text_of}
use Rattle.sk_commands.specs.Parsing.{order_of}
use Rattle.sk_commands.specs.Session.{turn}

-- how a key is set, in words
abbrev pub when_words : When → List (List ℕ)
when_words When.Always = []
when_words When.Absent = codes "nx" ∷ []
when_words When.Present = codes "xx" ∷ []

abbrev pub gives_words : Bool → List (List ℕ)
gives_words true = codes "get" ∷ []
gives_words false = []

-- the least integer of 64 bits, which has no negative
abbrev pub least : ℤ
least = negsuc (2 ^ 63 - 1)

-- words with this fault among them; the last is that of a pattern
abbrev pub wrong_words : Fault → List (List ℕ)
wrong_words Syntax = text_of Name.Set ∷ [] ∷ [] ∷ [] ∷ []
wrong_words NotInteger = text_of Name.IncrBy ∷ [] ∷ [] ∷ []
wrong_words Overflow = text_of Name.DecrBy ∷ [] ∷ signed_decimal least ∷ []
wrong_words other = text_of Name.Keys ∷ [] ∷ []

-- the words that say a command
abbrev pub words_for : Command → List (List ℕ)
words_for (Get key) = text_of Name.Get ∷ key ∷ []
words_for (Set key value options) = text_of Name.Set ∷ key ∷ value ∷ when_words options.when ++ gives_words options.gives
words_for (Del keys) = text_of Name.Del ∷ keys
words_for (Exists keys) = text_of Name.Exists ∷ keys
words_for (Add key by) = text_of Name.IncrBy ∷ key ∷ signed_decimal by ∷ []
words_for (Append key more) = text_of Name.Append ∷ key ∷ more ∷ []
words_for (StrLen key) = text_of Name.StrLen ∷ key ∷ []
words_for (MGet keys) = text_of Name.MGet ∷ keys
words_for (MSet words) = text_of Name.MSet ∷ words
words_for DbSize = text_of Name.DbSize ∷ []
words_for (KeysWith prefix) = text_of Name.Keys ∷ (prefix ++ 42 ∷ []) ∷ []
words_for FlushAll = text_of Name.FlushAll ∷ []
words_for Ping = text_of Name.Ping ∷ []
words_for (Echo text) = text_of Name.Echo ∷ text ∷ []
words_for (Wrong fault) = wrong_words fault

-- the requests of work, each by its words; a queue stands between MULTI and EXEC
abbrev pub requests_of : Work → List (List (List ℕ))
requests_of (Work.Say reply) = []
requests_of (Work.One command) = words_for command ∷ []
requests_of (Work.Each commands) = (text_of Name.Multi ∷ []) ∷ (map words_for commands ++ (text_of Name.Exec ∷ []) ∷ [])

-- their bytes
abbrev pub log_text : Work → List ℕ
log_text work = flat_map array (requests_of work)

-- The command is what some request says.
abbrev pub IsSaid : Command → Type 0
IsSaid command = (words : List (List ℕ)) × (order_of words ≡ Ok (Run command))

-- Each of these commands is what some request says.
abbrev pub AreSaid : List Command → Type 0
AreSaid commands = AllByRecursion IsSaid commands

-- Work is of such commands, and more than a reply.
abbrev pub IsAsked : Work → Type 0
IsAsked (Work.Say reply) = ⊥
IsAsked (Work.One command) = IsSaid command
IsAsked (Work.Each commands) = AreSaid commands

abbrev pub AreAsked : List Work → Type 0
AreAsked works = AllByRecursion IsAsked works

-- Work is only a reply, or such work; and each command that waits in a queue is said.
abbrev pub IsReplyOrAsked : Work → Type 0
IsReplyOrAsked (Work.Say reply) = Unit {0}
IsReplyOrAsked work = IsAsked work

abbrev pub WaitsSaid : Option Queue → Type 0
WaitsSaid None = Unit {0}
WaitsSaid (Some queue) = AreSaid queue.commands

-- work before others; a reply is none
abbrev pub with_work : Work → List Work → List Work
with_work (Work.Say reply) others = others
with_work work others = work ∷ others

-- what is carried out for requests of one channel, one after another, where this queue is open
abbrev pub work_for : Option Queue → List (List (List ℕ)) → List Work
work_for queue [] = []
work_for queue (words ∷ requests) =
    let next = turn queue (order_of words) in with_work next.work (work_for next.queue requests)

-- Each of these requests is within the limits of a reader.
abbrev pub AreWithin : Limits → List (List (List ℕ)) → Type 0
AreWithin limits requests = AllByRecursion (λ words. IsWithin limits words (array words)) requests
