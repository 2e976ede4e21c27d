-- What each command looks at, writes and replies. DBSIZE, KEYS and FLUSHALL are told of all keys.
use Rattle.std.specs.Prelude.{◌≡◌, ℕ, ℤ, pos, ◌+ℤ◌, Bool, not, ◌&&◌, List, [], ◌∷◌, ◌++◌, map, filter, length, count_by, ◌==◌, Option, Some, None, is_none, is_some, true, false, unwrap_or, nat_le, bytes_eq, if◌then◌else◌, Result, Ok, Err}
use Rattle.sk_commands.specs.Base.{signed_decimal, Vec, AllocError, list_any, starts_with, NotInteger, Overflow}
use Rattle.sk_commands.specs.Base.{TooLong, Reply, Simple, Error, Integer, Bulk, Null, Array, When, Options, Command}
use Rattle.sk_commands.specs.Base.{Get, Set, Del, Exists, Add, Append, StrLen, MGet, MSet, DbSize, KeysWith, FlushAll}
use Rattle.sk_commands.specs.Base.{Ping, Echo, Wrong, VALUE_LIMIT, Word}
use Rattle.sk_commands.specs.Numbers.{number_of, fitting}

-- what each key has
abbrev pub Have : Type 0
Have = List ℕ → Option (List ℕ)

-- what keys get, one after another; nothing, where a key is made absent
abbrev pub Written : Type 0
Written = List (List ℕ × Option (List ℕ))

-- what is written, and what is replied
pub record Outcome (R : Type 0) : Type 0 where
  pub written : Written
  pub reply : R

-- nothing is written
abbrev pub replies : Reply → Outcome Reply
replies reply = record { written = []; reply = reply }

-- a key gets this
abbrev pub puts : List ℕ → List ℕ → Reply → Outcome Reply
puts key value reply = record { written = (key, Some value) ∷ []; reply = reply }

-- a count
abbrev pub counts : ℕ → Reply
counts n = Integer (pos n)

-- the reply of what a key has, or of nothing
abbrev pub shown : Option (List ℕ) → Reply
shown None = Null
shown (Some value) = Bulk value

-- an absent key has no bytes
abbrev pub bytes_of : Option (List ℕ) → List ℕ
bytes_of has = unwrap_or has []

-- whether a key is among these
abbrev pub is_among : List ℕ → List (List ℕ) → Bool
is_among key keys = list_any (bytes_eq key) keys

-- the keys that were found, and this one where it is there and not among them
abbrev pub with_key : Have → List ℕ → List (List ℕ) → List (List ℕ)
with_key has key found = if is_some (has key) && not (is_among key found) then found ++ key ∷ [] else found

-- those of the keys that are there, each once, from the last on
abbrev pub there : Have → List (List ℕ) → List (List ℕ)
there has [] = []
there has (key ∷ keys) = with_key has key (there has keys)

-- these keys are made absent
abbrev pub removals : List (List ℕ) → Written
removals keys = map (λ key. (key, None)) keys

abbrev pub deleted : List (List ℕ) → Outcome Reply
deleted keys = record { written = removals keys; reply = counts (length keys) }

-- an absent key counts as 0
abbrev pub number_at : Option (List ℕ) → Option ℤ
number_at None = Some (pos 0)
number_at (Some text) = number_of text

-- a key gets the text of a sum, if that has 64 bits
abbrev pub counted : List ℕ → Option ℤ → Outcome Reply
counted key None = replies (Error Overflow)
counted key (Some sum) = puts key (signed_decimal sum) (Integer sum)

-- a key gets so much more than it has
abbrev pub added : List ℕ → ℤ → Option ℤ → Outcome Reply
added key by None = replies (Error NotInteger)
added key by (Some n) = counted key (fitting (n +ℤ by))

-- a key gets this, if it isn't too long
abbrev pub joined : List ℕ → List ℕ → Outcome Reply
joined key value = if nat_le (length value) VALUE_LIMIT then puts key value (counts (length value)) else replies (Error TooLong)

-- whether a key is set
abbrev pub may_set : When → Option (List ℕ) → Bool
may_set When.Always has = true
may_set When.Absent has = is_none has
may_set When.Present has = is_some has

-- what it had is replied, or whether it is set
abbrev pub set_reply : Bool → Bool → Option (List ℕ) → Reply
set_reply true sets has = shown has
set_reply false true has = Simple Word.Ok
set_reply false false has = Null

-- a key gets this, where it may
abbrev pub set : List ℕ → List ℕ → Bool → Reply → Outcome Reply
set key value true reply = puts key value reply
set key value false reply = replies reply

abbrev pub set_as : List ℕ → List ℕ → Options → Option (List ℕ) → Outcome Reply
set_as key value options has = set key value (may_set options.when has) (set_reply options.gives (may_set options.when has) has)

-- each key gets what stands behind it
abbrev pub pairs_of : List (List ℕ) → Written
pairs_of (key ∷ value ∷ words) = (key, Some value) ∷ pairs_of words
pairs_of other = []

-- whether a key begins so
abbrev pub begins_with : List ℕ → List ℕ → Bool
begins_with prefix key = starts_with (λ a b. a == b) key prefix

-- those of the keys that begin with this prefix and are there
abbrev pub listed : List ℕ → Have → List (List ℕ) → List (List ℕ)
listed prefix has keys = filter (λ key. begins_with prefix key && is_some (has key)) keys

-- those of the keys that are there
abbrev pub present : Have → List (List ℕ) → List (List ℕ)
present has keys = filter (λ key. is_some (has key)) keys

-- all these keys become absent, and the reply is OK
abbrev pub flushed : List (List ℕ) → Outcome Reply
flushed keys = record { written = removals keys; reply = Simple Word.Ok }

-- whether it matters for how a key is set, or for the reply, what it has
abbrev pub is_seen : When → Bool → Bool
is_seen When.Always gives = gives
is_seen other gives = true

-- The keys that a command looks at; `known` are all keys, of which some commands are told.
abbrev pub asks : List (List ℕ) → Command → List (List ℕ)
asks known (Get key) = key ∷ []
asks known (Set key value options) = if is_seen options.when options.gives then key ∷ [] else []
asks known (Del keys) = keys
asks known (Exists keys) = keys
asks known (Add key by) = key ∷ []
asks known (Append key more) = key ∷ []
asks known (StrLen key) = key ∷ []
asks known (MGet keys) = keys
asks known DbSize = known
asks known (KeysWith prefix) = known
asks known FlushAll = known
asks known other = []

-- what it writes and replies, by what keys have
abbrev pub outcome : List (List ℕ) → Command → Have → Outcome Reply
outcome known (Get key) has = replies (shown (has key))
outcome known (Set key value options) has = set_as key value options (has key)
outcome known (Del keys) has = deleted (there has keys)
outcome known (Exists keys) has = replies (counts (count_by (λ key. is_some (has key)) keys))
outcome known (Add key by) has = added key by (number_at (has key))
outcome known (Append key more) has = joined key (bytes_of (has key) ++ more)
outcome known (StrLen key) has = replies (counts (length (bytes_of (has key))))
outcome known (MGet keys) has = replies (Array (map has keys))
outcome known (MSet words) has = record { written = pairs_of words; reply = Simple Word.Ok }
outcome known DbSize has = replies (counts (count_by (λ key. is_some (has key)) known))
outcome known (KeysWith prefix) has = replies (Array (map Some (listed prefix has known)))
outcome known FlushAll has = flushed (present has known)
outcome known Ping has = replies (Simple Word.Pong)
outcome known (Echo text) has = replies (Bulk text)
outcome known (Wrong fault) has = replies (Error fault)

-- whether it is told of all keys
abbrev pub is_told_of_all : Command → Bool
is_told_of_all DbSize = true
is_told_of_all (KeysWith prefix) = true
is_told_of_all FlushAll = true
is_told_of_all other = false

-- whether it may write
abbrev pub may_write : Command → Bool
may_write (Set key value options) = true
may_write (Del keys) = true
may_write (Add key by) = true
may_write (Append key more) = true
may_write (MSet words) = true
may_write FlushAll = true
may_write other = false

-- the writes that are kept with keys as vectors
abbrev pub told : List (Vec ℕ × Option (List ℕ)) → Written
told ws = map (λ w. (w.0.items, w.1)) ws

-- a key more that is made absent, where it is there and not among those that were
abbrev pub one_more : Bool → Vec ℕ → List (Vec ℕ × Option (List ℕ)) → List (Vec ℕ × Option (List ℕ))
one_more is_there key ws = if is_there && not (list_any (bytes_eq key.items) (map (λ w. w.0.items) ws)) then (key, None) ∷ [] else []

-- A command came to this outcome: its writes stand behind those that were there; without memory nothing has changed.
abbrev pub CarriesOut : {R : Type 0} → Outcome R → List (Vec ℕ × Option (List ℕ)) → Result R AllocError → List (Vec ℕ × Option (List ℕ)) → Type 0
CarriesOut outcome old (Ok reply) new = (reply ≡ outcome.reply) × (told new ≡ told old ++ outcome.written)
CarriesOut outcome old (Err out_of_memory) new = new ≡ old
