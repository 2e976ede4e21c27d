-- What words say: a command, or a word about the queue of a channel.
use Rattle.std.specs.Prelude.{ℕ, ◌-◌, ◌%◌, ◌==◌, Bool, true, false, not, ◌&&◌, ◌||◌, ℤ, pos, negsuc, neg_ℤ, codes, List, [], ◌∷◌, length, slice_index, take, Option, Some, None, Result, Ok, Err, if◌then◌else◌}
use Rattle.sk_commands.specs.Base.{list_any, Name, Fault, Unknown, WrongNumber, Syntax, NotInteger, Overflow, Pattern}
use Rattle.sk_commands.specs.Base.{When, Options, Command, Get, Set, Del, Exists, Add, Append, StrLen, MGet, MSet}
use Rattle.sk_commands.specs.Base.{DbSize, KeysWith, FlushAll, Ping, Echo, Wrong, Order, Run, Multi, Exec, Discard}
use Rattle.sk_commands.specs.Names.{is_alike, name_of}
use Rattle.sk_commands.specs.Numbers.{number_of, fitting}

-- the command that something good makes
abbrev pub made : {A : Type 0} → (A → Command) → Result A Fault → Result Command Fault
made make (Ok a) = Ok (make a)
made make (Err fault) = Err fault

-- the order that a command is to be run, or the fault
abbrev pub runs : Result Command Fault → Result Order Fault
runs (Ok command) = Ok (Run command)
runs (Err fault) = Err fault

module _ (name : Name) where
  -- an order that takes no word behind its name
  abbrev pub alone : Order → List (List ℕ) → Result Order Fault
  alone order [] = Ok order
  alone order (word ∷ words) = Err (WrongNumber name)

  -- the only word
  abbrev pub one_of : List (List ℕ) → Result (List ℕ) Fault
  one_of (a ∷ []) = Ok a
  one_of words = Err (WrongNumber name)

  -- the only two
  abbrev pub two_of : List (List ℕ) → Result (List ℕ × List ℕ) Fault
  two_of (a ∷ b ∷ []) = Ok (a, b)
  two_of words = Err (WrongNumber name)

  -- all words, of which there is one at least
  abbrev pub some_of : List (List ℕ) → Result (List (List ℕ)) Fault
  some_of [] = Err (WrongNumber name)
  some_of (a ∷ rest) = Ok (a ∷ rest)

-- adds this to what a key has, or tells a fault where there is nothing to add
abbrev pub add_or : Fault → List ℕ → Option ℤ → Command
add_or fault key None = Wrong fault
add_or fault key (Some by) = Add key by

-- takes what a text says off what a key has; there is nothing to add for the least integer
abbrev pub subtract_of : List ℕ → Option ℤ → Command
subtract_of key None = Wrong NotInteger
subtract_of key (Some by) = add_or Overflow key (fitting (neg_ℤ by))

-- how a key is set where nothing more is said
abbrev pub plainly : Options
plainly = record { when = When.Always; gives = false }

-- the options, by which a key is set only where it is absent, or only where it is there; none where the other one was said before
abbrev pub only : When → Options → When → Option Options
only wanted options When.Always = Some (record options { when = wanted })
only When.Absent options When.Absent = Some options
only When.Present options When.Present = Some options
only wanted options other = None

-- the options with what one word more says
abbrev pub with_option : List ℕ → Options → Option Options
with_option word options =
    if is_alike word (codes "nx") then only When.Absent options options.when
    else if is_alike word (codes "xx") then only When.Present options options.when
    else if is_alike word (codes "get") then Some (record options { gives = true }) else None

abbrev pub with_options : List (List ℕ) → Option Options → Option Options
with_options words None = None
with_options [] (Some options) = Some options
with_options (word ∷ words) (Some options) = with_options words (with_option word options)

abbrev pub set_of : List ℕ → List ℕ → Option Options → Command
set_of key value None = Wrong Syntax
set_of key value (Some options) = Set key value options

-- a key, what it gets, and options
abbrev pub set_for : List (List ℕ) → Result Command Fault
set_for (key ∷ value ∷ options) = Ok (set_of key value (with_options options (Some plainly)))
set_for words = Err (WrongNumber Name.Set)

-- keys, each with what it gets behind it, and one at least
abbrev pub pairs_for : List (List ℕ) → Bool → Result Command Fault
pairs_for (word ∷ words) true = Ok (MSet (word ∷ words))
pairs_for words even = Err (WrongNumber Name.MSet)

-- no word, or one
abbrev pub ping_for : List (List ℕ) → Result Command Fault
ping_for [] = Ok Ping
ping_for (text ∷ []) = Ok (Echo text)
ping_for (text ∷ more ∷ words) = Err (WrongNumber Name.Ping)

-- a byte that means something in a pattern: * ? [ and \
abbrev pub is_special : ℕ → Bool
is_special b = b == 42 || b == 63 || b == 91 || b == 92

-- what stands before a pattern's last byte
abbrev pub front : List ℕ → List ℕ
front pattern = take (length pattern - 1) pattern

-- whether a pattern is that of a prefix: `*` stands last in it, and nothing special before
abbrev pub is_of_prefix : List ℕ → Bool
is_of_prefix pattern = slice_index pattern (length pattern - 1) == 42 && not (list_any is_special (front pattern))

-- the keys that match a pattern
abbrev pub matching : List ℕ → Command
matching pattern = if is_of_prefix pattern then KeysWith (front pattern) else Wrong Pattern

-- sets a key, and replies what it had
abbrev pub exchanged : List ℕ → List ℕ → Command
exchanged key value = Set key value (record { when = When.Always; gives = true })

-- what a name says with these words behind it
abbrev pub order_for : Name → List (List ℕ) → Result Order Fault
order_for Name.Get words = runs (made Get (one_of Name.Get words))
order_for Name.Set words = runs (set_for words)
order_for Name.Del words = runs (made Del (some_of Name.Del words))
order_for Name.Exists words = runs (made Exists (some_of Name.Exists words))
order_for Name.Incr words = runs (made (λ key. Add key (pos 1)) (one_of Name.Incr words))
order_for Name.Decr words = runs (made (λ key. Add key (negsuc 0)) (one_of Name.Decr words))
order_for Name.IncrBy words = runs (made (λ w. add_or NotInteger w.0 (number_of w.1)) (two_of Name.IncrBy words))
order_for Name.DecrBy words = runs (made (λ w. subtract_of w.0 (number_of w.1)) (two_of Name.DecrBy words))
order_for Name.Append words = runs (made (λ w. Append w.0 w.1) (two_of Name.Append words))
order_for Name.StrLen words = runs (made StrLen (one_of Name.StrLen words))
order_for Name.GetSet words = runs (made (λ w. exchanged w.0 w.1) (two_of Name.GetSet words))
order_for Name.MGet words = runs (made MGet (some_of Name.MGet words))
order_for Name.MSet words = runs (pairs_for words (length words % 2 == 0))
order_for Name.DbSize words = alone Name.DbSize (Run DbSize) words
order_for Name.Keys words = runs (made matching (one_of Name.Keys words))
order_for Name.FlushAll words = alone Name.FlushAll (Run FlushAll) words
order_for Name.Multi words = alone Name.Multi Multi words
order_for Name.Exec words = alone Name.Exec Exec words
order_for Name.Discard words = alone Name.Discard Discard words
order_for Name.Ping words = runs (ping_for words)
order_for Name.Echo words = runs (made Echo (one_of Name.Echo words))

abbrev pub order_named : Option Name → List (List ℕ) → Result Order Fault
order_named None words = Err Unknown
order_named (Some name) words = order_for name words

-- what words say: the first names it
abbrev pub order_of : List (List ℕ) → Result Order Fault
order_of [] = Err Unknown
order_of (word ∷ words) = order_named (name_of word) words
