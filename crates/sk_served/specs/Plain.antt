-- A plain store carries out the works of entries, one after another.
use Rattle.std.specs.Prelude.{ℕ, ◌==◌, List, [], ◌∷◌, ◌++◌, if◌then◌else◌}
use Rattle.sk_served.specs.Base.{after_work, Work, Answer, comes_to, may_write_some, held, keys_of, Entries}
use Rattle.sk_served.specs.Served.{Entry, Opens, Runs}

-- what the plain store answers to some work
abbrev pub answer_to : Work → Entries → Answer
answer_to work entries = (comes_to (keys_of entries) work (held entries)).reply

-- what it holds after an entry; that a batch begins changes nothing
abbrev pub entry_after : Entry → Entries → Entries
entry_after (Opens n) entries = entries
entry_after (Runs a) entries = after_work a.work entries

abbrev pub entries_after : List Entry → Entries → Entries
entries_after [] entries = entries
entries_after (n ∷ ns) entries = entries_after ns (entry_after n entries)

-- the works of entries that may write
abbrev pub writing : List Entry → List Work
writing [] = []
writing (Opens n ∷ ns) = writing ns
writing (Runs a ∷ ns) = if may_write_some a.work then a.work ∷ writing ns else writing ns

-- its answer, with its ticket, where the entry came on this channel
abbrev pub reply_to : ℕ → Entry → Entries → List (ℕ × (ℕ × Answer))
reply_to t (Opens n) entries = []
reply_to t (Runs a) entries = if a.channel == t then (a.channel, (a.ticket, answer_to a.work entries)) ∷ [] else []

-- all its answers to a channel, in order
abbrev pub replies_to : ℕ → List Entry → Entries → List (ℕ × (ℕ × Answer))
replies_to t [] entries = []
replies_to t (n ∷ ns) entries = reply_to t n entries ++ replies_to t ns (entry_after n entries)
