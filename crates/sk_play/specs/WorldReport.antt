-- The report of a desk and a server, in a world or apart; and the line of workers.
use Rattle.std.specs.Prelude.{ℕ, List, [], ◌∷◌, ◌++◌, flat_map, codes, decimal, length, Option, Some, None}
use Rattle.sk_play.specs.Base.{ContentView, KernelView, undecided_at, FileMap, ServerView, DeskView, pending}
use Rattle.sk_play.specs.Base.{WorldView, content_text, kernel_text}
use Rattle.std.specs.FinMap as finmap

-- the line of a server's file, none where it was never stored
abbrev pub remote_line : List ℕ → Option ContentView → List ℕ
remote_line name None = []
remote_line name (Some content) = codes "remote " ++ name ++ 32 ∷ content_text content ++ 10 ∷ []

-- the files of a server by rising name
abbrev pub remotes_text : FileMap → List ℕ
remotes_text files = flat_map (λ name. remote_line name (finmap.get files name)) (finmap.keys files)

-- the number of events, of undecided guesses and of requests without a reply
abbrev pub counts_of : KernelView → ℕ → List ℕ
counts_of k requests =
    codes "trace " ++ decimal (length k.trace) ++ codes " undecided " ++ decimal (length (undecided_at k)) ++ codes " pending " ++ decimal requests ++ 10 ∷ []

abbrev pub desk_line : DeskView → List ℕ
desk_line d = counts_of d.kernel (length (pending d))

-- the terminals and the entities of a desk's kernel, the files of its server, and the last line
abbrev pub desk_report_text : DeskView → ServerView → List ℕ
desk_report_text d s = kernel_text d.kernel ++ remotes_text s.files ++ desk_line d

-- the report of a world: that of its desk and its server
abbrev pub world_report_text : WorldView → List ℕ
world_report_text w = desk_report_text w.desk w.server

-- ---- workers

-- how many workers there were, and how many calls they made
abbrev pub workers_line : ℕ → ℕ → List ℕ
workers_line workers calls = codes "workers " ++ decimal workers ++ codes " calls " ++ decimal calls ++ 10 ∷ []
