-- A request as bytes.
use Rattle.std.specs.Prelude.{ℕ, List, [], ◌∷◌, ◌++◌, length, Option, Some, None}
use Rattle.sk_server.specs.declared.request.Ask.{Ask}
use Rattle.sk_server.specs.declared.request.Ask.TheVariants.{Get, Check, Store}
use Rattle.sk_server.specs.declared.request.Request.{Request}
use Rattle.sk_messages.specs.Numbers.{number_bytes}

-- ---- what is asked: a number for its kind, the version that is expected, the name of the file, and the bytes of a store

abbrev pub kind_of : Ask → ℕ
kind_of (Get name) = 1
kind_of (Check name version) = 2
kind_of (Store name version bytes) = 3

abbrev pub version_of : Ask → ℕ
version_of (Get name) = 0
version_of (Check name version) = version
version_of (Store name version bytes) = version

abbrev pub name_of : Ask → List ℕ
name_of (Get name) = name
name_of (Check name version) = name
name_of (Store name version bytes) = name

abbrev pub stored_by : Ask → List ℕ
stored_by (Get name) = []
stored_by (Check name version) = []
stored_by (Store name version bytes) = bytes

-- ---- the request

-- the guess that its reply decides; 0 where a process waits for the reply
abbrev pub guess_of : Option ℕ → ℕ
guess_of None = 0
guess_of (Some g) = g

-- eight numbers come first: its own, the guess, below which number each guess is decided, what is asked, the version, and how
-- long the name, the bytes and the list of guesses are
abbrev pub request_head : Request → List ℕ
request_head q =
    q.number ∷ guess_of q.guess ∷ q.settled ∷ kind_of q.ask ∷ version_of q.ask
    ∷ length (name_of q.ask) ∷ length (stored_by q.ask) ∷ length q.rests ∷ []

-- behind them the name, the bytes, and the guesses on which it depends
abbrev pub request_bytes : Request → List ℕ
request_bytes q = number_bytes (request_head q) ++ name_of q.ask ++ stored_by q.ask ++ number_bytes q.rests
