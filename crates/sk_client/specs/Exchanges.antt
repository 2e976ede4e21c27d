-- What was served on the way from a world to another.
use Rattle.std.specs.Prelude.{◌≡◌, List, [], ◌∷◌, ◌++◌, Option, Some, Result, Ok}
use Rattle.sk_client.specs.Base.{Sent, Reply, WorldEvent, WorldAnswer, Cause}
use Rattle.sk_client.specs.WorldView.{WorldView, taken_by, EventPost}

-- requests, each with its reply, in the server's order
abbrev pub Exchanges : Type 0
Exchanges = List (Sent × Reply)

abbrev pub exchange : Option Sent → Result WorldAnswer Cause → Exchanges
exchange (Some q) (Ok (WorldAnswer.Served r)) = (q, r) ∷ []
exchange q answer = []

abbrev pub exchanged : Result WorldAnswer Cause → WorldView → WorldEvent → Exchanges
exchanged answer w WorldEvent.Serve = exchange (taken_by w w.back).back answer
exchanged answer w e = []

-- a world comes to another by these events, whatever each of them is answered, and so many requests are served
abbrev pub Leads : WorldView → List WorldEvent → Exchanges → WorldView → Type 0
Leads w [] served last = (served ≡ []) × (last ≡ w)
Leads w (e ∷ es) served last =
    (answer : Result WorldAnswer Cause) × (next : WorldView) × (later : Exchanges)
    × EventPost answer w e next × Leads next es later last × (served ≡ exchanged answer w e ++ later)
