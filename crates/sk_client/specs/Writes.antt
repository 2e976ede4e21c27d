-- What a world's events write at the server.
use Rattle.std.specs.Prelude.{◌≡◌, ℕ, true, List, [], ◌∷◌, ◌++◌, Option, Some, None, is_some, Result, Ok, Err}
use Rattle.sk_client.specs.Base.{filter, fold, FileMap, is_fitting, written, Sent, Ask, Answer, WorldEvent}
use Rattle.sk_client.specs.Base.{WorldAnswer, Cause}
use Rattle.sk_client.specs.Table.{Bytes}
use Rattle.sk_client.specs.Exchanges.{Exchanges, exchanged, Leads}
use Rattle.sk_client.specs.WorldView.{WorldView}

-- a write of a file that has this version: a foreign edit, or the store of a request
pub record Write : Type 0 where
  pub name : Bytes
  pub expected : ℕ
  pub bytes : Bytes
  pub store : Option Sent

-- an edit writes where it is answered so
abbrev pub edit_of : Result WorldAnswer Cause → Bytes → ℕ → Bytes → List Write
edit_of (Ok answer) name expected bytes = record { name = name; expected = expected; bytes = bytes; store = None } ∷ []
edit_of (Err why) name expected bytes = []

-- a store writes where it is accepted
abbrev pub store_of : Sent → Ask → Answer → List Write
store_of q (Ask.Store name version bytes) Answer.Yes = record { name = name; expected = version; bytes = bytes; store = Some q } ∷ []
store_of q ask answer = []

abbrev pub stores_of : Exchanges → List Write
stores_of [] = []
stores_of (x ∷ xs) = store_of x.0 x.0.ask x.1.answer ++ stores_of xs

-- what an event writes, and what these events write
abbrev pub written_by : Result WorldAnswer Cause → WorldView → WorldEvent → List Write
written_by answer w (WorldEvent.Edit name expected bytes) = edit_of answer name expected bytes
written_by answer w e = stores_of (exchanged answer w e)

-- what a list of events writes at the server, in order: edits, and stores that it accepts
abbrev pub writes_of : (w : WorldView) (es : List WorldEvent) (served : Exchanges) (last : WorldView) → Leads w es served last → List Write
writes_of w [] served last h = []
writes_of w (e ∷ es) served last h = written_by h.0 w e ++ writes_of h.1 es h.2 last h.4

-- the files after each write in order
abbrev pub all_written : FileMap → List Write → FileMap
all_written files ws = fold (λ files w. written files w.name w.expected w.bytes) files ws

-- each write expects the version that its file has then, which is not the last one
abbrev pub AllFit : FileMap → List Write → Type 0
AllFit files [] = Unit {0}
AllFit files (w ∷ ws) = (is_fitting files w.name w.expected ≡ true) × AllFit (written files w.name w.expected w.bytes) ws

-- a world's files are those of an earlier one after these writes, of which the stores are the accepted ones of what was
-- served, in the server's order
pub record AreWritten (first : WorldView) (ws : List Write) (served : Exchanges) (last : WorldView) : Type 0 where
  pub files : last.server.files ≡ all_written first.server.files ws
  pub fit : AllFit first.server.files ws
  pub stores : filter (λ w. is_some w.store) ws ≡ stores_of served
