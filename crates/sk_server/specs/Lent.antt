-- What is seen of a request that is lent.
use Rattle.sk_server.specs.declared.request.Ask.{Ask}
use Rattle.sk_server.specs.declared.request.AskRef.{AskRef}
use Rattle.sk_server.specs.declared.request.Request.{Request}
use Rattle.sk_server.specs.declared.request.RequestRef.{RequestRef}

-- what is asked, of a question that is lent
abbrev pub ask_in : AskRef → Ask
ask_in (AskRef.Get name) = Ask.Get name.now
ask_in (AskRef.Check name version) = Ask.Check name.now version
ask_in (AskRef.Store name version bytes) = Ask.Store name.now version bytes.now

-- the request, of one that is lent
abbrev pub request_in : RequestRef → Request
request_in q = record { number = q.number; rests = q.rests.now; settled = q.settled; guess = q.guess; ask = ask_in q.ask }
