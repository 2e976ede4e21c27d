-- A request without a reply, as contracts see it.
use Rattle.std.specs.Prelude.{ℕ, List, Option, refl}
use Rattle.sk_client.specs.Base.{Coded, code_by, coded×, coded_ℕ, coded_list, coded_option, Ask, BoxedAsk}
use Rattle.sk_server.specs.contracts.request.Ask as ask_row

pub record PendingRequest : Type 0 where
  -- from 1 in the order in which requests are made
  pub number : ℕ
  pub process : ℕ
  pub ask : Ask
  -- the guess that its reply decides; `None` where the process waits for the reply
  pub guess : Option ℕ
  -- the guesses that were undecided when it was made, and on which it depends, its own apart
  pub rests : List ℕ
  -- every guess below this number was decided when it was made
  pub settled : ℕ

abbrev pub request_code : Coded PendingRequest
request_code =
    code_by (ℕ × (ℕ × (Ask × (Option ℕ × (List ℕ × ℕ)))))
    (coded× coded_ℕ (coded× coded_ℕ (coded× ask_row.the_row.coded (coded× (coded_option coded_ℕ) (coded× (coded_list coded_ℕ) coded_ℕ)))))
    (λ q. (q.number, (q.process, (q.ask, (q.guess, (q.rests, q.settled))))))
    (λ p. record { number = p.0; process = p.1.0; ask = p.1.1.0; guess = p.1.1.1.0; rests = p.1.1.1.1.0; settled = p.1.1.1.1.1 }) (λ _. refl)

-- what is asked, of a question whose bytes stand in a box
abbrev pub ask_of : BoxedAsk → Ask
ask_of (BoxedAsk.Get name) = Ask.Get name
ask_of (BoxedAsk.Check name version) = Ask.Check name version
ask_of (BoxedAsk.Store name version bytes) = Ask.Store name version bytes.value
