-- What a channel was told, and what it asked for.
use Rattle.sk_channels.proofs.Names.{ℕ, ◌+◌, ◌-◌, ◌<◌, ◌≤◌, List, [], ◌∷◌, ◌++◌, length, Option, Some, None, Result, Ok}
use Rattle.sk_channels.proofs.Names.{Err, arith, length-append, length-replicate, Limits, Refusal, NoTicket, Full}
use Rattle.sk_channels.proofs.Names.{Memory, Ask, Inlet, Outlet, Channel, HasHeard, Told, refused_up_to, HasTold, Tells}
use Rattle.sk_channels.proofs.Names.{HasServed, ReplyPost, RefusePost}

-- More tickets were told something, or none.
served_on : (limits : Limits) (asked : List Ask) (stream : List ℕ) (told more : Told) (handed : List ℕ) (old : Channel)
    (outlet : Outlet)
    → HasServed limits asked stream told handed old → HasTold (told ++ more) handed outlet
    → length told + length more ≤ length asked
    → HasServed limits asked stream (told ++ more) handed (record { inlet = old.inlet; outlet = outlet })
served_on limits asked stream told more handed old outlet has said le = record
    { heard = has.heard; said = said; given = omega (arith, le, length-append told more) }

same_served : (limits : Limits) (asked : List Ask) (stream : List ℕ) (told : Told) (handed : List ℕ) (old : Channel)
    (outlet : Outlet)
    → HasServed limits asked stream told handed old → HasTold told handed outlet
    → HasServed limits asked stream told handed (record { inlet = old.inlet; outlet = outlet })
same_served limits asked stream told handed old outlet has said = record
    { heard = has.heard; said = said; given = has.given }

pub replied : (limits : Limits) (asked : List Ask) (stream : List ℕ) (told : Told) (handed : List ℕ) (ticket : ℕ)
    (text : List ℕ) (result : Result (Unit {0}) Refusal)
    (old : Channel) (outlet : Outlet) → old.outlet.next ≤ ticket → ticket < old.inlet.next
    → HasServed limits asked stream told handed old → Tells told handed (refused_up_to told ticket ++ Some text ∷ []) result outlet
    → ReplyPost limits asked stream told handed ticket text result (record { inlet = old.inlet; outlet = outlet })
replied limits asked stream told handed ticket text (Ok unit) old outlet untold given has tells = (
  omega (arith, untold, has.said.next),
  omega (arith, given, has.heard.tickets),
  served_on limits asked stream told (refused_up_to told ticket ++ Some text ∷ []) handed old outlet has tells
      (omega (
        arith,
        untold,
        given,
        has.said.next,
        has.heard.tickets,
        length-append (refused_up_to told ticket)
            (Some text ∷ []),
        length-replicate {A = Option (List ℕ)} (ticket - (length told + 1)) None,
      )),
)
replied limits asked stream told handed ticket text (Err NoTicket) old outlet untold given has tells = absurd tells
replied limits asked stream told handed ticket text (Err Full) old outlet untold given has tells =
    (same_served limits asked stream told handed old outlet has tells.0, tells.1)
replied limits asked stream told handed ticket text (Err Memory) old outlet untold given has tells = same_served limits
    asked stream told handed old outlet has tells

pub refused_on : (limits : Limits) (asked : List Ask) (stream : List ℕ) (told : Told) (handed : List ℕ) (ticket : ℕ)
    (result : Result (Unit {0}) Refusal)
    (old : Channel) (outlet : Outlet) → ticket ≤ old.inlet.next → HasServed limits asked stream told handed old
    → Tells told handed (refused_up_to told ticket) result outlet
    → RefusePost limits asked stream told handed ticket result (record { inlet = old.inlet; outlet = outlet })
refused_on limits asked stream told handed ticket (Ok unit) old outlet given has tells = (
  omega (arith, given, has.heard.tickets),
  served_on limits asked stream told (refused_up_to told ticket) handed old outlet has tells
      (omega (
        arith,
        given,
        has.given,
        has.heard.tickets,
        length-replicate {A = Option (List ℕ)}
            (ticket - (length told + 1)) None,
      )),
)
refused_on limits asked stream told handed ticket (Err NoTicket) old outlet given has tells = absurd tells
refused_on limits asked stream told handed ticket (Err Full) old outlet given has tells =
    (same_served limits asked stream told handed old outlet has tells.0, tells.1)
refused_on limits asked stream told handed ticket (Err Memory) old outlet given has tells = same_served limits asked
    stream told handed old outlet has tells

-- One request more was asked for.
pub asked_more : (limits : Limits) (asked : List Ask) (stream : List ℕ) (told : Told) (handed : List ℕ) (ask : Ask)
    (old : Channel) (inlet : Inlet)
    → HasServed limits asked stream told handed old → HasHeard limits (asked ++ ask ∷ []) stream inlet
    → HasServed limits (asked ++ ask ∷ []) stream told handed (record { inlet = inlet; outlet = old.outlet })
asked_more limits asked stream told handed ask old inlet has heard = record
    { heard = heard; said = has.said; given = omega (arith, has.given, length-append asked (ask ∷ [])) }
