-- Where no batch is undecided nobody waits.
use Rattle.sk_led.proofs.Names.{◌≡◌, List, [], ◌∷◌, Some, false, refl, sym, ◌∙◌, ap, arith, nat_lt, ltb-false, released}
use Rattle.sk_led.proofs.Names.{first_of, has_refusals, resting_among, numbers, connected, said_since, waits_at, Output}
use Rattle.sk_led.proofs.Names.{NobodyWaits}

-- what depends on nothing may go out
none_rests : (ys : List Output) → released (resting_among [] ys) ≡ [] → ys ≡ []
none_rests [] is = refl
none_rests (y ∷ ys) is = cc

pub nobody_waits : NobodyWaits
nobody_waits limits next start cs s done none t channel there ready refusals =
    let known = (connected limits next start t cs s done).on channel there in
    let said = said_since limits next start cs s done t known.0 in
    let texts : waits_at s t ≡ resting_among [] said.waiting
    = said.texts ∙ ap (λ os. resting_among (numbers os) said.waiting) none in
    let empty : waits_at s t ≡ [] = texts
    ∙ ap (resting_among []) (none_rests said.waiting (ap released (sym texts) ∙ ready)) in
    let bounds : nat_lt channel.outlet.next channel.inlet.next ≡ false
    = ap (λ l. has_refusals (Some channel) (first_of l)) (sym empty) ∙ refusals in
    let least = ltb-false channel.outlet.next channel.inlet.next bounds in
    let told = known.1.has.said.next in
    let given = known.1.has.heard.tickets in
    let most = known.1.has.given in
    omega (arith, least, told, given, most)
