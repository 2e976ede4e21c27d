-- A ticket was told its command's answer, or that nothing of it was done; a channel let go of just what may go out.
use Rattle.std.proofs.lemmas.Bool.Decides.{nat_tests}
use Rattle.sk_durable.proofs.Contained.{at_first, from_map, to_map, from_filter}
use Rattle.sk_durable.proofs.Names.{◌≡◌, ℕ, ◌+◌, ◌<◌, ◌≤◌, true, false, not, List, [], ◌∷◌, length, Some, None, inl}
use Rattle.sk_durable.proofs.Names.{inr, refl, sym, ◌∙◌, ap, subst, arith, ◌==◌, ◌⊎◌, nat_lt, slice_get, filter}
use Rattle.sk_durable.proofs.Names.{Contains, eq-eqb, eqb-true, ltb-false, or_left, Contains-append_left}
use Rattle.sk_durable.proofs.Names.{Contains-append_right, Contains-append_cases, slice_get_within, released_if, has}
use Rattle.sk_durable.proofs.Names.{has_filter, numbers, first_of, IsSaid, is_struck, resting_among, said_to, Channel}
use Rattle.sk_durable.proofs.Names.{channel_at, Answer, Entries, served, Limits, Next, first_answer, has_refusals}
use Rattle.sk_durable.proofs.Names.{StoreView, Call, HasNoneReady, carried_from, failed, past, stands_on, Command}
use Rattle.sk_durable.proofs.Names.{ChannelsLetGoJustWhatMay, HasDone, IsAnswered, IsGone, IsLogged, IsToldRight}
use Rattle.sk_durable.proofs.Names.{LetsGoJustWhatMay, TicketsAreToldRight, Waits}
use Rattle.sk_durable.proofs.Machines.{Machine}
use Rattle.sk_durable.proofs.Plain.{led, logged_is}
use Rattle.sk_durable.proofs.Pasts.{taken, Said}
use Rattle.sk_durable.proofs.Since.{last_machine, said_since, Since}
use Rattle.sk_durable.proofs.Tickets.{it_says, resting, says_it, ticket_of, Output}
use Rattle.sk_durable.proofs.Channels.{connected, waits_at, IsOnAfter}

-- what does not go out depends on something
rests_on : (tags : List ℕ) (w : Said) (ws : List Said) → released_if tags w ws ≡ [] → (g : ℕ) × (has g tags ≡ true)
rests_on [] w ws is = absurd (cc)
rests_on (g ∷ tags) w ws is = (g, or_left (g == g) (has g tags) (eq-eqb g g refl))

module _ (limits : Limits) (next : Next) (start : Entries) (cs : List Call) (s : StoreView)
    (done : HasDone limits next start cs s)
    (t : ℕ) (channel : Channel) (there : channel_at s.channels t ≡ Some channel) where
  abbrev known : Since limits next start t cs × IsOnAfter limits.requests t cs s channel
  known = (connected limits next start t cs s done).on channel there

  abbrev last : Machine
  last = last_machine limits next start cs s done

  said : IsSaid (said_to served t (stands_on t cs)) t (λ u. taken t cs) last
  said = said_since limits next start cs s done t known.0

  abbrev mine : Output → Said
  mine x = x.0

  answered : (k : ℕ) (text : List ℕ) → slice_get (past t cs).told k ≡ Some (Some text) → IsAnswered t cs (k + 1) text
  answered k text is =
      let one = known.1.told_of.texts k text is in
      let w = one.0 in
      let out = from_map mine said.out w (subst (λ l. Contains l w) said.gone one.1) in
      let of = says_it t (stands_on t cs) out.0
      (subst (λ l. Contains l out.0) (sym said.split) (Contains-append_left said.out said.waiting out.0 out.1)) in
      let its : w.0 ≡ t = eqb-true w.0 t (ap (λ (v : Said). v.0 == t) (sym out.2) ∙ of.4) in
      let numbered : w ≡ (t, (k + 1, w.1.1)) = (λ i. (its i, (one.2 i, w.1.1))) in
      (of.0, w.1.1, of.1, of.2 ∙ ap Some (out.2 ∙ numbered), one.3)

  -- what a command that stands said is out, or waits with a ticket that was told nothing
  out_or_waits : (r : Command) (ticket : ℕ) (answer : Answer) → Contains (stands_on t cs) r
      → r.said ≡ Some (t, (ticket, answer))
      → Contains said.out ((t, (ticket, answer)), r.rests) ⊎ (length (past t cs).told < ticket)
  out_or_waits r ticket answer inside says =
      let y : Output = ((t, (ticket, answer)), r.rests) in
      elim (Contains-append_cases said.out said.waiting y
      (subst (λ l. Contains l y) said.split
      (it_says t (stands_on t cs) r (t, (ticket, answer)) inside says (eq-eqb t t refl)))) [
        | inl out ↦ inl out
        | inr waits ↦
            let at = resting (numbers last.state.opens) said.waiting y waits in
            let less = known.1.later at.0 (subst (λ l. Contains l at.0) (sym said.texts) at.1) in
            let same = ap (λ (w : Said). w.1.0) at.2 in
            inr (omega (arith, less, same))
      ]

  refused_gone : (k : ℕ) → slice_get (past t cs).told k ≡ Some None → IsGone t cs (k + 1)
  refused_gone k is r answer inside says =
      elim (out_or_waits r (k + 1) answer inside says) [
        | inl out ↦ known.1.told_of.nones k (t, (k + 1, answer)) is
            (subst (λ l. Contains l (t, (k + 1, answer))) (sym said.gone)
            (to_map mine said.out ((t, (k + 1, answer)), r.rests) out)) refl
        | inr less ↦ let within = slice_get_within (past t cs).told k None is in omega (arith, less, within)
      ]

  told_right : IsToldRight t cs channel limits
  told_right = record {
    has = known.1.has;
    answered = answered;
    refused = refused_gone;
    asked = λ r asked inside runs k is.
        known.1.asked r asked
        ((from_filter (λ (q : Command). not (is_struck (failed cs) q)) (carried_from t [] cs) r inside).0) runs k is;
  }

  out_logged : (r : Command) (ticket batch : ℕ) (answer : Answer) → Contains (stands_on t cs) r
      → r.said ≡ Some (t, (ticket, answer))
      → ticket ≤ length (past t cs).told → has batch r.rests ≡ true → IsLogged cs batch
  out_logged r ticket batch answer inside says le rests =
      elim (out_or_waits r ticket answer inside says) [
        | inl out ↦ (logged_is limits next start cs s done batch).1
            (said.settled ((t, (ticket, answer)), r.rests) batch out rests)
        | inr less ↦ absurd (omega (arith, le, less))
      ]

  -- what is undecided was not told as logged
  not_logged : (g : ℕ) → has g (numbers last.state.opens) ≡ true → IsLogged cs g → ⊥
  not_logged g here logged =
      grind (arith, nat_tests, led limits next start cs s done, logged_is limits next start cs s done g)

  abbrev opens : List ℕ
  opens = numbers last.state.opens

  waiting_is : (ys : List Output) → said.waiting ≡ ys → waits_at s t ≡ resting_among opens ys
  waiting_is ys is = said.texts ∙ ap (resting_among opens) is

  -- the first that waits depends on something undecided
  first_rests : (y : Output) (ys : List Output) → said.waiting ≡ y ∷ ys → HasNoneReady t s
      → (g : ℕ) × (has g y.1 ≡ true) × (has g opens ≡ true)
  first_rests y ys is ready = grind (arith, nat_tests, rests_on, waiting_is (y ∷ ys) is, has_filter (λ g. has g y.1))

  -- and has the next ticket, where no refusal stands before it
  first_next : (y : Output) (ys : List Output) → said.waiting ≡ y ∷ ys
      → has_refusals (Some channel) (first_answer s t) ≡ false
      → ticket_of y ≡ length (past t cs).told + 1
  first_next y ys is none =
      let texts = waiting_is (y ∷ ys) is in
      let x : Output = (y.0, filter (λ g. has g y.1) opens) in
      let later = known.1.later x (subst (λ l. Contains l x) (sym texts) (at_first x (resting_among opens ys))) in
      let bounds : nat_lt channel.outlet.next (ticket_of y) ≡ false =
      ap (λ l. has_refusals (Some channel) (first_of l)) (sym texts) ∙ none in
      let least = ltb-false channel.outlet.next (ticket_of y) bounds in
      let told = known.1.has.said.next in
      omega (arith, later, least, told)

  first_waits : (y : Output) (ys : List Output) → said.waiting ≡ y ∷ ys → HasNoneReady t s
      → has_refusals (Some channel) (first_answer s t) ≡ false
      → Waits t cs (length (past t cs).told + 1)
  first_waits y ys is ready none =
      let ticket = first_next y ys is none in
      let rests = first_rests y ys is ready in
      let waits : Contains said.waiting y = subst (λ l. Contains l y) (sym is) (at_first y ys) in
      let of = says_it t (stands_on t cs) y
      (subst (λ l. Contains l y) (sym said.split) (Contains-append_right said.out said.waiting y waits)) in
      let its : y.0.0 ≡ t = eqb-true y.0.0 t of.4 in
      let own : y.0 ≡ (t, (length (past t cs).told + 1, y.0.1.1)) = (λ i. (its i, (ticket i, y.0.1.1))) in
      (of.0, y.0.1.1, rests.0, of.1, of.2 ∙ ap Some own, ap (has rests.0) of.3 ∙ rests.1, not_logged rests.0 rests.2)

  -- where none waits all was told
  all_told : said.waiting ≡ [] → has_refusals (Some channel) (first_answer s t) ≡ false
      → length (past t cs).told ≡ length (past t cs).asked
  all_told is none =
      let texts = waiting_is [] is in
      let bounds : nat_lt channel.outlet.next channel.inlet.next ≡ false =
      ap (λ l. has_refusals (Some channel) (first_of l)) (sym texts) ∙ none in
      let least = ltb-false channel.outlet.next channel.inlet.next bounds in
      let told = known.1.has.said.next in
      let given = known.1.has.heard.tickets in
      let most = known.1.has.given in
      omega (arith, least, told, given, most)

  held : (waiting : List Output) → said.waiting ≡ waiting → HasNoneReady t s
      → has_refusals (Some channel) (first_answer s t) ≡ false
      → (length (past t cs).told ≡ length (past t cs).asked) ⊎ Waits t cs (length (past t cs).told + 1)
  held [] is ready none = inl (all_told is none)
  held (y ∷ ys) is ready none = inr (first_waits y ys is ready none)

  lets_go : LetsGoJustWhatMay t cs channel s
  lets_go = record { out = out_logged; held = held said.waiting refl }

pub tickets_are_told_right : TicketsAreToldRight
tickets_are_told_right limits next start cs s done t channel there =
    told_right limits next start cs s done t channel there

pub channels_let_go_just_what_may : ChannelsLetGoJustWhatMay
channels_let_go_just_what_may limits next start cs s done t channel there =
    lets_go limits next start cs s done t channel there
