-- What each channel was asked for and told, along all that a store did.
use Rattle.std.proofs.lemmas.Bool.Decides.{nat_tests}
use Rattle.sk_durable.proofs.Contained.{first_or_later, at_first, nothing_there, from_map, to_map}
use Rattle.sk_durable.proofs.Names.{◌≡◌, ℕ, ◌+◌, ◌-◌, ◌<◌, ◌≤◌, true, false, List, [], ◌∷◌, ◌++◌, length, Some, None}
use Rattle.sk_durable.proofs.Names.{inl, inr, refl, sym, ◌∙◌, ap, subst, arith, append_assoc, length-append, ◌⊎◌}
use Rattle.sk_durable.proofs.Names.{slice_get, filter, Contains, append-nil, length-map, Contains-append_right}
use Rattle.sk_durable.proofs.Names.{Contains-append_cases, has, said_by, numbers, first_of, said_at, IsSaid}
use Rattle.sk_durable.proofs.Names.{failed_in, kept, resting_among, said_to, failed_more, kept_more, Requests}
use Rattle.sk_durable.proofs.Names.{Channel, Ask, channel_at, channel_of, place_at, refused, Answer, Work}
use Rattle.sk_durable.proofs.Names.{answer_text, Entries, served, Asked, Runs, Limits, Next, error, long_key_words}
use Rattle.sk_durable.proofs.Names.{work_of, Batches, asked_for, bound, first_answer, no_past, was_refused, was_told}
use Rattle.sk_durable.proofs.Names.{Goes, HasPast, Past, StoreView, Call, Connects, Does, MayBeTold, Serves, carried}
use Rattle.sk_durable.proofs.Names.{carried_after, carried_by, carried_from, decided, failed, past, past_after}
use Rattle.sk_durable.proofs.Names.{stands, Command, HasDone}
use Rattle.sk_durable.proofs.Machines.{Machine}
use Rattle.sk_durable.proofs.Served.{carried_behind, decided_behind, outs_from}
use Rattle.sk_durable.proofs.Pasts.{was_there, by_call, carried_push, carried_reset, connects, connects_is, freed, never_push, outs_behind, outs_grow, past_push, past_reset, same_limits, silent, taken, taken_after, taken_push, taken_reset, Said}
use Rattle.sk_durable.proofs.Since.{all_said, last_machine, said_since, Since}
use Rattle.sk_durable.proofs.Tickets.{answer_told, fewer_said, got_before, got_last, kept_append, less_said, mapped_none, none_long, nothing_told, refused_long, refused_told, rested, resting, rises_apart, rises_behind, rises_first, rises_kept, rises_push, rises_resting, rises_to, said_append, ticket_of, told_long, IsToldOf, Output, Rises}
use Rattle.sk_durable.proofs.Calls.{serves_on}

-- ---- what waits after a call

module _ (t : ℕ) (left now : List Output) (xs ys : List Said) (M N : Machine) (two : IsSaid now t (λ u. ys) N)
    (n m : ℕ) (rises : Rises n now m) where
  -- what waits is behind all that was taken out
  out_below : (w : Said) (y : Output) → Contains ys w → Contains two.waiting y → w.1.0 < ticket_of y
  out_below w y there waits =
      let out = from_map (λ (z : Output). z.0) two.out w (subst (λ l. Contains l w) two.gone there) in
      let less = rises_apart n m two.out two.waiting out.0 y (subst (λ l. Rises n l m) two.split rises) out.1 waits in
      let same = ap (λ (v : Said). v.1.0) out.2 in
      omega (arith, less, same)

  pub out_first : (w : Said) (x : Output) → Contains ys w → Contains (N.texts t) x → w.1.0 < ticket_of x
  out_first w x there waits =
      let at = rested (numbers N.state.opens) two.waiting x (subst (λ l. Contains l x) two.texts waits) in
      let less = out_below w at.0 there at.1 in
      let same = ap (λ (v : Said). v.1.0) at.2 in
      omega (arith, less, same)

  -- it waited before, or it is new
  module _ (one : IsSaid left t (λ u. xs) M) (grows : (w : Said) → Contains xs w → Contains ys w)
      (New : Output → Type 0) (old_or_new : (y : Output) → Contains now y → Contains left y ⊎ New y) where
    abbrev pub Before : Output → Type 0
    Before x = ((y : Output) × Contains (M.texts t) y × (x.0 ≡ y.0)) ⊎ ((y : Output) × New y × (x.0 ≡ y.0))

    by_old : (x y : Output) → x.0 ≡ y.0 → Contains two.waiting y → Contains left y ⊎ New y → Before x
    by_old x y is waits (inr new) = inr (y, new, is)
    by_old x y is waits (inl old) =
        elim (Contains-append_cases one.out one.waiting y (subst (λ l. Contains l y) one.split old)) [
          | inl out ↦
              let gone = subst (λ l. Contains l y.0) (sym one.gone) (to_map (λ (z : Output). z.0) one.out y out) in
              let less = out_below y.0 y (grows y.0 gone) waits in
              absurd (omega (arith, less))
          | inr still ↦
              let at = resting (numbers M.state.opens) one.waiting y still in
              inl (at.0, subst (λ l. Contains l at.0) (sym one.texts) at.1, is ∙ sym at.2)
        ]

    pub waited : (x : Output) → Contains (N.texts t) x → Before x
    waited x there =
        let at = rested (numbers N.state.opens) two.waiting x (subst (λ l. Contains l x) two.texts there) in
        by_old x at.0 at.2 at.1
        (old_or_new at.0 (subst (λ l. Contains l at.0) (sym two.split)
        (Contains-append_right two.out two.waiting at.0 at.1)))

-- the first that waits has the least ticket
first_least : (channel : Channel) (n m : ℕ) (waiting : List Output) (y : Output) → Rises n waiting m
    → Contains waiting y
    → bound channel (first_of waiting) ≤ ticket_of y
first_least channel n m [] y rises there = nothing_there y there
first_least channel n m (x ∷ xs) y rises there = rises_first n m x y xs rises there

first_none : (waiting : List Output) → first_of waiting ≡ None → waiting ≡ []
first_none [] is = refl
first_none (x ∷ xs) is = cc

-- what one command said to its channel
own_is : (t u : ℕ) (asked : Asked) (answer : Answer) (rests : List ℕ) → u ≡ t
    → said_to served t (record { entry = Runs asked; said = Some (u, (asked.ticket, answer)); rests = rests } ∷ [])
    ≡ ((u, (asked.ticket, answer)), rests) ∷ []
own_is t u asked answer rests its =
    grind (arith, nat_tests, append-nil (said_by served t (Some (u, (asked.ticket, answer))) rests))

-- ---- a channel that is there

-- this was asked for by a ticket: that, or the error that one of its keys is too long
abbrev pub IsAskedAt : List Ask → ℕ → Work → Type 0
IsAskedAt asks k work =
    (ask : Ask) × (slice_get asks k ≡ Some ask) × ((work ≡ work_of ask) ⊎ (work ≡ error long_key_words))

asked_more : (asks more : List Ask) (k : ℕ) (work : Work) → IsAskedAt asks k work → IsAskedAt (asks ++ more) k work
asked_more asks more k work at = (at.0, got_before asks more k at.0 at.1, at.2)

abbrev AllAsked : List Ask → List Command → Type 0
AllAsked asks commands =
    (r : Command) (asked : Asked) → Contains commands r → r.entry ≡ Runs asked → (k : ℕ) → asked.ticket ≡ k + 1
    → IsAskedAt asks k asked.work

-- It has its past; tickets were told what was taken out; the tickets of commands rise, and each was asked for; and what
-- waits was not told.
pub record IsOn (limits : Requests) (t : ℕ) (p : Past) (commands : List Command) (xs : List Said)
    (waiting : List Output) (channel : Channel) : Type 0 where
  pub has : HasPast limits p channel
  pub told_of : IsToldOf p.told xs
  pub asked : AllAsked p.asked commands
  pub rising : Rises 0 (said_to served t commands) (length p.asked)
  pub later : (x : Output) → Contains waiting x → length p.told < ticket_of x

-- what waits in a channel
abbrev pub waits_at : StoreView → ℕ → List Output
waits_at s t = said_at s.batched.kernel.parts.said t

-- and that after some calls
abbrev pub IsOnAfter : Requests → ℕ → List Call → StoreView → Channel → Type 0
IsOnAfter limits t cs s channel = IsOn limits t (past t cs) (carried_from t [] cs) (taken t cs) (waits_at s t) channel

module _ (limits : Limits) (next : Next) (start : Entries) (t : ℕ) (cs : List Call) (a : StoreView)
    (done : HasDone limits next start cs a)
    (c : Call) (m : StoreView) (does : Does a c m) (then : HasDone limits next start (cs ++ c ∷ []) m) where
  abbrev M : Machine
  M = last_machine limits next start cs a done

  abbrev N : Machine
  N = last_machine limits next start (cs ++ c ∷ []) m then

  abbrev fails : List ℕ
  fails = failed cs

  abbrev more : List ℕ
  more = failed_in (decided (c ∷ []))

  abbrev fails_then : List ℕ
  fails_then = failed (cs ++ c ∷ [])

  failed_now : fails_then ≡ fails ++ more
  failed_now = ap failed_in (decided_behind cs (c ∷ [])) ∙ failed_more (decided cs) (decided (c ∷ []))

  kept_then : (log : List Command) → kept fails_then log ≡ kept more (kept fails log)
  kept_then log = ap (λ gs. kept gs log) failed_now ∙ kept_more fails more log

  fewer : (log : List Command) (y : Output) → Contains (said_to served t (kept fails_then log)) y
      → Contains (said_to served t (kept fails log)) y
  fewer log y there = less_said t more (kept fails log) y
      (subst (λ l. Contains (said_to served t l) y) (kept_then log) there)

  -- nothing waits in a channel that is free
  pub still_free : waits_at a t ≡ [] → place_at m.channels t ≡ None → waits_at m t ≡ []
  still_free none free =
      let one = all_said limits next start cs a done t in
      let two = all_said limits next start (cs ++ c ∷ []) m then t in
      let new = said_to served t (stands (cs ++ c ∷ [])) in
      let alone : new ≡ said_to served t (kept more (kept fails (carried cs))) =
      ap (λ l. said_to served t (kept fails_then l)) (carried_behind cs (c ∷ []))
      ∙ kept_append t fails_then (carried cs) (carried (c ∷ []))
      ∙ ap (λ l. said_to served t (kept fails_then (carried cs)) ++ l)
      (ap (λ l. said_to served t (kept fails_then l)) (append-nil (carried_by c)) ∙ silent t a m fails_then c does free)
      ∙ append-nil (said_to served t (kept fails_then (carried cs)))
      ∙ ap (said_to served t) (kept_then (carried cs)) in
      let fewer = fewer_said t more (kept fails (carried cs)) in
      let as_many = ap (λ (l : List Output). length l) alone in
      let waits = mapped_none (λ (x : Output). (x.0, filter (λ g. has g x.1) (numbers M.state.opens))) one.waiting
      (sym one.texts ∙ none) in
      let none_waits = ap (λ (l : List Output). length l) waits in
      let all_old = ap (λ (l : List Output). length l) one.split in
      let parts_old = length-append one.out one.waiting in
      let out_old = ap (λ (l : List Said). length l) one.gone in
      let same_old = length-map one.out (λ (x : Output). x.0) in
      let all_new = ap (λ (l : List Output). length l) two.split in
      let parts_new = length-append two.out two.waiting in
      let out_new = ap (λ (l : List Said). length l) two.gone in
      let same_new = length-map two.out (λ (x : Output). x.0) in
      let grows = outs_grow t (outs_from (λ u. []) cs) c in
      let behind = ap (λ (f : ℕ → List Said). length (f t)) (outs_behind (λ u. []) cs (c ∷ [])) in
      let empty = none_long two.waiting
      (omega (
        arith,
        fewer,
        as_many,
        none_waits,
        all_old,
        parts_old,
        out_old,
        same_old,
        all_new,
        parts_new,
        out_new,
        same_new,
        grows,
        behind,
      )) in
      two.texts ∙ ap (resting_among (numbers N.state.opens)) empty

  -- a channel that was there is there
  module _ (since : Since limits next start t cs) (apart : connects t c ≡ false) (after : Channel)
      (there : channel_at m.channels t ≡ Some after)
      (is_on : (channel : Channel) → channel_at a.channels t ≡ Some channel
      → IsOnAfter limits.requests t cs a channel) where
    abbrev p : Past
    p = past t cs

    abbrev commands : List Command
    commands = carried_from t [] cs

    abbrev xs : List Said
    xs = taken t cs

    one : IsSaid (said_to served t (kept fails commands)) t (λ u. xs) M
    one = said_since limits next start cs a done t since

    since_then : Since limits next start t (cs ++ c ∷ [])
    since_then = record {
      pre = since.pre;
      mid = since.mid;
      done = since.done;
      empty = since.empty;
      post = since.post ++ c ∷ [];
      at = ap (λ l. l ++ c ∷ []) since.at ∙ append_assoc since.pre (Connects t ∷ since.post) (c ∷ []);
      never = never_push t since.post c since.never apart;
    }

    -- what is to be shown, where this was said since it was connected
    abbrev Goal : (Past → Past) → (List Command → List Command) → (List Said → List Said) → Type 0
    Goal change grow takes = IsSaid (said_to served t (kept fails_then (grow commands))) t (λ u. takes xs) N
        → IsOn limits.requests t (change p) (grow commands) (takes xs) (waits_at m t) after

    -- where there is no new command, what waits waited before
    still_waits : (before : Channel) → channel_at a.channels t ≡ Some before
        → IsSaid (said_to served t (kept fails_then commands)) t (λ u. xs) N
        → (x : Output) → Contains (waits_at m t) x
        → (y : Output) × Contains (waits_at a t) y × (x.0 ≡ y.0)
    still_waits before at two x waits =
        let rises = rises_kept t fails_then commands 0 (length p.asked) (is_on before at).rising in
        elim (waited t (said_to served t (kept fails commands))
        (said_to served t (kept fails_then commands)) xs xs M N two 0 (length p.asked) rises
        one (λ w inside. inside) (λ y. ⊥) (λ y inside. inl (fewer commands y inside)) x waits) [
          | inl old ↦ old
          | inr new ↦ absurd new.1
        ]

    still_later : (before : Channel) → channel_at a.channels t ≡ Some before
        → IsSaid (said_to served t (kept fails_then commands)) t (λ u. xs) N
        → (x : Output) → Contains (waits_at m t) x → length p.told < ticket_of x
    still_later before at two x waits =
        let old = still_waits before at two x waits in
        let less = (is_on before at).later old.0 old.1 in
        let same = ap (λ (w : Said). w.1.0) old.2 in
        omega (arith, less, same)

    same : (before : Channel) (change : Past → Past) → channel_at a.channels t ≡ Some before → Goes change before after
        → ((q : Past) → ((change q).asked ≡ q.asked) × ((change q).told ≡ q.told)) → Goal change (λ l. l) (λ l. l)
    same before change at goes keeps two =
        let on = is_on before at in
        let asks = (keeps p).0 in
        let tells = (keeps p).1 in
        record {
          has = goes limits.requests p on.has;
          told_of = subst (λ ts. IsToldOf ts xs) (sym tells) on.told_of;
          asked = λ r asked inside runs k is. subst (λ l. IsAskedAt l k asked.work) (sym asks)
              (on.asked r asked inside runs k is);
          rising = subst (λ l. Rises 0 (said_to served t commands) (length l)) (sym asks) on.rising;
          later = λ x waits. subst (λ ts. length ts < ticket_of x) (sym tells) (still_later before at two x waits);
        }

    asks : (before : Channel) (bytes : List ℕ) (ask : Ask) → channel_at a.channels t ≡ Some before
        → Goes (asked_for bytes ask) before after
        → Goal (asked_for bytes ask) (λ l. l) (λ l. l)
    asks before bytes ask at goes two =
        let on = is_on before at in
        record {
          has = goes limits.requests p on.has;
          told_of = on.told_of;
          asked = λ r asked inside runs k is. asked_more p.asked (ask ∷ []) k asked.work
              (on.asked r asked inside runs k is);
          rising = rises_to 0 (length p.asked) (length (p.asked ++ ask ∷ [])) (said_to served t commands) on.rising
              (let long = length-append p.asked (ask ∷ []) in omega (arith, long));
          later = still_later before at two;
        }

    carries : (before : Channel) (u : ℕ) (bytes : List ℕ) (ask : Ask) (asked : Asked) (answer : Answer) (rests : List ℕ)
        → channel_at a.channels t ≡ Some before → Goes (asked_for bytes ask) before after → u ≡ t
        → ((requests : Requests) (q : Past) → HasPast requests q before → asked.ticket ≡ length q.asked + 1)
        → ((asked.work ≡ work_of ask) ⊎ (asked.work ≡ error long_key_words))
        → Goal (asked_for bytes ask)
        (λ l. l ++ record { entry = Runs asked; said = Some (u, (asked.ticket, answer)); rests = rests } ∷ [])
        (λ l. l)
    carries before u bytes ask asked answer rests at goes its given work two =
        let on = is_on before at in
        let r : Command = record { entry = Runs asked; said = Some (u, (asked.ticket, answer)); rests = rests } in
        let y : Output = ((u, (asked.ticket, answer)), rests) in
        let ticket = given limits.requests p on.has in
        let long = length-append p.asked (ask ∷ []) in
        let own : said_to served t (r ∷ []) ≡ y ∷ [] = own_is t u asked answer rests its in
        let rises : Rises 0 (said_to served t (commands ++ r ∷ [])) (length (p.asked ++ ask ∷ [])) =
        subst (λ l. Rises 0 l (length (p.asked ++ ask ∷ [])))
        (sym (said_append t commands (r ∷ []) ∙ ap (λ l. said_to served t commands ++ l) own))
        (rises_push 0 (length p.asked) (length (p.asked ++ ask ∷ [])) (said_to served t commands) y on.rising
        (omega (arith, ticket)) (omega (arith, ticket, long))) in
        record {
          has = goes limits.requests p on.has;
          told_of = on.told_of;
          asked = λ q other inside runs k is. elim (Contains-append_cases commands (r ∷ []) q inside) [
            | inl old ↦ asked_more p.asked (ask ∷ []) k other.work (on.asked q other old runs k is)
            | inr new ↦ elim (first_or_later r [] q new) [
              | inl one_of ↦
                  let entry : Runs asked ≡ q.entry = ap (λ (z : Command). z.entry) one_of in
                  let alike : asked ≡ other = cc in
                  let numbered = ap (λ (z : Asked). z.ticket) alike in
                  subst (λ (z : Asked). IsAskedAt (p.asked ++ ask ∷ []) k z.work) alike
                  (ask, got_last p.asked ask k (omega (arith, ticket, numbered, is)), work)
              | inr none ↦ nothing_there q none
            ]
          ];
          rising = rises;
          later = λ x waits.
              let told = on.has.given in
              elim (waited t (said_to served t (kept fails commands))
              (said_to served t (kept fails_then (commands ++ r ∷ []))) xs xs M N two 0
              (length (p.asked ++ ask ∷ []))
              (rises_kept t fails_then (commands ++ r ∷ []) 0 (length (p.asked ++ ask ∷ [])) rises)
              one (λ w inside. inside) (λ z. ticket_of z ≡ asked.ticket) (λ z inside.
              elim (Contains-append_cases (said_to served t (kept fails_then commands))
              (said_to served t (kept fails_then (r ∷ []))) z
              (subst (λ l. Contains l z) (kept_append t fails_then commands (r ∷ [])) inside)) [
                | inl old ↦ inl (fewer commands z old)
                | inr new ↦ elim (first_or_later y [] z (subst (λ l. Contains l z) own (less_said t fails_then (r ∷ []) z new))) [
                  | inl one_of ↦ inr (ap ticket_of (sym one_of))
                  | inr none ↦ nothing_there z none
                ]
              ]) x waits) [
                | inl old ↦ let less =
                    on.later old.0 old.1 in let alike = ap (λ (w : Said). w.1.0) old.2 in omega (arith, less, alike)
                | inr new ↦ let its_own =
                    new.1 in let alike = ap (λ (w : Said). w.1.0) new.2 in omega (arith, told, ticket, its_own, alike)
              ];
        }

    tells : (before : Channel) (u ticket : ℕ) (answer : Answer) → channel_at a.channels t ≡ Some before
        → Goes (was_told ticket (answer_text answer)) before after → u ≡ t → MayBeTold ticket t a
        → Goal (was_told ticket (answer_text answer)) (λ l. l) (λ l. l ++ (u, (ticket, answer)) ∷ [])
    tells before u ticket answer at goes its may two =
        let on = is_on before at in
        let w : Said = (u, (ticket, answer)) in
        let less = (may before limits.requests p at on.has).0 in
        record {
          has = goes limits.requests p on.has;
          told_of = answer_told p.told xs w on.told_of less;
          asked = on.asked;
          rising = on.rising;
          later = λ x waits.
              let long = told_long p.told ticket (answer_text answer) less in
              let behind = out_first t (said_to served t (kept fails_then commands))
              (said_to served t (kept fails_then commands)) xs (xs ++ w ∷ []) M N two 0
              (length p.asked) (rises_kept t fails_then commands 0 (length p.asked) on.rising) w x
              (Contains-append_right xs (w ∷ []) w (at_first w [])) waits in
              omega (arith, long, behind);
        }

    refuses : (before : Channel) (ticket : ℕ) → channel_at a.channels t ≡ Some before
        → Goes (was_refused ticket) before after
        → ticket ≡ bound before (first_answer a t) → Goal (was_refused ticket) (λ l. l) (λ l. l)
    refuses before ticket at goes bounds two =
        let on = is_on before at in
        let n = ticket - (length p.told + 1) in
        let rises : Rises 0 (waits_at a t) (length p.asked) =
        subst (λ l. Rises 0 l (length p.asked)) (sym one.texts)
        (rises_resting (numbers M.state.opens) 0 (length p.asked) one.waiting
        (rises_behind 0 (length p.asked) one.out one.waiting
        (subst (λ l. Rises 0 l (length p.asked)) one.split
        (rises_kept t fails commands 0 (length p.asked) on.rising)))) in
        record {
          has = goes limits.requests p on.has;
          told_of = refused_told p.told xs n on.told_of;
          asked = on.asked;
          rising = on.rising;
          later = λ x waits.
              let old = still_waits before at two x waits in
              let less = on.later old.0 old.1 in
              let alike = ap (λ (v : Said). v.1.0) old.2 in
              let least = first_least before 0 (length p.asked) (waits_at a t) old.0 rises old.1 in
              let long = length-append p.told (refused n) in
              let some = refused_long n in
              omega (arith, less, alike, least, bounds, long, some);
        }

    pub still_on : Since limits next start t (cs ++ c ∷ [])
        × IsOnAfter limits.requests t (cs ++ c ∷ []) m after
    still_on =
        let said : IsSaid (said_to served t (kept fails_then (carried_from t [] (cs ++ c ∷ [])))) t
        (λ u. taken t (cs ++ c ∷ [])) N =
        said_since limits next start (cs ++ c ∷ []) m then t since_then in
        let two : IsSaid (said_to served t (kept fails_then (carried_after t c commands))) t
        (λ u. taken_after t c xs) N =
        subst (λ l. IsSaid (said_to served t (kept fails_then l)) t (λ u. taken_after t c xs) N)
        (carried_push t [] cs c)
        (subst (λ l. IsSaid (said_to served t (kept fails_then (carried_from t [] (cs ++ c ∷ [])))) t (λ u. l) N)
        (taken_push t [] cs c) said) in
        let on = by_call t a m after there Goal same asks carries tells refuses c does apart two in (
          since_then,
          subst (λ q. IsOn limits.requests t q (carried_from t [] (cs ++ c ∷ [])) (taken t (cs ++ c ∷ []))
              (waits_at m t) after) (sym (past_push t no_past cs c))
              (subst (λ l. IsOn limits.requests t (past_after t c p) l (taken t (cs ++ c ∷ [])) (waits_at m t) after)
              (sym (carried_push t [] cs c))
              (subst (λ l. IsOn limits.requests t (past_after t c p) (carried_after t c commands) l
              (waits_at m t) after) (sym (taken_push t [] cs c)) on)),
        )

-- ---- all that a store did

pub record Connected (limits : Limits) (next : Next) (start : Entries) (t : ℕ) (cs : List Call)
    (s : StoreView) : Type 0 where
  pub limits_are : s.limits ≡ limits
  -- nothing waits in a channel that is free
  pub free : place_at s.channels t ≡ None → waits_at s t ≡ []
  pub on : (channel : Channel) → channel_at s.channels t ≡ Some channel
      → Since limits next start t cs × IsOnAfter limits.requests t cs s channel

module _ (limits : Limits) (next : Next) (start : Entries) (t : ℕ) where
  -- a channel is connected
  connects_now : (cs : List Call) (a : StoreView) → HasDone limits next start cs a → Connected limits next start t cs a
      → (m : StoreView) → Does a (Connects t) m → (channel : Channel) → channel_at m.channels t ≡ Some channel
      → Since limits next start t (cs ++ Connects t ∷ [])
      × IsOnAfter limits.requests t (cs ++ Connects t ∷ []) m channel
  connects_now cs a done known m (new, has, most, (small, free, here, others), is) channel there =
      let empty = known.free free in
      let same : new ≡ channel =
      (let now : channel_at m.channels t ≡ Some new = ap channel_of here in cc (now, there)) in
      let nothing : waits_at m t ≡ [] = ap (λ (b : Batches). said_at b.kernel.parts.said t) is.1 ∙ empty in
      let on : IsOn limits.requests t no_past [] [] (waits_at m t) channel = record {
        has = subst (λ (l : Limits). HasPast l.requests no_past channel) known.limits_are
            (subst (HasPast a.limits.requests no_past) same has);
        told_of = nothing_told;
        asked = λ r asked inside runs k next. nothing_there r inside;
        rising = omega arith;
        later = λ x waits. nothing_there x (subst (λ l. Contains l x) nothing waits);
      } in (
        record { pre = cs; mid = a; done = done; empty = empty; post = []; at = refl; never = tt },
        subst (λ q. IsOn limits.requests t q (carried_from t [] (cs ++ Connects t ∷ []))
            (taken t (cs ++ Connects t ∷ [])) (waits_at m t) channel)
            (sym (past_reset t no_past cs []))
            (subst (λ l. IsOn limits.requests t no_past l (taken t (cs ++ Connects t ∷ [])) (waits_at m t) channel)
            (sym (carried_reset t [] cs []))
            (subst (λ l. IsOn limits.requests t no_past [] l (waits_at m t) channel)
            (sym (taken_reset t [] cs [])) on)),
      )

  -- it was there before
  before_it : (cs : List Call) (a : StoreView) → (done : HasDone limits next start cs a)
      → Connected limits next start t cs a
      → (c : Call) (m : StoreView) → Does a c m → HasDone limits next start (cs ++ c ∷ []) m → connects t c ≡ false
      → (channel : Channel) → channel_at m.channels t ≡ Some channel
      → Since limits next start t (cs ++ c ∷ [])
      × IsOnAfter limits.requests t (cs ++ c ∷ []) m channel
  before_it cs a done known c m does then apart channel there =
      let was = was_there t a m channel there c does apart in
      still_on limits next start t cs a done c m does then (known.on was.0 was.1).0 apart channel there
      (λ old at. (known.on old at).1)

  step : (cs : List Call) (a : StoreView) → HasDone limits next start cs a → Connected limits next start t cs a
      → (c : Call) (m : StoreView) → Does a c m → HasDone limits next start (cs ++ c ∷ []) m
      → Connected limits next start t (cs ++ c ∷ []) m
  step cs a done known c m does then = record {
    limits_are = same_limits a c m does ∙ known.limits_are;
    free = λ gone. still_free limits next start t cs a done c m does then
        (elim (freed t a m c does gone) [
          | inl place ↦ known.free place
          | inr none ↦ first_none (waits_at a t) none
        ]) gone;
    on = λ channel there.
        elim (connects t c) as (λ b. connects t c ≡ b → Since limits next start t (cs ++ c ∷ [])
        × IsOnAfter limits.requests t (cs ++ c ∷ []) m channel) [
          | true ↦ λ its. let is = connects_is t c its in
              subst (λ d. Since limits next start t (cs ++ d ∷ [])
              × IsOnAfter limits.requests t (cs ++ d ∷ []) m channel)
              (sym is) (connects_now cs a done known m (subst (λ d. Does a d m) is does) channel there)
          | false ↦ λ apart. before_it cs a done known c m does then apart channel there
        ] refl;
  }

  walk : (cs : List Call) (a : StoreView) → HasDone limits next start cs a → Connected limits next start t cs a
      → (ds : List Call) (s : StoreView) → Serves a ds s → Connected limits next start t (cs ++ ds) s
  walk cs a done known [] s is =
      subst (Connected limits next start t (cs ++ [])) is
      (subst (λ l. Connected limits next start t l a) (sym (append-nil cs)) known)
  walk cs a done known (c ∷ ds) s (m, does, rest) =
      let then : HasDone limits next start (cs ++ c ∷ []) m =
      record {
        first = done.first;
        new = done.new;
        serves = serves_on done.first a m cs (c ∷ []) done.serves
            (m, does, refl);
      } in
      subst (λ l. Connected limits next start t l s) (append_assoc cs (c ∷ []) ds)
      (walk (cs ++ c ∷ []) m then (step cs a done known c m does then) ds s rest)

  pub connected : (cs : List Call) (s : StoreView) → HasDone limits next start cs s → Connected limits next start t cs s
  connected cs s done =
      let first = done.first in
      let begin : HasDone limits next start [] first = record { first = first; new = done.new; serves = refl } in
      walk [] first begin (record {
        limits_are = done.new.takes;
        free = λ gone. ap (λ l. said_at l t) done.new.said;
        on = λ channel there. absurd
            (let none : channel_at first.channels t ≡ None = ap channel_of (done.new.channels t) in cc (none, there));
      }) cs s done.serves

-- a channel that is there has its past
pub has_past : (limits : Limits) (next : Next) (start : Entries) (cs : List Call) (s : StoreView)
    → HasDone limits next start cs s
    → (t : ℕ) (channel : Channel) → channel_at s.channels t ≡ Some channel → HasPast limits.requests (past t cs) channel
has_past limits next start cs s done t channel there =
    ((connected limits next start t cs s done).on channel there).1.has
