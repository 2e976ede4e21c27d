-- What each call of a store makes of one channel.
use Rattle.std.proofs.lemmas.Bool.Decides.{nat_tests}
use Rattle.sk_durable.proofs.Names.{◌≡◌, ◌≢◌, ℕ, ◌+◌, ◌<◌, ◌≤◌, Bool, true, false, cond, List, [], ◌∷◌, ◌++◌, length}
use Rattle.sk_durable.proofs.Names.{length-append, get_or-set_same, get_or-set_other, Option, Some, None, inl, inr}
use Rattle.sk_durable.proofs.Names.{⊎_elim, refl, sym, ◌∙◌, ap, subst, append_assoc, arith, ◌==◌, ◌⊎◌, if◌then◌else◌}
use Rattle.sk_durable.proofs.Names.{false≢true, cases_lt, eq-eqb, eqb-true, eqb-false, append-nil, get_or_past}
use Rattle.sk_durable.proofs.Names.{Requests, Channel, Ask, Channels, channel_at, channel_of, hung_up, place_at}
use Rattle.sk_durable.proofs.Names.{Answer, Work, answer_text, said_by, kept, said_to, told_more, Out, served, Asked}
use Rattle.sk_durable.proofs.Names.{Runs, Asker, error, long_key_words, work_of, Batches, asked_for, bound, came}
use Rattle.sk_durable.proofs.Names.{first_answer, no_past, was_handed, was_refused, was_told, Becomes, Goes, HasPast}
use Rattle.sk_durable.proofs.Names.{Past, StoreView, Call, Connects, HangsUp, Frees, Hears, Carries, Declines, Tells}
use Rattle.sk_durable.proofs.Names.{Drops, Refuses, Hands, Draws, Sends, Turns, Learns, Cuts, Stops, Decides, Rests}
use Rattle.sk_durable.proofs.Names.{Does, IsFor, MayBeTold, Passes, carried, carried_after, carried_by, carried_from}
use Rattle.sk_durable.proofs.Names.{past, past_after, past_from, Command}
use Rattle.sk_channels.specs.Table.{released}
use Rattle.sk_durable.proofs.Served.{outs_by, outs_from}
use Rattle.sk_durable.proofs.Tickets.{kept_append}
use Rattle.sk_durable.proofs.Ways.{none_hung_up}

abbrev pub Said : Type 0
Said = ℕ × (ℕ × Answer)

-- ---- calls since a channel was connected

-- whether it is connected
abbrev pub connects : ℕ → Call → Bool
connects t (Connects u) = u == t
connects t other = false

abbrev pub Never : ℕ → List Call → Type 0
Never t [] = Unit {0}
Never t (c ∷ cs) = (connects t c ≡ false) × Never t cs

-- the answers that were taken out of it since then, told or dropped
abbrev pub taken_after : ℕ → Call → List Said → List Said
taken_after t (Connects u) xs = if u == t then [] else xs
taken_after t (Tells u ticket answer) xs = if u == t then xs ++ (u, (ticket, answer)) ∷ [] else xs
taken_after t (Drops u ticket answer) xs = if u == t then xs ++ (u, (ticket, answer)) ∷ [] else xs
taken_after t other xs = xs

abbrev pub taken_from : ℕ → List Said → List Call → List Said
taken_from t xs [] = xs
taken_from t xs (c ∷ cs) = taken_from t (taken_after t c xs) cs

abbrev pub taken : ℕ → List Call → List Said
taken t cs = taken_from t [] cs

-- one call more
pub past_push : (t : ℕ) (p : Past) (cs : List Call) (c : Call)
    → past_from t p (cs ++ c ∷ []) ≡ past_after t c (past_from t p cs)
past_push t p [] c = refl
past_push t p (d ∷ cs) c = past_push t (past_after t d p) cs c

pub carried_push : (t : ℕ) (commands : List Command) (cs : List Call) (c : Call)
    → carried_from t commands (cs ++ c ∷ []) ≡ carried_after t c (carried_from t commands cs)
carried_push t commands [] c = refl
carried_push t commands (d ∷ cs) c = carried_push t (carried_after t d commands) cs c

pub taken_push : (t : ℕ) (xs : List Said) (cs : List Call) (c : Call)
    → taken_from t xs (cs ++ c ∷ []) ≡ taken_after t c (taken_from t xs cs)
taken_push t xs [] c = refl
taken_push t xs (d ∷ cs) c = taken_push t (taken_after t d xs) cs c

pub never_push : (t : ℕ) (cs : List Call) (c : Call) → Never t cs → connects t c ≡ false → Never t (cs ++ c ∷ [])
never_push t [] c none apart = (apart, tt)
never_push t (d ∷ cs) c none apart = (none.0, never_push t cs c none.1 apart)

-- nothing counts that was before
pub past_reset : (t : ℕ) (p : Past) (pre post : List Call)
    → past_from t p (pre ++ Connects t ∷ post) ≡ past_from t no_past post
past_reset t p [] post = ap (λ b. past_from t (cond b no_past p) post) (eq-eqb t t refl)
past_reset t p (c ∷ pre) post = past_reset t (past_after t c p) pre post

pub carried_reset : (t : ℕ) (commands : List Command) (pre post : List Call)
    → carried_from t commands (pre ++ Connects t ∷ post) ≡ carried_from t [] post
carried_reset t commands [] post = ap (λ b. carried_from t (cond b [] commands) post) (eq-eqb t t refl)
carried_reset t commands (c ∷ pre) post = carried_reset t (carried_after t c commands) pre post

pub taken_reset : (t : ℕ) (xs : List Said) (pre post : List Call)
    → taken_from t xs (pre ++ Connects t ∷ post) ≡ taken_from t [] post
taken_reset t xs [] post = ap (λ b. taken_from t (cond b [] xs) post) (eq-eqb t t refl)
taken_reset t xs (c ∷ pre) post = taken_reset t (taken_after t c xs) pre post

-- what is taken out of it stands behind what was
taken_by : (t : ℕ) (told : Out) (front xs : List Said) (u : ℕ) (x : ℕ × Answer) → told t ≡ front ++ xs
    → told_more u x told t ≡ front ++ cond (u == t) (xs ++ (u, x) ∷ []) xs
taken_by t told front xs u x is =
    elim (u == t) as (λ b. cond b (told t ++ (u, x) ∷ []) (told t) ≡ front ++ cond b (xs ++ (u, x) ∷ []) xs) [
      | true ↦ ap (λ l. l ++ (u, x) ∷ []) is ∙ append_assoc front xs ((u, x) ∷ [])
      | false ↦ is
    ]

more_out : (t : ℕ) (told : Out) (u : ℕ) (x : ℕ × Answer) → length (told t) ≤ length (told_more u x told t)
more_out t told u x = grind (arith, nat_tests, length-append (told t) ((u, x) ∷ []))

-- what a command said to another channel
says_none : (t : ℕ) (gs : List ℕ) (u : ℕ) (r : Command) (w : ℕ × Answer) → r.said ≡ Some (u, w) → (u == t) ≡ false
    → said_to served t (kept gs (r ∷ [])) ≡ []
says_none t gs u r w says apart = grind (arith, nat_tests, append-nil (said_by served t r.said r.rests))

-- what the commands said to the channel is what all commands did since then
since_one : (t : ℕ) (gs : List ℕ) (commands : List Command) (c : Call) → connects t c ≡ false
    → said_to served t (kept gs (carried_after t c commands))
    ≡ said_to served t (kept gs commands) ++ said_to served t (kept gs (carried_by c))
since_one t gs commands (Connects u) apart = grind (arith, nat_tests, append-nil (said_to served t (kept gs commands)))
since_one t gs commands (Carries u bytes ask asked answer rests) apart =
    grind (
      arith,
      nat_tests,
      kept_append t gs commands,
      append-nil (said_to served t (kept gs commands)),
      says_none t gs u,
    )
since_one t gs commands other apart = sym (append-nil (said_to served t (kept gs commands)))

pub since_says : (t : ℕ) (gs : List ℕ) (commands : List Command) (cs : List Call) → Never t cs
    → said_to served t (kept gs (carried_from t commands cs))
    ≡ said_to served t (kept gs commands) ++ said_to served t (kept gs (carried cs))
since_says t gs commands [] none = sym (append-nil (said_to served t (kept gs commands)))
since_says t gs commands (c ∷ cs) none =
    let old = said_to served t (kept gs commands) in
    let one = said_to served t (kept gs (carried_by c)) in
    let more = said_to served t (kept gs (carried cs)) in
    since_says t gs (carried_after t c commands) cs none.1
    ∙ ap (λ l. l ++ more) (since_one t gs commands c none.0)
    ∙ append_assoc old one more
    ∙ ap (λ l. old ++ l) (sym (kept_append t gs (carried_by c) (carried cs)))

-- and what was taken out of it since then stands behind what was before
taken_one : (t : ℕ) (told : Out) (front xs : List Said) (c : Call) → connects t c ≡ false → told t ≡ front ++ xs
    → outs_by c told t ≡ front ++ taken_after t c xs
taken_one t told front xs (Connects u) apart is = is ∙ ap (λ b. front ++ cond b [] xs) (sym apart)
taken_one t told front xs (Tells u ticket answer) apart is = taken_by t told front xs u (ticket, answer) is
taken_one t told front xs (Drops u ticket answer) apart is = taken_by t told front xs u (ticket, answer) is
taken_one t told front xs other apart is = is

pub outs_taken : (t : ℕ) (told : Out) (front xs : List Said) (cs : List Call) → Never t cs → told t ≡ front ++ xs
    → outs_from told cs t ≡ front ++ taken_from t xs cs
outs_taken t told front xs [] none is = is
outs_taken t told front xs (c ∷ cs) none is =
    outs_taken t (outs_by c told) front (taken_after t c xs) cs none.1 (taken_one t told front xs c none.0 is)

pub outs_behind : (told : Out) (cs ds : List Call) → outs_from told (cs ++ ds) ≡ outs_from (outs_from told cs) ds
outs_behind told [] ds = refl
outs_behind told (c ∷ cs) ds = outs_behind (outs_by c told) cs ds

-- what was taken out stays so
pub outs_grow : (t : ℕ) (told : Out) (c : Call) → length (told t) ≤ length (outs_by c told t)
outs_grow t told (Tells u ticket answer) = more_out t told u (ticket, answer)
outs_grow t told (Drops u ticket answer) = more_out t told u (ticket, answer)
outs_grow t told other = omega arith

-- ---- limits

pub same_limits : (a : StoreView) (c : Call) (m : StoreView) → Does a c m → m.limits ≡ a.limits
same_limits a (Connects t) m (channel, past, most, connects, is) = is.0
same_limits a (HangsUp t) m (hangs, is) = is.0
same_limits a (Frees t) m (none, frees, is) = is.0
same_limits a (Hears t bytes) m (passes, is) = is.0
same_limits a (Carries t bytes ask asked answer rests) m (none, from, asks, done, is) = is.0
same_limits a (Declines t bytes ask ticket why) m (asks, leaves, is) = is.0
same_limits a (Tells t ticket answer) m (may, passes, out, queue, begun, is) = is.0
same_limits a (Drops t ticket answer) m (gone, out, queue, begun, is, places) = is.0
same_limits a (Refuses t ticket) m (bound, passes, is) = is.0
same_limits a (Hands t bytes) m (passes, is) = is.0
same_limits a Draws m (room, begins, is, places) = is.0
same_limits a (Sends sealed records) m (room, filled, post, these, is) = is.0
same_limits a Turns m (segment, next, is) = ap (λ (s : StoreView). s.limits) is
same_limits a (Learns frame stage) m (stages, known, is) = ap (λ (s : StoreView). s.limits) is
same_limits a (Cuts cut) m (going, due, (segment, next, is)) = ap (λ (s : StoreView). s.limits) is
same_limits a Stops m (going, due, is) = ap (λ (s : StoreView). s.limits) is
same_limits a (Decides outcome) m (decides, is, places) = is.0
same_limits a Rests m (still, keeps, is) = is.0

-- ---- channels by number

pub connects_is : (t : ℕ) (c : Call) → connects t c ≡ true → c ≡ Connects t
connects_is t (Connects u) is = ap Connects (eqb-true u t is)
connects_is t other is = absurd (false≢true is)

apart_from : (u t : ℕ) → (u == t) ≡ false → t ≢ u
apart_from u t apart same = eqb-false u t apart (sym same)

within : (old : Channels) (t : ℕ) (before : Channel) → channel_at old t ≡ Some before → t < length old.places.slots
within old t before there =
    ⊎_elim (λ less. less)
    (λ past. absurd (let none : channel_at old t
    ≡ None = ap channel_of (get_or_past old.places.slots t None past) in cc (there, none)))
    (cases_lt t (length old.places.slots))

hung_up_none : (place : Option (Option Channel)) → hung_up place ≡ None → place ≡ None
hung_up_none None is = refl
hung_up_none (Some place) is = cc

same_released : (place : Option (Option Channel)) → channel_of (released place) ≡ channel_of place
same_released None = refl
same_released (Some None) = refl
same_released (Some (Some channel)) = refl

module _ (t : ℕ) (a m : StoreView) where
  -- a place that is another's, or this channel's
  by_number : (P : Type 0) (u : ℕ) → (u ≡ t → P) → ((u == t) ≡ false → P) → P
  by_number P u same other = grind (arith, nat_tests)

  others_place : (u : ℕ) (before now : Channel) → Becomes u before now a.channels m.channels → (u == t) ≡ false
      → place_at m.channels t ≡ place_at a.channels t
  others_place u before now becomes apart =
      ap (λ (c : Channels). place_at c t) becomes.left
      ∙ get_or-set_other a.channels.places.slots u t (Some (Some now)) None (apart_from u t apart)

  now_place : (u : ℕ) (before now : Channel) → Becomes u before now a.channels m.channels
      → place_at m.channels u ≡ Some (Some now)
  now_place u before now becomes =
      ap (λ (c : Channels). place_at c u) becomes.left
      ∙ get_or-set_same a.channels.places.slots u (Some (Some now)) None (within a.channels u before becomes.there)

  -- ---- a channel that is free was free before, or had no answer

  abbrev Freed : Type 0
  Freed = (place_at a.channels t ≡ None) ⊎ (first_answer a t ≡ None)

  freed_same : m.channels ≡ a.channels → place_at m.channels t ≡ None → Freed
  freed_same is none = inl (ap (λ (c : Channels). place_at c t) (sym is) ∙ none)

  freed_becomes : (u : ℕ) (before now : Channel) → Becomes u before now a.channels m.channels
      → place_at m.channels t ≡ None → Freed
  freed_becomes u before now becomes none =
      grind (arith, nat_tests, by_number Freed u, now_place u before now becomes, others_place u before now becomes)

  pub freed : (c : Call) → Does a c m → place_at m.channels t ≡ None → Freed
  freed (Connects u) (channel, came_to, most, (small, free, here, others), is) none =
      grind (arith, nat_tests, by_number Freed u, apart_from u t)
  freed (HangsUp u) ((hung, others), is) none = by_number Freed u
      (λ same. inl (ap (place_at a.channels) (sym same)
      ∙ hung_up_none (place_at a.channels u) (sym hung ∙ ap (place_at m.channels) same ∙ none)))
      (λ apart. inl (sym (others t (apart_from u t apart)) ∙ none))
  freed (Frees u) (empty, (frees, others), is) none = by_number Freed u
      (λ same. inr (ap (first_answer a) (sym same) ∙ empty))
      (λ apart. inl (sym (others t (apart_from u t apart)) ∙ none))
  freed (Hears u bytes) ((before, now, becomes, goes), is) none = freed_becomes u before now becomes none
  freed (Carries u bytes ask asked answer rests) (none_cut, from, (before, now, becomes, goes, next), done, is) none =
      freed_becomes u before now becomes none
  freed (Declines u bytes ask ticket why) ((before, now, becomes, goes, next), leaves, is) none =
      freed_becomes u before now becomes none
  freed (Tells u ticket answer) (may, (before, now, becomes, goes), out, queue, begun, is) none =
      freed_becomes u before now becomes none
  freed (Drops u ticket answer) (gone, out, queue, begun, is, places) none = freed_same is.1 none
  freed (Refuses u ticket) (bounds, (before, now, becomes, goes), is) none = freed_becomes u before now becomes none
  freed (Hands u bytes) ((before, now, becomes, goes), is) none = freed_becomes u before now becomes none
  freed Draws (room, begins, is, places) none = freed_same is.1 none
  freed (Sends sealed records) (room, filled, post, these, is) none = freed_same is.1 none
  freed Turns (segment, next, is) none = freed_same (ap (λ (s : StoreView). s.channels) is) none
  freed (Learns frame stage) (stages, known, is) none = freed_same (ap (λ (s : StoreView). s.channels) is) none
  freed (Cuts cut) (going, due, (segment, next, is)) none = freed_same (ap (λ (s : StoreView). s.channels) is) none
  freed Stops (going, due, is) none = freed_same (ap (λ (s : StoreView). s.channels) is) none
  freed (Decides outcome) (decides, is, places) none = freed_same is.1 none
  freed Rests (still, keeps, is) none = inl (sym (keeps t) ∙ none)

  -- no command says something to a free channel
  pub silent : (gs : List ℕ) (c : Call) → Does a c m → place_at m.channels t ≡ None
      → said_to served t (kept gs (carried_by c)) ≡ []
  silent gs (Carries u bytes ask asked answer rests)
      (none_cut, from, (before, now, becomes, goes, next), done, is) none =
      by_number (said_to served t (kept gs (carried_by (Carries u bytes ask asked answer rests))) ≡ []) u
      (λ same. absurd (let there = now_place u before now becomes in let gone = ap (place_at m.channels) same
      ∙ none in cc (there, gone)))
      (λ apart. says_none t gs u
      (record { entry = Runs asked; said = Some (u, (asked.ticket, answer)); rests = rests })
      (asked.ticket, answer) refl apart)
  silent gs other does none = refl

  -- ---- what a call makes of a channel that is there then

  module _ (after : Channel) (there : channel_at m.channels t ≡ Some after) where
    -- it was there already, as it is
    kept_same : m.channels ≡ a.channels → channel_at a.channels t ≡ Some after
    kept_same is = ap (λ (c : Channels). channel_at c t) (sym is) ∙ there

    kept_others : (u : ℕ) (before now : Channel) → Becomes u before now a.channels m.channels → (u == t) ≡ false
        → channel_at a.channels t ≡ Some after
    kept_others u before now becomes apart = ap channel_of (sym (others_place u before now becomes apart)) ∙ there

    -- or it is this one now
    was : (u : ℕ) (before now : Channel) → Becomes u before now a.channels m.channels → u ≡ t
        → channel_at a.channels t ≡ Some before
    was u before now becomes same = ap (channel_at a.channels) (sym same) ∙ becomes.there

    is_now : (u : ℕ) (before now : Channel) → Becomes u before now a.channels m.channels → u ≡ t → now ≡ after
    is_now u before now becomes same = grind (arith, nat_tests, now_place u before now becomes)

    -- what is to be shown of its past, of its commands and of what was taken out of it, each by what it was
    module _ (G : (Past → Past) → (List Command → List Command) → (List Said → List Said) → Type 0)
        (same : (before : Channel) (change : Past → Past) → channel_at a.channels t ≡ Some before
        → Goes change before after
        → ((p : Past) → ((change p).asked ≡ p.asked) × ((change p).told ≡ p.told)) → G change (λ l. l) (λ xs. xs))
        (asks : (before : Channel) (bytes : List ℕ) (ask : Ask) → channel_at a.channels t ≡ Some before
        → Goes (asked_for bytes ask) before after
        → G (asked_for bytes ask) (λ l. l) (λ xs. xs))
        (carries : (before : Channel) (u : ℕ) (bytes : List ℕ) (ask : Ask) (asked : Asked) (answer : Answer)
        (rests : List ℕ)
        → channel_at a.channels t ≡ Some before → Goes (asked_for bytes ask) before after → u ≡ t
        → ((limits : Requests) (p : Past) → HasPast limits p before → asked.ticket ≡ length p.asked + 1)
        → ((asked.work ≡ work_of ask) ⊎ (asked.work ≡ error long_key_words))
        → G (asked_for bytes ask)
        (λ l. l ++ record { entry = Runs asked; said = Some (u, (asked.ticket, answer)); rests = rests } ∷ [])
        (λ xs. xs))
        (tells : (before : Channel) (u ticket : ℕ) (answer : Answer) → channel_at a.channels t ≡ Some before
        → Goes (was_told ticket (answer_text answer)) before after → u ≡ t → MayBeTold ticket t a
        → G (was_told ticket (answer_text answer)) (λ l. l) (λ xs. xs ++ (u, (ticket, answer)) ∷ []))
        (refuses : (before : Channel) (ticket : ℕ) → channel_at a.channels t ≡ Some before
        → Goes (was_refused ticket) before after
        → ticket ≡ bound before (first_answer a t) → G (was_refused ticket) (λ l. l) (λ xs. xs)) where
      as_it_was : channel_at a.channels t ≡ Some after → G (λ p. p) (λ l. l) (λ xs. xs)
      as_it_was at = same after (λ p. p) at (λ limits p has. has) (λ p. (refl, refl))

      passes : (u : ℕ) (change : Past → Past) → Passes change u a m
          → ((p : Past) → ((change p).asked ≡ p.asked) × ((change p).told ≡ p.told))
          → G (λ p. cond (u == t) (change p) p) (λ l. l) (λ xs. xs)
      passes u change (before, now, becomes, goes) keeps =
          elim (u == t) as (λ b. (u == t) ≡ b → G (λ p. cond b (change p) p) (λ l. l) (λ xs. xs)) [
            | true ↦ λ its. let is = eqb-true u t its in
                same before change (was u before now becomes is)
                (subst (Goes change before) (is_now u before now becomes is) goes) keeps
            | false ↦ λ apart. as_it_was (kept_others u before now becomes apart)
          ] refl

      -- what is carried out for what was asked for
      for_it : (B : Batches) (asker : Asker) (ask : Ask) (work : Work) → IsFor B asker ask work
          → (work ≡ work_of ask) ⊎ (work ≡ error long_key_words)
      for_it B asker ask work (inl is) = inl is
      for_it B asker ask work (inr is) = inr is.0

      pub by_call : (c : Call) → Does a c m → connects t c ≡ false
          → G (past_after t c) (carried_after t c) (taken_after t c)
      by_call (Connects u) (channel, came_to, most, (small, free, here, others), is) apart =
          subst (λ b. G (λ p. cond b no_past p) (λ l. cond b [] l) (λ xs. cond b [] xs)) (sym apart)
          (as_it_was (ap channel_of (sym (others t (apart_from u t apart))) ∙ there))
      by_call (HangsUp u) ((hung, others), is) never = by_number (G (λ p. p) (λ l. l) (λ xs. xs)) u
          (λ same. absurd (let gone = ap channel_of hung
          ∙ none_hung_up (place_at a.channels u) in let that =
          ap (channel_at m.channels) same ∙ there in cc (gone, that)))
          (λ apart. as_it_was (ap channel_of (sym (others t (apart_from u t apart))) ∙ there))
      by_call (Frees u) (empty, (frees, others), is) never = by_number (G (λ p. p) (λ l. l) (λ xs. xs)) u
          (λ same. as_it_was (ap (channel_at a.channels) (sym same)
          ∙ sym (ap channel_of frees ∙ same_released (place_at a.channels u)) ∙ ap (channel_at m.channels) same
          ∙ there))
          (λ apart. as_it_was (ap channel_of (sym (others t (apart_from u t apart))) ∙ there))
      by_call (Hears u bytes) (going, is) never = passes u (came bytes) going (λ p. (refl, refl))
      by_call (Carries u bytes ask asked answer rests)
          (none_cut, from, (before, now, becomes, goes, next), done, is) never =
          let r : Command = record { entry = Runs asked; said = Some (u, (asked.ticket, answer)); rests = rests } in
          elim (u == t) as (λ b. (u == t) ≡ b
          → G (λ p. cond b (asked_for bytes ask p) p) (λ l. cond b (l ++ r ∷ []) l) (λ xs. xs)) [
            | true ↦ λ its. let is = eqb-true u t its in
                carries before u bytes ask asked answer rests (was u before now becomes is)
                (subst (Goes (asked_for bytes ask) before) (is_now u before now becomes is) goes) is next
                (for_it a.batched (record { channel = asked.channel; ticket = asked.ticket }) ask asked.work
                done.is_for)
            | false ↦ λ apart. as_it_was (kept_others u before now becomes apart)
          ] refl
      by_call (Declines u bytes ask ticket why) ((before, now, becomes, goes, next), leaves, is) never =
          elim (u == t) as (λ b. (u == t) ≡ b → G (λ p. cond b (asked_for bytes ask p) p) (λ l. l) (λ xs. xs)) [
            | true ↦ λ its. let is = eqb-true u t its in
                asks before bytes ask (was u before now becomes is)
                (subst (Goes (asked_for bytes ask) before) (is_now u before now becomes is) goes)
            | false ↦ λ apart. as_it_was (kept_others u before now becomes apart)
          ] refl
      by_call (Tells u ticket answer) (may, (before, now, becomes, goes), out, queue, begun, is) never =
          elim (u == t) as (λ b. (u == t) ≡ b → G (λ p. cond b (was_told ticket (answer_text answer) p) p) (λ l. l)
          (λ xs. cond b (xs ++ (u, (ticket, answer)) ∷ []) xs)) [
            | true ↦ λ its. let is = eqb-true u t its in
                tells before u ticket answer (was u before now becomes is)
                (subst (Goes (was_told ticket (answer_text answer)) before) (is_now u before now becomes is) goes) is
                (subst (λ n. MayBeTold ticket n a) is may)
            | false ↦ λ apart. as_it_was (kept_others u before now becomes apart)
          ] refl
      by_call (Drops u ticket answer) (gone, out, queue, begun, is, places) never =
          elim (u == t) as (λ b. (u == t) ≡ b
          → G (λ p. p) (λ l. l) (λ xs. cond b (xs ++ (u, (ticket, answer)) ∷ []) xs)) [
            | true ↦ λ its. let none =
                ap (channel_at a.channels) (sym (eqb-true u t its)) ∙ gone in let that =
                kept_same is.1 in absurd (cc (none, that))
            | false ↦ λ apart. as_it_was (kept_same is.1)
          ] refl
      by_call (Refuses u ticket) ((channel, at, bounds), (before, now, becomes, goes), is) never =
          elim (u == t) as (λ b. (u == t) ≡ b → G (λ p. cond b (was_refused ticket p) p) (λ l. l) (λ xs. xs)) [
            | true ↦ λ its. let same = eqb-true u t its in
                let one : channel ≡ before = (let that = becomes.there in cc (at, that)) in
                refuses before ticket (was u before now becomes same)
                (subst (Goes (was_refused ticket) before) (is_now u before now becomes same) goes)
                (bounds ∙ (λ i. bound (one i) (first_answer a (same i))))
            | false ↦ λ apart. as_it_was (kept_others u before now becomes apart)
          ] refl
      by_call (Hands u bytes) (going, is) never = passes u (was_handed bytes) going (λ p. (refl, refl))
      by_call Draws (room, begins, is, places) never = as_it_was (kept_same is.1)
      by_call (Sends sealed records) (room, filled, post, these, is) never = as_it_was (kept_same is.1)
      by_call Turns (segment, next, is) never = as_it_was (kept_same (ap (λ (s : StoreView). s.channels) is))
      by_call (Learns frame stage) (stages, known, is) never =
          as_it_was (kept_same (ap (λ (s : StoreView). s.channels) is))
      by_call (Cuts cut) (going, due, (segment, next, is)) never =
          as_it_was (kept_same (ap (λ (s : StoreView). s.channels) is))
      by_call Stops (going, due, is) never = as_it_was (kept_same (ap (λ (s : StoreView). s.channels) is))
      by_call (Decides outcome) (decides, is, places) never = as_it_was (kept_same is.1)
      by_call Rests (still, keeps, is) never = as_it_was (ap channel_of (sym (keeps t)) ∙ there)

    -- it was there before
    pub was_there : (c : Call) → Does a c m → connects t c ≡ false
        → (before : Channel) × (channel_at a.channels t ≡ Some before)
    was_there = by_call (λ change grow takes. (before : Channel) × (channel_at a.channels t ≡ Some before))
        (λ before change at goes keeps. (before, at))
        (λ before bytes ask at goes. (before, at))
        (λ before u bytes ask asked answer rests at goes its given work. (before, at))
        (λ before u ticket answer at goes its may. (before, at))
        (λ before ticket at goes bounds. (before, at))
