-- Where no guess is undecided, what comes later is as it would be from the state there.
use Rattle.sk_kernel.proofs.Names.{◌≡◌, ℕ, ◌<◌, ◌≤◌, length, Bool, true, false, ◌||◌, List, [], ◌∷◌, ◌++◌, Option, Some}
use Rattle.sk_kernel.proofs.Names.{None, inl, inr, IsOk, refl, sym, ◌∙◌, ap, subst, arith, append_assoc, filter}
use Rattle.sk_kernel.proofs.Names.{list_any, fold, Ordering, IsTotalOrder, FinMap, IsAntisymmetric, or_parts, or_left}
use Rattle.sk_kernel.proofs.Names.{or_right, or_from, false≢true, false_from_ne_true, Contains-append_left}
use Rattle.sk_kernel.proofs.Names.{Contains-append_right, Contains-append_cases, list_any-append, MarkedEffect, is_in}
use Rattle.sk_kernel.proofs.Names.{is_marked, hit, hits, dirt, dirtied, keep, touches, System, outcome, after}
use Rattle.sk_kernel.proofs.Names.{marked_effect, run, effects, strike, has, without, Taken, Commit, Fail, IsDrawn}
use Rattle.sk_kernel.proofs.Names.{StatusIs, IsTagOf, IsAllowed, IsSound, record_of, record_after, undecided_of}
use Rattle.sk_kernel.proofs.Names.{still_marked, marks, Record, no_record, recorded, all_recorded, deps, status_in}
use Rattle.sk_kernel.proofs.Names.{or_since, StatusSince, IsEpoch, EndsAt, Status, Undecided, nil_right, run_append}
use Rattle.sk_kernel.proofs.Names.{trail_append, is_mark, is_commit, is_fail, draws, in_entries, has_entry, is_drawn}
use Rattle.sk_kernel.proofs.Names.{entries_are, record_more, each_event, sound_before, sound_first, sound_taken}
use Rattle.sk_kernel.proofs.Names.{sound_commit, sound_fail, accepted_last, drawn_more, undecided_is, tests, status_by}
use Rattle.sk_kernel.proofs.Names.{status_is, next_epoch, either_is, recorded_more, tags_from, machine_stands}
use Rattle.sk_kernel.proofs.Names.{plain_run, machine_after, any_no, filter_alike}
use Rattle.std.proofs.Common.{◌↔◌}
use Rattle.sk_record.specs.Trace.{Event}
use Rattle.sk_record.proofs.Statuses.{status_of}
use Rattle.sk_kernel.proofs.Numbers.{number_or, last_after, last_is_greatest}

-- effects without a mark of a guess make nothing dirty
dirt_later : {E V W : Type 0} (R : E → E → Ordering) (g : ℕ) (ts us : List (MarkedEffect E V W)) → still_marked ts g ≡ false → dirt R g [] (ts ++ us) ≡ dirt R g [] us
dirt_later R g [] us none = refl
dirt_later R g (f ∷ ts) us none =
    let parts = or_parts _ _ none in
    let no_hit : hit R g [] f ≡ false = or_from _ _ parts.0 (any_no (touches f)) in
    subst (λ b. dirt R g (dirtied b f []) (ts ++ us) ≡ dirt R g [] us) (sym no_hit) (dirt_later R g ts us parts.1)

-- and a failure of it strikes none of them
strike_later : {E V W F N : Type 0} (K : System E V W F N) (s : FinMap K.order V) (ns ms : List N) (g : ℕ) → still_marked (effects K s ns) g ≡ false
    → strike K s (ns ++ ms) g ≡ ns ++ strike K (run K s ns) ms g
strike_later K s [] ms g none = refl
strike_later K s (n ∷ ns) ms g none =
    let f = marked_effect K (K.mark n) (outcome K s n) in
    let next = after K (outcome K s n) s in
    let parts = or_parts _ _ none in
    let no_hit : hit K.order g [] f ≡ false = or_from _ _ parts.0 (any_no (touches f)) in
    subst (λ b. keep (b ∷ hits K.order g (dirtied b f []) (effects K next (ns ++ ms))) (n ∷ (ns ++ ms)) ≡ n ∷ (ns ++ strike K (run K next ns) ms g)) (sym no_hit)
    (ap (λ xs. n ∷ xs) (strike_later K next ns ms g parts.1))

stays : (c f h : Bool) → status_by (c || false) (f || false) (h || false) true ≡ or_since (status_by c f h true) None
stays c f h = grind arith

-- the status of a guess that was drawn in the first part or in the second, by the tests of both
by_either : (c f h d k x m w : Bool) → (d ≡ false → (c ≡ false) × (f ≡ false) × (h ≡ false)) → (w ≡ false → (k ≡ false) × (x ≡ false) × (m ≡ false)) → (d ≡ true → w ≡ true → ⊥)
    → status_by (c || k) (f || x) (h || m) (d || w) ≡ or_since (status_by c f h d) (status_by k x m w)
by_either c f h d k x m w one two apart = grind arith

-- the computed tags of a sound trace are those of the relation
tags_rest : {E V W F N : Type 0} (K : System E V W F N) → IsTotalOrder K.order → IsAntisymmetric K.order → (start : FinMap K.order V) (es : List (Event N)) → IsSound K start es
    → (e : E) (g : ℕ) → (has g (deps K start (all_recorded K start no_record es) e) ≡ true) ↔ IsTagOf K start es e g
tags_rest K total exact start es sound e g =
    let stands = machine_stands K total exact start es sound in
    let same = tags_from K total exact start (all_recorded K start no_record es) (machine_after K start es).state stands.state e in
    let is = (plain_run K total exact start es (machine_after K start es) stands).tags e g in
    ((λ here. is.0 (ap (has g) same ∙ here)), λ rests. ap (has g) (sym same) ∙ is.1 rests)

module _ {E V W F N : Type 0} (K : System E V W F N) (total : IsTotalOrder K.order) (exact : IsAntisymmetric K.order) (start : FinMap K.order V) (es : List (Event N)) (settled : undecided_of K start es ≡ []) where
  -- the record there
  abbrev so_far : List N
  so_far = record_of K start es

  -- the state there
  abbrev now : FinMap K.order V
  now = run K start so_far

  -- a guess that is undecided later was made later
  made_later : (later : List (Event N)) → IsSound K start (es ++ later) → (g : ℕ) → has g (undecided_of K start (es ++ later)) ≡ true → still_marked (effects K start so_far) g ≡ false
  made_later later sound g is_open =
      false_from_ne_true _ (λ marked.
      let is = (undecided_is K start (es ++ later) sound g).0 is_open in
      let was : StatusIs K start es g Undecided = (
        (λ there. is.0 (Contains-append_left es later (Commit g) there)),
        (λ there. is.1 (Contains-append_left es later (Fail g) there)),
        (has_entry K start so_far g).0 marked,
      ) in
      false≢true (ap (has g) (sym settled) ∙ (undecided_is K start es (sound_before K start es later sound) g).1 was))

  pub record Continues (later : List (Event N)) : Type 0 where
    pub entries : record_of K start (es ++ later) ≡ so_far ++ record_of K now later
    pub undecided : undecided_of K start (es ++ later) ≡ undecided_of K now later
    pub above : (g h : ℕ) → IsDrawn K later g → IsDrawn K es h → h < g
    pub sound : IsSound K now later

  begins : Continues []
  begins = record {
    entries = ap (record_of K start) (nil_right es) ∙ sym (nil_right so_far);
    undecided = ap (undecided_of K start) (nil_right es) ∙ settled;
    above = λ g h drawn. (let below = drawn.1.1 in absurd (omega arith));
    sound = sound_first K now;
  }

  module _ (later : List (Event N)) (c : Continues later) where
    -- the effects of the record, and of another that goes on from there
    effects_are : (ms : List N) → effects K start (so_far ++ ms) ≡ effects K start so_far ++ effects K now ms
    effects_are ms = trail_append K start so_far ms

    pub state_is : run K start (record_of K start (es ++ later)) ≡ run K now (record_of K now later)
    state_is = ap (run K start) c.entries ∙ run_append K start so_far (record_of K now later)

    all_entries : (all_recorded K start no_record (es ++ later)).entries ≡ so_far ++ record_of K now later
    all_entries = entries_are K start (es ++ later) ∙ c.entries

    module _ (sound : IsSound K start (es ++ later)) where
      pub tags_are : (e : E) → deps K start (all_recorded K start no_record (es ++ later)) e ≡ deps K now (all_recorded K now no_record later) e
      tags_are e =
          ap (λ ns. filter (λ g. is_in K.order (dirt K.order g [] (effects K start ns)) e) (undecided_of K start (es ++ later))) all_entries
          ∙ ap (λ ts. filter (λ g. is_in K.order (dirt K.order g [] ts) e) (undecided_of K start (es ++ later))) (effects_are (record_of K now later))
          ∙ filter_alike _ (λ g. is_in K.order (dirt K.order g [] (effects K now (record_of K now later))) e) (undecided_of K start (es ++ later))
          (λ g there. ap (λ d. is_in K.order d e) (dirt_later K.order g (effects K start so_far) (effects K now (record_of K now later)) (made_later later sound g there)))
          ∙ ap (filter (λ g. is_in K.order (dirt K.order g [] (effects K now (record_of K now later))) e)) c.undecided
          ∙ ap (λ ns. filter (λ g. is_in K.order (dirt K.order g [] (effects K now ns)) e) (undecided_of K now later)) (sym (entries_are K now later))

      pub rests_are : (e : E) (g : ℕ) → IsTagOf K now later e g ↔ IsTagOf K start (es ++ later) e g
      rests_are e g =
          let new = tags_rest K total exact now later c.sound e g in
          let old = tags_rest K total exact start (es ++ later) sound e g in
          ((λ rests. old.0 (ap (has g) (tags_are e) ∙ new.1 rests)), λ rests. new.0 (ap (has g) (sym (tags_are e)) ∙ old.1 rests))

      undecided_same : (g : ℕ) → StatusIs K start (es ++ later) g Undecided → StatusIs K now later g Undecided
      undecided_same g is = (undecided_is K now later c.sound g).0 (ap (has g) (sym c.undecided) ∙ (undecided_is K start (es ++ later) sound g).1 is)

      -- what a failure leaves
      struck_same : (g : ℕ) → StatusIs K start (es ++ later) g Undecided → strike K start (so_far ++ record_of K now later) g ≡ so_far ++ strike K now (record_of K now later) g
      struck_same g is = strike_later K start so_far (record_of K now later) g (made_later later sound g ((undecided_is K start (es ++ later) sound g).1 is))

      left_same : (g : ℕ) → StatusIs K start (es ++ later) g Undecided
          → filter (still_marked (effects K start (strike K start (all_recorded K start no_record (es ++ later)).entries g))) (undecided_of K start (es ++ later))
          ≡ filter (still_marked (effects K now (strike K now (all_recorded K now no_record later).entries g))) (undecided_of K now later)
      left_same g is =
          let left = effects K now (strike K now (record_of K now later) g) in
          ap (λ ns. filter (still_marked (effects K start (strike K start ns g))) (undecided_of K start (es ++ later))) all_entries
          ∙ ap (λ ns. filter (still_marked (effects K start ns)) (undecided_of K start (es ++ later))) (struck_same g is)
          ∙ ap (λ ts. filter (still_marked ts) (undecided_of K start (es ++ later))) (effects_are (strike K now (record_of K now later) g))
          ∙ filter_alike _ (still_marked left) (undecided_of K start (es ++ later))
          (λ h there. list_any-append (λ f. is_marked f.mark h) (effects K start so_far) left ∙ ap (λ b. b || still_marked left h) (made_later later sound h there))
          ∙ ap (filter (still_marked left)) c.undecided
          ∙ ap (λ ns. filter (still_marked (effects K now (strike K now ns g))) (undecided_of K now later)) (sym (entries_are K now later))

    module _ (e : Event N) where
      joined : es ++ (later ++ e ∷ []) ≡ (es ++ later) ++ e ∷ []
      joined = sym (append_assoc es later (e ∷ []))

      entries_more : record_of K start (es ++ (later ++ e ∷ [])) ≡ record_after K start (so_far ++ record_of K now later) e
      entries_more = ap (record_of K start) joined ∙ record_more K start (es ++ later) e ∙ ap (λ ns. record_after K start ns e) c.entries

      undecided_more : undecided_of K start (es ++ (later ++ e ∷ [])) ≡ (recorded K start (all_recorded K start no_record (es ++ later)) e).undecided
      undecided_more = ap (undecided_of K start) joined ∙ ap (λ (r : Record N). r.undecided) (recorded_more K start no_record (es ++ later) e)

      later_more : (recorded K now (all_recorded K now no_record later) e).undecided ≡ undecided_of K now (later ++ e ∷ [])
      later_more = sym (ap (λ (r : Record N). r.undecided) (recorded_more K now no_record later e))

      -- an event that draws a guess has a number above those from before
      above_more : IsSound K start ((es ++ later) ++ e ∷ []) → (g h : ℕ) → IsDrawn K (later ++ e ∷ []) g → IsDrawn K es h → h < g
      above_more sound g h drawn was =
          elim (drawn_more K now later e g drawn) [
            | inl before ↦ c.above g h before was
            | inr here ↦
                let allowed = subst (IsAllowed K start (es ++ later)) here.1 (sound.allowed (es ++ later) [] e refl) in
                allowed g h here.2 (was.0, Contains-append_left es later (Taken was.0) was.1, was.2)
          ]

  drawn_later : (later : List (Event N)) (g : ℕ) → IsDrawn K later g → IsDrawn K (es ++ later) g
  drawn_later later g drawn = (drawn.0, Contains-append_right es later (Taken drawn.0) drawn.1, drawn.2)

  one_more : (later : List (Event N)) (e : Event N) → IsSound K start (es ++ (later ++ e ∷ [])) → Continues later → Continues (later ++ e ∷ [])
  one_more later (Taken n) whole c =
      let sound = subst (IsSound K start) (joined later c (Taken n)) whole in
      record {
        entries = entries_more later c (Taken n) ∙ append_assoc so_far (record_of K now later) (n ∷ []) ∙ ap (λ ns. so_far ++ ns) (sym (record_more K now later (Taken n)));
        undecided = undecided_more later c (Taken n) ∙ ap (λ gs. gs ++ marks (K.mark n)) c.undecided ∙ later_more later c (Taken n);
        above = above_more later c (Taken n) sound;
        sound = sound_taken K now later n c.sound
            (λ g h mark drawn. sound.allowed (es ++ later) [] (Taken n) refl g h mark (drawn_later later h drawn))
            (subst (λ s. IsOk (outcome K s n)) (state_is later c) (accepted_last K start (es ++ later) n sound));
      }
  one_more later (Commit g) whole c =
      let sound = subst (IsSound K start) (joined later c (Commit g)) whole in
      let before = sound_before K start (es ++ later) (Commit g ∷ []) sound in
      record {
        entries = entries_more later c (Commit g) ∙ ap (λ ns. so_far ++ ns) (sym (record_more K now later (Commit g)));
        undecided = undecided_more later c (Commit g) ∙ ap (without g) c.undecided ∙ later_more later c (Commit g);
        above = above_more later c (Commit g) sound;
        sound = sound_commit K now later g c.sound (undecided_same later c before g (sound.allowed (es ++ later) [] (Commit g) refl));
      }
  one_more later (Fail g) whole c =
      let sound = subst (IsSound K start) (joined later c (Fail g)) whole in
      let before = sound_before K start (es ++ later) (Fail g ∷ []) sound in
      let is = sound.allowed (es ++ later) [] (Fail g) refl in
      record {
        entries = entries_more later c (Fail g) ∙ struck_same later c before g is ∙ ap (λ ns. so_far ++ ns) (sym (record_more K now later (Fail g)));
        undecided = undecided_more later c (Fail g) ∙ left_same later c before g is ∙ later_more later c (Fail g);
        above = above_more later c (Fail g) sound;
        sound = sound_fail K now total exact later g c.sound (undecided_same later c before g is);
      }

  from_later : (done later : List (Event N)) → IsSound K start (es ++ (done ++ later)) → Continues done → Continues (done ++ later)
  from_later done [] sound c = subst Continues (sym (nil_right done)) c
  from_later done (e ∷ later) sound c =
      let same : done ++ e ∷ later ≡ (done ++ e ∷ []) ++ later = sym (append_assoc done (e ∷ []) later) in
      let whole = subst (λ xs. IsSound K start (es ++ xs)) same sound in
      let front = sound_before K start (es ++ (done ++ e ∷ [])) later (subst (IsSound K start) (sym (append_assoc es (done ++ e ∷ []) later)) whole) in
      subst Continues (sym same) (from_later (done ++ e ∷ []) later whole (one_more done e front c))

  pub continues : (later : List (Event N)) → IsSound K start (es ++ later) → Continues later
  continues later sound = from_later [] later sound begins

  -- ---- the other way round: what is sound from the state there is sound behind what came before
  undecided_again : (later : List (Event N)) → IsSound K start (es ++ later) → (g : ℕ) → StatusIs K now later g Undecided → StatusIs K start (es ++ later) g Undecided
  undecided_again later sound g is =
      let c = continues later sound in
      (undecided_is K start (es ++ later) sound g).0 (ap (has g) c.undecided ∙ (undecided_is K now later c.sound g).1 is)

  abbrev pub AreAbove : List (Event N) → Type 0
  AreAbove later = (g h : ℕ) → IsDrawn K later g → IsDrawn K es h → h < g

  sound_next : (later : List (Event N)) (e : Event N) → IsSound K now (later ++ e ∷ []) → AreAbove (later ++ e ∷ []) → IsSound K start (es ++ later) → IsSound K start ((es ++ later) ++ e ∷ [])
  sound_next later (Taken n) sound above before =
      sound_taken K start (es ++ later) n before
      (λ g h mark drawn. elim (Contains-append_cases es later (Taken drawn.0) drawn.1) [
        | inl was ↦ above g h (n, Contains-append_right later (Taken n ∷ []) (Taken n) (0, omega arith, refl), mark) (drawn.0, was, drawn.2)
        | inr is ↦ sound.allowed later [] (Taken n) refl g h mark (drawn.0, is, drawn.2)
      ])
      (subst (λ s. IsOk (outcome K s n)) (sym (state_is later (continues later before))) (accepted_last K now later n sound))
  sound_next later (Commit g) sound above before =
      sound_commit K start (es ++ later) g before (undecided_again later before g (sound.allowed later [] (Commit g) refl))
  sound_next later (Fail g) sound above before =
      sound_fail K start total exact (es ++ later) g before (undecided_again later before g (sound.allowed later [] (Fail g) refl))

  pub sound_behind : IsSound K start es → (later : List (Event N)) → IsSound K now later → AreAbove later → IsSound K start (es ++ later)
  sound_behind first later sound =
      each_event K now (λ later. AreAbove later → IsSound K start (es ++ later))
      (λ above. subst (IsSound K start) (sym (nil_right es)) first)
      (λ later e sound before above.
      let was = before (λ g h drawn. above g h (drawn.0, Contains-append_left later (e ∷ []) (Taken drawn.0) drawn.1, drawn.2)) in
      subst (IsSound K start) (append_assoc es later (e ∷ [])) (sound_next later e sound above was))
      later sound

  -- ---- statuses
  pub status_since : (later : List (Event N)) → IsSound K start (es ++ later) → (g : ℕ) → status_of K start (es ++ later) g ≡ or_since (status_of K start es g) (status_of K now later g)
  status_since later sound g =
      let c = continues later sound in
      let first = tests K start g es (sound_before K start es later sound) in
      let second = tests K now g later c.sound in
      (λ i. status_by
      (list_any-append (is_commit g) es later i)
      (list_any-append (is_fail g) es later i)
      ((ap (in_entries K start g) c.entries ∙ list_any-append (λ n. is_marked (K.mark n) g) so_far (record_of K now later)) i)
      (list_any-append (draws K g) es later i))
      ∙ by_either _ _ _ _ _ _ _ _ first.undrawn second.undrawn
      (λ was is. let less : g < g = c.above g g ((is_drawn K later g).0 is) ((is_drawn K es g).0 was) in omega (arith, less))

-- ---- epochs
same_answers : (a b : Option Status) → ((s : Status) → (a ≡ Some s) ↔ (b ≡ Some s)) → a ≡ b
same_answers None None h = refl
same_answers None (Some s) h = (h s).1 refl
same_answers (Some s) b h = sym ((h s).0 refl)

since_since : (a b c : Option Status) → or_since (or_since a b) c ≡ or_since a (or_since b c)
since_since a b c = grind arith

module _ {E V W F N : Type 0} (K : System E V W F N) where
  -- the last number is below what the first one and all drawn ones are below
  last_below : (last bound : ℕ) (es : List (Event N)) → last < bound → ((g : ℕ) → list_any (draws K g) es ≡ true → g < bound) → fold (last_after K) last es < bound
  last_below last bound [] below all = below
  last_below last bound (Taken n ∷ es) below all =
      last_below (number_or last (K.mark n)) bound es
      (elim (K.mark n) as (λ m. K.mark n ≡ m → number_or last m < bound) [
        | None ↦ λ _. below
        | Some g ↦ λ is. all g (or_left _ _ (is_mark (K.mark n) g is))
      ] refl)
      (λ g here. all g (or_right _ _ here))
  last_below last bound (other ∷ es) below all = last_below last bound es below (λ g here. all g here)

  -- and not below a number that all of them are above
  last_at_least : (last bound : ℕ) (es : List (Event N)) → bound ≤ last → ((g : ℕ) → list_any (draws K g) es ≡ true → bound < g) → bound ≤ fold (last_after K) last es
  last_at_least last bound [] le all = le
  last_at_least last bound (Taken n ∷ es) le all =
      last_at_least (number_or last (K.mark n)) bound es
      (elim (K.mark n) as (λ m. K.mark n ≡ m → bound ≤ number_or last m) [
        | None ↦ λ _. le
        | Some g ↦ λ is. (let less = all g (or_left _ _ (is_mark (K.mark n) g is)) in omega (arith, less))
      ] refl)
      (λ g here. all g (or_right _ _ here))
  last_at_least last bound (other ∷ es) le all = last_at_least last bound es le (λ g here. all g here)

module _ {E V W F N : Type 0} (K : System E V W F N) (total : IsTotalOrder K.order) (exact : IsAntisymmetric K.order) (start : FinMap K.order V) (earlier : List Status) (es : List (Event N)) (statuses : List Status)
    (ends : EndsAt K start earlier es (run K start (record_of K start es)) statuses) (last : length statuses ≡ fold (last_after K) (length earlier) es) where
  -- the state at the end of the epoch
  abbrev at_end : FinMap K.order V
  at_end = run K start (record_of K start es)

  -- a guess has the status behind the epoch that it has where the epoch goes on
  module _ (later : List (Event N)) (sound : IsSound K start (es ++ later)) (g : ℕ) where
    was : status_in statuses g ≡ or_since (status_in earlier g) (status_of K start es g)
    was =
        same_answers _ _ (λ s.
        let before = either_is K start (status_in earlier g) (status_of K start es g) es g s (status_is K start es (sound_before K start es later sound) g s) in
        ((λ is. before.1 ((ends.same g s).0 is)), λ is. (ends.same g s).1 (before.0 is)))

    same_status : or_since (status_in statuses g) (status_of K at_end later g) ≡ or_since (status_in earlier g) (status_of K start (es ++ later) g)
    same_status =
        ap (λ o. or_since o (status_of K at_end later g)) was
        ∙ since_since (status_in earlier g) (status_of K start es g) (status_of K at_end later g)
        ∙ ap (or_since (status_in earlier g)) (sym (status_since K total exact start es ends.settled later sound g))

    pub status_behind : (s : Status) → StatusSince K at_end statuses later g s ↔ StatusSince K start earlier (es ++ later) g s
    status_behind s =
        let c = continues K total exact start es ends.settled later sound in
        let new = either_is K at_end (status_in statuses g) (status_of K at_end later g) later g s (status_is K at_end later c.sound g s) in
        let old = either_is K start (status_in earlier g) (status_of K start (es ++ later) g) (es ++ later) g s (status_is K start (es ++ later) sound g s) in
        ((λ is. old.0 (sym same_status ∙ new.1 is)), λ is. new.0 (same_status ∙ old.1 is))

  epoch_so_far : (later : List (Event N)) → IsEpoch K start earlier (es ++ later) → IsEpoch K start earlier es
  epoch_so_far later epoch = record {
    sound = sound_before K start es later epoch.sound;
    decided = epoch.decided;
    above = λ g drawn. epoch.above g (drawn.0, Contains-append_left es later (Taken drawn.0) drawn.1, drawn.2);
  }

  pub next_is_sound : (later : List (Event N)) → IsEpoch K start earlier (es ++ later) → IsEpoch K at_end statuses later
  next_is_sound later epoch =
      let c = continues K total exact start es ends.settled later epoch.sound in
      record {
        sound = c.sound;
        decided = (next_epoch K start earlier es (epoch_so_far later epoch) at_end statuses ends).decided;
        above = λ g drawn.
            let first = epoch.above g (drawn.0, Contains-append_right es later (Taken drawn.0) drawn.1, drawn.2) in
            subst (λ n. n < g) (sym last) (last_below K (length earlier) g es first (λ h here. c.above g h drawn ((is_drawn K es h).0 here)));
      }

  pub old_is_sound : IsEpoch K start earlier es → (later : List (Event N)) → IsEpoch K at_end statuses later → IsEpoch K start earlier (es ++ later)
  old_is_sound before later epoch = record {
    sound = sound_behind K total exact start es ends.settled before.sound later epoch.sound (λ g h drawn was.
        let above = epoch.above g drawn in
        let most = last_is_greatest K start (length earlier) es before.sound h was in
        omega (arith, above, most, last));
    decided = before.decided;
    above = λ g drawn. elim (Contains-append_cases es later (Taken drawn.0) drawn.1) [
      | inl first ↦ before.above g (drawn.0, first, drawn.2)
      | inr second ↦
          let above = epoch.above g (drawn.0, second, drawn.2) in
          let least = last_at_least K (length earlier) (length earlier) es (omega arith) (λ h here. before.above h ((is_drawn K es h).0 here)) in
          omega (arith, above, least, last)
    ];
  }
