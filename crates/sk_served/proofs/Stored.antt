-- What the calls of a kernel over entries come to.
use Rattle.sk_served.proofs.Names.{◌≡◌, ℕ, Bool, true, false, not, ◌&&◌, List, [], ◌∷◌, ◌++◌, map, is_some, refl, sym}
use Rattle.sk_served.proofs.Names.{ap, subst, ◌∙◌, AllByRecursion, fold, IsStrictlySortedBy, FinMap, get, true≢false}
use Rattle.sk_served.proofs.Names.{append_assoc, keep, after, marked_effect, outcome, struck, Event, Taken, Commit}
use Rattle.sk_served.proofs.Names.{Fail, IsSound, record_after, record_of, Machine, IsPlainRun, and_both, with_told}
use Rattle.sk_served.proofs.Names.{Told, Answer, is_among, wants_all, bytes_cmp, held, Entries, bytes_total, tied_is}
use Rattle.sk_served.proofs.Names.{is_reserved, served, Entry, Opens, Runs, NamesNoReserved, NoneTakenNamesReserved}
use Rattle.sk_served.proofs.Names.{entries_after, replies_to, AreTold, IsTold, LeaveOutNothing, HoldsSame, not-true}
use Rattle.sk_served.proofs.Absent.{left_absent, AllClean, LacksClean, TakenClean, dirtier}
use Rattle.sk_served.proofs.Runs.{runs_plain}

-- ---- what holds of each entry that is taken holds of each that is left

abbrev EachTaken : (Entry → Type 0) → List (Event Entry) → Type 0
EachTaken P [] = Unit {0}
EachTaken P (Taken n ∷ es) = P n × EachTaken P es
EachTaken P (Commit g ∷ es) = EachTaken P es
EachTaken P (Fail g ∷ es) = EachTaken P es

pub all_kept : (P : Entry → Type 0) (flags : List Bool) (ns : List Entry) → AllByRecursion P ns
    → AllByRecursion P (keep flags ns)
all_kept P [] ns h = h
all_kept P (b ∷ flags) [] h = tt
all_kept P (true ∷ flags) (n ∷ ns) h = all_kept P flags ns h.1
all_kept P (false ∷ flags) (n ∷ ns) h = (h.0, all_kept P flags ns h.1)

pub one_longer : (P : Entry → Type 0) (ns : List Entry) (n : Entry) → AllByRecursion P ns → P n
    → AllByRecursion P (ns ++ n ∷ [])
one_longer P [] n h last = (last, tt)
one_longer P (m ∷ ns) n h last = (h.0, one_longer P ns n h.1 last)

all_left : (P : Entry → Type 0) (start : FinMap served.order (List ℕ)) (es : List (Event Entry)) (ns : List Entry)
    → AllByRecursion P ns → EachTaken P es → AllByRecursion P (fold (record_after served start) ns es)
all_left P start [] ns h each = h
all_left P start (Taken n ∷ es) ns h each = all_left P start es (ns ++ n ∷ []) (one_longer P ns n h each.0) each.1
all_left P start (Commit g ∷ es) ns h each = all_left P start es ns h each
all_left P start (Fail g ∷ es) ns h each = all_left P start es (keep (struck served start ns g) ns) (all_kept P (struck served start ns g) ns h) each

names_each : (es : List (Event Entry)) → NoneTakenNamesReserved es → EachTaken NamesNoReserved es
names_each [] h = tt
names_each (Taken n ∷ es) h = (h.0, names_each es h.1)
names_each (Commit g ∷ es) h = names_each es h
names_each (Fail g ∷ es) h = names_each es h

-- ---- what is told of all keys

-- Where an entry is told of all keys these rise.
abbrev pub Rises : Entry → Type 0
Rises (Opens n) = Unit {0}
Rises (Runs a) = wants_all a.work ≡ true → IsStrictlySortedBy bytes_cmp a.known

-- what an entry takes for absent
abbrev pub lacks : Entry → List ℕ → Bool
lacks (Opens n) key = false
lacks (Runs a) key = wants_all a.work && (not (is_reserved key) && not (is_among key a.known))

module _ (start : FinMap served.order (List ℕ)) where
  one_more : (before rest : List (Event Entry)) (e : Event Entry) → LeaveOutNothing start (before ++ e ∷ rest)
      → LeaveOutNothing start ((before ++ e ∷ []) ++ rest)
  one_more before rest e h = subst (LeaveOutNothing start) (sym (append_assoc before (e ∷ []) rest)) h

  each_rises : (before es : List (Event Entry)) → LeaveOutNothing start (before ++ es) → EachTaken Rises es
  each_rises before [] h = tt
  each_rises before (Taken (Opens n) ∷ es) h = (tt, each_rises (before ++ Taken (Opens n) ∷ []) es (one_more before es (Taken (Opens n)) h))
  each_rises before (Taken (Runs a) ∷ es) h =
      (λ wants. (h before es a refl wants).0, each_rises (before ++ Taken (Runs a) ∷ []) es (one_more before es (Taken (Runs a)) h))
  each_rises before (Commit g ∷ es) h = each_rises (before ++ Commit g ∷ []) es (one_more before es (Commit g) h)
  each_rises before (Fail g ∷ es) h = each_rises (before ++ Fail g ∷ []) es (one_more before es (Fail g) h)

  taken_clean : (es : List (Event Entry)) → LeaveOutNothing start es
      → TakenClean served bytes_total lacks tied_is start es
  taken_clean es h before later (Opens n) is key lacking = absurd (true≢false (sym lacking))
  taken_clean es h before later (Runs a) is key lacking =
      let wants = and_both _ _ lacking in
      let parts = and_both _ _ wants.1 in
      (h before later a is wants.0).1 key (not-true _ parts.0) (not-true _ parts.1)

  one_told : (gs : List ℕ) (dirty : ℕ → List (List ℕ)) (s : FinMap served.order (List ℕ)) (n : Entry)
      → LacksClean served bytes_total lacks gs dirty s n → Rises n → IsTold (get s) n
  one_told gs dirty s (Opens m) clean rises = tt
  one_told gs dirty s (Runs a) clean rises = λ wants. (
    rises wants,
    λ key user there.
        elim (is_among key a.known) as (λ b. is_among key a.known ≡ b → b ≡ true) [
          | true ↦ λ is. refl
          | false ↦ λ is. absurd (true≢false (sym there ∙ ap is_some (clean key (λ i. wants i && (not (user i) && not (is i)))).0))
        ] refl,
  )

  pub told_all : (gs : List ℕ) (dirty : ℕ → List (List ℕ)) (s : FinMap served.order (List ℕ)) (ns : List Entry)
      → AllClean served bytes_total lacks gs dirty s ns → AllByRecursion Rises ns → AreTold s ns
  told_all gs dirty s [] clean rise = tt
  told_all gs dirty s (n ∷ ns) clean rise = (
    one_told gs dirty s n clean.0 rise.0,
    told_all gs (dirtier served bytes_total lacks dirty (marked_effect served (served.mark n) (outcome served s n))) (after served (outcome served s n) s) ns clean.1 rise.1,
  )

pub stays_told : (start : FinMap served.order (List ℕ)) (es : List (Event Entry)) → IsSound served start es
    → LeaveOutNothing start es → AreTold start (record_of served start es)
stays_told start es sound h =
    let left = left_absent served bytes_total lacks tied_is start es sound (taken_clean start es h) in
    told_all start left.0 (λ g. []) start (record_of served start es) left.1 (all_left Rises start es [] tt (each_rises start [] es h))

-- ---- the store

pub told_first : {W : Type 0} (ws : List W) (xs : List (W × List ℕ))
    → map (λ x. x.0) (map (λ w. (w, [])) ws ++ xs) ≡ ws ++ map (λ x. x.0) xs
told_first [] xs = refl
told_first (w ∷ ws) xs = ap (λ r. w ∷ r) (told_first ws xs)

pub runs_store : (start : FinMap served.order (List ℕ)) (entries : Entries) (es : List (Event Entry)) (told : Told (ℕ × Answer)) (m : Machine (List ℕ) (List ℕ) (ℕ × (ℕ × Answer)))
    → HoldsSame start entries → IsSound served start es → NoneTakenNamesReserved es → LeaveOutNothing start es → IsPlainRun served start es (with_told told m)
    → ((key : List ℕ) → m.state.look key ≡ held (entries_after (record_of served start es) entries) key)
    × ((t : ℕ) → told t ++ map (λ x. x.0) (m.texts t) ≡ replies_to t (record_of served start es) entries)
runs_store start entries es told m holds sound names known plain =
    let left = record_of served start es in
    let run_of = runs_plain start entries left holds (all_left NamesNoReserved start es [] tt (names_each es names)) (stays_told start es sound known) in (
      λ key. plain.values key ∙ run_of.0.same key,
      λ t. sym (told_first (told t) (m.texts t)) ∙ plain.texts t ∙ run_of.1 t 0,
    )
