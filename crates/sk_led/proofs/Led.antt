-- What holds of a leadership, also once its store was wound up.
use Rattle.sk_led.proofs.Names.{◌≡◌, ℕ, ◌+◌, true, List, [], ◌∷◌, ◌++◌, length, take, drop, map, Some, inl, inr, refl}
use Rattle.sk_led.proofs.Names.{sym, ◌∙◌, ap, subst, append-nil, ◌≢◌, ◌==◌, not, Contains, false≢true}
use Rattle.sk_led.proofs.Names.{Contains-append_left, take-append-drop, list_any-append, or_left, not_from_false}
use Rattle.sk_led.proofs.Names.{false_from_ne_true, has, Logged, Limits, Next, Entries, Work, SayAll, after_works}
use Rattle.sk_led.proofs.Names.{Entry, StoreView, Call, Cuts, Decides, Learns, Command, carried, cut_off_in, entries}
use Rattle.sk_led.proofs.Names.{failed, is_logged, kept, is_struck, logged, stands, HasDone, IsLogged, IsRecovered}
use Rattle.sk_led.proofs.Names.{channels_let_go_just_what_may, tickets_are_told_right, any_has, has_any, from_filter}
use Rattle.sk_led.proofs.Names.{from_map, to_filter, to_map, new_world, owner_of, whole, Move, Moves, World, IsSound}
use Rattle.sk_led.proofs.Names.{new_sound, run, AreOf, IsLeading, IsLed, IsWoundUp, NoneSynced, LeadersGoOn}
use Rattle.sk_led.proofs.Names.{LoggedIsInEngine, RefusedIsNowhere, RepliesRestOnEngine, ◌≤◌, ◌⊎◌, HasAll}
use Rattle.sk_led.proofs.Names.{logged_is_on_disk, synced, not-true}
use Rattle.sk_batches.specs.declared.batch.Stage.TheVariants as stages
use Rattle.sk_led.proofs.Ended.{ended_found, ended_logged}
use Rattle.sk_led.proofs.Leads.{leading_found, leading_logged, IsPlaced}

-- ---- lists of calls

-- where one stands in two parts
parts_of : {A : Type 0} (xs ys zs ws : List A) (d : A) → xs ++ ys ≡ zs ++ d ∷ ws
    → ((l : List A) × (xs ≡ zs ++ d ∷ l)) ⊎ ((l : List A) × (zs ≡ xs ++ l) × (ys ≡ l ++ d ∷ ws))
parts_of [] ys zs ws d e = inr (zs, refl, e)
parts_of (x ∷ xs) ys [] ws d e = let head : x ≡ d = cc in inl (xs, ap (λ y. y ∷ xs) head)
parts_of {A = A} (x ∷ xs) ys (z ∷ zs) ws d e =
    let head : x ≡ z = cc in
    let rest : xs ++ ys ≡ zs ++ d ∷ ws = cc in
    elim (parts_of xs ys zs ws d rest) as
    (λ _. ((l : List A) × ((x ∷ xs) ≡ (z ∷ zs) ++ d ∷ l))
    ⊎ ((l : List A) × ((z ∷ zs) ≡ (x ∷ xs) ++ l) × (ys ≡ l ++ d ∷ ws))) [
      | inl early ↦ inl (early.0, λ i. head i ∷ early.1 i)
      | inr late ↦ inr (late.0, (λ i. sym head i ∷ late.1 i), late.2)
    ]

none_front : (xs ys : List Call) → NoneSynced (xs ++ ys) → NoneSynced xs
none_front [] ys none = tt
none_front (Learns frame stages.Synced ∷ xs) ys none = absurd none
none_front (x ∷ xs) ys none = none_front xs ys none

-- ---- what was told as logged

module _ (read : List ℕ → List ℕ) (moves : List Move) (w : World) (r gap : ℕ) (limits : Limits) (next : Next)
    (start : Entries)
    (cs : List Call) (s : StoreView) (runs : Moves new_world moves w) (done : HasDone limits next start cs s)
    (led : IsLed read w r gap next cs) where
  abbrev led_done : HasDone limits next start (led.leading ++ led.ending) s
  led_done = subst (λ ds. HasDone limits next start ds s) led.at done

  -- behind a cut
  ended_by : (number : ℕ) (before later : List Call) → cs ≡ before ++ Decides (Logged number) ∷ later
      → (frame : ℕ) → next.frame ≤ frame
      → ((n : ℕ) → next.frame ≤ n → n ≤ frame → has n (synced before) ≡ true) → HasAll next.frame before frame number
      → (l : List Call) → before ≡ led.leading ++ l → IsWoundUp w r (l ++ Decides (Logged number) ∷ later)
      → IsPlaced read w r gap cs number
  ended_by number before later at frame from told has_all [] is ends = absurd ends
  ended_by number before later at frame from told has_all (Cuts cut ∷ xs) is ends =
      let here = subst (λ ds. cs ≡ ds ++ Decides (Logged number) ∷ later) is at in
      ended_logged read moves w r gap limits next start led.leading cut xs later cs s number runs
      (subst (λ ds. HasDone limits next start ds s) here done) led.leads
      (none_front xs (Decides (Logged number) ∷ later) ends.1) here frame from
      (λ n ge le. subst (λ ds. has n (synced ds) ≡ true) is (told n ge le))
      (subst (λ ds. HasAll next.frame ds frame number) is has_all)
  ended_by number before later at frame from told has_all (c ∷ xs) is ends = absurd ends

  pub logged_at : (number : ℕ) → IsLogged cs number → IsPlaced read w r gap cs number
  logged_at number logged =
      let told : Call = Decides (Logged number) in
      let disk = logged_is_on_disk limits next start cs s done number logged in
      elim (parts_of led.leading led.ending disk.before disk.later told (sym led.at ∙ disk.at))
      as (λ _. IsPlaced read w r gap cs number) [
        | inl early ↦ leading_logged read moves w r gap next led.leading cs runs led.leads number disk.before disk.later
            early.0 early.1 disk.at disk.frame disk.from disk.synced_are disk.has_all
        | inr late ↦ ended_by number disk.before disk.later disk.at disk.frame disk.from disk.synced_are disk.has_all
            late.0 late.1 (subst (λ ds. IsWoundUp w r ds) late.2 led.ends)
      ]

  -- ---- what is found

  found_by : IsSound w → (leading ending : List Call) → HasDone limits next start (leading ++ ending) s
      → IsLeading read w r gap next leading → IsWoundUp w r ending
      → (values : List (List ℕ)) → AreOf w r next.frame values
      → ((u : List ℕ) → whole w (next.frame + length values) ≡ Some u → owner_of u ≢ r)
      → (works : List Work) → SayAll (map read values) works
      → IsRecovered start (leading ++ ending) s (after_works works start)
  found_by so leading [] did leads ends values are over works said =
      subst (λ ds. IsRecovered start ds s (after_works works start)) (sym (append-nil leading))
      (leading_found read w so r gap limits next start leading s
      (subst (λ ds. HasDone limits next start ds s) (append-nil leading) did) leads values are over works said)
  found_by so leading (Cuts cut ∷ ds) did leads ends values are over works said =
      ended_found read w so r gap limits next start leading cut ds s did leads ends.0 ends.1 values are over works said
  found_by so leading (c ∷ ds) did leads ends values are over works said = absurd ends

  pub found_at : (values : List (List ℕ)) → AreOf w r next.frame values
      → ((u : List ℕ) → whole w (next.frame + length values) ≡ Some u → owner_of u ≢ r)
      → (works : List Work) → SayAll (map read values) works → IsRecovered start cs s (after_works works start)
  found_at values are over works said =
      subst (λ ds. IsRecovered start ds s (after_works works start)) (sym led.at)
      (found_by (run moves new_world w runs new_sound) led.leading led.ending led_done led.leads led.ends values are over works said)

pub logged_is_in_engine : LoggedIsInEngine
logged_is_in_engine read moves w r gap limits next start cs s runs done led number logged =
    (logged_at read moves w r gap limits next start cs s runs done led number logged).0

pub replies_rest_on_engine : RepliesRestOnEngine
replies_rest_on_engine read moves w r gap limits next start cs s runs done led t channel connected command ticket number answer stands said out rests =
    let lets = channels_let_go_just_what_may limits next start cs s done t channel connected in
    logged_is_in_engine read moves w r gap limits next start cs s runs done led number
    (lets.out command ticket number answer stands said out rests)

pub leaders_go_on : LeadersGoOn
leaders_go_on read moves w start r runs its =
    found_at read moves w r.leadership r.gap r.limits r.next start r.calls r.store runs its.done its.led
    r.values its.found its.ends r.works its.says

-- ---- what was refused

in_front : {X : Type 0} (n : ℕ) (xs : List X) (x : X) → Contains (take n xs) x → Contains xs x
in_front n xs x at = subst (λ ys. Contains ys x) (take-append-drop n xs)
    (Contains-append_left (take n xs) (drop n xs) x at)

-- what depends on none of more depends on none of those
fewer : (gone more : List ℕ) (r : Command) → not (is_struck (gone ++ more) r) ≡ true → not (is_struck gone r) ≡ true
fewer gone more r free = not_from_false (is_struck gone r) (false_from_ne_true (is_struck gone r) (λ struck.
    let g = any_has (λ h. has h gone) r.rests struck in
    let all : has g.0 (gone ++ more) ≡ true = list_any-append (λ t. t == g.0) gone more
    ∙ or_left (has g.0 gone) (has g.0 more) g.2 in
    false≢true (sym (not-true (is_struck (gone ++ more) r) free)
    ∙ has_any (λ h. has h (gone ++ more)) r.rests g.0 g.1 all)))

-- what is logged stands
logged_stands : (cs : List Call) (s : StoreView) (entry : Entry) → Contains (logged cs s) entry
    → Contains (entries (stands cs)) entry
logged_stands cs s entry at =
    let gone = failed cs in
    let more = cut_off_in s in
    let among = (from_filter is_logged (entries (kept (gone ++ more) (carried cs))) entry at).0 in
    let r = from_map (λ (c : Command). c.entry) (kept (gone ++ more) (carried cs)) entry among in
    let came = from_filter (λ (c : Command). not (is_struck (gone ++ more) c)) (carried cs) r.0 r.1 in
    subst (λ e. Contains (entries (stands cs)) e) r.2
    (to_map (λ (c : Command). c.entry) (stands cs) r.0
    (to_filter (λ (c : Command). not (is_struck gone c)) (carried cs) r.0 came.0 (fewer gone more r.0 came.1)))

pub refused_is_nowhere : RefusedIsNowhere
refused_is_nowhere read moves w start r runs its t k channel connected refused =
    let found = leaders_go_on read moves w start r runs its in (
      (tickets_are_told_right r.limits r.next start r.calls r.store its.done t channel connected).refused k refused,
      record {
        order = take found.count (logged r.calls r.store);
        left_is = found.map_is;
        among = λ entry at. logged_stands r.calls r.store entry (in_front found.count (logged r.calls r.store) entry at);
      },
    )
