-- What is known of a store after each of its calls.
use Rattle.sk_served.proofs.Names.{◌≡◌, ℕ, List, [], ◌∷◌, ◌++◌, map, refl, sym, ap, subst, ◌∙◌, AllByRecursion, FinMap}
use Rattle.sk_served.proofs.Names.{true≢false, append-nil, has, struck, Event, Taken, Commit, Fail, all_recorded}
use Rattle.sk_served.proofs.Names.{no_record, record_after, record_of, MergedStands, merged_run, record_more, and_both}
use Rattle.sk_served.proofs.Names.{Moves, Starts, moves_of, told_more, with_told, Call, Does, Tells, Told, first, one}
use Rattle.sk_served.proofs.Names.{commits_told, fails_told, stands_told, takes_told, Answer, held, Entries}
use Rattle.sk_served.proofs.Names.{bytes_total, tied_is, served, Entry, Opens, Runs, NamesNoReserved, entries_after}
use Rattle.sk_served.proofs.Names.{replies_to, HoldsSame, IsProper, Kernel, StoreCalls, not-true}
use Rattle.std.proofs.Common.{append_assoc}
use Rattle.sk_served.proofs.Absent.{after_event, clean_record, CleanAt, StandsClean}
use Rattle.sk_served.proofs.Runs.{runs_plain}
use Rattle.sk_served.proofs.Stored.{all_kept, lacks, one_longer, told_all, told_first, Rises}

-- what holds of an entry that is taken
abbrev OfTaken : (Entry → Type 0) → Event Entry → Type 0
OfTaken P (Taken n) = P n
OfTaken P s = Unit {0}

named : (a : Kernel) (e : Event Entry) → IsProper a e → OfTaken NamesNoReserved e
named a (Taken (Runs r)) h = h.0
named a other h = tt

risen : (a : Kernel) (e : Event Entry) → IsProper a e → OfTaken Rises e
risen a (Taken (Runs r)) h = λ wants. (h.1 wants).0
risen a other h = tt

moves_told : (told : Told (ℕ × Answer)) (a : Kernel) (e : Event Entry) (b : Kernel) → Moves served a e b
    → Moves served (with_told told a) e (with_told told b)
moves_told told a (Taken n) b s = record { deed = s.deed; honest = s.honest; takes = takes_told told _ a _ b s.takes; fresh = s.fresh }
moves_told told a (Commit g) b s = (s.0, commits_told told a g b s.1)
moves_told told a (Fail g) b s = (s.0, fails_told told a g b s.1)

module _ (start : FinMap served.order (List ℕ)) where
  each_more : (P : Entry → Type 0) (ns : List Entry) (e : Event Entry) → AllByRecursion P ns → OfTaken P e
      → AllByRecursion P (record_after served start ns e)
  each_more P ns (Taken n) h of = one_longer P ns n h of
  each_more P ns (Commit g) h of = h
  each_more P ns (Fail g) h of = all_kept P (struck served start ns g) ns h

  record Standing (before : List (Event Entry)) (told : Told (ℕ × Answer)) (a : Kernel) : Type 0 where
    stands : MergedStands served start before (with_told told a)
    clean : StandsClean served bytes_total lacks tied_is start (all_recorded served start no_record before)
    names : AllByRecursion NamesNoReserved (record_of served start before)
    rises : AllByRecursion Rises (record_of served start before)

  clean_at : (before : List (Event Entry)) (told : Told (ℕ × Answer)) (a : Kernel) (e : Event Entry)
      → MergedStands served start before (with_told told a) → IsProper a e
      → CleanAt served bytes_total lacks tied_is start before e
  clean_at before told a (Taken (Opens n)) stands h = λ key lacking. absurd (true≢false (sym lacking))
  clean_at before told a (Taken (Runs r)) stands h = λ key lacking.
      let run_of = merged_run served bytes_total tied_is start before (with_told told a) stands in
      let wants = and_both _ _ lacking in
      let parts = and_both _ _ wants.1 in
      let at = (h.1 wants.0).1 key (not-true _ parts.0) (not-true _ parts.1) in (
        sym (run_of.values key) ∙ at.0,
        λ g tag. absurd (true≢false (sym ((run_of.tags key g).1 tag) ∙ ap (has g) at.1)),
      )
  clean_at before told a (Commit g) stands h = tt
  clean_at before told a (Fail g) stands h = tt

  move_on : (before : List (Event Entry)) (told : Told (ℕ × Answer)) (a : Kernel) (e : Event Entry) (m : Kernel)
      → Standing before told a → IsProper a e → Moves served a e m → Standing (before ++ e ∷ []) told m
  move_on before told a e m s proper moves =
      let stands = one served bytes_total tied_is start (λ w. refl) before (with_told told a) e (with_told told m) s.stands (moves_told told a e m moves) in
      record {
        stands = stands;
        clean = after_event served bytes_total lacks tied_is start before e stands.stands.sound (clean_at before told a e s.stands proper) s.clean;
        names = subst (AllByRecursion NamesNoReserved) (sym (record_more served start before e)) (each_more NamesNoReserved (record_of served start before) e s.names (named a e proper));
        rises = subst (AllByRecursion Rises) (sym (record_more served start before e)) (each_more Rises (record_of served start before) e s.rises (risen a e proper));
      }

  along : (before : List (Event Entry)) (cs : List (Call Entry (ℕ × Answer))) (told last : Told (ℕ × Answer)) (a b : Kernel)
      → Standing before told a → StoreCalls told a cs last b → Standing (before ++ moves_of cs) last b
  along before [] told last a b s (same, is) =
      subst (λ es. Standing es last b) (sym (append-nil before))
      (subst (λ w. Standing before w b) same (subst (λ m. Standing before told m) is s))
  along before (Does e ∷ cs) told last a b s (m, proper, moves, rest) =
      subst (λ es. Standing es last b) (append_assoc before (e ∷ []) (moves_of cs))
      (along (before ++ e ∷ []) cs told last m b (move_on before told a e m s proper moves) rest)
  along before (Tells t output ∷ cs) told last a b s (m, out, rest) =
      along before cs (told_more t output told) last m b
      (record { stands = stands_told told a t output m out served start before s.stands; clean = s.clean; names = s.names; rises = s.rises })
      rest

pub calls_plain : (start : FinMap served.order (List ℕ)) (entries : Entries) (a b : Kernel) (cs : List (Call Entry (ℕ × Answer))) (told : Told (ℕ × Answer))
    → HoldsSame start entries → Starts served start a → StoreCalls (λ t. []) a cs told b
    → ((key : List ℕ) → b.state.look key ≡ held (entries_after (record_of served start (moves_of cs)) entries) key)
    × ((t : ℕ) → told t ++ map (λ x. x.0) (b.texts t) ≡ replies_to t (record_of served start (moves_of cs)) entries)
calls_plain start entries a b cs told holds starts calls =
    let es = moves_of cs in
    let left = record_of served start es in
    let s = along start [] cs (λ t. []) told a b (record { stands = first served bytes_total tied_is start a starts; clean = tt; names = tt; rises = tt }) calls in
    let clean = clean_record served bytes_total lacks tied_is start es s.clean in
    let plain = merged_run served bytes_total tied_is start es (with_told told b) s.stands in
    let run_of = runs_plain start entries left holds s.names (told_all start clean.0 (λ g. []) start left clean.1 s.rises) in (
      λ key. plain.values key ∙ run_of.0.same key,
      λ t. sym (told_first (told t) (b.texts t)) ∙ plain.texts t ∙ run_of.1 t 0,
    )
