-- What keys have and what was said is as in a plain store that carries out what stands.
use Rattle.std.proofs.lemmas.Bool.Decides.{nat_tests}
use Rattle.sk_durable.proofs.Contained.{first_or_later, at_first, at_later, nothing_there, from_filter, to_filter}
use Rattle.sk_durable.proofs.Names.{◌≡◌, ◌↔◌, ℕ, ◌+◌, true, List, [], ◌∷◌, ◌++◌, map, Option, Some, None, inl, inr}
use Rattle.sk_durable.proofs.Names.{refl, sym, ◌∙◌, ap, subst, arith, T, filter, Contains, FinMap, from_sorted, get}
use Rattle.sk_durable.proofs.Names.{get-from_sorted, map-append, Contains-append_cases, Contains-append_right, Tagged}
use Rattle.sk_durable.proofs.Names.{has, Commit, Event, Fail, Taken, numbers, Starts, moves_of, bytes_cmp}
use Rattle.sk_durable.proofs.Names.{bytes_exact, bytes_total, LoggedBatch, capped_small, new_in_step, IsAsLogged}
use Rattle.sk_durable.proofs.Names.{failed_in, kept, resting_among, said_to, as_logged, part_is_kept, Answer, held}
use Rattle.sk_durable.proofs.Names.{Entries, Out, HoldsSame, entries_after, entry_after, replies_to, reply_to, served}
use Rattle.sk_durable.proofs.Names.{Entry, Opens, Runs, calls_plain, Limits, Next, has_now, StoreView, Call, Decides}
use Rattle.sk_durable.proofs.Names.{carried, decided, decided_by, entries, failed, stands, Command, says_to}
use Rattle.sk_durable.proofs.Names.{AnswersArePlain, HasDone, IsLogged, MapIsPlain}
use Rattle.sk_record.specs.Release as releases
use Rattle.sk_record.specs.declared.status.Status.TheVariants as status_as
use Rattle.sk_batched.specs.declared.batched.Outcome.TheVariants.{Refused}
use Rattle.sk_durable.specs.Laws.{said_by}
use Rattle.sk_durable.proofs.Machines.{Agree, is_decision, machine, runs_work, InStep, Led, Quiet}
use Rattle.sk_durable.proofs.Served.{calls, outs_from}

-- batches that begin change nothing of a plain store, and it replies nothing to them
runs_after : (ns : List Entry) (e : Entries) → entries_after (filter runs_work ns) e ≡ entries_after ns e
runs_after [] e = refl
runs_after (Opens n ∷ ns) e = runs_after ns e
runs_after (Runs a ∷ ns) e = runs_after ns (entry_after (Runs a) e)

runs_reply : (t : ℕ) (ns : List Entry) (e : Entries) → replies_to t (filter runs_work ns) e ≡ replies_to t ns e
runs_reply t [] e = refl
runs_reply t (Opens n ∷ ns) e = runs_reply t ns e
runs_reply t (Runs a ∷ ns) e = ap (λ rs. reply_to t (Runs a) e ++ rs) (runs_reply t ns (entry_after (Runs a) e))

-- what one command said
said_one : (t : ℕ) (said : Option (ℕ × (ℕ × Answer))) (rests : List ℕ)
    → says_to t said ≡ map (λ x. x.0) (releases.said_by served t said rests)
said_one t None rests = refl
said_one t (Some w) rests = grind (arith, nat_tests)

-- what all that stand said is what the commands among them said
said_all : (t : ℕ) (fails : List ℕ) (log : List Command) → Quiet log
    → said_by t (kept fails (filter (λ r. runs_work r.entry) log)) ≡ map (λ x. x.0) (said_to served t (kept fails log))
said_all t fails [] quiet = refl
said_all t fails (r ∷ log) quiet =
    grind (
      arith,
      nat_tests,
      said_all t fails log quiet.1,
      said_one t,
      map-append (λ (x : Tagged (ℕ × (ℕ × Answer))). x.0),
      runs_work r.entry,
    )

-- whatever guesses are left of what they depend on, outputs stay the same
firsts : (guesses : List ℕ) (xs : List (Tagged (ℕ × (ℕ × Answer))))
    → map (λ x. x.0) (resting_among guesses xs) ≡ map (λ x. x.0) xs
firsts guesses [] = refl
firsts guesses (x ∷ xs) = ap (λ ws. x.0 ∷ ws) (firsts guesses xs)

-- what fails is decided
fails_of : (es : List (Event Entry)) → failed_in (filter is_decision es) ≡ failed_in es
fails_of [] = refl
fails_of (Taken n ∷ es) = fails_of es
fails_of (Commit g ∷ es) = fails_of es
fails_of (Fail g ∷ es) = ap (λ gs. g ∷ gs) (fails_of es)

-- a batch was told as logged just where it is among the decisions
told_logged : (c : Call) (n : ℕ) → Contains (decided_by c) (Commit n) → c ≡ Decides (LoggedBatch n)
told_logged (Decides (LoggedBatch m)) n there =
    elim (first_or_later (Commit m) [] (Commit n) there) [
      | inl same ↦ cc
      | inr more ↦ nothing_there (Commit n) more
    ]
told_logged (Decides (Refused m keys)) n there =
    elim (first_or_later (Fail m) [] (Commit n) there) [
      | inl same ↦ cc
      | inr more ↦ nothing_there (Commit n) more
    ]
told_logged other n there = nothing_there (Commit n) there

pub logged_told : (cs : List Call) (n : ℕ) → Contains cs (Decides (LoggedBatch n)) → Contains (decided cs) (Commit n)
logged_told [] n there = nothing_there (Decides (LoggedBatch n)) there
logged_told (c ∷ cs) n there =
    elim (first_or_later c cs (Decides (LoggedBatch n)) there) [
      | inl same ↦ subst (λ d. Contains (decided_by d ++ decided cs) (Commit n)) (sym same)
          (at_first (Commit n) (decided cs))
      | inr more ↦ Contains-append_right (decided_by c) (decided cs) (Commit n) (logged_told cs n more)
    ]

pub logged_by : (cs : List Call) (n : ℕ) → Contains (decided cs) (Commit n) → Contains cs (Decides (LoggedBatch n))
logged_by [] n there = nothing_there (Commit n) there
logged_by (c ∷ cs) n there =
    elim (Contains-append_cases (decided_by c) (decided cs) (Commit n) there) [
      | inl now ↦ subst (λ d. Contains (d ∷ cs) (Decides (LoggedBatch n))) (sym (told_logged c n now))
          (at_first (Decides (LoggedBatch n)) cs)
      | inr more ↦ at_later c cs (Decides (LoggedBatch n)) (logged_by cs n more)
    ]

module _ (limits : Limits) (next : Next) (start : Entries) (cs : List Call) (s : StoreView)
    (done : HasDone limits next start cs s) where
  abbrev first : StoreView
  first = done.first

  -- nothing is known of any guess
  are_none : Agree first.batched.kernel (λ g. None)
  are_none = grind (arith, nat_tests)

  in_step : InStep first.batched
  in_step = grind (arith, nat_tests, capped_small, new_in_step)

  abbrev map_of : FinMap served.order (List ℕ)
  map_of = from_sorted start

  holds_start : (key : List ℕ) → get map_of key ≡ held start key
  holds_start key = get-from_sorted bytes_cmp start key (subst T (sym done.new.in_order) tt)

  pub starts : Starts served map_of (machine first.batched.kernel (λ g. None))
  starts = grind (arith, nat_tests, holds_start)

  holds : HoldsSame map_of start
  holds = record { same = holds_start; in_order = done.new.in_order; none_reserved = done.new.none_reserved }

  -- what was taken out of each channel
  abbrev pub outs : Out
  outs = outs_from (λ t. []) cs

  pub led : Led (λ t. []) outs (machine first.batched.kernel (λ g. None)) (carried cs) (decided cs) s
  led = calls (λ t. []) first (λ g. None) are_none in_step cs s done.serves

  pub as_log : IsAsLogged served map_of (moves_of led.moves) led.log outs (machine s.batched.kernel led.status)
  as_log = as_logged served bytes_total bytes_exact (λ w. refl) map_of (machine first.batched.kernel (λ g. None))
      (machine s.batched.kernel led.status)
      led.moves led.log outs starts led.logs

  abbrev fails : List ℕ
  fails = failed_in (moves_of led.moves)

  pub fails_are : fails ≡ failed cs
  fails_are = sym (fails_of (moves_of led.moves)) ∙ ap failed_in led.decides_are

  -- a batch is committed just where it was told as logged
  pub commits_are : (n : ℕ) → Contains (moves_of led.moves) (Commit n) ↔ IsLogged cs n
  commits_are n = (
    λ there. logged_by cs n
        (subst (λ es. Contains es (Commit n)) led.decides_are
        (to_filter is_decision (moves_of led.moves) (Commit n) there refl)),
    λ there. (from_filter is_decision (moves_of led.moves) (Commit n) (subst (λ es. Contains es (Commit n)) (sym led.decides_are) (logged_told cs n there))).0,
  )

  pub logged_is : (n : ℕ) → IsLogged cs n ↔ (led.status n ≡ Some status_as.Committed)
  logged_is n = (
    λ there. (as_log.committed n).0 ((commits_are n).1 there),
    λ is. (commits_are n).0 ((as_log.committed n).1 is),
  )

  -- it has failed just where it was told as refused
  pub failed_is : (n : ℕ) → (has n (failed cs) ≡ true) ↔ (led.status n ≡ Some status_as.Failed)
  failed_is n = subst (λ gs. (has n gs ≡ true) ↔ (led.status n ≡ Some status_as.Failed)) fails_are (as_log.failed n)

  -- the entries that stand are the commands that stand, and batches that began
  left_are : filter runs_work (map (λ (r : Command). r.entry) (kept fails led.log)) ≡ entries (stands cs)
  left_are = grind (arith, nat_tests, part_is_kept Entry (ℕ × Answer) runs_work, runs_work, fails_are)

  pub map_plain : (key : List ℕ) → has_now s.batched.kernel key ≡ held (entries_after (entries (stands cs)) start) key
  map_plain key =
      (calls_plain map_of start _ (machine s.batched.kernel led.status) led.moves outs holds starts led.calls).0 key
      ∙ ap (λ ns. held (entries_after ns start) key) as_log.entries
      ∙ ap (λ e. held e key) (sym (runs_after (map (λ (r : Command). r.entry) (kept fails led.log)) start))
      ∙ ap (λ ns. held (entries_after ns start) key) left_are

  pub answers_plain : (t : ℕ) → said_by t (stands cs) ≡ replies_to t (entries (stands cs)) start
  answers_plain t =
      let at = as_log.channels t in
      let plain = (calls_plain map_of start _
      (machine s.batched.kernel led.status) led.moves outs holds starts led.calls).1 t in
      (λ i. said_by t (kept (sym fails_are i) (sym led.commands_are i)))
      ∙ said_all t fails led.log led.quiet
      ∙ ap (map (λ (x : Tagged (ℕ × (ℕ × Answer))). x.0)) at.split
      ∙ map-append (λ (x : Tagged (ℕ × (ℕ × Answer))). x.0) at.out at.waiting
      ∙ (λ i. sym at.gone i ++ (sym (firsts (numbers s.batched.kernel.parts.opens) at.waiting)
      ∙ ap (map (λ (x : Tagged (ℕ × (ℕ × Answer))). x.0)) (sym at.texts)) i)
      ∙ plain
      ∙ ap (λ ns. replies_to t ns start) as_log.entries
      ∙ sym (runs_reply t (map (λ (r : Command). r.entry) (kept fails led.log)) start)
      ∙ ap (λ ns. replies_to t ns start) left_are

pub map_is_plain : MapIsPlain
map_is_plain limits next start cs s done key = map_plain limits next start cs s done key

pub answers_are_plain : AnswersArePlain
answers_are_plain limits next start cs s done t = answers_plain limits next start cs s done t
