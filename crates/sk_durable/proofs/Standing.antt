-- A command that is carried out depends on nothing that failed, and on guesses that were drawn alone.
use Rattle.std.proofs.lemmas.Bool.Decides.{nat_tests}
use Rattle.sk_durable.proofs.Names.{◌≡◌, ℕ, ◌<◌, ◌≤◌, true, false, not, List, [], ◌∷◌, ◌++◌, length, map, Option}
use Rattle.sk_durable.proofs.Names.{Some, None, inl, inr, refl, sym, ◌∙◌, ap, subst, append_assoc, arith, filter}
use Rattle.sk_durable.proofs.Names.{fold, Contains, FinMap, from_sorted, append-nil, append_cancel_left, length-map}
use Rattle.sk_durable.proofs.Names.{map-append, filter-append, Contains-append_right, fold-append, has, record_after}
use Rattle.sk_durable.proofs.Names.{record_of, Commit, Event, Fail, Taken, Status, moves_of, told_more, DoesMove}
use Rattle.sk_durable.proofs.Names.{TellsOut, bytes_exact, bytes_total, IsAsLogged, failed_in, is_struck, kept, Logs}
use Rattle.sk_durable.proofs.Names.{as_logged, Entries, Out, served, Entry, Limits, Next, StoreView, Call, Does}
use Rattle.sk_durable.proofs.Names.{carried, carried_by, decided, decided_by, failed, Command, HasDone, failed_more}
use Rattle.sk_record.specs.declared.status.Status.TheVariants as status_as
use Rattle.sk_durable.proofs.Contained.{from_filter, none_lost, to_filter}
use Rattle.sk_durable.proofs.Machines.{is_decision, machine, runs_work, Led, Machine, Move, moves_behind}
use Rattle.sk_durable.proofs.Plain.{as_log, fails_are, led, outs, starts}
use Rattle.sk_durable.proofs.Served.{call, outs_by}

none_failed : (es : List (Event Entry)) → filter is_decision es ≡ [] → failed_in es ≡ []
none_failed [] none = refl
none_failed (Taken n ∷ es) none = none_failed es none
none_failed s none = cc

-- what is logged of calls behind others
logs_both : (cs ds : List Move) (told mid last : Out) (x y z : Machine) (one two : List Command)
    → Logs served told x cs one mid y → Logs served mid y ds two last z
    → Logs served told x (cs ++ ds) (one ++ two) last z
logs_both [] ds told mid last x y z one two (none, same, is) rest = grind (arith, nat_tests)
logs_both (DoesMove e ∷ cs) ds told mid last x y z one two (m, first, more, is, goes, logged, behind) rest =
    grind (arith, nat_tests, logs_both cs ds told mid last m y z more two behind rest)
logs_both (TellsOut t output ∷ cs) ds told mid last x y z one two (m, out, behind) rest =
    (m, out, logs_both cs ds (told_more t output told) mid last m y z one two behind rest)

-- steps alone are recorded as they are logged
module _ (start : FinMap served.order (List ℕ)) where
  recorded : (cs : List Move) (told : Out) (x : Machine) (log : List Command) (last : Out) (y : Machine)
      (ns : List Entry)
      → Logs served told x cs log last y → filter is_decision (moves_of cs) ≡ []
      → fold (record_after served start) ns (moves_of cs) ≡ ns ++ map (λ r. r.entry) log
  recorded [] told x log last y ns (none, same, is) quiet = sym (append-nil ns)
      ∙ ap (λ (l : List Command). ns ++ map (λ r. r.entry) l) (sym none)
  recorded (DoesMove (Taken n) ∷ cs) told x log last y ns (m, one, more, is, goes, (r, one_is, logged), behind) quiet =
      recorded cs told m more last y (ns ++ n ∷ []) behind quiet
      ∙ append_assoc ns (n ∷ []) (map (λ (c : Command). c.entry) more)
      ∙ ap (λ e. ns ++ e ∷ map (λ (c : Command). c.entry) more) (sym logged.entry)
      ∙ ap (λ (l : List Command). ns ++ map (λ c. c.entry) l) (sym (is ∙ ap (λ l. l ++ more) one_is))
  recorded (DoesMove (Commit g) ∷ cs) told x log last y ns logs quiet = cc
  recorded (DoesMove (Fail g) ∷ cs) told x log last y ns logs quiet = cc
  recorded (TellsOut t output ∷ cs) told x log last y ns (m, out, behind) quiet = recorded cs
      (told_more t output told) m log last y ns behind quiet

some_none : {P : Type 0} (o : Option Status) (st : Status) → o ≡ Some st → o ≡ None → P
some_none o st some none = cc

module _ (limits : Limits) (next : Next) (start : Entries) (cs : List Call) (m : StoreView)
    (done : HasDone limits next start cs m)
    (c : Call) (s : StoreView) (does : Does m c s) (undecided : decided_by c ≡ []) where
  abbrev first : StoreView
  first = done.first

  abbrev map_of : FinMap served.order (List ℕ)
  map_of = from_sorted start

  abbrev told : Out
  told = outs limits next start cs m done

  abbrev one : Led (λ t. []) told (machine first.batched.kernel (λ g. None)) (carried cs) (decided cs) m
  one = led limits next start cs m done

  abbrev two : Led told (outs_by c told) (machine m.batched.kernel one.status) (carried_by c) (decided_by c) s
  two = call told m one.status one.agrees one.known s c does

  both_logged : Logs served (λ t. []) (machine first.batched.kernel (λ g. None)) (one.moves ++ two.moves)
      (one.log ++ two.log) (outs_by c told)
      (machine s.batched.kernel two.status)
  both_logged = grind (arith, nat_tests, logs_both, outs_by c, machine m.batched.kernel, machine s.batched.kernel)

  both_as : IsAsLogged served map_of (moves_of (one.moves ++ two.moves)) (one.log ++ two.log) (outs_by c told)
      (machine s.batched.kernel two.status)
  both_as = as_logged served bytes_total bytes_exact (λ w. refl) map_of (machine first.batched.kernel (λ g. None))
      (machine s.batched.kernel two.status)
      (one.moves ++ two.moves) (one.log ++ two.log) (outs_by c told) (starts limits next start cs m done) both_logged

  abbrev fails : List ℕ
  fails = failed_in (moves_of one.moves)

  same_fails : failed_in (moves_of (one.moves ++ two.moves)) ≡ fails
  same_fails = grind (arith, nat_tests, moves_behind, failed_more, none_failed, append-nil)

  abbrev entry_of : List Command → List Entry
  entry_of rs = map (λ r. r.entry) rs

  -- what is recorded of the call is all that is logged of it
  all_kept : entry_of two.log ≡ entry_of (kept fails two.log)
  all_kept = append_cancel_left (entry_of (kept fails one.log)) (entry_of two.log) (entry_of (kept fails two.log))
      (ap (λ ns. ns ++ entry_of two.log) (sym (as_log limits next start cs m done).entries)
      ∙ sym (recorded map_of two.moves told (machine m.batched.kernel one.status) two.log (outs_by c told)
      (machine s.batched.kernel two.status)
      (record_of served map_of (moves_of one.moves)) two.logs (two.decides_are ∙ undecided))
      ∙ sym (fold-append (record_after served map_of) [] (moves_of one.moves) (moves_of two.moves))
      ∙ ap (record_of served map_of) (sym (moves_behind one.moves two.moves))
      ∙ both_as.entries
      ∙ ap (λ gs. entry_of (kept gs (one.log ++ two.log))) same_fails
      ∙ ap entry_of (filter-append (λ (r : Command). not (is_struck fails r)) one.log two.log)
      ∙ map-append (λ (r : Command). r.entry) (kept fails one.log) (kept fails two.log))

  stands : (r : Command) → Contains (carried_by c) r → Contains two.log r × (not (is_struck fails r) ≡ true)
  stands r at =
      let there = (from_filter (λ (q : Command). runs_work q.entry) two.log r
      (subst (λ rs. Contains rs r) (sym two.commands_are) at)).0 in
      let sizes : length (kept fails two.log) ≡ length two.log =
      sym (length-map (kept fails two.log) (λ (q : Command). q.entry)) ∙ ap length (sym all_kept)
      ∙ length-map two.log (λ (q : Command). q.entry) in
      (there, none_lost (λ (q : Command). not (is_struck fails q)) two.log r sizes there)

  -- no guess failed that it depends on
  pub unstruck : (r : Command) → Contains (carried_by c) r → is_struck (failed cs) r ≡ false
  unstruck r at = grind (arith, nat_tests, fails_are limits next start cs m done, stands r at)

  -- and each was drawn
  pub drawn : (r : Command) → Contains (carried_by c) r → (g : ℕ) → has g r.rests ≡ true → g ≤ s.batched.queue.number
  drawn r at g here =
      let kept_there : Contains (kept (failed_in (moves_of (one.moves ++ two.moves))) (one.log ++ two.log)) r =
      subst (λ gs. Contains (kept gs (one.log ++ two.log)) r) (sym same_fails)
      (subst (λ rs. Contains rs r) (sym (filter-append (λ (q : Command). not (is_struck fails q)) one.log two.log))
      (Contains-append_right (kept fails one.log) (kept fails two.log) r
      (to_filter (λ (q : Command). not (is_struck fails q)) two.log r (stands r at).0 (stands r at).1))) in
      let decided = both_as.decided r g kept_there here in
      let within : s.batched.kernel.parts.guesses.drawn < g → ⊥ =
      λ above. (let none = two.agrees.fresh g above in elim decided [
        | inl undecided ↦ some_none (two.status g) status_as.Undecided undecided none
        | inr committed ↦ some_none (two.status g) status_as.Committed committed none
      ]) in
      let number = two.known.1.number in
      omega (arith, within, number)
