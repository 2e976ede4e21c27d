-- Each call is a move of the machine, for statuses that agree with what is kept of guesses.
use Rattle.sk_speculator.proofs.Names.{TakesOut, ◌≡◌, ℕ, List, [], ◌∷◌, Option, Some, None, inl, inr, refl, sym, ◌∙◌}
use Rattle.sk_speculator.proofs.Names.{ap, subst, arith, ◌⊎◌, unwrap_or, FinMap, false≢true, has, without, System}
use Rattle.sk_speculator.proofs.Names.{Event, Taken, Commit, Fail, numbers, IsPlainRun, with_drawn, with_failure}
use Rattle.sk_speculator.proofs.Names.{with_status, Status, has_filter, and_both, AreStatuses, open_is, IsNext, Moves}
use Rattle.sk_speculator.proofs.Names.{Starts, Told, TakenOut, with_told, told_more, tells, look_at, log_at, said_at}
use Rattle.sk_speculator.proofs.Names.{Parts, machine_of, next_of, Call, Does, Tells, Returns, events_of, Happens}
use Rattle.sk_speculator.proofs.Names.{Calls, IsFirst, OwnRunsAsPlain}
use Rattle.sk_record.specs.declared.status.Status.TheVariants as status_as
use Rattle.sk_deeds.specs.Told as deeds

-- without the tokens that come back
abbrev told_of : {N O : Type 0} → List (Call N O) → List (deeds.Call N O)
told_of [] = []
told_of (Does e ∷ cs) = deeds.Does e ∷ told_of cs
told_of (Tells t output ∷ cs) = deeds.Tells t output ∷ told_of cs
told_of (Returns g ∷ cs) = told_of cs

same_events : {N O : Type 0} (cs : List (Call N O)) → deeds.moves_of (told_of cs) ≡ events_of cs
same_events [] = refl
same_events (Does e ∷ cs) = ap (λ es. e ∷ es) (same_events cs)
same_events (Tells t output ∷ cs) = same_events cs
same_events (Returns g ∷ cs) = same_events cs

module _ {K V O F N : Type 0} (own : System K V (ℕ × O) F N) where
  -- where an event leads
  pub record Goes (a : Parts K V O) (status : ℕ → Option Status) (e : Event N) (b : Parts K V O) : Type 0 where
    pub later : ℕ → Option Status
    pub agrees : AreStatuses b.guesses b.opens later
    pub moves : Moves own (machine_of own.order a status) e (machine_of own.order b later)

  fresh : (a : Parts K V O) (status : ℕ → Option Status) (mark : Option ℕ) → AreStatuses a.guesses a.opens status → (mark ≡ None) ⊎ (mark ≡ Some (next_of a.guesses)) → IsNext (machine_of own.order a status) mark
  fresh a status mark are (inl none) g h is le = cc
  fresh a status mark are (inr next) g h is le =
      let same : next_of a.guesses ≡ g = ap (λ o. unwrap_or o 0) (sym next ∙ is) in
      are.fresh h (omega (arith, same, le))

  pub goes : (a : Parts K V O) (status : ℕ → Option Status) (e : Event N) (b : Parts K V O) → AreStatuses a.guesses a.opens status → Happens own a e b → Goes a status e b
  goes a status (Taken n) b are d = record {
    later = with_drawn (own.mark n) status;
    agrees = d.takes.agrees status are;
    moves = record { deed = d.deed; honest = d.honest; takes = d.takes.takes status are; fresh = fresh a status (own.mark n) are d.mark };
  }
  goes a status (Commit g) b are c = record {
    later = with_status g status_as.Committed status;
    agrees = c.agrees status are;
    moves = (open_is (status g) (sym (are.undecided g) ∙ c.undecided), c.commits status are);
  }
  goes a status (Fail g) b are f = record {
    later = with_failure g a.opens status;
    agrees = f.agrees status are;
    moves = (open_is (status g) (sym (are.undecided g) ∙ f.undecided), f.fails status are);
  }

  pub forgotten : (a : Parts K V O) (status : ℕ → Option Status) (g : ℕ) → AreStatuses a.guesses a.opens status → AreStatuses (record a.guesses { struck = without g a.guesses.struck }) a.opens status
  forgotten a status g are = record {
    undecided = are.undecided;
    struck = λ h here. are.struck h (and_both _ _ (sym (has_filter _ h a.guesses.struck) ∙ here)).1;
    fresh = are.fresh;
  }

  -- an output that is taken out of the kernel is taken out of the machine
  pub taken_from : (a : Parts K V O) (status : ℕ → Option Status) (t : ℕ) (output : O) (b : Parts K V O) → TakesOut a t output b → TakenOut (machine_of own.order a status) t output (machine_of own.order b status)
  taken_from a status t output b out = record {
    look = λ k. ap (λ (p : Parts K V O). look_at own.order p.slots k) out.same;
    logs = λ k. ap (λ (p : Parts K V O). log_at own.order p.slots k) out.same;
    opens = ap (λ (p : Parts K V O). p.opens) out.same;
    status = λ g. refl;
    first = out.first;
    others = out.others;
  }

  -- where any calls lead
  record Leads (told : Told O) (a : Parts K V O) (status : ℕ → Option Status) (cs : List (Call N O)) (last : Told O) (b : Parts K V O) : Type 0 where
    later : ℕ → Option Status
    agrees : AreStatuses b.guesses b.opens later
    calls : deeds.Calls own told (machine_of own.order a status) (told_of cs) last (machine_of own.order b later)

  leads : (told : Told O) (a : Parts K V O) (status : ℕ → Option Status) (cs : List (Call N O)) (last : Told O) (b : Parts K V O) → AreStatuses a.guesses a.opens status → Calls own told a cs last b → Leads told a status cs last b
  leads told a status [] last b are (same, is) = record {
    later = status;
    agrees = subst (λ (p : Parts K V O). AreStatuses p.guesses p.opens status) is are;
    calls = (same, ap (λ (p : Parts K V O). machine_of own.order p status) is);
  }
  leads told a status (Does e ∷ cs) last b are (m, did, rest) =
      let one = goes a status e m are did in
      let more = leads told m one.later cs last b one.agrees rest in
      record { later = more.later; agrees = more.agrees; calls = (machine_of own.order m one.later, one.moves, more.calls) }
  leads told a status (Tells t output ∷ cs) last b are (m, out, rest) =
      let more = leads (told_more t output told) m status cs last b (subst (λ (p : Parts K V O). AreStatuses p.guesses p.opens status) (sym out.same) are) rest in
      record { later = more.later; agrees = more.agrees; calls = (machine_of own.order m status, taken_from a status t output m out, more.calls) }
  leads told a status (Returns g ∷ cs) last b are (m, forgets, rest) =
      let more = leads told m status cs last b (subst (λ (p : Parts K V O). AreStatuses p.guesses p.opens status) (sym forgets.left) (forgotten a status g are)) rest in
      record {
        later = more.later;
        agrees = more.agrees;
        calls = subst (λ (p : Parts K V O). deeds.Calls own told (machine_of own.order p status) (told_of cs) last (machine_of own.order b more.later)) forgets.left more.calls;
      }

  pub none_yet : (start : FinMap own.order V) (a : Parts K V O) → IsFirst own start a → AreStatuses a.guesses a.opens (λ g. None)
  none_yet start a is = record {
    undecided = λ g. ap (λ os. has g (numbers os)) is.opens;
    struck = λ g here. absurd (false≢true (sym (ap (has g) is.struck) ∙ here));
    fresh = λ g above. refl;
  }

  pub starts : (start : FinMap own.order V) (a : Parts K V O) → IsFirst own start a → Starts own start (machine_of own.order a (λ g. None))
  starts start a is = record { look = is.look; logs = is.log; opens = is.opens; status = λ g. refl; texts = λ t. ap (λ xs. said_at xs t) is.said }

pub runs_whole : {K V O F N : Type 0} (own : System K V (ℕ × O) F N) → OwnRunsAsPlain own
runs_whole own total exact goes_to start a b cs told is went =
    let led = leads own (λ t. []) a (λ g. None) cs told b (none_yet own start a is) went in (
      led.later,
      led.agrees,
      subst (λ es. IsPlainRun own start es (with_told told (machine_of own.order b led.later))) (same_events cs)
          (tells own total exact goes_to start (machine_of own.order a (λ g. None)) (machine_of own.order b led.later) (told_of cs) told (starts own start a is) led.calls),
    )
