-- Each call is a move of the machine, with what is logged of it, for statuses that agree with what is kept of guesses.
use Rattle.sk_own_rests.proofs.Names.{forgotten, goes, none_yet, starts, taken_from, ◌≡◌, ℕ, List, [], ◌∷◌, ◌++◌}
use Rattle.sk_own_rests.proofs.Names.{Option, None, sym, ◌∙◌, ap, subst, append_assoc, FinMap, IsAntisymmetric}
use Rattle.sk_own_rests.proofs.Names.{IsTotalOrder, append-nil, System, Event, Status, AreStatuses, Told, with_told}
use Rattle.sk_own_rests.proofs.Names.{told_more, first, Parts, undo_state_of, machine_of, Forgets, Call, Does, Tells}
use Rattle.sk_own_rests.proofs.Names.{Returns, events_of, TakesOut, Happens, IsFirst, Logged, IsLogOf, IsAsLogged}
use Rattle.sk_own_rests.proofs.Names.{Stands, stands_first, one_more, taken_out, ends, OwnLogs, OwnStandsAsLogged}

module _ {K V O F N : Type 0} (own : System K V (ℕ × O) F N) where
  -- the parts stand for the trace and what is logged of it, with statuses that agree with what is kept of guesses
  pub record OwnStands (start : FinMap own.order V) (es : List (Event N)) (log : List (Logged N O)) (told : Told O)
      (m : Parts K V O) : Type 0 where
    pub status : ℕ → Option Status
    pub agrees : AreStatuses m.guesses m.opens status
    pub stands : Stands own start es log (with_told told (machine_of own.order m status))

module _ {K V O F N : Type 0} (own : System K V (ℕ × O) F N) (total : IsTotalOrder own.order)
    (exact : IsAntisymmetric own.order)
    (goes_to : (w : ℕ × O) → own.goes_to w ≡ w.0) (start : FinMap own.order V) where
  pub first_own : (a : Parts K V O) → IsFirst own start a → OwnStands own start [] [] (λ t. []) a
  first_own a is = record {
    status = λ g. None;
    agrees = none_yet own start a is;
    stands = stands_first own start (with_told (λ t. []) (machine_of own.order a (λ g. None)))
        (first own total exact start (machine_of own.order a (λ g. None)) (starts own start a is));
  }

  -- after a step, a commit or a failure
  pub happened : (es : List (Event N)) (log : List (Logged N O)) (told : Told O) (a : Parts K V O) (e : Event N)
      (b : Parts K V O) (one : List (Logged N O))
      → OwnStands own start es log told a → Happens own a e b → IsLogOf own (undo_state_of own.order a) e one
      → OwnStands own start (es ++ e ∷ []) (log ++ one) told b
  happened es log told a e b one s happens logged =
      let led = goes own a s.status e b s.agrees happens in
      record {
        status = led.later;
        agrees = led.agrees;
        stands = one_more own total exact start goes_to told es log (machine_of own.order a s.status) e
            (machine_of own.order b led.later) one
            s.stands led.moves logged;
      }

  -- after an output was taken out
  pub told_one : (es : List (Event N)) (log : List (Logged N O)) (told : Told O) (a : Parts K V O) (t : ℕ) (output : O)
      (b : Parts K V O)
      → OwnStands own start es log told a → TakesOut a t output b
      → OwnStands own start es log (told_more t output told) b
  told_one es log told a t output b s out = record {
    status = s.status;
    agrees = subst (λ (p : Parts K V O). AreStatuses p.guesses p.opens s.status) (sym out.same) s.agrees;
    stands = taken_out own total exact start goes_to told es log (machine_of own.order a s.status) t output
        (machine_of own.order b s.status) s.stands
        (taken_from own a s.status t output b out);
  }

  -- after the token of a struck guess came back
  pub returned : (es : List (Event N)) (log : List (Logged N O)) (told : Told O) (a : Parts K V O) (g : ℕ)
      (b : Parts K V O)
      → OwnStands own start es log told a → Forgets own.order a g b → OwnStands own start es log told b
  returned es log told a g b s forgets = record {
    status = s.status;
    agrees = subst (λ (p : Parts K V O). AreStatuses p.guesses p.opens s.status) (sym forgets.left)
        (forgotten own a s.status g s.agrees);
    stands = subst (λ (p : Parts K V O). Stands own start es log (with_told told (machine_of own.order p s.status)))
        (sym forgets.left) s.stands;
  }

  along : (before : List (Event N)) (log_before : List (Logged N O)) (cs : List (Call N O)) (log : List (Logged N O))
      (told last : Told O) (a b : Parts K V O)
      → OwnStands own start before log_before told a → OwnLogs own told a cs log last b
      → OwnStands own start (before ++ events_of cs) (log_before ++ log) last b
  along before log_before [] log told last a b s (none, same, is) =
      subst (λ es. OwnStands own start es (log_before ++ log) last b) (sym (append-nil before))
      (subst (λ xs. OwnStands own start before xs last b)
      (sym (ap (λ xs. log_before ++ xs) none ∙ append-nil log_before))
      (subst (λ w. OwnStands own start before log_before w b) same
      (subst (OwnStands own start before log_before told) is s)))
  along before log_before (Does e ∷ cs) log told last a b s (m, one, more, is, happens, logged, rest) =
      subst (λ es. OwnStands own start es (log_before ++ log) last b) (append_assoc before (e ∷ []) (events_of cs))
      (subst (λ xs. OwnStands own start ((before ++ e ∷ []) ++ events_of cs) xs last b)
      (append_assoc log_before one more ∙ ap (λ xs. log_before ++ xs) (sym is))
      (along (before ++ e ∷ []) (log_before ++ one) cs more told last m b
      (happened before log_before told a e m one s happens logged) rest))
  along before log_before (Tells t output ∷ cs) log told last a b s (m, out, rest) =
      along before log_before cs log (told_more t output told) last m b
      (told_one before log_before told a t output m s out) rest
  along before log_before (Returns g ∷ cs) log told last a b s (m, forgets, rest) =
      along before log_before cs log told last m b (returned before log_before told a g m s forgets) rest

  -- what the log says
  pub own_ends : (es : List (Event N)) (log : List (Logged N O)) (told : Told O) (b : Parts K V O)
      → (s : OwnStands own start es log told b)
      → IsAsLogged own start es log told (machine_of own.order b s.status)
  own_ends es log told b s = ends own total exact start es log told (machine_of own.order b s.status) s.stands

  pub of_all : (a b : Parts K V O) (cs : List (Call N O)) (log : List (Logged N O)) (told : Told O)
      → IsFirst own start a → OwnLogs own (λ t. []) a cs log told b → OwnStands own start (events_of cs) log told b
  of_all a b cs log told is logs = along [] [] cs log (λ t. []) told a b (first_own a is) logs

pub own_logged : {K V O F N : Type 0} (own : System K V (ℕ × O) F N) → OwnStandsAsLogged own
own_logged own total exact goes_to start a b cs log told is logs =
    let s = of_all own total exact goes_to start a b cs log told is logs in
    (s.status, s.agrees, own_ends own total exact goes_to start (events_of cs) log told b s)
