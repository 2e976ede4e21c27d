-- From parts that look the same the same moves lead on.
use Rattle.sk_batched.proofs.Names.{◌≡◌, ℕ, List, [], ◌∷◌, ◌++◌, Option, Some, None, Ok, inl, inr, refl, sym, ◌∙◌, ap}
use Rattle.sk_batched.proofs.Names.{subst, ◌⊎◌, Ordering, has, without, perform, System, Event, Taken, Commit, Fail}
use Rattle.sk_batched.proofs.Names.{marks, Open, numbers, not_struck, still_open, Machine, Fails, with_drawn}
use Rattle.sk_batched.proofs.Names.{with_failure, with_status, MergedCommits, MergedTakes, Status, Committed, KeptView}
use Rattle.sk_batched.proofs.Names.{AreStatuses, with_struck, Deed, again, effect_of, Told, told_more, look_at, log_at}
use Rattle.sk_batched.proofs.Names.{said_at, Parts, machine_of, IsSame, drawn_by, next_of, Commits, FailsIn, Takes}
use Rattle.sk_batched.proofs.Names.{Does, Tells, Returns, Happens, Calls}
use Rattle.sk_speculator.specs.Law.{Call}

module _ {K V O : Type 0} (R : K → K → Ordering) where
  pub all_same : (a : Parts K V O) → IsSame R a a
  all_same a = record { look = λ k. refl; logs = λ k. refl; guesses = refl; opens = refl; said = refl }

  pub same_in_turn : (a b c : Parts K V O) → IsSame R a b → IsSame R b c → IsSame R a c
  same_in_turn a b c first second = record {
    look = λ k. second.look k ∙ first.look k;
    logs = λ k. second.logs k ∙ first.logs k;
    guesses = second.guesses ∙ first.guesses;
    opens = second.opens ∙ first.opens;
    said = second.said ∙ first.said;
  }

  module _ (a m : Parts K V O) (same : IsSame R a m) where
    pub same_machine : (status : ℕ → Option Status) → machine_of R a status ≡ machine_of R m status
    same_machine status = λ i. record {
      state = record { look = λ k. sym (same.look k) i; logs = λ k. sym (same.logs k) i; opens = sym same.opens i };
      status = status;
      texts = λ t. said_at (sym same.said i) t;
    }

    same_look : look_at R a.slots ≡ look_at R m.slots
    same_look = λ i k. sym (same.look k) i

    pub same_statuses : (status : ℕ → Option Status) → AreStatuses a.guesses a.opens status → AreStatuses m.guesses m.opens status
    same_statuses status are = subst (λ (v : KeptView). AreStatuses v m.opens status) (sym same.guesses) (subst (λ os. AreStatuses a.guesses os status) (sym same.opens) are)

    pub takes_from : (d : Deed K V O) (mark : Option ℕ) (b : Parts K V O) → Takes R m d mark b → Takes R a d mark b
    takes_from d mark b t = record {
      takes = λ status are.
          subst (λ (x : Machine K V (ℕ × O)). MergedTakes (again R) x (record { deed = d; guess = mark }) (machine_of R b (with_drawn mark status))) (sym (same_machine status))
          (t.takes status (same_statuses status are));
      agrees = λ status are. t.agrees status (same_statuses status are);
      guesses = t.guesses ∙ ap (drawn_by mark) same.guesses;
      numbered = t.numbered ∙ ap (λ os. numbers os ++ marks mark) same.opens;
    }

    commits_from : (g : ℕ) (b : Parts K V O) → Commits R m g b → Commits R a g b
    commits_from g b c = record {
      undecided = ap (λ os. has g (numbers os)) (sym same.opens) ∙ c.undecided;
      commits = λ status are.
          subst (λ (x : Machine K V (ℕ × O)). MergedCommits x g (machine_of R b (with_status g Committed status))) (sym (same_machine status)) (c.commits status (same_statuses status are));
      agrees = λ status are. c.agrees status (same_statuses status are);
      guesses = c.guesses ∙ same.guesses;
      opens = c.opens ∙ ap (still_open g) same.opens;
    }

    fails_from : (g : ℕ) (b : Parts K V O) → FailsIn R m g b → FailsIn R a g b
    fails_from g b f = record {
      undecided = ap (λ os. has g (numbers os)) (sym same.opens) ∙ f.undecided;
      fails = λ status are.
          subst (λ (os : List Open). Fails (machine_of R a status) g (machine_of R b (with_failure g os status))) same.opens
          (subst (λ (x : Machine K V (ℕ × O)). Fails x g (machine_of R b (with_failure g m.opens status))) (sym (same_machine status)) (f.fails status (same_statuses status are)));
      agrees = λ status are. subst (λ (os : List Open). AreStatuses b.guesses b.opens (with_failure g os status)) same.opens (f.agrees status (same_statuses status are));
      guesses = f.guesses ∙ (λ i. with_struck g (same.opens i) (same.guesses i));
      opens = f.opens ∙ ap (not_struck g) same.opens;
    }

  -- to parts that look the same too
  pub takes_to : (a m b : Parts K V O) (d : Deed K V O) (mark : Option ℕ) → IsSame R m b → Takes R a d mark m → Takes R a d mark b
  takes_to a m b d mark same t = record {
    takes = λ status are. subst (MergedTakes (again R) (machine_of R a status) (record { deed = d; guess = mark })) (same_machine m b same (with_drawn mark status)) (t.takes status are);
    agrees = λ status are. same_statuses m b same (with_drawn mark status) (t.agrees status are);
    guesses = same.guesses ∙ t.guesses;
    numbered = ap numbers same.opens ∙ t.numbered;
  }

module _ {K V O F N : Type 0} (own : System K V (ℕ × O) F N) where
  happens_from : (a m : Parts K V O) (e : Event N) (b : Parts K V O) → IsSame own.order a m → Happens own m e b → Happens own a e b
  happens_from a m (Taken n) b same h = record {
    deed = h.deed;
    honest = subst (λ look. perform look (own.act n) ≡ Ok (effect_of look h.deed)) (sym (same_look own.order a m same)) h.honest;
    mark = marked h.mark;
    takes = takes_from own.order a m same h.deed (own.mark n) b h.takes;
  } where
    marked : (own.mark n ≡ None) ⊎ (own.mark n ≡ Some (next_of m.guesses)) → (own.mark n ≡ None) ⊎ (own.mark n ≡ Some (next_of a.guesses))
    marked (inl none) = inl none
    marked (inr next) = inr (next ∙ ap (λ v. Some (next_of v)) same.guesses)
  happens_from a m (Commit g) b same h = commits_from own.order a m same g b h
  happens_from a m (Fail g) b same h = fails_from own.order a m same g b h

  -- where calls lead that begin at parts that look the same
  abbrev pub Leads : Told O → Parts K V O → List (Call N O) → Told O → Parts K V O → Type 0
  Leads told a cs last b = (c : Parts K V O) × Calls own told a cs last c × IsSame own.order c b

  pub leads_from : (told : Told O) (a m : Parts K V O) (cs : List (Call N O)) (last : Told O) (b : Parts K V O) → IsSame own.order a m → Leads told m cs last b → Leads told a cs last b
  leads_from told a m [] last b same (c, (t, is), to) = (a, (t, refl), same_in_turn own.order a m b same (subst (λ p. IsSame own.order p b) (sym is) to))
  leads_from told a m (Does e ∷ cs) last b same (c, (n, h, rest), to) = (c, (n, happens_from a m e n same h, rest), to)
  leads_from told a m (Tells t output ∷ cs) last b same (c, (n, out, rest), to) =
      let next : Parts K V O = record a { said = n.said } in
      let after = leads_from (told_more t output told) next n cs last b (record {
        look = λ k. ap (λ (p : Parts K V O). look_at own.order p.slots k) out.same ∙ same.look k;
        logs = λ k. ap (λ (p : Parts K V O). log_at own.order p.slots k) out.same ∙ same.logs k;
        guesses = ap (λ (p : Parts K V O). p.guesses) out.same ∙ same.guesses;
        opens = ap (λ (p : Parts K V O). p.opens) out.same ∙ same.opens;
        said = refl;
      }) (c, rest, to) in (
        after.0,
        (
          next,
          record {
            first = ap (λ s. said_at s t) (sym same.said) ∙ out.first;
            others = λ u other. out.others u other ∙ ap (λ s. said_at s u) same.said;
            same = refl;
          },
          after.1,
        ),
        after.2,
      )
  leads_from told a m (Returns g ∷ cs) last b same (c, (n, h, rest), to) =
      let next : Parts K V O = record a { guesses = record a.guesses { struck = without g a.guesses.struck } } in
      let after = leads_from told next n cs last b (record {
        look = λ k. ap (λ (p : Parts K V O). look_at own.order p.slots k) h.left ∙ same.look k;
        logs = λ k. ap (λ (p : Parts K V O). log_at own.order p.slots k) h.left ∙ same.logs k;
        guesses = ap (λ (p : Parts K V O). p.guesses) h.left ∙ ap (λ (v : KeptView). record v { struck = without g v.struck }) same.guesses;
        opens = ap (λ (p : Parts K V O). p.opens) h.left ∙ same.opens;
        said = ap (λ (p : Parts K V O). p.said) h.left ∙ same.said;
      }) (c, rest, to) in
      (after.0, (next, record { struck = ap (λ (v : KeptView). has g v.struck) (sym same.guesses) ∙ h.struck; left = refl }, after.1), after.2)
