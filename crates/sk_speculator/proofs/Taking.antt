-- A step that is taken, with a guess of its own or none, and one that is refused.
use Rattle.sk_speculator.proofs.Names.{◌≡◌, ℕ, suc, length, ◌<◌, ◌≤◌, true, false, nat_lt, ◌||◌, List, [], ◌∷◌}
use Rattle.sk_speculator.proofs.Names.{◌++◌, Option, Some, None, refl, sym, ◌∙◌, ap, subst, arith, IsStrictlySortedBy}
use Rattle.sk_speculator.proofs.Names.{nat_cmp, Ordering, IsTotalOrder, IsAntisymmetric, false≢true, eq-eqb, ltb-true}
use Rattle.sk_speculator.proofs.Names.{ltb-false, or_left, or_right, append-nil, is_in, is_marked, has, last_tags}
use Rattle.sk_speculator.proofs.Names.{with_drawn, marks, Open, numbers, Status, tags_by, with_tags, AllExact}
use Rattle.sk_speculator.proofs.Names.{with_entities, KeptView, AreStatuses, one_drawn, keys_of, OpenGuess, open_in}
use Rattle.sk_speculator.proofs.Names.{opens_of, exact_as, more_rises, Deed, SlotView, look_at, log_at, AllSettled}
use Rattle.sk_speculator.proofs.Names.{Said, Parts, any_rests, Performed, IsSame, IsSound, says, next_of, Takes}
use Rattle.sk_speculator.proofs.Names.{first_tags, made_by, written_value, GoesOn}
use Rattle.std.proofs.lemmas.List.{nil_from_length}
use Rattle.std.specs.Prelude.{Result, Ok, Err, OnOk, OnErr}
use Rattle.sk_speculator.proofs.Writing.{goes_members, keys_made, performed_on, tags_same}
use Rattle.sk_speculator.proofs.Afterwards.{clean_at, exact_guessed, exact_taken, next_above, next_closed, no_next, not_known, opens_rise, performed_same, tags_are, takes_so, tidy, whole_same, whole_taken}

-- an undecided guess was drawn
drawn_by_now : (drawn g : ℕ) (o : Option Status) → (drawn < g → o ≡ None) → open_in o ≡ true → g ≤ drawn
drawn_by_now drawn g o fresh undecided =
    elim (nat_lt drawn g) as (λ b. nat_lt drawn g ≡ b → g ≤ drawn) [
      | true ↦ λ above. absurd (false≢true (sym (ap open_in (fresh (ltb-true drawn g above))) ∙ undecided))
      | false ↦ λ below. ltb-false drawn g below
    ] refl

pub opens_length : {E : Type 0} (os : List (OpenGuess E)) → length (opens_of os) ≡ length os
opens_length [] = refl
opens_length (o ∷ os) = ap suc (opens_length os)

numbers_more : (os : List Open) (o : Open) → numbers (os ++ o ∷ []) ≡ numbers os ++ o.0 ∷ []
numbers_more [] o = refl
numbers_more (x ∷ os) o = ap (λ ns. x.0 ∷ ns) (numbers_more os o)

opens_more : {E : Type 0} (os : List (OpenGuess E)) (o : OpenGuess E) → opens_of (os ++ o ∷ []) ≡ opens_of os ++ (o.id, o.tags) ∷ []
opens_more [] o = refl
opens_more (x ∷ os) o = ap (λ ps. (x.id, x.tags) ∷ ps) (opens_more os o)

module _ {K V O : Type 0} {R : K → K → Ordering} (total : IsTotalOrder R) (exact : IsAntisymmetric R) (a : Parts K V O) (lists : List (OpenGuess K)) (sound : IsSound R a lists) where
  -- nothing that is seen has changed
  pub sound_refused : (b : Parts K V O) (new : List (OpenGuess K)) → IsSame R a b → AllSettled R b.slots → AllExact R (tags_by (log_at R a.slots)) new → IsSound R b new
  sound_refused b new same settled exactly = record {
    settled = settled;
    exact = exact_as total exact (tags_by (log_at R a.slots)) (tags_by (log_at R b.slots)) (λ k. ap (last_tags []) (sym (same.logs k))) new exactly;
    whole = whole_same total exact a sound.whole b same;
  }

  abbrev pub AreMembers : Deed K V O → Option ℕ → List ℕ → Type 0
  AreMembers d mark tags = (g : ℕ) → has g tags ≡ ((is_marked mark g || any_rests R a.slots g d.looked) || any_rests R a.slots g (keys_of d.written))

  -- what is written without tags has no notes
  pub clean : (d : Deed K V O) (mark : Option ℕ) (tags : List ℕ) → AreMembers d mark tags → (q : K) → is_in R (keys_of d.written) q ≡ true → tags ≡ [] → log_at R a.slots q ≡ []
  clean d mark tags members = clean_at total exact a (keys_of d.written) tags (tidy total exact a sound.whole) (λ n rests. members n ∙ or_right _ _ rests)

  -- with the next number the open guesses rise still
  pub none_rises : IsStrictlySortedBy nat_cmp (numbers a.opens ++ marks None)
  none_rises = subst (IsStrictlySortedBy nat_cmp) (sym (append-nil (numbers a.opens))) (opens_rise total exact a sound.whole)

  pub next_rises : IsStrictlySortedBy nat_cmp (numbers a.opens ++ marks (Some (next_of a.guesses)))
  next_rises =
      more_rises (numbers a.opens) (next_of a.guesses) (opens_rise total exact a sound.whole) (λ g here.
      let le = drawn_by_now a.guesses.drawn g (sound.whole.status g) (sound.whole.agrees.fresh g) (sym (sound.whole.agrees.undecided g) ∙ here) in omega (arith, le))

  module _ (b : Parts K V O) (mid : List (K × SlotView V)) (d : Deed K V O) (tags : List ℕ) (look : (q : K) → look_at R mid q ≡ look_at R a.slots q) (log : (q : K) → log_at R mid q ≡ log_at R a.slots q) (rises : IsStrictlySortedBy nat_cmp tags)
      (did : Performed R mid tags d.written b.slots) (said : b.said ≡ says d.said tags a.said) (settled : AllSettled R b.slots) where
    done : Performed R a.slots tags d.written b.slots
    done = performed_same total exact a mid b.slots tags d.written look log did

    pub taken : AreMembers d None tags → b.guesses ≡ a.guesses → b.opens ≡ a.opens → Takes R a d None b
    taken members guesses opens =
        let is = tags_are total exact a d None tags (tidy total exact a sound.whole) none_rises rises members in
        record {
          takes = λ status _. takes_so total exact a b d None tags is done (opens ∙ sym (append-nil a.opens)) said status;
          agrees = λ status are. subst (λ v. AreStatuses v b.opens status) (sym guesses) (subst (λ os. AreStatuses a.guesses os status) (sym opens) are);
          guesses = guesses;
          numbered = ap numbers opens ∙ sym (append-nil (numbers a.opens));
        }

    pub sound_taken : (new : List (OpenGuess K)) → AreMembers d None tags → Takes R a d None b → AllExact R (with_tags R tags (keys_of d.written) (tags_by (log_at R a.slots))) new → IsSound R b new
    sound_taken new members t exactly = record {
      settled = settled;
      exact = exact_taken total exact a sound.whole b.slots tags d.written new (clean d None tags members) done exactly;
      whole = whole_taken total exact a sound.whole b d None (no_next a.guesses.drawn) t;
    }

    pub guessed : AreMembers d (Some (next_of a.guesses)) tags → b.guesses ≡ one_drawn a.guesses → b.opens ≡ a.opens ++ (next_of a.guesses, tags) ∷ []
        → ((status : ℕ → Option Status) → AreStatuses a.guesses a.opens status → AreStatuses b.guesses b.opens (with_drawn (Some (next_of a.guesses)) status)) → Takes R a d (Some (next_of a.guesses)) b
    guessed members guesses opens agrees =
        let is = tags_are total exact a d (Some (next_of a.guesses)) tags (tidy total exact a sound.whole) next_rises rises members in
        record { takes = λ status _. takes_so total exact a b d (Some (next_of a.guesses)) tags is done opens said status; agrees = agrees; guesses = guesses; numbered = ap numbers opens ∙ numbers_more a.opens (next_of a.guesses, tags) }

    pub sound_guessed : (new : List (OpenGuess K)) (o : OpenGuess K) → AreMembers d (Some (next_of a.guesses)) tags → Takes R a d (Some (next_of a.guesses)) b
        → o.dependents ≡ with_entities R [] (keys_of d.written) → o.id ≡ next_of a.guesses → has o.id tags ≡ true → AllExact R (with_tags R tags (keys_of d.written) (tags_by (log_at R a.slots))) new → IsSound R b (new ++ o ∷ [])
    sound_guessed new o members t begins number own exactly = record {
      settled = settled;
      exact =
          exact_guessed total exact a sound.whole b.slots tags d.written new o (clean d (Some (next_of a.guesses)) tags members) done begins own
          (ap (λ n. has n (numbers a.opens)) number ∙ next_closed total exact a sound.whole) exactly;
      whole = whole_taken total exact a sound.whole b d (Some (next_of a.guesses)) (next_above a.guesses.drawn) t;
    }

  module _ (mid slots : List (K × SlotView V)) (d : Deed K V O) (tags : List ℕ) (asked : KeptView) (new : List (OpenGuess K)) (before said : Said O) (look : (q : K) → look_at R mid q ≡ look_at R a.slots q) (log : (q : K) → log_at R mid q ≡ log_at R a.slots q)
      (view : asked ≡ a.guesses) (opens : opens_of new ≡ a.opens) (same : before ≡ a.said) (rises : IsStrictlySortedBy nat_cmp tags) (did : Performed R mid tags d.written slots) (says_so : said ≡ says d.said tags before)
      (settled : AllSettled R slots) (exactly : AllExact R (with_tags R tags (keys_of d.written) (tags_by (log_at R a.slots))) new) where
    said_is : said ≡ says d.said tags a.said
    said_is = says_so ∙ ap (says d.said tags) same

    -- after a step
    pub after_take : AreMembers d None tags
        → Takes R a d None (record { slots = slots; guesses = asked; opens = opens_of new; said = said }) × IsSound R (record { slots = slots; guesses = asked; opens = opens_of new; said = said }) new
    after_take members =
        let b : Parts K V O = record { slots = slots; guesses = asked; opens = opens_of new; said = said } in
        let t = taken b mid d tags look log rises did said_is settled members view opens in
        (t, sound_taken b mid d tags look log rises did said_is settled new members t exactly)

    -- after a guess
    pub after_guess : (own : List ℕ) (id : ℕ) (drawn : KeptView) (all : List (OpenGuess K)) (ds : List K) → id ≡ next_of a.guesses → AreMembers d (Some id) tags → own ≡ tags → drawn ≡ one_drawn asked
        → all ≡ new ++ record { id = id; tags = own; dependents = with_entities R [] ds } ∷ [] → ds ≡ keys_of d.written
        → ((status : ℕ → Option Status) → AreStatuses asked (opens_of new) status → AreStatuses drawn (opens_of all) (with_drawn (Some id) status))
        → Takes R a d (Some (next_of a.guesses)) (record { slots = slots; guesses = drawn; opens = opens_of all; said = said }) × IsSound R (record { slots = slots; guesses = drawn; opens = opens_of all; said = said }) all
    after_guess own id drawn all ds number members copied view_after opens_after written statuses =
        let o : OpenGuess K = record { id = id; tags = own; dependents = with_entities R [] ds } in
        let b : Parts K V O = record { slots = slots; guesses = drawn; opens = opens_of (new ++ o ∷ []); said = said } in
        let next = next_of a.guesses in
        let members_next = subst (λ k. AreMembers d (Some k) tags) number members in
        let guesses : drawn ≡ one_drawn a.guesses = view_after ∙ ap one_drawn view in
        let opens_now : b.opens ≡ a.opens ++ (next, tags) ∷ [] = opens_more new o ∙ (λ i. opens i ++ (number i, copied i) ∷ []) in
        let agrees : (status : ℕ → Option Status) → AreStatuses a.guesses a.opens status → AreStatuses b.guesses b.opens (with_drawn (Some next) status) = λ status are.
        let before_it = subst (λ v. AreStatuses v (opens_of new) status) (sym view) (subst (λ os. AreStatuses a.guesses os status) (sym opens) are) in
        subst (λ k. AreStatuses drawn b.opens (with_drawn (Some k) status)) number (subst (λ os. AreStatuses drawn (opens_of os) (with_drawn (Some id) status)) opens_after (statuses status before_it)) in
        let t = guessed b mid d tags look log rises did said_is settled members_next guesses opens_now agrees in
        let own_tag : has id tags ≡ true = members id ∙ or_left _ _ (or_left _ _ (eq-eqb id id refl)) in
        let sound_b = sound_guessed b mid d tags look log rises did said_is settled new o members_next t (ap (with_entities R []) written) number own_tag exactly in (
          subst (λ os. Takes R a d (Some next) (record { slots = slots; guesses = drawn; opens = opens_of os; said = said })) (sym opens_after) t,
          subst (λ os. IsSound R (record { slots = slots; guesses = drawn; opens = opens_of os; said = said }) os) (sym opens_after) sound_b,
        )

-- ---- a step where no guess is undecided
rests_on_none : {K V : Type 0} (R : K → K → Ordering) (m : List (K × SlotView V)) (g : ℕ) → ((k : K) → has g (last_tags [] (log_at R m k)) ≡ false) → (ks : List K) → any_rests R m g ks ≡ false
rests_on_none R m g free [] = refl
rests_on_none R m g free (k ∷ ks) = λ i. free k i || rests_on_none R m g free ks i

no_lists : {E : Type 0} (os : List (OpenGuess E)) → opens_of os ≡ [] → os ≡ []
no_lists os none = nil_from_length os (sym (opens_length os) ∙ ap length none)

module _ {K V O : Type 0} {R : K → K → Ordering} (total : IsTotalOrder R) (exact : IsAntisymmetric R) (a : Parts K V O) (lists : List (OpenGuess K)) (sound : IsSound R a lists) (kept : a.opens ≡ opens_of lists) (none : a.opens ≡ []) where
  -- its keys depend on nothing
  alone_members : (d : Deed K V O) (g : ℕ) → has g [] ≡ ((is_marked None g || any_rests R a.slots g d.looked) || any_rests R a.slots g (keys_of d.written))
  alone_members d g =
      let free : (k : K) → has g (last_tags [] (log_at R a.slots k)) ≡ false = not_known total exact a sound.whole g (ap (λ os. has g (numbers os)) none) in
      sym (λ i. (is_marked None g || rests_on_none R a.slots g free d.looked i) || rests_on_none R a.slots g free (keys_of d.written) i)

  pub alone_clean : (d : Deed K V O) (q : K) → is_in R (keys_of d.written) q ≡ true → log_at R a.slots q ≡ []
  alone_clean d q here = clean total exact a lists sound d None [] (alone_members d) q here refl

  module _ (slots : List (K × SlotView V)) (said : Said O) (settled : AllSettled R slots) where
    abbrev b : Parts K V O
    b = record { slots = slots; guesses = a.guesses; opens = opens_of lists; said = said }

    took : (d : Deed K V O) → Performed R a.slots [] d.written slots → said ≡ says d.said [] a.said → Takes R a d None b × IsSound R b lists
    took d did says_so =
        after_take total exact a lists sound a.slots slots d [] a.guesses lists a.said said (λ q. refl) (λ q. refl) refl (sym kept) refl
        (subst (λ os. IsStrictlySortedBy nat_cmp (numbers os)) none (opens_rise total exact a sound.whole)) did says_so settled
        (subst (AllExact R (with_tags R [] (keys_of d.written) (tags_by (log_at R a.slots)))) (sym (no_lists lists (sym kept ∙ none))) tt) (alone_members d)

    same_as : ((q : K) → look_at R slots q ≡ look_at R a.slots q) → ((q : K) → log_at R slots q ≡ log_at R a.slots q) → said ≡ a.said → IsSame R a b
    same_as look log same = record { look = look; logs = log; guesses = refl; opens = sym kept; said = same }

    -- taken or refused
    pub alone_sound : {A E : Type 0} (r : Result A E) (d : Deed K V O) → OnOk r (Performed R a.slots [] d.written slots) → OnOk r (said ≡ says d.said [] a.said)
        → OnErr r ((q : K) → look_at R slots q ≡ look_at R a.slots q) → OnErr r ((q : K) → log_at R slots q ≡ log_at R a.slots q) → OnErr r (said ≡ a.said)
        → IsSound R (record { slots = slots; guesses = a.guesses; opens = opens_of lists; said = said }) lists
    alone_sound (Ok x) d did says_so look log same = (took d did says_so).1
    alone_sound (Err why) d did says_so look log same = sound_refused total exact a lists sound b lists (same_as look log same) settled sound.exact

    pub alone_takes : {A E : Type 0} (r : Result A E) (d : Deed K V O) → OnOk r (Performed R a.slots [] d.written slots) → OnOk r (said ≡ says d.said [] a.said)
        → OnOk r (Takes R a d None (record { slots = slots; guesses = a.guesses; opens = opens_of lists; said = said }))
    alone_takes (Ok x) d did says_so = (took d did says_so).0
    alone_takes (Err why) d did says_so = tt

    pub alone_same : {A E : Type 0} (r : Result A E) → OnErr r ((q : K) → look_at R slots q ≡ look_at R a.slots q) → OnErr r ((q : K) → log_at R slots q ≡ log_at R a.slots q) → OnErr r (said ≡ a.said)
        → OnErr r (IsSame R a (record { slots = slots; guesses = a.guesses; opens = opens_of lists; said = said }))
    alone_same (Ok x) look log same = tt
    alone_same (Err why) look log same = same_as look log same

-- ---- a step that goes on where its keys stand
module _ {K V O W : Type 0} {R : K → K → Ordering} (total : IsTotalOrder R) (exact : IsAntisymmetric R) (a : Parts K V O) (lists : List (OpenGuess K)) (sound : IsSound R a lists) (kept : a.opens ≡ opens_of lists)
    (made : W → Option V → Option V) (looked : List K) (ws : List (K × W)) (output : Option (ℕ × O)) (goes : GoesOn R a.slots looked (keys_of ws)) (rises : IsStrictlySortedBy nat_cmp (first_tags R a.slots (keys_of ws))) where
  abbrev tags : List ℕ
  tags = first_tags R a.slots (keys_of ws)

  abbrev d : Deed K V O
  d = record { looked = looked; written = made_by R made (look_at R a.slots) ws; said = output }

  keys : keys_of d.written ≡ keys_of ws
  keys = keys_made R made (look_at R a.slots) ws

  members : AreMembers total exact a lists sound d None tags
  members g = goes_members {R = R} total a.slots looked (keys_of ws) goes g ∙ ap (λ ks. (false || any_rests R a.slots g looked) || any_rests R a.slots g ks) (sym keys)

  exactly : AllExact R (with_tags R tags (keys_of d.written) (tags_by (log_at R a.slots))) lists
  exactly =
      subst (λ ks. AllExact R (with_tags R tags ks (tags_by (log_at R a.slots))) lists) (sym keys)
      (exact_as total exact (tags_by (log_at R a.slots)) (with_tags R tags (keys_of ws) (tags_by (log_at R a.slots))) (tags_same R (log_at R a.slots) tags (keys_of ws) goes.unnoted) lists sound.exact)

  module _ (slots : List (K × SlotView V)) (said : Said O) (settled : AllSettled R slots) (log : (q : K) → log_at R slots q ≡ log_at R a.slots q) where
    abbrev on : Parts K V O
    on = record { slots = slots; guesses = a.guesses; opens = opens_of lists; said = said }

    took_on : ((q : K) → look_at R slots q ≡ written_value R d.written q (look_at R a.slots q)) → said ≡ says output tags a.said → Takes R a d None on × IsSound R on lists
    took_on look says_so =
        after_take total exact a lists sound a.slots slots d tags a.guesses lists a.said said (λ q. refl) (λ q. refl) refl (sym kept) refl rises
        (performed_on R made a.slots slots tags ws (λ q here none. clean total exact a lists sound d None tags members q (ap (λ ks. is_in R ks q) keys ∙ here) none) goes.unnoted look log)
        says_so settled exactly members

    same_on : slots ≡ a.slots → said ≡ a.said → IsSame R a on
    same_on same says_so = record { look = λ q. ap (λ m. look_at R m q) same; logs = log; guesses = refl; opens = sym kept; said = says_so }

    -- taken or refused
    pub on_sound : {A E : Type 0} (r : Result A E) → OnOk r ((q : K) → look_at R slots q ≡ written_value R d.written q (look_at R a.slots q)) → OnOk r (said ≡ says output tags a.said)
        → OnErr r (slots ≡ a.slots) → OnErr r (said ≡ a.said) → IsSound R (record { slots = slots; guesses = a.guesses; opens = opens_of lists; said = said }) lists
    on_sound (Ok x) look says_so same told = (took_on look says_so).1
    on_sound (Err why) look says_so same told = sound_refused total exact a lists sound on lists (same_on same told) settled sound.exact

    pub on_takes : {A E : Type 0} (r : Result A E) → OnOk r ((q : K) → look_at R slots q ≡ written_value R d.written q (look_at R a.slots q)) → OnOk r (said ≡ says output tags a.said)
        → OnOk r (Takes R a (record { looked = looked; written = made_by R made (look_at R a.slots) ws; said = output }) None (record { slots = slots; guesses = a.guesses; opens = opens_of lists; said = said }))
    on_takes (Ok x) look says_so = (took_on look says_so).0
    on_takes (Err why) look says_so = tt

    pub on_same : {A E : Type 0} (r : Result A E) → OnErr r (slots ≡ a.slots) → OnErr r (said ≡ a.said) → OnErr r (IsSame R a (record { slots = slots; guesses = a.guesses; opens = opens_of lists; said = said }))
    on_same (Ok x) same told = tt
    on_same (Err why) same told = same_on same told

-- where no guess is undecided no key depends on any
pub idle_rests : {K V O : Type 0} {R : K → K → Ordering} (total : IsTotalOrder R) (exact : IsAntisymmetric R) (a : Parts K V O) (lists : List (OpenGuess K)) → IsSound R a lists → a.opens ≡ [] → (ks : List K) (g : ℕ)
    → any_rests R a.slots g ks ≡ false
idle_rests {R = R} total exact a lists sound none ks g = rests_on_none R a.slots g (not_known total exact a sound.whole g (ap (λ os. has g (numbers os)) none)) ks
