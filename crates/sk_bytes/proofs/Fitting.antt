-- Numbers come and go: what is told stays.
use Rattle.sk_bytes.proofs.Names.{same_Some, ◌≡◌, ◌<◌, ℕ, true, false, List, [], ◌∷◌, ◌++◌, Option, Some, None, Ok}
use Rattle.sk_bytes.proofs.Names.{cond, refl, sym, ◌∙◌, ap, subst, inl, inr, ◌==◌, ◌⊎◌, ◌&&◌, ◌||◌, Bool, not, is_none}
use Rattle.sk_bytes.proofs.Names.{IfErr, OnErr, Result, Err, nat_cmp, eq_by_cmp, nat_cmp_total, unsigned_tied, entries}
use Rattle.sk_bytes.proofs.Names.{nat_cmp-IsAntisymmetric, Vec, ne_eqb, or_parts, true≢false, list_any, put, is_in}
use Rattle.sk_bytes.proofs.Names.{written_value, Effect, Note, has, without, noted, cut, unwound, committed, Merges}
use Rattle.sk_bytes.proofs.Names.{none_drawn, Deed, performs, at_key, AreWrites, SlotView, look_at, log_at, Numbered}
use Rattle.sk_bytes.proofs.Names.{number_of, string_of, some_none, Parts, IsSame, Takes, Commits, FailsIn, Forgets}
use Rattle.sk_bytes.proofs.Names.{Refuses, shown, slot_shown, slots_told, told_of, strings_of, AllRest, IsTwoWay}
use Rattle.sk_bytes.proofs.Names.{ByteView, Fits, IsTold, UsedBut, LetsGo, Gains, AreNames, names, has_long_key}
use Rattle.sk_bytes.proofs.Names.{refusal_of, RefusesGuess, RefusesNext, Unchanged, Refusal, TooMany, NoNumber, Memory}
use Rattle.sk_bytes.proofs.Names.{WholeStep, Inner, Ordering, whole_committed, whole_failed, whole_first}
use Rattle.sk_bytes.proofs.Names.{whole_forgotten, whole_same, whole_taken}
use Rattle.sk_speculator.specs.declared.refusal.Refusal.TheVariants as inner
use Rattle.sk_bytes.proofs.Told.{none_shown, same_told}
use Rattle.sk_bytes.proofs.Rests.{taken_rest, committed_rest, cut_rest}

-- ---- the same is told where strings have the same slots

module _ {V : Type 0} (es fs : Numbered) (slots : List (ℕ × SlotView V)) where
  -- a number has the same string, or nothing is known of it
  abbrev pub Alike : ℕ → Type 0
  Alike n = (string_of fs n ≡ string_of es n) ⊎ (slot_shown slots n ≡ None)

  gone : (q : List ℕ) (n : ℕ) → IsTwoWay es → IsTwoWay fs → Alike n → number_of fs q ≡ None → number_of es q ≡ Some n → None ≡ slot_shown slots n
  gone q n one two (inl same) here there = some_none n (sym (two.back q n (same ∙ one.there q n there)) ∙ here)
  gone q n one two (inr bare) here there = sym bare

  come : (q : List ℕ) (n : ℕ) → IsTwoWay es → IsTwoWay fs → Alike n → number_of fs q ≡ Some n → number_of es q ≡ None → slot_shown slots n ≡ None
  come q n one two (inl same) here there = some_none n (sym (one.back q n (sym same ∙ two.there q n here)) ∙ there)
  come q n one two (inr bare) here there = bare

  both : (q : List ℕ) (n m : ℕ) → IsTwoWay es → IsTwoWay fs → Alike n → Alike m → number_of fs q ≡ Some n → number_of es q ≡ Some m → slot_shown slots n ≡ slot_shown slots m
  both q n m one two (inl same) other here there = ap (slot_shown slots) (same_Some n m (sym (one.back q n (sym same ∙ two.there q n here)) ∙ there))
  both q n m one two (inr bare) (inl same) here there = ap (slot_shown slots) (same_Some n m (sym here ∙ two.back q m (same ∙ one.there q m there)))
  both q n m one two (inr bare) (inr none) here there = bare ∙ sym none

  by_numbers : (q : List ℕ) → IsTwoWay es → IsTwoWay fs → ((n : ℕ) → Alike n) → (x y : Option ℕ) → number_of fs q ≡ x → number_of es q ≡ y → at_key None (slot_shown slots) x ≡ at_key None (slot_shown slots) y
  by_numbers q one two alike None None here there = refl
  by_numbers q one two alike None (Some n) here there = gone q n one two (alike n) here there
  by_numbers q one two alike (Some n) None here there = come q n one two (alike n) here there
  by_numbers q one two alike (Some n) (Some m) here there = both q n m one two (alike n) (alike m) here there

  pub alike_told : IsTwoWay es → IsTwoWay fs → ((n : ℕ) → Alike n) → slots_told fs slots ≡ slots_told es slots
  alike_told one two alike = same_told es fs slots (λ q. by_numbers q one two alike (number_of fs q) (number_of es q) refl refl)

  -- ---- numbers that go

  still_alike : (n : ℕ) (some : Bool) (slot : Option (SlotView V)) → slot_shown slots n ≡ slot → string_of fs n ≡ cond (some && is_none slot) None (string_of es n) → Alike n
  still_alike n false slot is left = inl left
  still_alike n true None is left = inr is
  still_alike n true (Some s) is left = inl left

  pub gone_alike : (some : ℕ → Bool) → LetsGo es some slots fs → (n : ℕ) → Alike n
  gone_alike some goes n = still_alike n (some n) (slot_shown slots n) refl (goes.strings n)

  alike_used : (n : ℕ) → (string_of es n ≡ None → slot_shown slots n ≡ None) → Alike n → string_of fs n ≡ None → slot_shown slots n ≡ None
  alike_used n used (inl same) none = used (sym same ∙ none)
  alike_used n used (inr bare) none = bare

  -- ---- and come

  new_alike : (loose : List ℕ) (n : ℕ) → (string_of es n ≡ None → slot_shown slots n ≡ None) → ((string_of fs n ≡ string_of es n) ⊎ ((string_of es n ≡ None) × (is_in nat_cmp loose n ≡ true))) → Alike n
  new_alike loose n used (inl same) = inl same
  new_alike loose n used (inr added) = inr (used added.0)

module _ {V O : Type 0} (es fs : Numbered) (m : Parts ℕ V O) where
  fits_alike : Fits es m → IsTwoWay fs → ((n : ℕ) → Alike es fs m.slots n) → Fits fs m × (told_of fs m ≡ told_of es m)
  fits_alike fits two alike = (
    record {
      two_way = two;
      rests = fits.rests;
      used = λ n none. alike_used es fs m.slots n (fits.used n) (alike n) none;
      whole = fits.whole;
    },
    λ i. record { slots = entries (alike_told es fs m.slots fits.two_way two alike i); guesses = m.guesses; opens = m.opens; said = m.said },
  )

  pub fits_less : (some : ℕ → Bool) → Fits es m → LetsGo es some m.slots fs → Fits fs m × (told_of fs m ≡ told_of es m)
  fits_less some fits goes = fits_alike fits goes.two_way (gone_alike es fs m.slots some goes)

  pub fits_more : (loose : List ℕ) → Fits es m → Gains es loose fs → Fits fs m × (told_of fs m ≡ told_of es m)
  fits_more loose fits gains = fits_alike fits gains.two_way (λ n. new_alike es fs m.slots loose n (fits.used n) (gains.strings n))

-- nothing is loose
pub none_held : (es : Numbered) (n : ℕ) → is_in nat_cmp [] n ≡ true → string_of es n ≡ None → ⊥
none_held es n here none = absurd (cc)

-- ---- the kernel inside

module _ {V O : Type 0} (es : Numbered) (a b : Parts ℕ V O) where
  pub shown_same : IsSame nat_cmp a b → (n : ℕ) → slot_shown b.slots n ≡ slot_shown a.slots n
  shown_same same n i = shown (same.look n i) (same.logs n i)

  slots_same : (fs : Numbered) → IsSame nat_cmp a b → slots_told fs b.slots ≡ slots_told fs a.slots
  slots_same [] same = refl
  slots_same (e ∷ fs) same = λ i. put (slots_same fs same i) e.0 (shown_same same e.1 i)

  pub fits_same : Fits es a → IsSame nat_cmp a b → Fits es b × (told_of es b ≡ told_of es a)
  fits_same fits same = (
    record {
      two_way = fits.two_way;
      rests = λ n. subst AllRest (sym (same.logs n)) (fits.rests n);
      used = λ n none. shown_same same n ∙ fits.used n none;
      whole = whole_same nat_cmp_total nat_cmp-IsAntisymmetric a fits.whole b same;
    },
    λ i. record { slots = entries (slots_same es same i); guesses = same.guesses i; opens = same.opens i; said = same.said i },
  )

module _ {V : Type 0} where
  pub shown_none : (v : Option V) (log : List (Note V)) → shown v log ≡ None → (v ≡ None) × (log ≡ [])
  shown_none None [] is = (refl, refl)
  shown_none None (n ∷ ns) is = some_none _ is
  shown_none (Some v) log is = some_none _ is

  nothing_from : (log : List (Note V)) → Merges [] [] log → log ≡ []
  nothing_from [] from = refl
  nothing_from (n ∷ ns) from = absurd from

  unnoted : (b : Bool) (old new : List (Note V)) (tags : List ℕ) (v : Option V) → b ≡ false → old ≡ [] → Merges [] (old ++ noted b tags v []) new → new ≡ []
  unnoted b old new tags v out none merges =
      nothing_from new (subst (λ log. Merges [] (log ++ noted false tags v []) new) none (subst (λ c. Merges [] (old ++ noted c tags v []) new) out merges))

  pub unwritten : (ws : List (ℕ × Option V)) (n : ℕ) (v : Option V) → is_in nat_cmp (names ws) n ≡ false → written_value nat_cmp ws n v ≡ v
  unwritten [] n v out = refl
  unwritten (w ∷ ws) n v out =
      elim (eq_by_cmp nat_cmp n w.0) as (λ b. (b || is_in nat_cmp (names ws) n) ≡ false → written_value nat_cmp ws n (cond b w.1 v) ≡ v) [
        | true ↦ λ e. absurd (cc)
        | false ↦ λ e. unwritten ws n v e
      ] out

  -- what is set last is there
  stays_set : (ws : List (ℕ × Option V)) (n : ℕ) (v : Option V) → list_any (λ w. is_none w.1) ws ≡ false → is_none v ≡ false → written_value nat_cmp ws n v ≡ None → ⊥
  stays_set [] n v set some none = true≢false (sym (ap is_none none) ∙ some)
  stays_set (w ∷ ws) n v set some none =
      let parts = or_parts (is_none w.1) (list_any (λ x. is_none x.1) ws) set in
      elim (eq_by_cmp nat_cmp n w.0) as (λ b. written_value nat_cmp ws n (cond b w.1 v) ≡ None → ⊥) [
        | true ↦ λ gone. stays_set ws n w.1 parts.1 parts.0 gone
        | false ↦ λ gone. stays_set ws n v parts.1 some gone
      ] none

  written_set : (ws : List (ℕ × Option V)) (n : ℕ) (v : Option V) → list_any (λ w. is_none w.1) ws ≡ false → is_in nat_cmp (names ws) n ≡ true → written_value nat_cmp ws n v ≡ None → ⊥
  written_set [] n v set among none = true≢false (sym among)
  written_set (w ∷ ws) n v set among none =
      let parts = or_parts (is_none w.1) (list_any (λ x. is_none x.1) ws) set in
      elim (eq_by_cmp nat_cmp n w.0) as (λ b. (b || is_in nat_cmp (names ws) n) ≡ true → written_value nat_cmp ws n (cond b w.1 v) ≡ None → ⊥) [
        | true ↦ λ _ gone. stays_set ws n w.1 parts.1 parts.0 gone
        | false ↦ λ later gone. written_set ws n v parts.1 later gone
      ] among none

-- where nothing of these is bare all keep what they have
pub all_kept : {X S : Type 0} (some : Bool) (o : Option X) (s : Option S) → (some ≡ true → o ≡ None → ⊥) → s ≡ cond (some && is_none o) None s
all_kept false o s apart = refl
all_kept true None s apart = absurd (apart refl refl)
all_kept true (Some x) s apart = refl

-- a number without a string is none of these
pub names_out : (es : Numbered) → IsTwoWay es → (bs : List (List ℕ)) (ks : List ℕ) → AreNames (number_of es) bs ks → (n : ℕ) → string_of es n ≡ None → is_in nat_cmp ks n ≡ false
names_out es two [] [] are n none = refl
names_out es two [] (k ∷ ks) are n none = absurd are
names_out es two (b ∷ bs) [] are n none = absurd are
names_out es two (b ∷ bs) (k ∷ ks) are n none =
    let other : n ≡ k → ⊥ = λ same. some_none b (sym (two.there b k are.0) ∙ ap (string_of es) (sym same) ∙ none) in
    ap (λ c. c || is_in nat_cmp ks n) (unsigned_tied n k ∙ ne_eqb n k other) ∙ names_out es two bs ks are.1 n none

abbrev ok_or : {A C : Type 0} → A → Result A C → A
ok_or d (Ok x) = x
ok_or d (Err y) = d

kept_in : (h g : ℕ) (tags : List ℕ) → has h (without g tags) ≡ true → has h tags ≡ true
kept_in h g [] here = here
kept_in h g (t ∷ tags) here =
    elim (t == g) as (λ b. has h (cond (not b) (t ∷ without g tags) (without g tags)) ≡ true → ((t == h) || has h tags) ≡ true) [
      | true ↦ λ e. elim (t == h) as (λ c. (c || has h tags) ≡ true) [ true ↦ refl | false ↦ kept_in h g tags e ]
      | false ↦ λ e. elim (t == h) as (λ c. (c || has h (without g tags)) ≡ true → (c || has h tags) ≡ true) [ true ↦ λ _. refl | false ↦ λ f. kept_in h g tags f ] e
    ] here

module _ {V O : Type 0} (es : Numbered) (a b : Parts ℕ V O) (fits : Fits es a) where
  pub bare : (n : ℕ) → string_of es n ≡ None → (look_at nat_cmp a.slots n ≡ None) × (log_at nat_cmp a.slots n ≡ [])
  bare n none = shown_none (look_at nat_cmp a.slots n) (log_at nat_cmp a.slots n) (fits.used n none)

  -- the machine writes what the step does
  pub writes_it : (d : Deed ℕ V O) (mark : Option ℕ) (t : Takes nat_cmp a d mark b) → (t.takes fits.whole.status fits.whole.agrees).effect.written ≡ d.written
  writes_it d mark t =
      let taken = t.takes fits.whole.status fits.whole.agrees in
      ap (λ (e : Effect ℕ V (ℕ × O)). e.written) (sym (ap (ok_or taken.effect) (sym (performs (look_at nat_cmp a.slots) d) ∙ taken.accepted)))

  -- a step that makes nothing absent leaves something where it writes
  pub set_shown : (d : Deed ℕ V O) (mark : Option ℕ) → list_any (λ w. is_none w.1) d.written ≡ false → Takes nat_cmp a d mark b → (n : ℕ) → is_in nat_cmp (names d.written) n ≡ true → slot_shown b.slots n ≡ None → ⊥
  set_shown d mark set t n among bare =
      let taken = t.takes fits.whole.status fits.whole.agrees in
      let now = shown_none (look_at nat_cmp b.slots n) (log_at nat_cmp b.slots n) bare in
      written_set d.written n (look_at nat_cmp a.slots n) set among
      (ap (λ ws. written_value nat_cmp ws n (look_at nat_cmp a.slots n)) (sym (writes_it d mark t)) ∙ sym (taken.look n) ∙ now.0)

  pub fits_taken : (bs : List (List ℕ)) (d : Deed ℕ V O) → AreNames (number_of es) bs (names d.written) → (mark : Option ℕ) → ((g : ℕ) → mark ≡ Some g → a.guesses.drawn < g) → Takes nat_cmp a d mark b → Fits es b
  fits_taken bs d are mark next t =
      let taken = t.takes fits.whole.status fits.whole.agrees in
      let written = writes_it d mark t in
      record {
        two_way = fits.two_way;
        rests = λ n. taken_rest (log_at nat_cmp a.slots n) (log_at nat_cmp b.slots n) _ _ _ (fits.rests n) (taken.logs n);
        used = λ n none.
            let was = bare n none in
            let out : is_in nat_cmp (names taken.effect.written) n ≡ false = ap (λ ws. is_in nat_cmp (names ws) n) written ∙ names_out es fits.two_way bs (names d.written) are n none in
            none_shown b.slots n
            (taken.look n ∙ unwritten taken.effect.written n (look_at nat_cmp a.slots n) out ∙ was.0)
            (unnoted _ (log_at nat_cmp a.slots n) (log_at nat_cmp b.slots n) _ _ out was.1 (taken.logs n));
        whole = whole_taken nat_cmp_total nat_cmp-IsAntisymmetric a fits.whole b d mark next t;
      }

  pub fits_committed : (g : ℕ) → Commits nat_cmp a g b → Fits es b
  fits_committed g c =
      let done = c.commits fits.whole.status fits.whole.agrees in
      record {
        two_way = fits.two_way;
        rests = λ n. committed_rest g (log_at nat_cmp a.slots n) (log_at nat_cmp b.slots n) (done.logs n);
        used = λ n none.
            let was = bare n none in
            none_shown b.slots n (done.look n ∙ was.0) (nothing_from (log_at nat_cmp b.slots n) (subst (λ log. Merges [] (committed g log) (log_at nat_cmp b.slots n)) was.1 (done.logs n)));
        whole = whole_committed nat_cmp_total nat_cmp-IsAntisymmetric a fits.whole b g c;
      }

  pub fits_failed : (g : ℕ) → FailsIn nat_cmp a g b → Fits es b
  fits_failed g f =
      let done = f.fails fits.whole.status fits.whole.agrees in
      record {
        two_way = fits.two_way;
        rests = λ n. subst AllRest (sym (done.state.logs n)) (cut_rest g (log_at nat_cmp a.slots n) (fits.rests n));
        used = λ n none.
            let was = bare n none in
            none_shown b.slots n (done.state.look n ∙ (λ i. unwound g (was.1 i) (was.0 i))) (done.state.logs n ∙ ap (cut g) was.1);
        whole = whole_failed nat_cmp_total nat_cmp-IsAntisymmetric a fits.whole b g f;
      }

  pub fits_forgot : (g : ℕ) → Forgets nat_cmp a g b → Fits es b
  fits_forgot g f = subst (Fits es) (sym f.left) (record {
    two_way = fits.two_way;
    rests = fits.rests;
    used = fits.used;
    whole = whole_forgotten nat_cmp_total nat_cmp-IsAntisymmetric a fits.whole (record a.guesses { struck = without g a.guesses.struck }) (record {
      undecided = fits.whole.agrees.undecided;
      struck = λ h here. fits.whole.agrees.struck h (kept_in h g a.guesses.struck here);
      fresh = fits.whole.agrees.fresh;
    });
  })

-- ---- at the start

module _ {V O : Type 0} (es : Numbered) (m : Parts ℕ V O) where
  pub fits_new : (number limit : ℕ) → es ≡ [] → ((n : ℕ) → look_at nat_cmp m.slots n ≡ None) → ((n : ℕ) → log_at nat_cmp m.slots n ≡ []) → m.guesses ≡ none_drawn number limit → m.opens ≡ [] → m.said ≡ [] → Fits es m
  fits_new number limit is look log guesses opens said = record {
    two_way = subst IsTwoWay (sym is) (record { there = λ s n here. absurd (cc); back = λ s n here. absurd (cc) });
    rests = λ n. subst AllRest (sym (log n)) tt;
    used = λ n none. none_shown m.slots n (look n) (log n);
    whole = whole_first nat_cmp_total nat_cmp-IsAntisymmetric m number limit look log opens guesses said;
  }

-- ---- what is told of a step that is refused

pub writes_names : {B K V : Type 0} (key : B → Option K) (ws : List (B × Option V)) (xs : List (K × Option V)) → AreWrites key ws xs → AreNames key (names ws) (names xs)
writes_names key [] [] are = tt
writes_names key [] (x ∷ xs) are = absurd are
writes_names key (w ∷ ws) [] are = absurd are
writes_names key (w ∷ ws) (x ∷ xs) are = (are.0, writes_names key ws xs are.2)

pub any_err : {A E P : Type 0} (r : Result A E) → P → OnErr r P
any_err (Ok x) p = tt
any_err (Err why) p = p

pub same_parts : {K V O : Type 0} {R : K → K → Ordering} (a b : Parts K V O) → b ≡ a → IsSame R a b
same_parts {R = R} a b same = record {
  look = λ k. ap (λ (m : Parts _ _ _). look_at R m.slots k) same;
  logs = λ k. ap (λ (m : Parts _ _ _). log_at R m.slots k) same;
  guesses = ap (λ (m : Parts _ _ _). m.guesses) same;
  opens = ap (λ (m : Parts _ _ _). m.opens) same;
  said = ap (λ (m : Parts _ _ _). m.said) same;
}

pub unchanged : {V O : Type 0} (old : ByteView V O) (es fs : Numbered) (a b : Parts ℕ V O) (undone loose : List ℕ) → record { parts = told_of es a; undone = strings_of es undone; keys = es } ≡ old → told_of fs b ≡ told_of es a → loose ≡ []
    → Unchanged old (record { parts = told_of fs b; undone = strings_of fs loose; keys = fs })
unchanged old es fs a b undone loose view same none = record {
  parts = same_parts old.parts (told_of fs b) (same ∙ ap (λ (v : ByteView _ _). v.parts) view);
  undone = ap (strings_of fs) none;
}

-- between calls nothing is loose
pub told_still : {V O : Type 0} (es : Numbered) (m : Parts ℕ V O) (loose : List ℕ) → Fits es m → UsedBut es m.slots [] → loose ≡ [] → IsTold es m loose
told_still es m loose fits needed none = record {
  fits = fits;
  held = λ n here gone. none_held es n (ap (λ ks. is_in nat_cmp ks n) (sym none) ∙ here) gone;
  needed = subst (UsedBut es m.slots) (sym none) needed;
}

-- why no guess is drawn is told alike
pub refused : {V O : Type 0} (m : Parts (List ℕ) V O) (step : WholeStep (Vec ℕ) V O) (why : Inner) → has_long_key step ≡ false → Refuses m why → RefusesGuess m step (refusal_of why)
refused m step inner.TooMany short is = (short, is)
refused m step s short is = (short, is)

pub next_refused : {K V O : Type 0} (m : Parts K V O) (why : Inner) → (why ≡ inner.Memory → ⊥) → Refuses m why → RefusesNext m (refusal_of why)
next_refused m inner.Memory other is = absurd (other refl)
next_refused m s other is = is

module _ {V O : Type 0} (es : Numbered) (m : Parts ℕ V O) where
  next_told : (why : Refusal) → RefusesNext m why → RefusesNext (told_of es m) why
  next_told TooMany is = is
  next_told NoNumber is = is
  next_told s is = absurd is

  pub answer_told : (r : Result ℕ Refusal) → IfErr r (RefusesNext m) → IfErr r (RefusesNext (told_of es m))
  answer_told (Ok id) is = tt
  answer_told (Err why) is = next_told why is

  pub refused_next : (step : WholeStep (Vec ℕ) V O) (why : Refusal) → has_long_key step ≡ false → RefusesNext m why → RefusesGuess (told_of es m) step why
  refused_next step TooMany short is = (short, is)
  refused_next step NoNumber short is = (short, is)
  refused_next step s short is = absurd is
