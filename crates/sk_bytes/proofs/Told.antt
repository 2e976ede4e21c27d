-- The machine of what is told is the machine inside, under the names of its keys.
use Rattle.sk_bytes.proofs.Names.{true≢false, same_Some, ◌≡◌, ℕ, true, false, List, [], ◌∷◌, Option, Some, None, cond}
use Rattle.sk_bytes.proofs.Names.{refl, sym, ◌∙◌, ap, subst, ◌==◌, IsTotalOrder, unsigned_tied, nat_list_cmp_total}
use Rattle.sk_bytes.proofs.Names.{FinMap, IsAntisymmetric, entries, get, get-entries, get-from_entries, get-insert}
use Rattle.sk_bytes.proofs.Names.{get-remove, get-empty, same_map, nat_cmp-IsAntisymmetric, slice_cmp-IsAntisymmetric}
use Rattle.sk_bytes.proofs.Names.{nat_cmp, eq_by_cmp, eqb-true, eqb-false, eq-eqb, ne_eqb, put, Note, Fails, with_drawn}
use Rattle.sk_bytes.proofs.Names.{with_status, with_failure, MergedTakes, MergedCommits, Status, Deed, again, at_key}
use Rattle.sk_bytes.proofs.Names.{renamed, KeepsApart, IsDeed, SlotView, found, slot_in, look_at, log_at, Numbered}
use Rattle.sk_bytes.proofs.Names.{bytes_cmp, number_of, string_of, Adds, Removes, same_bytes, some_none, made_by, Parts}
use Rattle.sk_bytes.proofs.Names.{machine_of, Takes, Commits, FailsIn, Forgets, WholeStep, made_whole, deed_in, shown}
use Rattle.sk_bytes.proofs.Names.{slot_shown, slots_told, told_of, IsTwoWay}
use Rattle.sk_record.specs.declared.status.Status.TheVariants.{Committed}
use Rattle.sk_renamed.proofs.Renaming as renaming

pub bytes_total : IsTotalOrder bytes_cmp
bytes_total = nat_list_cmp_total

pub bytes_exact : IsAntisymmetric bytes_cmp
bytes_exact = slice_cmp-IsAntisymmetric nat_cmp-IsAntisymmetric

module _ {V : Type 0} where
  get_put : (m : FinMap bytes_cmp (SlotView V)) (s : List ℕ) (slot : Option (SlotView V)) (q : List ℕ) → get (put m s slot) q ≡ cond (eq_by_cmp bytes_cmp q s) slot (get m q)
  get_put m s None q = get-remove bytes_total m s q
  get_put m s (Some slot) q = get-insert bytes_total m s slot q

  -- a string has the slot of its number
  pub slot_told : (es : Numbered) (slots : List (ℕ × SlotView V)) (q : List ℕ) → get (slots_told es slots) q ≡ at_key None (slot_shown slots) (number_of es q)
  slot_told [] slots q = get-empty bytes_cmp q
  slot_told (e ∷ es) slots q =
      get_put (slots_told es slots) e.0 (slot_shown slots e.1) q
      ∙ elim (eq_by_cmp bytes_cmp q e.0) as (λ b. cond b (slot_shown slots e.1) (get (slots_told es slots) q) ≡ at_key None (slot_shown slots) (cond b (Some e.1) (number_of es q))) [
        | true ↦ refl
        | false ↦ slot_told es slots q
      ]

  seen_told : (es : Numbered) (slots : List (ℕ × SlotView V)) (q : List ℕ) → found bytes_cmp (entries (slots_told es slots)) q ≡ at_key None (slot_shown slots) (number_of es q)
  seen_told es slots q = get-from_entries bytes_total (entries (slots_told es slots)) q ∙ sym (get-entries (slots_told es slots) q) ∙ slot_told es slots q

  value_shown : (v : Option V) (log : List (Note V)) → (slot_in (shown v log)).value ≡ v
  value_shown None [] = refl
  value_shown None (n ∷ ns) = refl
  value_shown (Some v) log = refl

  log_shown : (v : Option V) (log : List (Note V)) → (slot_in (shown v log)).log ≡ log
  log_shown None [] = refl
  log_shown None (n ∷ ns) = refl
  log_shown (Some v) log = refl

  -- a key that is absent and depends on nothing has no slot
  pub none_shown : (slots : List (ℕ × SlotView V)) (n : ℕ) → look_at nat_cmp slots n ≡ None → log_at nat_cmp slots n ≡ [] → slot_shown slots n ≡ None
  none_shown slots n absent rests = ap (λ v. shown v (log_at nat_cmp slots n)) absent ∙ ap (shown None) rests

  value_of_slot : (slots : List (ℕ × SlotView V)) (o : Option ℕ) → (slot_in (at_key None (slot_shown slots) o)).value ≡ at_key None (look_at nat_cmp slots) o
  value_of_slot slots None = refl
  value_of_slot slots (Some n) = value_shown (look_at nat_cmp slots n) (log_at nat_cmp slots n)

  log_of_slot : (slots : List (ℕ × SlotView V)) (o : Option ℕ) → (slot_in (at_key None (slot_shown slots) o)).log ≡ at_key [] (log_at nat_cmp slots) o
  log_of_slot slots None = refl
  log_of_slot slots (Some n) = log_shown (look_at nat_cmp slots n) (log_at nat_cmp slots n)

  pub look_told : (es : Numbered) (slots : List (ℕ × SlotView V)) (q : List ℕ) → look_at bytes_cmp (entries (slots_told es slots)) q ≡ at_key None (look_at nat_cmp slots) (number_of es q)
  look_told es slots q = ap (λ o. (slot_in o).value) (seen_told es slots q) ∙ value_of_slot slots (number_of es q)

  pub log_told : (es : Numbered) (slots : List (ℕ × SlotView V)) (q : List ℕ) → log_at bytes_cmp (entries (slots_told es slots)) q ≡ at_key [] (log_at nat_cmp slots) (number_of es q)
  log_told es slots q = ap (λ o. (slot_in o).log) (seen_told es slots q) ∙ log_of_slot slots (number_of es q)

  -- where strings have the same slots, the same is told
  pub same_told : (es fs : Numbered) (slots : List (ℕ × SlotView V)) → ((q : List ℕ) → at_key None (slot_shown slots) (number_of fs q) ≡ at_key None (slot_shown slots) (number_of es q)) → slots_told fs slots ≡ slots_told es slots
  same_told es fs slots same = same_map bytes_total bytes_exact (slots_told fs slots) (slots_told es slots) (λ q. slot_told fs slots q ∙ same q ∙ sym (slot_told es slots q))

  one_bare : (es fs : Numbered) (slots : List (ℕ × SlotView V)) (s : List ℕ) (n : ℕ) → slot_shown slots n ≡ None → number_of es s ≡ None
      → ((q : List ℕ) → number_of fs q ≡ cond (eq_by_cmp bytes_cmp q s) (Some n) (number_of es q)) → (q : List ℕ) → at_key None (slot_shown slots) (number_of fs q) ≡ at_key None (slot_shown slots) (number_of es q)
  one_bare es fs slots s n bare absent more q =
      ap (at_key None (slot_shown slots)) (more q)
      ∙ elim (eq_by_cmp bytes_cmp q s) as (λ b. eq_by_cmp bytes_cmp q s ≡ b → at_key None (slot_shown slots) (cond b (Some n) (number_of es q)) ≡ at_key None (slot_shown slots) (number_of es q)) [
        | true ↦ λ e. bare ∙ ap (at_key None (slot_shown slots)) (sym absent ∙ ap (number_of es) (sym ((same_bytes q s).0 e)))
        | false ↦ λ e. refl
      ] refl

  gone_bare : (es fs : Numbered) (slots : List (ℕ × SlotView V)) → IsTwoWay es → (s : List ℕ) (n : ℕ) → slot_shown slots n ≡ None → Removes es s n fs
      → (q : List ℕ) → at_key None (slot_shown slots) (number_of fs q) ≡ at_key None (slot_shown slots) (number_of es q)
  gone_bare es fs slots two s n bare gone q =
      ap (at_key None (slot_shown slots)) (gone.numbers q)
      ∙ elim (eq_by_cmp bytes_cmp q s) as (λ b. eq_by_cmp bytes_cmp q s ≡ b → at_key None (slot_shown slots) (cond b None (number_of es q)) ≡ at_key None (slot_shown slots) (number_of es q)) [
        | true ↦ λ e. sym bare ∙ ap (at_key None (slot_shown slots)) (sym (two.back s n gone.had) ∙ ap (number_of es) (sym ((same_bytes q s).0 e)))
        | false ↦ λ e. refl
      ] refl

module _ {V O : Type 0} where
  pub machine_told : (es : Numbered) (m : Parts ℕ V O) (status : ℕ → Option Status) → machine_of bytes_cmp (told_of es m) status ≡ renamed (number_of es) (machine_of nat_cmp m status)
  machine_told es m status i = record {
    state = record { look = λ q. look_told es m.slots q i; logs = λ q. log_told es m.slots q i; opens = m.opens };
    status = status;
    texts = (machine_of nat_cmp m status).texts;
  }

  -- a number of which nothing is known is given: nothing changes
  pub given : (es fs : Numbered) (m : Parts ℕ V O) (s : List ℕ) (n : ℕ) → slot_shown m.slots n ≡ None → Adds es s n fs → told_of fs m ≡ told_of es m
  given es fs m s n bare adds i = record { slots = entries (same_told es fs m.slots (one_bare es fs m.slots s n bare adds.absent adds.numbers) i); guesses = m.guesses; opens = m.opens; said = m.said }

  -- and given back
  pub given_back : (es fs : Numbered) (m : Parts ℕ V O) → IsTwoWay es → (s : List ℕ) (n : ℕ) → slot_shown m.slots n ≡ None → Removes es s n fs → told_of fs m ≡ told_of es m
  given_back es fs m two s n bare gone i = record { slots = entries (same_told es fs m.slots (gone_bare es fs m.slots two s n bare gone) i); guesses = m.guesses; opens = m.opens; said = m.said }

-- ---- strings and numbers stay in step

pub two_way_more : (es fs : Numbered) (s : List ℕ) (n : ℕ) → IsTwoWay es → Adds es s n fs → IsTwoWay fs
two_way_more es fs s n two adds = record {
  there = λ q m is.
      adds.strings m
      ∙ elim (n == m) as (λ b. (n == m) ≡ b → cond b (Some s) (string_of es m) ≡ Some q) [
        | true ↦ λ e. ap Some (same_at q m is (eqb-true n m e))
        | false ↦ λ e. two.there q m (other_at q m is (eqb-false n m e))
      ] refl;
  back = λ q m is.
      adds.numbers q
      ∙ elim (eq_by_cmp bytes_cmp q s) as (λ b. eq_by_cmp bytes_cmp q s ≡ b → cond b (Some n) (number_of es q) ≡ Some m) [
        | true ↦ λ e. back_same q m is ((same_bytes q s).0 e)
        | false ↦ λ e. back_other q m is e
      ] refl;
}
  where
    -- the number was free, so whose it is now is the new string
    same_at : (q : List ℕ) (m : ℕ) → number_of fs q ≡ Some m → n ≡ m → s ≡ q
    same_at q m is same =
        elim (eq_by_cmp bytes_cmp q s) as (λ b. eq_by_cmp bytes_cmp q s ≡ b → cond b (Some n) (number_of es q) ≡ Some m → s ≡ q) [
          | true ↦ λ e at. sym ((same_bytes q s).0 e)
          | false ↦ λ e at. some_none q (sym (two.there q m at) ∙ ap (string_of es) (sym same) ∙ adds.free)
        ] refl (sym (adds.numbers q) ∙ is)

    other_at : (q : List ℕ) (m : ℕ) → number_of fs q ≡ Some m → (n ≡ m → ⊥) → number_of es q ≡ Some m
    other_at q m is other =
        elim (eq_by_cmp bytes_cmp q s) as (λ b. eq_by_cmp bytes_cmp q s ≡ b → cond b (Some n) (number_of es q) ≡ Some m → number_of es q ≡ Some m) [
          | true ↦ λ e at. absurd (other (same_Some n m at))
          | false ↦ λ e at. at
        ] refl (sym (adds.numbers q) ∙ is)

    -- what has this string is the new number
    back_same : (q : List ℕ) (m : ℕ) → string_of fs m ≡ Some q → q ≡ s → Some n ≡ Some m
    back_same q m is same =
        elim (n == m) as (λ b. (n == m) ≡ b → cond b (Some s) (string_of es m) ≡ Some q → Some n ≡ Some m) [
          | true ↦ λ e at. ap Some (eqb-true n m e)
          | false ↦ λ e at. some_none m (sym (two.back q m at) ∙ ap (number_of es) same ∙ adds.absent)
        ] refl (sym (adds.strings m) ∙ is)

    back_other : (q : List ℕ) (m : ℕ) → string_of fs m ≡ Some q → eq_by_cmp bytes_cmp q s ≡ false → number_of es q ≡ Some m
    back_other q m is e =
        elim (n == m) as (λ b. (n == m) ≡ b → cond b (Some s) (string_of es m) ≡ Some q → number_of es q ≡ Some m) [
          | true ↦ λ f at. absurd (true≢false (sym ((same_bytes q s).1 (sym (same_Some s q at))) ∙ e))
          | false ↦ λ f at. two.back q m at
        ] refl (sym (adds.strings m) ∙ is)

pub two_way_less : (es fs : Numbered) (s : List ℕ) (n : ℕ) → IsTwoWay es → Removes es s n fs → IsTwoWay fs
two_way_less es fs s n two gone = record {
  there = λ q m is.
      elim (eq_by_cmp bytes_cmp q s) as (λ b. eq_by_cmp bytes_cmp q s ≡ b → cond b None (number_of es q) ≡ Some m → string_of fs m ≡ Some q) [
        | true ↦ λ e at. absurd (cc)
        | false ↦ λ e at.
            gone.strings m
            ∙ ap (λ b. cond b None (string_of es m)) (ne_eqb n m (λ same. true≢false (sym ((same_bytes q s).1 (same_Some q s (sym (two.there q m at) ∙ ap (string_of es) (sym same) ∙ gone.had))) ∙ e)))
            ∙ two.there q m at
      ] refl (sym (gone.numbers q) ∙ is);
  back = λ q m is.
      elim (n == m) as (λ b. (n == m) ≡ b → cond b None (string_of es m) ≡ Some q → number_of fs q ≡ Some m) [
        | true ↦ λ e at. absurd (cc)
        | false ↦ λ e at.
            gone.numbers q
            ∙ ap (λ b. cond b None (number_of es q)) (bytes_other q (λ same. eqb-false n m e (same_Some n m (sym (two.back s n gone.had) ∙ ap (number_of es) (sym same) ∙ two.back q m at))))
            ∙ two.back q m at
      ] refl (sym (gone.strings m) ∙ is);
}
  where
    bytes_other : (q : List ℕ) → (q ≡ s → ⊥) → eq_by_cmp bytes_cmp q s ≡ false
    bytes_other q other =
        elim (eq_by_cmp bytes_cmp q s) as (λ b. eq_by_cmp bytes_cmp q s ≡ b → b ≡ false) [
          | true ↦ λ e. absurd (other ((same_bytes q s).0 e))
          | false ↦ λ e. refl
        ] refl

pub nat_same : (k l : ℕ) → k ≡ l → eq_by_cmp nat_cmp k l ≡ true
nat_same k l same = unsigned_tied k l ∙ eq-eqb k l same

pub nat_other : (k l : ℕ) → (k ≡ l → ⊥) → eq_by_cmp nat_cmp k l ≡ false
nat_other k l other = unsigned_tied k l ∙ ne_eqb k l other

-- names and numbers are apart alike
pub keeps_apart : (es : Numbered) → IsTwoWay es → KeepsApart (number_of es) bytes_cmp nat_cmp
keeps_apart es two = record {
  same = λ b c k l bk cl.
      elim (eq_by_cmp bytes_cmp b c) as (λ x. eq_by_cmp bytes_cmp b c ≡ x → eq_by_cmp nat_cmp k l ≡ x) [
        | true ↦ λ e. nat_same k l (same_Some k l (sym bk ∙ ap (number_of es) ((same_bytes b c).0 e) ∙ cl))
        | false ↦ λ e. nat_other k l (λ same. true≢false (sym ((same_bytes b c).1 (same_Some b c (sym (two.there b k bk) ∙ ap (string_of es) same ∙ two.there c l cl))) ∙ e))
      ] refl;
  unnamed = λ b c l none cl.
      elim (eq_by_cmp bytes_cmp b c) as (λ x. eq_by_cmp bytes_cmp b c ≡ x → x ≡ false) [
        | true ↦ λ e. some_none l (sym cl ∙ ap (number_of es) (sym ((same_bytes b c).0 e)) ∙ none)
        | false ↦ λ e. refl
      ] refl;
}

-- ---- the calls

-- what is written is there, as values are only ever set
pub taken_whole : {V O : Type 0} (a b : Parts ℕ V O) (step : WholeStep ℕ V O) (mark : Option ℕ)
    → Takes nat_cmp a (record { looked = step.looked.items; written = made_by nat_cmp (λ value _. value) (look_at nat_cmp a.slots) step.written.items; said = step.said }) mark b → Takes nat_cmp a (deed_in step) mark b
taken_whole {V} {O} a b step mark =
    subst (λ (ws : List (ℕ × Option V)). Takes nat_cmp a (record { looked = step.looked.items; written = ws; said = step.said }) mark b) (made_whole nat_cmp (look_at nat_cmp a.slots) step.written.items)

module _ {V O : Type 0} (es : Numbered) (two : IsTwoWay es) (a b : Parts ℕ V O) where
  pub takes_told : (d : Deed (List ℕ) V O) (told : Deed ℕ V O) → IsDeed (number_of es) d told → (mark : Option ℕ) → Takes nat_cmp a told mark b → Takes bytes_cmp (told_of es a) d mark (told_of es b)
  takes_told d told is mark t = record {
    takes = λ status agrees.
        subst (λ m. MergedTakes (again bytes_cmp) m (record { deed = d; guess = mark }) (machine_of bytes_cmp (told_of es b) (with_drawn mark status))) (sym (machine_told es a status))
        (subst (λ m. MergedTakes (again bytes_cmp) (renamed (number_of es) (machine_of nat_cmp a status)) (record { deed = d; guess = mark }) m) (sym (machine_told es b (with_drawn mark status)))
        (renaming.takes bytes_cmp nat_cmp (number_of es) (keeps_apart es two) d told is mark _ _ (t.takes status agrees)));
    agrees = t.agrees;
    guesses = t.guesses;
    numbered = t.numbered;
  }

  pub commits_told : (g : ℕ) → Commits nat_cmp a g b → Commits bytes_cmp (told_of es a) g (told_of es b)
  commits_told g c = record {
    undecided = c.undecided;
    commits = λ status agrees.
        subst (λ m. MergedCommits m g (machine_of bytes_cmp (told_of es b) (with_status g Committed status))) (sym (machine_told es a status))
        (subst (λ m. MergedCommits (renamed (number_of es) (machine_of nat_cmp a status)) g m) (sym (machine_told es b (with_status g Committed status)))
        (renaming.commits (number_of es) g _ _ (c.commits status agrees)));
    agrees = c.agrees;
    guesses = c.guesses;
    opens = c.opens;
  }

  pub fails_told : (g : ℕ) → FailsIn nat_cmp a g b → FailsIn bytes_cmp (told_of es a) g (told_of es b)
  fails_told g f = record {
    undecided = f.undecided;
    fails = λ status agrees.
        subst (λ m. Fails m g (machine_of bytes_cmp (told_of es b) (with_failure g a.opens status))) (sym (machine_told es a status))
        (subst (λ m. Fails (renamed (number_of es) (machine_of nat_cmp a status)) g m) (sym (machine_told es b (with_failure g a.opens status)))
        (renaming.fails (number_of es) g _ _ (f.fails status agrees)));
    agrees = f.agrees;
    guesses = f.guesses;
    opens = f.opens;
  }

  pub forgets_told : (g : ℕ) → Forgets nat_cmp a g b → Forgets bytes_cmp (told_of es a) g (told_of es b)
  forgets_told g f = record { struck = f.struck; left = ap (told_of es) f.left }
