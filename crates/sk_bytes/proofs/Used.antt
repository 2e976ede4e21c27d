-- No number is kept for nothing, whatever a step, a commit or a failure makes of the kernel inside.
use Rattle.sk_bytes.proofs.Names.{without_none, ◌≡◌, ℕ, true, false, List, [], ◌∷◌, ◌++◌, Option, None, cond, refl, sym}
use Rattle.sk_bytes.proofs.Names.{◌∙◌, ap, subst, inl, inr, ◌⊎◌, ◌&&◌, Bool, is_none, Result, Err, IfOk, nat_cmp}
use Rattle.sk_bytes.proofs.Names.{nat_cmp_total, nat_cmp-IsAntisymmetric, Vec, or_parts, true≢false, false≢true, is_in}
use Rattle.sk_bytes.proofs.Names.{Note, has, without, noted, last_tags, committed, unwound, Merges, Token, carries}
use Rattle.sk_bytes.proofs.Names.{none_carried, uncut, Deed, SlotView, look_at, log_at, Numbered, string_of, Parts}
use Rattle.sk_bytes.proofs.Names.{IsSame, Takes, Commits, FailsIn, Forgets, TookBack, Committed, Undone, grows}
use Rattle.sk_bytes.proofs.Names.{slot_shown, AllRest, Fits, UsedBut, listed, names, Gains, LetsGo, ListsAbsent}
use Rattle.std.specs.Prelude.{Ok}
use Rattle.sk_speculator.specs.Calls as inner
use Rattle.sk_speculator.specs.declared.decided.Committed.TheVariants as commit
use Rattle.sk_bytes.proofs.Told.{none_shown}
use Rattle.sk_bytes.proofs.Rests.{lightened_rest}
use Rattle.sk_bytes.proofs.Fitting.{shown_none, shown_same, unwritten, writes_it}

-- ---- numbers go and come

module _ {V : Type 0} (es fs : Numbered) (slots : List (ℕ × SlotView V)) where
  one_left : (some : Bool) (n : ℕ) → (some ≡ false → string_of es n ≡ None) → slot_shown slots n ≡ None → string_of fs n ≡ cond (some && is_none (slot_shown slots n)) None (string_of es n) → string_of fs n ≡ None
  one_left true n free bare left = left ∙ ap (λ o. cond (is_none o) None (string_of es n)) bare
  one_left false n free bare left = left ∙ free refl

  pub used_less : (some : List ℕ) → UsedBut es slots some → LetsGo es (is_in nat_cmp some) slots fs → UsedBut fs slots []
  used_less some used goes n out bare = one_left (is_in nat_cmp some n) n (λ free. used n free bare) bare (goes.strings n)

  -- where just those are kept that are used, some may go still
  pub used_still : (some : ℕ → Bool) → UsedBut es slots [] → LetsGo es some slots fs → UsedBut fs slots []
  used_still some used goes n out bare = one_left (some n) n (λ _. used n refl bare) bare (goes.strings n)

  -- all go that are not used
  pub used_all : LetsGo es (λ n. true) slots fs → UsedBut fs slots []
  used_all goes n out bare = one_left true n (λ never. absurd (true≢false never)) bare (goes.strings n)

  one_come : (loose : List ℕ) (n : ℕ) → is_in nat_cmp loose n ≡ false → string_of es n ≡ None → ((string_of fs n ≡ string_of es n) ⊎ ((string_of es n ≡ None) × (is_in nat_cmp loose n ≡ true))) → string_of fs n ≡ None
  one_come loose n out none (inl same) = same ∙ none
  one_come loose n out none (inr added) = absurd (false≢true (sym out ∙ added.1))

  pub used_more : (loose : List ℕ) → UsedBut es slots [] → Gains es loose fs → UsedBut fs slots loose
  used_more loose used gains n out bare = one_come loose n out (used n refl bare) (gains.strings n)

-- ---- notes that are left

unmoved : {V : Type 0} (g : ℕ) (log : List (Note V)) (now : Option V) → carries g log ≡ false → unwound g log now ≡ now
unmoved g [] now none = refl
unmoved g (n ∷ ns) now none = let parts = or_parts _ _ none in ap (λ b. cond b n.before (unwound g ns now)) parts.0 ∙ unmoved g ns now parts.1

module _ {V : Type 0} where
  none_merged : (old new : List (Note V)) → AllRest old → new ≡ [] → Merges [] old new → old ≡ []
  none_merged [] new rests none merges = refl
  none_merged (n ∷ ns) new rests none merges = absurd (rests.0 (subst (Merges [] (n ∷ ns)) none merges).0)

  none_before : (old more new : List (Note V)) → AllRest old → new ≡ [] → Merges [] (old ++ more) new → old ≡ []
  none_before [] more new rests none merges = refl
  none_before (n ∷ ns) more new rests none merges = absurd (rests.0 (subst (Merges [] ((n ∷ ns) ++ more)) none merges).0)

  unnoted_tags : (tags : List ℕ) (v : Option V) (rest : List (Note V)) → noted true tags v rest ≡ [] → tags ≡ []
  unnoted_tags [] v rest none = refl
  unnoted_tags (t ∷ tags) v rest none = absurd (cc)

  unnoted_rest : (tags : List ℕ) (v : Option V) (rest : List (Note V)) → noted true tags v rest ≡ [] → rest ≡ []
  unnoted_rest [] v rest none = none
  unnoted_rest (t ∷ tags) v rest none = absurd (cc)

  -- a log that does not depend on a guess in the end is not empty after its commit
  some_left : (g : ℕ) (n : Note V) (ns : List (Note V)) → AllRest (n ∷ ns) → has g (last_tags n.tags ns) ≡ false → committed g (n ∷ ns) ≡ [] → ⊥
  some_left g n [] rests out none = rests.0 (sym (without_none g n.tags out) ∙ unnoted_tags (without g n.tags) n.before [] none)
  some_left g n (m ∷ ns) rests out none = some_left g m ns rests.1 out (unnoted_rest (without g n.tags) n.before (committed g (m ∷ ns)) none)

  none_committed : (g : ℕ) (old new : List (Note V)) → AllRest old → has g (last_tags [] old) ≡ false → new ≡ [] → Merges [] (committed g old) new → old ≡ []
  none_committed g [] new rests out none merges = refl
  none_committed g (n ∷ ns) new rests out none merges = absurd (some_left g n ns rests out (none_merged (committed g (n ∷ ns)) new (lightened_rest g (n ∷ ns)) none merges))

-- ---- the kernel inside

module _ {V O : Type 0} (es : Numbered) (a b : Parts ℕ V O) where
  pub used_same : (some : List ℕ) → UsedBut es a.slots some → IsSame nat_cmp a b → UsedBut es b.slots some
  used_same some used same n out bare = used n out (sym (shown_same es a b same n) ∙ bare)

  pub used_forgot : (g : ℕ) → UsedBut es a.slots [] → Forgets nat_cmp a g b → UsedBut es b.slots []
  used_forgot g used f n out bare = used n refl (sym (ap (λ (m : Parts ℕ V O). slot_shown m.slots n) f.left) ∙ bare)

  module _ (fits : Fits es a) where
    pub used_taken : (d : Deed ℕ V O) (mark : Option ℕ) → UsedBut es a.slots (names d.written) → Takes nat_cmp a d mark b → UsedBut es b.slots (names d.written)
    used_taken d mark used t n out bare =
        let taken = t.takes fits.whole.status fits.whole.agrees in
        let old = look_at nat_cmp a.slots n in
        let now = shown_none (look_at nat_cmp b.slots n) (log_at nat_cmp b.slots n) bare in
        let away : is_in nat_cmp (names taken.effect.written) n ≡ false = ap (λ ws. is_in nat_cmp (names ws) n) (writes_it es a b fits d mark t) ∙ out in
        used n out (none_shown a.slots n
        (sym (unwritten taken.effect.written n old away) ∙ sym (taken.look n) ∙ now.0)
        (none_before (log_at nat_cmp a.slots n) _ (log_at nat_cmp b.slots n) (fits.rests n) now.1 (taken.logs n)))

    not_resting : (ns : List ℕ) (n : ℕ) (x : Bool) → (x ≡ true → is_in nat_cmp ns n ≡ true) → is_in nat_cmp ns n ≡ false → x ≡ false
    not_resting ns n true here out = absurd (false≢true (sym out ∙ here refl))
    not_resting ns n false here out = refl

    -- after a commit those may be kept for nothing that are listed
    pub used_committed : (g : ℕ) (ns : List ℕ) → UsedBut es a.slots [] → ListsAbsent a.slots g ns → Commits nat_cmp a g b → UsedBut es b.slots ns
    used_committed g ns used lists c n out bare =
        let done = c.commits fits.whole.status fits.whole.agrees in
        let log = log_at nat_cmp a.slots n in
        let now = shown_none (look_at nat_cmp b.slots n) (log_at nat_cmp b.slots n) bare in
        let absent : look_at nat_cmp a.slots n ≡ None = sym (done.look n) ∙ now.0 in
        let apart = not_resting ns n (has g (last_tags [] log)) (λ rests. lists n rests absent) out in
        used n refl (none_shown a.slots n absent (none_committed g log (log_at nat_cmp b.slots n) (fits.rests n) apart now.1 (done.logs n)))

    -- after a failure those that it tells
    pub used_failed : (g : ℕ) (u : Undone ℕ) → UsedBut es a.slots [] → TookBack nat_cmp a g u → FailsIn nat_cmp a g b → UsedBut es b.slots u.keys.items
    used_failed g u used took f n out bare =
        let done = f.fails fits.whole.status fits.whole.agrees in
        let log = log_at nat_cmp a.slots n in
        let now = shown_none (look_at nat_cmp b.slots n) (log_at nat_cmp b.slots n) bare in
        let apart = none_carried g log (grows nat_cmp_total nat_cmp-IsAntisymmetric a fits.whole n) (sym (took.keys n) ∙ out) in
        used n refl (none_shown a.slots n
        (sym (unmoved g log (look_at nat_cmp a.slots n) apart) ∙ sym (done.state.look n) ∙ now.0)
        (sym (uncut g log apart) ∙ sym (done.state.logs n) ∙ now.1))

    module _ {E : Type 0} (fs : Numbered) (token : Token) where
      used_done : (absent : Result (Vec ℕ) E) → UsedBut es a.slots [] → IfOk absent (λ ns. ListsAbsent a.slots token.id ns.items) → LetsGo es (listed absent) b.slots fs → Commits nat_cmp a token.id b → UsedBut fs b.slots []
      used_done (Ok ns) used lists goes c = used_less es fs b.slots ns.items (used_committed token.id ns.items used lists c) goes
      used_done (Err why) used lists goes c = used_all es fs b.slots goes

      -- after a commit, once the listed numbers are given back
      pub used_decided : (r : Committed) (absent : Result (Vec ℕ) E) → UsedBut es a.slots [] → IfOk absent (λ ns. ListsAbsent a.slots token.id ns.items) → LetsGo es (listed absent) b.slots fs → inner.CommitPost nat_cmp a token (Ok r) b → UsedBut fs b.slots []
      used_decided commit.Done absent used lists goes post = used_done absent used lists goes post.1
      used_decided commit.Gone absent used lists goes post = used_still es fs b.slots (listed absent) (used_forgot token.id used post.1) goes
