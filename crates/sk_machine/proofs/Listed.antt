-- What the lists of dependents have, after writes and decisions.
use Rattle.sk_machine.proofs.Names.{Bool, ◌≡◌, ℕ, zero, suc, ◌<◌, ◌≤◌, ◌+◌, length, take, drop, true, false, not, List}
use Rattle.sk_machine.proofs.Names.{[], ◌∷◌, ◌++◌, map, Option, refl, sym, ◌∙◌, ap, subst, arith, list_any}
use Rattle.sk_machine.proofs.Names.{AllByRecursion, ◌==◌, slice_index_or, eq_by_cmp, eq_by_cmp_equiv, entity_total}
use Rattle.sk_machine.proofs.Names.{entity_exact, all_kept, true≢false, or_left, or_right, eq-eqb, list_any-append}
use Rattle.sk_machine.proofs.Names.{is_in, has, nat_cmp, above, IsTidy, numbers, still_open, entity_cmp, Entity}
use Rattle.sk_machine.proofs.Names.{with_entities, OpenGuess, opens_of, dependents_of, left_to, but, not_resting}
use Rattle.sk_machine.proofs.Names.{after_commit, tied_is, EntityState, SlotMap, look_at, log_at, Unwound, Lightened}
use Rattle.sk_machine.proofs.Names.{AreListed, AllGrow, tags_in, with_tags, AllExact, AllAlmostExact, Covers, Depends}
use Rattle.sk_machine.proofs.Names.{Parts, undo_state_of, IsClean, Performed, entities_of}
use Rattle.sk_guesses.proofs.Kept as kept
use Rattle.sk_guesses.proofs.Listed as lists
use Rattle.std.specs.List.Sorted.{IsStrictlySortedBy}
use Rattle.std.proofs.lemmas.Bool.Decides.{nat_tests}
use Rattle.std.proofs.lemmas.Grind.{common_steps}
use Rattle.std.proofs.lemmas.Bool.{false_from_ne_true}
use Rattle.std.proofs.lemmas.List.{take-append-drop, take_all as all_taken, drop_all as all_dropped}

-- ---- the lemmas of sk_guesses, in the order of entities
pub exact_as : (tags later : Entity → List ℕ) → ((e : Entity) → tags e ≡ later e) → (os : List (OpenGuess Entity)) → AllExact tags os → AllExact later os
exact_as = lists.exact_as entity_total entity_exact

pub exact_at : (tags : Entity → List ℕ) (g : ℕ) (os : List (OpenGuess Entity)) → AllExact tags os → has g (numbers (opens_of os)) ≡ true → (e : Entity) → is_in entity_cmp (dependents_of g os) e ≡ has g (tags e)
exact_at = lists.exact_at entity_total entity_exact

pub almost_of : (tags : List ℕ) (es all : List Entity) (base : Entity → List ℕ) → Covers tags all base → ((e : Entity) → is_in entity_cmp es e ≡ true → is_in entity_cmp all e ≡ true)
    → (os : List (OpenGuess Entity)) → AllExact (with_tags entity_cmp tags es base) os → AllAlmostExact base all os
almost_of = lists.almost_of entity_total entity_exact

pub left_more : (base : Entity → List ℕ) (x : Entity) (es : List Entity) (tags : List ℕ) → tags ≡ base x → (os : List (OpenGuess Entity)) → AllAlmostExact base (x ∷ es) os → AllAlmostExact base es (map (left_to entity_cmp tags x) os)
left_more = lists.left_more entity_total entity_exact

pub none_left : (base : Entity → List ℕ) (os : List (OpenGuess Entity)) → AllAlmostExact base [] os → AllExact base os
none_left = lists.none_left entity_total entity_exact

pub depends_opens : (own tags : List ℕ) (x : Entity) (os new : List (OpenGuess Entity)) → Depends entity_cmp own tags x os new → opens_of new ≡ opens_of os
depends_opens = lists.depends_opens entity_total entity_exact

pub depends_exact : (tags : List ℕ) (es : List Entity) (x : Entity) (base : Entity → List ℕ) (own : List ℕ) → own ≡ base x → ((g : ℕ) → has g (base x) ≡ true → has g tags ≡ true)
    → (os new : List (OpenGuess Entity)) → Depends entity_cmp own tags x os new → AllExact (with_tags entity_cmp tags es base) os → AllExact (with_tags entity_cmp tags (es ++ x ∷ []) base) new
depends_exact = lists.depends_exact entity_total entity_exact

-- where each guess of a set was drawn after all of these, no list of theirs changes
pub later_exact : (tags : List ℕ) (es : List Entity) (base : Entity → List ℕ) → Covers tags es base
    → (os : List (OpenGuess Entity)) → ((g : ℕ) → has g tags ≡ true → has g (numbers (opens_of os)) ≡ false) → AllExact base os → AllExact (with_tags entity_cmp tags es base) os
later_exact tags es base covers [] apart all = tt
later_exact tags es base covers (o ∷ os) apart all = (
  λ e. grind (arith, eq-eqb o.id o.id refl, apart o.id, covers e o.id, all.0 e),
  later_exact tags es base covers os (λ g here. grind (arith, apart g here)) all.1,
)

pub no_length : {A : Type 0} (xs : List A) → length xs ≡ 0 → xs ≡ []
no_length [] none = refl
no_length (x ∷ xs) none = absurd (omega (arith, none))

-- ---- one of a list is gone over
pub take_next : (es : List Entity) (i : ℕ) (d : Entity) → i < length es → d ≡ slice_index_or es i d → take (i + 1) es ≡ take i es ++ d ∷ []
take_next es i d lt is = grind (arith, common_steps)

pub take_all : (es : List Entity) (i : ℕ) → length es ≤ i → take i es ≡ es
take_all es i le = all_taken i es le

pub drop_all : (es : List Entity) (i : ℕ) → length es ≤ i → drop i es ≡ []
drop_all es i le = all_dropped i es le

pub in_front : (es : List Entity) (i : ℕ) (e : Entity) → is_in entity_cmp (take i es) e ≡ true → is_in entity_cmp es e ≡ true
in_front es i e here =
    ap (λ xs. is_in entity_cmp xs e) (sym (take-append-drop i es)) ∙ list_any-append (eq_by_cmp entity_cmp e) (take i es) (drop i es)
    ∙ or_left _ _ here

-- ---- a step
-- what is written depends on what the step depends on
pub tags_written : (m n : SlotMap) (tags : List ℕ) (ws : List (Entity × Option EntityState)) → IsClean m tags (entities_of ws) → Performed m tags ws n
    → (e : Entity) → with_tags entity_cmp tags (entities_of ws) (tags_in m) e ≡ tags_in n e
tags_written m n tags ws clean did = lists.tags_written entity_total entity_exact (log_at m) (log_at n) (look_at m) tags (entities_of ws) clean did.logs

pub any_of : (tags : Entity → List ℕ) (g : ℕ) (es : List Entity) (e : Entity) → is_in entity_cmp es e ≡ true → has g (tags e) ≡ true → list_any (λ x. has g (tags x)) es ≡ true
any_of tags g [] e here is = absurd (true≢false (sym here))
any_of tags g (x ∷ es) e here is = grind (arith, tied_is entity_total entity_exact e x, any_of tags g es e)

-- each entity of which a note depends on an undecided guess is in its list
pub listed : (g : ℕ) (m : SlotMap) (os : List (OpenGuess Entity)) → AllExact (tags_in m) os → AllGrow m → has g (numbers (opens_of os)) ≡ true → AreListed g m (dependents_of g os)
listed g m os all grows here e carry = exact_at (tags_in m) g os all here e ∙ lists.rests_last g [] (log_at m e) (grows e g) carry

-- ---- decisions
pub committed_exact : (g : ℕ) (m n : SlotMap) → AllGrow m → Lightened m g n → (os : List (OpenGuess Entity)) → AllExact (tags_in m) os → AllExact (tags_in n) (after_commit g os)
committed_exact g m n grows did = lists.committed_exact entity_total entity_exact g (log_at m) (log_at n) grows did.logs

-- what the failed guess's list has is taken out of the lists of those that stay undecided
pub failed_almost : (g : ℕ) (m n : SlotMap) → AllGrow m → Unwound m g n → (os : List (OpenGuess Entity)) → AllExact (tags_in m) os → has g (numbers (opens_of os)) ≡ true → AllAlmostExact (tags_in n) (dependents_of g os) (not_resting g (but g os))
failed_almost g m n grows did os all here =
    lists.failed_almost entity_total entity_exact g (log_at m) (log_at n) grows did.logs (dependents_of g os) (exact_at (tags_in m) g os all here) (but g os)
    (all_kept (λ (o : OpenGuess Entity). (e : Entity) → is_in entity_cmp o.dependents e ≡ has o.id (tags_in m e)) (λ o. not (o.id == g)) os all)

-- where that depended on the failed guess alone, it is in none of them
but_apart : (g : ℕ) (os : List (OpenGuess Entity)) → AllByRecursion (λ (o : OpenGuess Entity). (o.id == g) ≡ false) (but g os)
but_apart g [] = tt
but_apart g (o ∷ os) = grind (arith, but_apart g os)

only_one : (g h : ℕ) → (h == g) ≡ false → has h (g ∷ []) ≡ false
only_one g h apart = grind (arith, nat_tests)

by_place : (i d l : Bool) → (i ≡ true → d ≡ false) → (l ≡ true → d ≡ true) → (i ≡ false → d ≡ l) → d ≡ l
by_place true d true none kept others = kept refl
by_place true d false none kept others = none refl
by_place false d l none kept others = others refl

exact_alone : (g : ℕ) (es : List Entity) (before later : Entity → List ℕ) → Covers (g ∷ []) es before → (os : List (OpenGuess Entity)) → AllExact before os
    → AllByRecursion (λ (o : OpenGuess Entity). (o.id == g) ≡ false) os → AllAlmostExact later es os → AllExact later os
exact_alone g es before later alone [] old apart almost = tt
exact_alone g es before later alone (o ∷ os) old apart almost = (
  λ e.
      let none = λ (there : is_in entity_cmp es e ≡ true). old.0 e ∙ false_from_ne_true (has o.id (before e)) (λ was.
      true≢false (sym (alone e o.id there was) ∙ only_one g o.id apart.0)) in
      by_place (is_in entity_cmp es e) _ (has o.id (later e)) none (almost.0.kept e) (almost.0.others e),
  exact_alone g es before later alone os old.1 apart.1 almost.1,
)

pub failed_exact : (g : ℕ) (m n : SlotMap) → AllGrow m → Unwound m g n → (os : List (OpenGuess Entity)) → AllExact (tags_in m) os → has g (numbers (opens_of os)) ≡ true
    → Covers (g ∷ []) (dependents_of g os) (tags_in m) → AllExact (tags_in n) (not_resting g (but g os))
failed_exact g m n grows did os all here alone =
    let exact = λ (o : OpenGuess Entity). (e : Entity) → is_in entity_cmp o.dependents e ≡ has o.id (tags_in m e) in
    let stays = λ (o : OpenGuess Entity). not (has g o.tags) in
    exact_alone g (dependents_of g os) (tags_in m) (tags_in n) alone (not_resting g (but g os))
    (all_kept exact stays (but g os) (all_kept exact (λ o. not (o.id == g)) os all))
    (all_kept (λ (o : OpenGuess Entity). (o.id == g) ≡ false) stays (but g os) (but_apart g os))
    (failed_almost g m n grows did os all here)

-- ---- the undecided guesses, as the machine has them
pub commit_opens : (g : ℕ) (os : List (OpenGuess Entity)) → opens_of (after_commit g os) ≡ still_open g (opens_of os)
commit_opens = kept.commit_opens

-- one more than a rising list is not in it
pub fresh : (xs : List ℕ) (y : ℕ) → IsStrictlySortedBy nat_cmp (xs ++ y ∷ []) → has y xs ≡ false
unfolding IsStrictlySortedBy
fresh [] y rises = refl
fresh (x ∷ xs) y rises =
    let less = above x (xs ++ y ∷ []) y rises.0 (list_any-append (λ t. t == y) xs (y ∷ []) ∙ or_right _ _ (or_left _ _ (eq-eqb y y refl))) in
    grind (arith, nat_tests, fresh xs y rises.1)

pub in_place : (es : List Entity) (i : ℕ) (x : Entity) → i < length es → x ≡ slice_index_or es i x → is_in entity_cmp es x ≡ true
in_place [] i x lt is = absurd (omega arith)
in_place (y ∷ es) zero x lt is = or_left _ _ (ap (λ z. eq_by_cmp entity_cmp x z) (sym is) ∙ (eq_by_cmp_equiv entity_total).refl x)
in_place (y ∷ es) (suc i) x lt is = or_right _ _ (in_place es i x (omega arith) is)

-- ---- a step that was performed, and one that was not
pub unperformed : (m n : SlotMap) (tags : List ℕ) (es : List Entity) → n ≡ m → Covers tags es (tags_in m) → (os : List (OpenGuess Entity)) → AllExact (with_tags entity_cmp tags es (tags_in m)) os → AllAlmostExact (tags_in n) es os
unperformed m n tags es same covers os all =
    subst (λ k. AllAlmostExact (tags_in k) es os) (sym same) (almost_of tags es es (tags_in m) covers (λ e here. here) os all)

pub performed_exact : (m n : SlotMap) (tags : List ℕ) (es : List Entity) (ws : List (Entity × Option EntityState)) → es ≡ entities_of ws → IsClean m tags (entities_of ws) → Performed m tags ws n
    → (os : List (OpenGuess Entity)) → AllExact (with_tags entity_cmp tags es (tags_in m)) os → AllExact (tags_in n) os
performed_exact m n tags es ws is clean did os all =
    exact_as (with_tags entity_cmp tags (entities_of ws) (tags_in m)) (tags_in n) (tags_written m n tags ws clean did) os
    (subst (λ xs. AllExact (with_tags entity_cmp tags xs (tags_in m)) os) is all)

pub guessed_exact : (m n : SlotMap) (tags : List ℕ) (es : List Entity) (ws : List (Entity × Option EntityState)) (o : OpenGuess Entity) → es ≡ entities_of ws → IsClean m tags (entities_of ws) → Performed m tags ws n
    → o.dependents ≡ with_entities entity_cmp [] es → has o.id tags ≡ true → ((e : Entity) → has o.id (tags_in m e) ≡ false)
    → (os : List (OpenGuess Entity)) → AllExact (with_tags entity_cmp tags es (tags_in m)) os → AllExact (tags_in n) (os ++ o ∷ [])
guessed_exact m n tags es ws o is clean did begins own none os all =
    lists.exact_more entity_total entity_exact (tags_in n) os o (performed_exact m n tags es ws is clean did os all)
    (λ e.
    ap (λ xs. is_in entity_cmp xs e) begins ∙ lists.begun entity_total entity_exact o.id tags es (tags_in m) own none e
    ∙ ap (λ xs. has o.id (with_tags entity_cmp tags xs (tags_in m) e)) is ∙ ap (has o.id) (tags_written m n tags ws clean did e))

pub more_opens : (os : List (OpenGuess Entity)) (o : OpenGuess Entity) → opens_of (os ++ o ∷ []) ≡ opens_of os ++ (o.id, o.tags) ∷ []
more_opens [] o = refl
more_opens (x ∷ os) o = ap (λ xs. (x.id, x.tags) ∷ xs) (more_opens os o)

-- nothing depends on a guess that is not open
pub not_known : (m : Parts) → IsTidy (undo_state_of m) → (g : ℕ) → has g (numbers m.opens) ≡ false → (e : Entity) → has g (tags_in m.slots e) ≡ false
not_known m tidy g closed e = grind (arith, tidy.known e g)

-- where no guess is open any set has those that something depends on
pub none_covered : (m : Parts) → IsTidy (undo_state_of m) → m.opens ≡ [] → (tags : List ℕ) (es : List Entity) → Covers tags es (tags_in m.slots)
none_covered m tidy none tags es = λ e g there rests.
    let closed : has g (numbers m.opens) ≡ false = ap (λ os. has g (numbers os)) none in
    absurd (true≢false (sym rests ∙ not_known m tidy g closed e))
