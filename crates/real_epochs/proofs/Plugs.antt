-- What the contracts of the kernel give, as calls need it.
use Rattle.real_epochs.proofs.Names.{◌≡◌, ◌||◌, ◌==◌, ℕ, true, false, not, cond, List, [], ◌∷◌, ◌++◌, Option, Some, None, refl, sym, ◌∙◌, ap, subst}
use Rattle.real_epochs.proofs.Names.{nat_cmp, get-empty, eq_by_cmp, is_in, if◌then◌else◌, true≢false, numbers, FailsIn, Forgets, TookBack, or_parts, or_left, or_from, false_from_ne_true, eqb-true, eqb_turned, unsigned_tied, deed, made_by, look_at, log_at, said_at, Takes, IsSame, IsFirst, Parts, KeptView, Deed}
use Rattle.real_epochs.proofs.Names.{Event, released, Story, all_in, changed_in, Begun, Epoch, Entry, host, tree, has, tags_at, undo_state_of}
use Rattle.std.specs.List.Sorted.{IsStrictlySortedBy}
use Rattle.std.specs.List.{list_any, remove, slice_get, AllByRecursion}
use Rattle.std.specs.Prelude.{length, slice_index_or, IfSome, zero, suc, Result, Err}
use Rattle.std.specs.Cmp.{nat_cmp_is}
use Rattle.std.specs.Ordering.{is_eq}
use Rattle.std.specs.declared.cmp.Ordering.TheVariants.{Less, Greater}
use Rattle.std.proofs.Common.{arith}
use Rattle.sk_speculator.specs.Calls as Calls
use Rattle.sk_speculator.specs.Calls.{IsStranger}
use Rattle.sk_speculator.specs.declared.refusal.Refusal.{Refusal}
use Rattle.sk_speculator.specs.declared.refusal.Refusal.TheVariants as refusal_as
use Rattle.real_epochs.specs.Kernel.{refused_by}
use Rattle.real_epochs.specs.Calls.{Began, Happened, Shown}
use Rattle.real_epochs.specs.Refusals.{misfit, RefusesBegin}
use Rattle.real_epochs.specs.declared.refused.Refused.{Refused}
use Rattle.real_epochs.specs.declared.refused.Refused.TheVariants as refused_as
use Rattle.real_epochs.specs.Host.{begins_with_tree}
use Rattle.sk_speculator.specs.declared.decided.Undone.{Undone}
use Rattle.real_epochs.specs.declared.back.Back.{Back}
use Rattle.real_epochs.specs.Forgotten.{AreForgotten, IsForgotten}
use Rattle.real_epochs.specs.Story.{no_story, with_call, Refuses, Shows}
use Rattle.real_epochs.specs.Answers.{are_none, is_needed, oldest_checkpoint, GoesBack, IsBack, IsNext}
use Rattle.real_epochs.specs.Tells.{nothing, line_of, EpochsView, Goes, Stays, Tells}
use Rattle.real_epochs.proofs.Begin.{first_told}
use Rattle.real_epochs.proofs.Moves.{same_parts}
use Rattle.real_epochs.proofs.Read.{next_told, none_told, rests_told, shows_goes}
use Rattle.real_epochs.proofs.Reply.{all_forgotten, oldest_kept, oldest_open, refuse_at}
use Rattle.sk_guesses.specs.Kept.{none_drawn}

-- values are set, whatever was there
made_same : (look : ℕ → Option ℕ) (ws : List (ℕ × Option ℕ)) → made_by nat_cmp (λ v before. v) look ws ≡ ws
made_same look [] = refl
made_same look (w ∷ ws) = ap (λ xs. w ∷ xs) (made_same (λ k. if eq_by_cmp nat_cmp k w.0 then w.1 else look k) ws)

pub took_deed : (a b : Parts ℕ ℕ ℕ) (mark : Option ℕ) (looked : List ℕ) (written : List (ℕ × Option ℕ)) (said : Option (ℕ × ℕ)) (d : Deed ℕ ℕ ℕ)
    → looked ≡ d.looked → written ≡ d.written → said ≡ d.said
    → Takes nat_cmp a (deed looked (made_by nat_cmp (λ v before. v) (look_at nat_cmp a.slots) written) said) mark b → Takes nat_cmp a d mark b
took_deed a b mark looked written said d l w s takes =
    subst (λ x. Takes nat_cmp a x mark b) (λ i. record { looked = l i; written = (made_same (look_at nat_cmp a.slots) written ∙ w) i; said = s i }) takes

pub same_stays : (a b : EpochsView) → IsSame nat_cmp a.parts b.parts → b.line ≡ a.line → Stays a b
same_stays a b is same s t = record {
  before = t.before;
  moves = t.moves;
  out = t.out;
  stands = same_parts t.moves t.out a.parts b.parts t.stands is;
  steps = t.steps;
  guesses = t.guesses;
  apart = t.apart;
  clean = t.clean;
  accepted = t.accepted;
  shown = t.shown;
  line = same ∙ t.line ∙ ap (λ k. line_of k s.waiting) (sym (ap (λ (v : KeptView). v.kernel) is.guesses));
}

pub new_told : (a : EpochsView) (number limit : ℕ) → ((k : ℕ) → look_at nat_cmp a.parts.slots k ≡ None) → ((k : ℕ) → log_at nat_cmp a.parts.slots k ≡ [])
    → a.parts.guesses ≡ none_drawn number limit → a.parts.opens ≡ [] → a.parts.said ≡ [] → a.line ≡ [] → Tells no_story a
new_told a number limit look log guesses opens said line =
    first_told a (record {
      look = λ k. look k ∙ sym (get-empty nat_cmp k);
      log = log;
      drawn = ap (λ (v : KeptView). v.drawn) guesses;
      struck = ap (λ (v : KeptView). v.struck) guesses;
      opens = opens;
      said = said;
    }) line

-- ---- lists
pub front_is : {A : Type 0} (xs ys : List A) (x : A) → (length xs == 0) ≡ false → x ≡ slice_index_or xs 0 x → ys ≡ remove xs 0 → xs ≡ x ∷ ys
front_is [] ys x some first rest = absurd cc
front_is (y ∷ xs) ys x some first rest = λ i. sym first i ∷ sym rest i

-- ---- the line says how many wait
pub none_waits : (k : ℕ) (es : List Epoch) (line : List Begun) → line ≡ line_of k es → line ≡ [] → es ≡ []
none_waits k [] line is none = refl
none_waits k (e ∷ es) line is none = absurd cc

-- and where they go back to
any_needed : (k c : ℕ) (es : List Epoch) → list_any (λ (b : Begun). b.checkpoint == c) (line_of k es) ≡ is_needed c es
any_needed k c [] = refl
any_needed k c (e ∷ es) = ap (λ b. (e.checkpoint == c) || b) (any_needed k c es)

pub needed_told : (a : EpochsView) (c : ℕ) (s : Story) → Tells s a → list_any (λ (b : Begun). b.checkpoint == c) a.line ≡ is_needed c s.waiting
needed_told a c s t = ap (list_any (λ (b : Begun). b.checkpoint == c)) t.line ∙ any_needed a.parts.guesses.kernel c s.waiting

abbrev begun_of : ℕ → Epoch → Begun
begun_of k e = record { token = record { kernel = k; id = e.number }; checkpoint = e.checkpoint }

-- ---- what a refusal takes back
names_so : (b c d : _) → c ≡ (b || d) → cond b false c ≡ cond b false d
names_so true c d is = refl
names_so false c d is = is

module _ (a : EpochsView) (b0 : Begun) (rest : List Begun) (line : a.line ≡ b0 ∷ rest) where
  back_at : (undone : Undone ℕ) → TookBack nat_cmp a.parts b0.token.id undone → (back : Back) → back.checkpoint ≡ b0.checkpoint
      → ((name : ℕ) → is_in nat_cmp back.names.items name ≡ (if name == 0 then false else is_in nat_cmp undone.keys.items name))
      → IsStrictlySortedBy nat_cmp back.names.items → (s : Story) (t : Tells s a) (w : List Epoch) → s.waiting ≡ w → GoesBack w (Some back)
  back_at undone took back checkpoint names rising s t [] is = absurd cc
  back_at undone took back checkpoint names rising s t (e ∷ es) is =
      let lines : b0 ∷ rest ≡ begun_of a.parts.guesses.kernel e ∷ line_of a.parts.guesses.kernel es = sym line ∙ t.line ∙ ap (line_of a.parts.guesses.kernel) is in
      let same : b0 ≡ begun_of a.parts.guesses.kernel e = cc in
      record {
        checkpoint = checkpoint ∙ ap (λ (x : Begun). x.checkpoint) same;
        names = λ name.
            names name
            ∙ names_so (name == 0) (is_in nat_cmp undone.keys.items name) (changed_in (all_in (e ∷ es)) name)
            (took.keys name ∙ ap (λ (x : Begun). has x.token.id (tags_at (undo_state_of nat_cmp a.parts) name)) same
            ∙ rests_told s a t e es is name ∙ ap (λ ws. (name == tree) || changed_in (all_in ws) name) is);
        rising = rising;
      }

  pub back_told : (undone : Undone ℕ) → TookBack nat_cmp a.parts b0.token.id undone → (back : Back) → back.checkpoint ≡ b0.checkpoint
      → ((name : ℕ) → is_in nat_cmp back.names.items name ≡ (if name == 0 then false else is_in nat_cmp undone.keys.items name))
      → IsStrictlySortedBy nat_cmp back.names.items → (s : Story) → Tells s a → GoesBack s.waiting (Some back)
  back_told undone took back checkpoint names rising s t = back_at undone took back checkpoint names rising s t s.waiting refl

  fails_at : (mid : Parts ℕ ℕ ℕ) → FailsIn nat_cmp a.parts b0.token.id mid → (s : Story) (t : Tells s a) (w : List Epoch) → s.waiting ≡ w → AreForgotten mid rest
  fails_at mid fails s t [] is = absurd cc
  fails_at mid fails s t (e ∷ es) is =
      let lines : b0 ∷ rest ≡ begun_of a.parts.guesses.kernel e ∷ line_of a.parts.guesses.kernel es = sym line ∙ t.line ∙ ap (line_of a.parts.guesses.kernel) is in
      let same : b0 ≡ begun_of a.parts.guesses.kernel e = cc in
      let others : rest ≡ line_of a.parts.guesses.kernel es = cc in
      subst (AreForgotten mid) (sym others)
      (all_forgotten s a t e es is mid (subst (λ (x : Begun). FailsIn nat_cmp a.parts x.token.id mid) same fails))

  -- the tokens of the others may be let go of
  pub rest_forgotten : (mid : Parts ℕ ℕ ℕ) → FailsIn nat_cmp a.parts b0.token.id mid → (s : Story) × Tells s a → AreForgotten mid rest
  rest_forgotten mid fails (s, t) = fails_at mid fails s t s.waiting refl

  refuse_so : (b : EpochsView) (mid : Parts ℕ ℕ ℕ) → FailsIn nat_cmp a.parts b0.token.id mid → IsForgotten mid b.parts → b.line ≡ [] → (s : Story) (t : Tells s a) (w : List Epoch)
      → s.waiting ≡ w → Tells (with_call Refuses s) b
  refuse_so b mid fails forgotten none s t [] is = absurd cc
  refuse_so b mid fails forgotten none s t (e ∷ es) is =
      let lines : b0 ∷ rest ≡ begun_of a.parts.guesses.kernel e ∷ line_of a.parts.guesses.kernel es = sym line ∙ t.line ∙ ap (line_of a.parts.guesses.kernel) is in
      let same : b0 ≡ begun_of a.parts.guesses.kernel e = cc in
      refuse_at a b s t e es is mid (subst (λ (x : Begun). FailsIn nat_cmp a.parts x.token.id mid) same fails) forgotten none

  pub refuse_goes : (b : EpochsView) (mid : Parts ℕ ℕ ℕ) → FailsIn nat_cmp a.parts b0.token.id mid → IsForgotten mid b.parts → b.line ≡ [] → Goes Refuses a b
  refuse_goes b mid fails forgotten none s t = refuse_so b mid fails forgotten none s t s.waiting refl

  -- ---- the oldest token
  pub oldest_at : (s : Story) (t : Tells s a) (w : List Epoch) → s.waiting ≡ w
      → (b0.token.kernel ≡ a.parts.guesses.kernel) × (has b0.token.id (numbers a.parts.opens) ≡ true) × (has b0.token.id a.parts.guesses.struck ≡ true → ⊥) × (Some b0.checkpoint ≡ oldest_checkpoint w)
  oldest_at s t [] is = absurd cc
  oldest_at s t (e ∷ es) is =
      let lines : b0 ∷ rest ≡ begun_of a.parts.guesses.kernel e ∷ line_of a.parts.guesses.kernel es = sym line ∙ t.line ∙ ap (line_of a.parts.guesses.kernel) is in
      let same : b0 ≡ begun_of a.parts.guesses.kernel e = cc in (
        ap (λ (x : Begun). x.token.kernel) same,
        ap (λ (x : Begun). has x.token.id (numbers a.parts.opens)) same ∙ oldest_open s a t e es is,
        λ struck. oldest_kept s a t e es is (subst (λ (x : Begun). has x.token.id a.parts.guesses.struck ≡ true) same struck),
        ap (λ (x : Begun). Some x.checkpoint) same,
      )

  pub no_stranger : (s : Story) × Tells s a → IsStranger a.parts b0.token → ⊥
  no_stranger (s, t) stranger = let o = oldest_at s t s.waiting refl in true≢false (sym o.1 ∙ (stranger o.0).0)

  pub not_gone : (s : Story) × Tells s a → (new : Parts ℕ ℕ ℕ) → Forgets nat_cmp a.parts b0.token.id new → ⊥
  not_gone (s, t) new forgets = (oldest_at s t s.waiting refl).2 forgets.struck

  pub oldest_told : (s : Story) → Tells s a → Some b0.checkpoint ≡ oldest_checkpoint s.waiting
  oldest_told s t = (oldest_at s t s.waiting refl).3

-- ---- where none waits
module _ (a : EpochsView) (none : a.line ≡ []) where
  pub none_at : (s : Story) → Tells s a → s.waiting ≡ []
  none_at s t = none_waits a.parts.guesses.kernel s.waiting a.line t.line none

  pub no_checkpoint : (s : Story) → Tells s a → None ≡ oldest_checkpoint s.waiting
  no_checkpoint s t = ap oldest_checkpoint (sym (none_at s t))

  pub none_back : (s : Story) → Tells s a → GoesBack s.waiting None
  none_back s t = subst (λ w. GoesBack w None) (sym (none_at s t)) refl

-- ---- an output is shown
module _ (a b : EpochsView) (t : ℕ) (same : b.parts ≡ record a.parts { said = b.parts.said }) (line : b.line ≡ a.line)
    (others : (u : ℕ) → (t == u) ≡ false → said_at b.parts.said u ≡ said_at a.parts.said u) where
  shown_some : (o : ℕ) → said_at a.parts.said t ≡ ((t, o), []) ∷ said_at b.parts.said t → Goes (Shows t o) a b
  shown_some o first = shows_goes a b t o (record { first = first; others = others; same = same }) line

  pub shown_post : (result : Option ℕ) → IfSome result (λ o. said_at a.parts.said t ≡ ((t, o), []) ∷ said_at b.parts.said t) → (result ≡ None → b.parts ≡ a.parts)
      → (result ≡ None → released (said_at a.parts.said t) ≡ []) → Shown t result a b
  shown_post None first none held = ((λ i. record { parts = none refl i; line = line i }), none_told a t (held refl))
  shown_post (Some o) first none held = (shown_some o first, next_told a t o (said_at b.parts.said t) first)

  pub shown_told : (result : Option ℕ) → IfSome result (λ o. said_at a.parts.said t ≡ ((t, o), []) ∷ said_at b.parts.said t) → (result ≡ None → b.parts ≡ a.parts)
      → (s : Story) × Tells s a → (s : Story) × Tells s b
  shown_told None first none (s, told) = (s, subst (Tells s) (λ i. record { parts = sym (none refl) i; line = sym line i }) told)
  shown_told (Some o) first none (s, told) = (with_call (Shows t o) s, shown_some o first s told)

-- ---- what depends on the oldest epoch
changed_at : (a : EpochsView) (b0 : Begun) (rest : List Begun) → a.line ≡ b0 ∷ rest → (s : Story) (t : Tells s a) (w : List Epoch) → s.waiting ≡ w → (name : ℕ) → (name == 0) ≡ false
    → has b0.token.id (tags_at (undo_state_of nat_cmp a.parts) name) ≡ changed_in (all_in s.waiting) name
changed_at a b0 rest line s t [] is name there = absurd cc
changed_at a b0 rest line s t (e ∷ es) is name there =
    let lines : b0 ∷ rest ≡ begun_of a.parts.guesses.kernel e ∷ line_of a.parts.guesses.kernel es = sym line ∙ t.line ∙ ap (line_of a.parts.guesses.kernel) is in
    let same : b0 ≡ begun_of a.parts.guesses.kernel e = cc in
    ap (λ (x : Begun). has x.token.id (tags_at (undo_state_of nat_cmp a.parts) name)) same ∙ rests_told s a t e es is name
    ∙ ap (λ b. b || changed_in (all_in s.waiting) name) there

pub changed_told : (a : EpochsView) (xs : List Begun) (b0 : Begun) → a.line ≡ xs → slice_get xs 0 ≡ Some b0 → (s : Story) → Tells s a → (name : ℕ) → (name == 0) ≡ false
    → has b0.token.id (tags_at (undo_state_of nat_cmp a.parts) name) ≡ changed_in (all_in s.waiting) name
changed_told a [] b0 line first s t name there = absurd cc
changed_told a (x ∷ xs) b0 line first s t name there =
    let same : x ≡ b0 = cc in changed_at a b0 xs (line ∙ ap (λ y. y ∷ xs) same) s t s.waiting refl name there

-- ---- the names among keys
less_zero : (x : ℕ) → nat_cmp x 0 ≡ Less → ⊥
less_zero zero is = true≢false (ap is_eq is)
less_zero (suc n) is = absurd (cc (is, nat_cmp_is (suc n) 0 Greater (omega arith)))

not_zero : (x y : ℕ) → nat_cmp x y ≡ Less → (0 == y) ≡ false
not_zero x y is = false_from_ne_true _ (λ same. less_zero x (ap (nat_cmp x) (eqb-true 0 y same) ∙ is))

zero_out : (xs : List ℕ) (x : ℕ) → AllByRecursion (λ y. nat_cmp x y ≡ Less) xs → is_in nat_cmp xs 0 ≡ false
zero_out [] x all = refl
zero_out (y ∷ ys) x all = or_from _ _ (unsigned_tied 0 y ∙ not_zero x y all.0) (zero_out ys x all.1)

-- the tree is the first key, if it is one
pub names_then : (xs ys : List ℕ) → IsStrictlySortedBy nat_cmp xs → begins_with_tree xs ≡ true → ys ≡ remove xs 0 → (name : ℕ)
    → is_in nat_cmp ys name ≡ (if name == 0 then false else is_in nat_cmp xs name)
unfolding IsStrictlySortedBy
names_then [] ys sorted begins rest name = absurd (true≢false (sym begins))
names_then (x ∷ xs) ys sorted begins rest name =
    ap (λ zs. is_in nat_cmp zs name) rest
    ∙ elim (name == 0) as (λ b. (name == 0) ≡ b → is_in nat_cmp xs name ≡ cond b false (eq_by_cmp nat_cmp name x || is_in nat_cmp xs name)) [
      | true ↦ λ is. ap (is_in nat_cmp xs) (eqb-true name 0 is) ∙ zero_out xs x sorted.0
      | false ↦ λ other. ap (λ b. b || is_in nat_cmp xs name) (sym (unsigned_tied name x ∙ ap (λ k. name == k) (eqb-true x 0 begins) ∙ other))
    ] refl

pub names_rising : (xs ys : List ℕ) → IsStrictlySortedBy nat_cmp xs → begins_with_tree xs ≡ true → ys ≡ remove xs 0 → IsStrictlySortedBy nat_cmp ys
unfolding IsStrictlySortedBy
names_rising [] ys sorted begins rest = absurd (true≢false (sym begins))
names_rising (x ∷ xs) ys sorted begins rest = subst (IsStrictlySortedBy nat_cmp) (sym rest) sorted.1

pub names_else : (xs : List ℕ) → IsStrictlySortedBy nat_cmp xs → begins_with_tree xs ≡ false → (name : ℕ)
    → is_in nat_cmp xs name ≡ (if name == 0 then false else is_in nat_cmp xs name)
unfolding IsStrictlySortedBy
names_else [] sorted none name = elim (name == 0) as (λ b. false ≡ cond b false false) [
  | true ↦ refl
  | false ↦ refl
]
names_else (x ∷ xs) sorted none name =
    elim (name == 0) as (λ b. (name == 0) ≡ b → is_in nat_cmp (x ∷ xs) name ≡ cond b false (is_in nat_cmp (x ∷ xs) name)) [
      | true ↦ λ is. ap (is_in nat_cmp (x ∷ xs)) (eqb-true name 0 is) ∙ or_from _ _ (unsigned_tied 0 x ∙ eqb_turned 0 x ∙ none) (zero_out xs x sorted.0)
      | false ↦ λ other. refl
    ] refl

-- ---- a kernel's refusal
pub begin_refused : (a : EpochsView) (why : Refusal) → Calls.Refuses a.parts why → RefusesBegin a (refused_by why)
begin_refused a refusal_as.TooMany refuses = refuses
begin_refused a refusal_as.NoNumber refuses = refuses
begin_refused a refusal_as.Memory refuses = refuses

-- ---- why nothing happens
pub began_not : (a b : EpochsView) (checkpoint : ℕ) (why : Refusal) (r : Result ℕ Refused) → (y : Refused) × (r ≡ Err y) × (y ≡ refused_by why)
    → Calls.Refuses a.parts why → Stays a b → Began checkpoint r a b
began_not a b checkpoint why r told refuses stays =
    subst (λ x. Began checkpoint x a b) (sym (told.1 ∙ ap Err told.2)) (begin_refused a why refuses, stays)

pub happened_not : (a b : EpochsView) (event : Event) (r : Result (Unit {0}) Refused) → (y : Refused) × (r ≡ Err y) × (y ≡ refused_as.Memory)
    → ((s : Story) → Tells s a → misfit s event ≡ None) → Stays a b → Happened event r a b
happened_not a b event r told fits stays = subst (λ x. Happened event x a b) (sym (told.1 ∙ ap Err told.2)) (fits, stays)
