-- The server accepts the oldest epoch, or refuses it.
use Rattle.real_epochs.proofs.Names.{◌≡◌, ◌||◌, ◌&&◌, ◌==◌, ℕ, true, false, not, cond, List, [], ◌∷◌, ◌++◌, map, Option, Some, None, Ok, Err, refl}
use Rattle.real_epochs.proofs.Names.{sym, ◌∙◌, ap, subst, append_assoc, append-nil, filter, nat_cmp, or_parts, or_left, or_right, or_from}
use Rattle.real_epochs.proofs.Names.{or_cases, inl, inr, eqb-true, eq-eqb, true≢false, false_from_ne_true, has, effects, strike, still_marked, is_marked, list_any, list_any-append}
use Rattle.real_epochs.proofs.Names.{Commit, Fail, record_of, undecided_of, without, has_filter, map_append, eqb_turned, and_both, marked_is, numbers, not_struck, Open, Status, KeptView, struck_with, open_in, Token}
use Rattle.real_epochs.proofs.Names.{Commits, CommitPost, FailsIn, FailPost, Forgets, Parts, Epoch, Story, all_in, in_oldest, but_oldest, told_in}
use Rattle.real_epochs.proofs.Names.{Begun, Entry, Opens, Does, Changes, Told, Says, host, mark, entries_of, events_in, is_begun, Event}
use Rattle.real_epochs.specs.Story.{Accepts, Refuses}
use Rattle.real_epochs.specs.Clean.{IsClean, staying}
use Rattle.real_epochs.specs.Tells.{nothing, line_of, numbers_of, AreApart, EpochsView, Goes, StandsAt, Tells}
use Rattle.real_epochs.specs.Forgotten.{AreForgotten, AreOut, ids_of, IsForgotten}
use Rattle.real_epochs.proofs.Chain.{none_left, struck_all}
use Rattle.real_epochs.proofs.Stories.{clean_behind, entries_one, events_more, events_of_one, none_begun, not_again, staying_told, without_first}
use Rattle.real_epochs.proofs.Moves.{forgot, guesses_committed, guesses_failed, moved, steps_committed, steps_failed, undecided_are}
use Rattle.sk_record.specs.declared.status.Status.TheVariants as status_as
use Rattle.sk_speculator.specs.declared.decided.Committed.{Committed}
use Rattle.sk_speculator.specs.declared.decided.Failed.{Failed}
use Rattle.sk_speculator.specs.declared.decided.Failed.TheVariants as failed_as
use Rattle.sk_speculator.specs.declared.decided.Committed.TheVariants as committed_as

-- ---- what waits

abbrev token_of : ℕ → Epoch → Token
token_of k e = record { kernel = k; id = e.number }

abbrev begun_of : ℕ → Epoch → Begun
begun_of k e = record { token = token_of k e; checkpoint = e.checkpoint }

-- the oldest epoch that waits is undecided
pub oldest_open : (s : Story) (a : EpochsView) (t : Tells s a) (e : Epoch) (es : List Epoch) → s.waiting ≡ e ∷ es → has e.number (numbers a.parts.opens) ≡ true
oldest_open s a t e es is =
    ap (has e.number) (undecided_are t.moves t.out a.parts t.stands ∙ t.guesses ∙ ap numbers_of is)
    ∙ or_left (e.number == e.number) _ (eq-eqb e.number e.number refl)

not_both : (status : Option Status) → open_in status ≡ true → status ≡ Some status_as.Struck → ⊥
not_both status here is = true≢false (sym here ∙ ap open_in is)

-- and not struck
pub oldest_kept : (s : Story) (a : EpochsView) (t : Tells s a) (e : Epoch) (es : List Epoch) → s.waiting ≡ e ∷ es → has e.number a.parts.guesses.struck ≡ true → ⊥
oldest_kept s a t e es is struck =
    not_both (t.stands.status e.number) (sym (t.stands.agrees.undecided e.number) ∙ oldest_open s a t e es is) (t.stands.agrees.struck e.number struck)

no_line : (k : ℕ) (es : List Epoch) → line_of k es ≡ [] → es ≡ []
no_line k [] none = refl
no_line k (e ∷ es) none = absurd cc

-- ---- it is accepted

accept_at : (a b : EpochsView) (s : Story) (t : Tells s a) (w : List Epoch) → s.waiting ≡ w → (b0 : Begun) (rest : List Begun) → a.line ≡ b0 ∷ rest → b.line ≡ rest
    → (it : Committed) → CommitPost nat_cmp a.parts b0.token (Ok it) b.parts
    → Tells (record s { accepted = s.accepted ++ in_oldest w; waiting = but_oldest w }) b
accept_at a b s t [] is b0 rest line left it post = absurd (cc (line, t.line ∙ ap (line_of a.parts.guesses.kernel) is))
accept_at a b s t (e ∷ es) is b0 rest line left committed_as.Gone post =
    let lines : b0 ∷ rest ≡ begun_of a.parts.guesses.kernel e ∷ line_of a.parts.guesses.kernel es = sym line ∙ t.line ∙ ap (line_of a.parts.guesses.kernel) is in
    let same : b0 ≡ begun_of a.parts.guesses.kernel e = cc in
    absurd (oldest_kept s a t e es is (subst (λ (x : Begun). has x.token.id a.parts.guesses.struck ≡ true) same post.1.struck))
accept_at a b s t (e ∷ es) is b0 rest line left committed_as.Done post =
    let k = a.parts.guesses.kernel in
    let lines : b0 ∷ rest ≡ begun_of k e ∷ line_of k es = sym line ∙ t.line ∙ ap (line_of k) is in
    let same : b0 ≡ begun_of k e = cc in
    let others : rest ≡ line_of k es = cc in
    let commits : Commits nat_cmp a.parts e.number b.parts = subst (λ (x : Begun). Commits nat_cmp a.parts x.token.id b.parts) same post.1 in
    let own : b.parts.guesses.kernel ≡ k = ap (λ (v : KeptView). v.kernel) commits.guesses in
    let apart : AreApart t.before (e ∷ es) = subst (AreApart t.before) is t.apart in
    record {
      before = t.before ++ entries_of (e ∷ []);
      moves = t.moves ++ Commit e.number ∷ [];
      out = t.out;
      stands = moved t.moves t.out a.parts (Commit e.number) b.parts t.stands commits;
      steps = steps_committed t.moves e.number ∙ t.steps ∙ ap (λ ws. t.before ++ entries_of ws) is ∙ ap (λ ns. t.before ++ ns) (entries_one e es)
          ∙ sym (append_assoc t.before (entries_of (e ∷ [])) (entries_of es));
      guesses = guesses_committed t.moves e.number ∙ ap (λ gs. filter (λ g. not (g == e.number)) gs) (t.guesses ∙ ap numbers_of is)
          ∙ without_first e.number (numbers_of es) (not_again t.before e es apart);
      apart = apart.1;
      clean = clean_behind [] (entries_of (e ∷ [])) (entries_of es) (subst (IsClean []) (ap entries_of is ∙ entries_one e es) t.clean);
      accepted = events_more t.before (entries_of (e ∷ [])) ∙ (λ i. t.accepted i ++ events_of_one e i);
      shown = t.shown;
      line = left ∙ others ∙ ap (λ n. line_of n es) (sym own);
    }

pub accept_goes : (a b : EpochsView) (b0 : Begun) (rest : List Begun) → a.line ≡ b0 ∷ rest → b.line ≡ rest
    → (it : Committed) → CommitPost nat_cmp a.parts b0.token (Ok it) b.parts → Goes Accepts a b
accept_goes a b b0 rest line left it post s t = accept_at a b s t s.waiting refl b0 rest line left it post

-- where none waits, nothing changes
pub accept_none : (a : EpochsView) → a.line ≡ [] → Goes Accepts a a
accept_none a none s t =
    let empty : s.waiting ≡ [] = no_line a.parts.guesses.kernel s.waiting (sym t.line ∙ none) in
    subst (λ x. Tells x a)
    (λ i. record s { accepted = sym (ap (λ ws. s.accepted ++ in_oldest ws) empty ∙ append-nil s.accepted) i; waiting = (empty ∙ sym (ap but_oldest empty)) i }) t

-- ---- it is refused, and all behind it

none_begins : (g : ℕ) (ns : List Entry) → is_begun g (staying ns) ≡ false
none_begins g [] = refl
none_begins g (Opens number checkpoint ∷ ns) = none_begins g ns
none_begins g (Does (Changes name version) ∷ ns) = none_begins g ns
none_begins g (Does (Told name version) ∷ ns) = none_begins g ns
none_begins g (Does (Says stream output) ∷ ns) = none_begins g ns

-- what is left of the steps
left_of : (before : List Entry) (e : Epoch) (es : List Epoch) → AreApart before (e ∷ es) → IsClean [] (entries_of (e ∷ es))
    → strike host nothing (before ++ entries_of (e ∷ es)) e.number ≡ before ++ staying (entries_of (e ∷ es))
left_of before e es apart clean = struck_all e.number nothing e.checkpoint before (map Does e.events ++ entries_of es) apart.0 clean.1

none_marked : (before : List Entry) (e : Epoch) (es : List Epoch) → AreApart before (e ∷ es) → (g : ℕ) → has g (numbers_of (e ∷ es)) ≡ true
    → still_marked (effects host nothing (before ++ staying (entries_of (e ∷ es)))) g ≡ false
none_marked before e es apart g here =
    marked_is host nothing nothing (before ++ staying (entries_of (e ∷ es))) g
    ∙ list_any-append (λ n. is_marked (mark n) g) before (staying (entries_of (e ∷ es)))
    ∙ or_from _ _ (none_begun before (e ∷ es) apart g here) (none_begins g (entries_of (e ∷ es)))

no_numbers : (os : List Open) → numbers os ≡ [] → os ≡ []
no_numbers [] none = refl
no_numbers (o ∷ os) none = absurd cc

module _ (s : Story) (a : EpochsView) (t : Tells s a) (e : Epoch) (es : List Epoch) (is : s.waiting ≡ e ∷ es) (mid : Parts ℕ ℕ ℕ) (fails : FailsIn nat_cmp a.parts e.number mid) where
  apart_now : AreApart t.before (e ∷ es)
  apart_now = subst (AreApart t.before) is t.apart

  fell : StandsAt (t.moves ++ Fail e.number ∷ []) t.out mid
  fell = moved t.moves t.out a.parts (Fail e.number) mid t.stands fails

  struck_so : strike host nothing (t.before ++ entries_of s.waiting) e.number ≡ t.before ++ staying (entries_of (e ∷ es))
  struck_so =
      ap (λ ws. strike host nothing (t.before ++ entries_of ws) e.number) is
      ∙ left_of t.before e es apart_now (subst (λ ws. IsClean [] (entries_of ws)) is t.clean)

  steps_left : strike host nothing (record_of host nothing t.moves) e.number ≡ t.before ++ staying (entries_of (e ∷ es))
  steps_left = ap (λ ns. strike host nothing ns e.number) t.steps ∙ struck_so

  none_open : undecided_of host nothing (t.moves ++ Fail e.number ∷ []) ≡ []
  none_open =
      guesses_failed t.moves e.number
      ∙ (λ i. filter (still_marked (effects host nothing (steps_left i))) ((t.guesses ∙ ap numbers_of is) i))
      ∙ none_left (still_marked (effects host nothing (t.before ++ staying (entries_of (e ∷ es))))) (numbers_of (e ∷ es)) (none_marked t.before e es apart_now)

  opens_gone : mid.opens ≡ []
  opens_gone = no_numbers mid.opens (undecided_are (t.moves ++ Fail e.number ∷ []) t.out mid fell ∙ none_open)

  -- the others are struck with it
  all_rest : (os : List Open) → not_struck e.number os ≡ [] → (h : ℕ) → (h == e.number) ≡ false → has h (numbers os) ≡ true
      → has h (numbers (filter (λ o. has e.number o.1 && not (o.0 == e.number)) os)) ≡ true
  all_rest [] none h other here = here
  all_rest (o ∷ os) none h other here =
      elim (has e.number o.1) as (λ b. has e.number o.1 ≡ b → cond (not b) (o ∷ not_struck e.number os) (not_struck e.number os) ≡ []
      → has h (numbers (cond (b && not (o.0 == e.number)) (o ∷ filter (λ o. has e.number o.1 && not (o.0 == e.number)) os) (filter (λ o. has e.number o.1 && not (o.0 == e.number)) os))) ≡ true) [
        | true ↦ λ rests rest. elim (or_cases (o.0 == h) (has h (numbers os)) here) [
          | inl same ↦
              let apart : (o.0 == e.number) ≡ false = ap (λ n. n == e.number) (eqb-true o.0 h same) ∙ other in
              ap (λ c. has h (numbers (cond (not c) (o ∷ filter (λ o. has e.number o.1 && not (o.0 == e.number)) os) (filter (λ o. has e.number o.1 && not (o.0 == e.number)) os)))) apart
              ∙ or_left (o.0 == h) _ same
          | inr there ↦ elim (o.0 == e.number) as (λ c. has h (numbers (cond (not c) (o ∷ filter (λ o. has e.number o.1 && not (o.0 == e.number)) os) (filter (λ o. has e.number o.1 && not (o.0 == e.number)) os))) ≡ true) [
            | true ↦ all_rest os rest h other there
            | false ↦ or_right (o.0 == h) _ (all_rest os rest h other there)
          ]
        ]
        | false ↦ λ rests rest. absurd cc
      ] refl none

  struck_rest : (h : ℕ) → has h (numbers_of es) ≡ true → has h mid.guesses.struck ≡ true
  struck_rest h here =
      let other : (h == e.number) ≡ false = false_from_ne_true _ (λ same. true≢false (sym here ∙ ap (λ g. has g (numbers_of es)) (eqb-true h e.number same) ∙ not_again t.before e es apart_now)) in
      let there : has h (numbers a.parts.opens) ≡ true =
      ap (has h) (undecided_are t.moves t.out a.parts t.stands ∙ t.guesses ∙ ap numbers_of is) ∙ or_right (e.number == h) _ here in
      ap (λ (v : KeptView). has h v.struck) fails.guesses
      ∙ list_any-append (λ g. g == h) a.parts.guesses.struck (struck_with e.number a.parts.opens)
      ∙ or_right (has h a.parts.guesses.struck) _ (all_rest a.parts.opens (sym fails.opens ∙ opens_gone) h other there)

ids_are : (k : ℕ) (es : List Epoch) → ids_of (line_of k es) ≡ numbers_of es
ids_are k [] = refl
ids_are k (e ∷ es) = ap (λ xs. e.number ∷ xs) (ids_are k es)

out_all : (v : KeptView) (ns : List Entry) (es : List Epoch) → AreApart ns es → ((h : ℕ) → has h (numbers_of es) ≡ true → has h v.struck ≡ true) → AreOut v (line_of v.kernel es)
out_all v ns [] apart struck = tt
out_all v ns (e ∷ es) apart struck = (
  refl,
  struck e.number (or_left (e.number == e.number) _ (eq-eqb e.number e.number refl)),
  ap (has e.number) (ids_are v.kernel es) ∙ not_again ns e es apart,
  out_all v (ns ++ entries_of (e ∷ [])) es apart.1 (λ h here. struck h (or_right (e.number == h) _ here)),
)

pub all_forgotten : (s : Story) (a : EpochsView) (t : Tells s a) (e : Epoch) (es : List Epoch) → s.waiting ≡ e ∷ es → (mid : Parts ℕ ℕ ℕ)
    → FailsIn nat_cmp a.parts e.number mid → AreForgotten mid (line_of a.parts.guesses.kernel es)
all_forgotten s a t e es is mid fails =
    let own : mid.guesses.kernel ≡ a.parts.guesses.kernel = ap (λ (v : KeptView). v.kernel) fails.guesses in
    let apart : AreApart t.before (e ∷ es) = subst (AreApart t.before) is t.apart in (
      opens_gone s a t e es is mid fails,
      subst (λ k. AreOut mid.guesses (line_of k es)) own
          (out_all mid.guesses (t.before ++ entries_of (e ∷ [])) es apart.1 (struck_rest s a t e es is mid fails)),
    )

pub refuse_at : (a b : EpochsView) (s : Story) (t : Tells s a) (e : Epoch) (es : List Epoch) → s.waiting ≡ e ∷ es → (mid : Parts ℕ ℕ ℕ)
    → FailsIn nat_cmp a.parts e.number mid → IsForgotten mid b.parts → b.line ≡ []
    → Tells (record s { accepted = s.accepted ++ told_in (all_in s.waiting); waiting = [] }) b
refuse_at a b s t e es is mid fails forgotten none = record {
  before = t.before ++ staying (entries_of (e ∷ es));
  moves = t.moves ++ Fail e.number ∷ [];
  out = t.out;
  stands = forgot (t.moves ++ Fail e.number ∷ []) t.out mid b.parts (fell s a t e es is mid fails) forgotten;
  steps = steps_failed t.moves e.number ∙ steps_left s a t e es is mid fails ∙ sym (append-nil (t.before ++ staying (entries_of (e ∷ es))));
  guesses = none_open s a t e es is mid fails;
  apart = tt;
  clean = tt;
  accepted = events_more t.before (staying (entries_of (e ∷ es)))
      ∙ (λ i. t.accepted i ++ (staying_told (e ∷ es) ∙ ap (λ ws. told_in (all_in ws)) (sym is)) i);
  shown = t.shown;
  line = none;
}

-- where none waits, nothing changes
pub refuse_none : (a : EpochsView) → a.line ≡ [] → Goes Refuses a a
refuse_none a none s t =
    let empty : s.waiting ≡ [] = no_line a.parts.guesses.kernel s.waiting (sym t.line ∙ none) in
    subst (λ x. Tells x a)
    (λ i. record s { accepted = sym (ap (λ ws. s.accepted ++ told_in (all_in ws)) empty ∙ append-nil s.accepted) i; waiting = empty i }) t

-- ---- tokens are let go of, the newest first

last_out : (v : KeptView) (bs : List Begun) (b : Begun) → AreOut v (bs ++ b ∷ [])
    → (b.token.kernel ≡ v.kernel) × (has b.token.id v.struck ≡ true) × AreOut (record v { struck = without b.token.id v.struck }) bs
last_out v [] b out = (out.0, out.1, tt)
last_out v (c ∷ bs) b out =
    let more = last_out v bs b out.3 in
    let apart = or_parts _ _ (sym (list_any-append (λ g. g == c.token.id) (ids_of bs) (b.token.id ∷ [])) ∙ ap (has c.token.id) (sym (map_append (λ (x : Begun). x.token.id) bs (b ∷ []))) ∙ out.2) in
    let other : (c.token.id == b.token.id) ≡ false = eqb_turned c.token.id b.token.id ∙ (or_parts _ _ apart.1).0 in (
      more.0,
      more.1,
      (
        out.0,
        has_filter (λ g. not (g == b.token.id)) c.token.id v.struck ∙ (λ i. not (other i) && out.1 i),
        apart.0,
        more.2,
      ),
    )

module _ (p : Parts ℕ ℕ ℕ) (bs cs : List Begun) (b : Begun) (out : AreForgotten p bs) (is : bs ≡ cs ++ b ∷ []) where
  last_now : (b.token.kernel ≡ p.guesses.kernel) × (has b.token.id p.guesses.struck ≡ true) × AreOut (record p.guesses { struck = without b.token.id p.guesses.struck }) cs
  last_now = last_out p.guesses cs b (subst (AreOut p.guesses) is out.1)

  pub never_stranger : (back : Token) (new : Parts ℕ ℕ ℕ) → FailPost nat_cmp p b.token (Err back) new → ⊥
  never_stranger back new post = true≢false (sym last_now.1 ∙ (post.0 last_now.0).1)

  pub still_out : (gone : Failed ℕ) (new : Parts ℕ ℕ ℕ) → FailPost nat_cmp p b.token (Ok gone) new → AreForgotten new cs × IsForgotten p new
  still_out (failed_as.Done undone) new post = absurd (true≢false (sym post.2.undecided ∙ ap (λ os. has b.token.id (numbers os)) out.0))
  still_out failed_as.Gone new post =
      let left = post.1.left in (
        subst (λ (q : Parts ℕ ℕ ℕ). AreForgotten q cs) (sym left) (out.0, last_now.2),
        record {
          same = left ∙ ap (λ (xs : List ℕ). record p { guesses = record p.guesses { struck = xs } }) (sym (ap (λ (q : Parts ℕ ℕ ℕ). q.guesses.struck) left));
          fewer = λ g here. (and_both _ _ (sym (has_filter (λ h. not (h == b.token.id)) g p.guesses.struck) ∙ sym (ap (λ (q : Parts ℕ ℕ ℕ). has g q.guesses.struck) left) ∙ here)).1;
        },
      )

pub forgot_more : (a b c : Parts ℕ ℕ ℕ) → IsForgotten a b → IsForgotten b c → IsForgotten a c
forgot_more a b c f g = record {
  same = g.same ∙ ap (λ (q : Parts ℕ ℕ ℕ). record q { guesses = record q.guesses { struck = c.guesses.struck } }) f.same;
  fewer = λ h here. f.fewer h (g.fewer h here);
}

pub forgot_none : (a : Parts ℕ ℕ ℕ) → IsForgotten a a
forgot_none a = record { same = refl; fewer = λ g here. here }
