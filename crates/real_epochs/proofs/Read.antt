-- What calls that read say of the story.
use Rattle.real_epochs.proofs.Names.{◌≡◌, ◌||◌, ◌&&◌, ◌==◌, ℕ, true, false, cond, List, [], ◌∷◌, ◌++◌, map, Option, Some, None, refl}
use Rattle.real_epochs.proofs.Names.{sym, ◌∙◌, ap, subst, append_assoc, append-nil, map_append, or_left, eq-eqb, eqb-true, true≢false, nat_cmp, nat_cmp_total, nat_cmp-IsAntisymmetric}
use Rattle.real_epochs.proofs.Names.{list_any, get, get-empty, has, has_filter, is_in, dirt, effects, run, released, Tagged, tags_along, said_with, all_recorded, no_record, record_of, undecided_of, Record}
use Rattle.real_epochs.proofs.Names.{entries_are, same_tags, tags_are, tags_at, IsFront, with_told, untagged, told_more, Out, look_at, said_at, TakesOut, machine_of, undo_state_of, Parts}
use Rattle.real_epochs.proofs.Names.{Event, Changes, Told, Says, Epoch, Story, all_in, changed_in, known_after, said_on, Begun, Entry, Opens, Does, host, tree, entries_of, events_in}
use Rattle.real_epochs.specs.Story.{Shows}
use Rattle.real_epochs.specs.Clean.{IsClean}
use Rattle.real_epochs.specs.Answers.{known_of, IsNext}
use Rattle.real_epochs.specs.Tells.{nothing, line_of, numbers_of, AreApart, EpochsView, Goes, StandsAt, Tells}
use Rattle.real_epochs.proofs.Chain.{dirty_all, free_all, free_part, known_is, on_stream}
use Rattle.real_epochs.proofs.Stories.{events_all, events_more, none_begun}
use Rattle.real_epochs.proofs.Moves.{taken_out}

module _ (s : Story) (a : EpochsView) (t : Tells s a) where
  -- the record that the kernel stands for
  steps_are : (all_recorded host nothing no_record t.moves).entries ≡ t.before ++ entries_of s.waiting
  steps_are = entries_are host nothing t.moves ∙ t.steps

  -- ---- what is known of a name
  pub known_told : (name : ℕ) → (name == tree) ≡ false → look_at nat_cmp a.parts.slots name ≡ known_after (s.accepted ++ all_in s.waiting) name None
  known_told name there =
      t.stands.stands.merged.look name
      ∙ t.stands.stands.stands.state.look name
      ∙ ap (λ ns. get (run host nothing ns) name) steps_are
      ∙ known_is nothing (t.before ++ entries_of s.waiting) name there
      ∙ (λ i. known_after ((events_more t.before (entries_of s.waiting) ∙ (λ j. t.accepted j ++ events_all s.waiting j)) i) name (get-empty nat_cmp name i))

  -- ---- what depends on the oldest epoch
  pub rests_told : (e : Epoch) (es : List Epoch) → s.waiting ≡ e ∷ es → (k : ℕ)
      → has e.number (tags_at (undo_state_of nat_cmp a.parts) k) ≡ ((k == tree) || changed_in (all_in s.waiting) k)
  rests_told e es is k =
      let full = t.stands.stands.full in
      let r = all_recorded host nothing no_record t.moves in
      let apart : AreApart t.before (e ∷ es) = subst (AreApart t.before) is t.apart in
      let clean : IsClean [] (entries_of (e ∷ es)) = subst (λ ws. IsClean [] (entries_of ws)) is t.clean in
      let is_open : has e.number r.undecided ≡ true = ap (has e.number) (t.guesses ∙ ap numbers_of is) ∙ or_left (e.number == e.number) _ (eq-eqb e.number e.number refl) in
      ap (has e.number) (same_tags full (with_told t.out (machine_of nat_cmp a.parts t.stands.status)) t.stands.stands.merged k
      ∙ tags_are host nat_cmp_total nat_cmp-IsAntisymmetric nothing r full.state t.stands.stands.stands.state k)
      ∙ has_filter (λ g. is_in nat_cmp (dirt nat_cmp g [] (effects host nothing r.entries)) k) e.number r.undecided
      ∙ (λ i. is_in nat_cmp (dirt nat_cmp e.number [] (effects host nothing ((steps_are ∙ ap (λ ws. t.before ++ entries_of ws) is) i))) k && is_open i)
      ∙ and_true (is_in nat_cmp (dirt nat_cmp e.number [] (effects host nothing (t.before ++ entries_of (e ∷ es)))) k)
      ∙ dirty_all e.number nothing e.checkpoint t.before (map Does e.events ++ entries_of es) apart.0 clean.1 k
      ∙ ap (λ xs. (k == tree) || changed_in xs k) (events_all (e ∷ es) ∙ ap all_in (sym is))
    where
      and_true : (b : _) → (b && true) ≡ b
      and_true true = refl
      and_true false = refl

  -- ---- what is shown
  abbrev machine_texts : ℕ → List (Tagged (ℕ × ℕ))
  machine_texts u = untagged (t.out u) ++ said_at a.parts.said u

  released_past : (ws : List (ℕ × ℕ)) (xs : List (Tagged (ℕ × ℕ))) → released (untagged ws ++ xs) ≡ ws ++ released xs
  released_past [] xs = refl
  released_past (w ∷ ws) xs = ap (λ ys. w ∷ ys) (released_past ws xs)

  free_of : (u : ℕ) (w : List Epoch) → s.waiting ≡ w
      → released (said_with host u (tags_along nat_cmp (numbers_of w) (λ g. []) (effects host nothing (t.before ++ entries_of w))) (effects host nothing (t.before ++ entries_of w)))
      ≡ on_stream u (said_on u (events_in t.before))
  free_of u [] is =
      ap (λ ns. released (said_with host u (tags_along nat_cmp [] (λ g. []) (effects host nothing ns)) (effects host nothing ns))) (append-nil t.before)
      ∙ free_all u [] nothing t.before (λ g here. absurd (true≢false (sym here)))
  free_of u (e ∷ es) is =
      let apart : AreApart t.before (e ∷ es) = subst (AreApart t.before) is t.apart in
      let clean : IsClean [] (entries_of (e ∷ es)) = subst (λ ws. IsClean [] (entries_of ws)) is t.clean in
      free_part u (numbers_of (e ∷ es)) nothing e.number e.checkpoint t.before (map Does e.events ++ entries_of es) (none_begun t.before (e ∷ es) apart)
      (or_left (e.number == e.number) _ (eq-eqb e.number e.number refl)) clean.1

  pub released_told : (u : ℕ) → on_stream u (s.shown u) ++ released (said_at a.parts.said u) ≡ on_stream u (said_on u s.accepted)
  released_told u =
      ap (λ ws. ws ++ released (said_at a.parts.said u)) (sym (t.shown u))
      ∙ sym (released_past (t.out u) (said_at a.parts.said u))
      ∙ ap released (t.stands.stands.merged.texts u ∙ t.stands.stands.stands.texts u)
      ∙ (λ i. released (said_with host u (tags_along nat_cmp (t.guesses i) (λ g. []) (effects host nothing (steps_are i))) (effects host nothing (steps_are i))))
      ∙ free_of u s.waiting refl
      ∙ ap (λ es. on_stream u (said_on u es)) t.accepted

outputs_of : (u : ℕ) (os : List ℕ) → map (λ w. w.1) (on_stream u os) ≡ os
outputs_of u [] = refl
outputs_of u (o ∷ os) = ap (λ xs. o ∷ xs) (outputs_of u os)

-- ---- an output is shown
more_shown : (b : _) (u output : ℕ) (out : List (ℕ × ℕ)) (shown : List ℕ) → out ≡ on_stream u shown
    → cond b (out ++ (u, output) ∷ []) out ≡ on_stream u (cond b (shown ++ output ∷ []) shown)
more_shown true u output out shown is = ap (λ xs. xs ++ (u, output) ∷ []) is ∙ sym (map_append (λ o. (u, o)) shown (output ∷ []))
more_shown false u output out shown is = is

pub shows_goes : (a b : EpochsView) (u output : ℕ) → TakesOut a.parts u output b.parts → b.line ≡ a.line → Goes (Shows u output) a b
shows_goes a b u output takes same s t = record {
  before = t.before;
  moves = t.moves;
  out = told_more u output t.out;
  stands = taken_out t.moves t.out a.parts u output b.parts t.stands takes;
  steps = t.steps;
  guesses = t.guesses;
  apart = t.apart;
  clean = t.clean;
  accepted = t.accepted;
  shown = λ v.
      elim (u == v) as (λ b. (u == v) ≡ b → cond b (t.out v ++ (u, output) ∷ []) (t.out v) ≡ on_stream v (cond b (s.shown v ++ output ∷ []) (s.shown v))) [
        | true ↦ λ is. ap (λ n. t.out v ++ (n, output) ∷ []) (eqb-true u v is) ∙ more_shown true v output (t.out v) (s.shown v) (t.shown v)
        | false ↦ λ other. t.shown v
      ] refl;
  line = same ∙ t.line ∙ ap (λ k. line_of k s.waiting) (sym (ap (λ (p : Parts ℕ ℕ ℕ). p.guesses.kernel) takes.same));
}

pub next_told : (a : EpochsView) (u output : ℕ) (rest : List (Tagged (ℕ × ℕ))) → said_at a.parts.said u ≡ ((u, output), []) ∷ rest
    → (s : Story) → Tells s a → IsNext s u output
next_told a u output rest first s t = record {
  more = map (λ w. w.1) (released rest);
  next = sym (outputs_of u (said_on u s.accepted)) ∙ ap (map (λ w. w.1)) (sym (released_told s a t u))
      ∙ map_append (λ w. w.1) (on_stream u (s.shown u)) (released (said_at a.parts.said u))
      ∙ (λ i. outputs_of u (s.shown u) i ++ map (λ w. w.1) (released (first i)));
}

pub none_told : (a : EpochsView) (u : ℕ) → released (said_at a.parts.said u) ≡ [] → (s : Story) → Tells s a → said_on u s.accepted ≡ s.shown u
none_told a u none s t =
    sym (outputs_of u (said_on u s.accepted)) ∙ ap (map (λ w. w.1)) (sym (released_told s a t u) ∙ ap (λ ws. on_stream u (s.shown u) ++ ws) none ∙ append-nil (on_stream u (s.shown u)))
    ∙ outputs_of u (s.shown u)
