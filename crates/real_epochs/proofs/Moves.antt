-- Calls of the kernel, one after another, and what they leave of steps and of undecided guesses.
use Rattle.real_epochs.proofs.Names.{◌≡◌, ◌⊎◌, ◌&&◌, ℕ, true, false, not, List, [], ◌∷◌, ◌++◌, map, Option, Some, None, Ok, inl, inr, refl}
use Rattle.real_epochs.proofs.Names.{sym, ◌∙◌, ap, subst, append-nil, filter, has, without, nat_cmp, nat_cmp_total}
use Rattle.real_epochs.proofs.Names.{nat_cmp-IsAntisymmetric, effects, perform, strike, all_recorded, no_record}
use Rattle.real_epochs.proofs.Names.{record_of, recorded, still_marked, undecided_of, Commit, Fail, Record, Taken, Move}
use Rattle.real_epochs.proofs.Names.{entries_are, record_more, recorded_more, Machine, MergedStands, numbers, Status}
use Rattle.real_epochs.proofs.Names.{effect_of, Moves, Out, told_more, with_told, one_move, takes_told, commits_told}
use Rattle.real_epochs.proofs.Names.{fails_told, stands_told, AreStatuses, look_at, log_at, forgotten, goes, taken_from, Happens}
use Rattle.real_epochs.proofs.Names.{Forgets, Takes, TakesOut, IsSame, Parts, machine_of, next_of}
use Rattle.real_epochs.proofs.Names.{Event, Changes, Told, Says, Entry, Opens, Does, host, mark, act, deed_of}
use Rattle.real_epochs.specs.Tells.{nothing, StandsAt}
use Rattle.real_epochs.specs.Forgotten.{IsForgotten}

-- a step does what its deed says
acts : (n : Entry) (look : ℕ → Option ℕ) → perform look (act n) ≡ Ok (effect_of look (deed_of n))
acts (Opens number checkpoint) look = refl
acts (Does (Changes name version)) look = refl
acts (Does (Told name version)) look = refl
acts (Does (Says stream output)) look = refl

told_moves : (out : Out ℕ) (a : Machine ℕ ℕ (ℕ × ℕ)) (e : Move Entry) (b : Machine ℕ ℕ (ℕ × ℕ)) → Moves host a e b
    → Moves host (with_told out a) e (with_told out b)
told_moves out a (Taken n) b s = record { deed = s.deed; honest = s.honest; takes = takes_told out _ a _ b s.takes; fresh = s.fresh }
told_moves out a (Commit g) b s = (s.0, commits_told out a g b s.1)
told_moves out a (Fail g) b s = (s.0, fails_told out a g b s.1)

pub moved : (moves : List (Move Entry)) (out : Out ℕ) (a : Parts ℕ ℕ ℕ) (e : Move Entry) (b : Parts ℕ ℕ ℕ) → StandsAt moves out a
    → Happens host a e b → StandsAt (moves ++ e ∷ []) out b
moved moves out a e b s happens =
    let led = goes host a s.status e b s.agrees happens in
    record {
      status = led.later;
      agrees = led.agrees;
      stands = one_move host nat_cmp_total nat_cmp-IsAntisymmetric nothing (λ w. refl) moves
          (with_told out (machine_of nat_cmp a s.status)) e (with_told out (machine_of nat_cmp b led.later)) s.stands
          (told_moves out (machine_of nat_cmp a s.status) e (machine_of nat_cmp b led.later) led.moves);
    }

-- a step is taken, with the next guess or none
pub stepped : (moves : List (Move Entry)) (out : Out ℕ) (a : Parts ℕ ℕ ℕ) (n : Entry) (b : Parts ℕ ℕ ℕ) → StandsAt moves out a
    → (mark n ≡ None) ⊎ (mark n ≡ Some (next_of a.guesses)) → Takes nat_cmp a (deed_of n) (mark n) b → StandsAt (moves ++ Taken n ∷ []) out b
stepped moves out a n b s own takes =
    moved moves out a (Taken n) b s (record { deed = deed_of n; honest = acts n (look_at nat_cmp a.slots); mark = own; takes = takes })

pub taken_out : (moves : List (Move Entry)) (out : Out ℕ) (a : Parts ℕ ℕ ℕ) (t output : ℕ) (b : Parts ℕ ℕ ℕ) → StandsAt moves out a
    → TakesOut a t output b → StandsAt moves (told_more t output out) b
taken_out moves out a t output b s takes = record {
  status = s.status;
  agrees = subst (λ (p : Parts ℕ ℕ ℕ). AreStatuses p.guesses p.opens s.status) (sym takes.same) s.agrees;
  stands = stands_told out (machine_of nat_cmp a s.status) t output (machine_of nat_cmp b s.status) (taken_from host a s.status t output b takes) host nothing moves s.stands;
}

-- fewer struck guesses are known
pub forgot : (moves : List (Move Entry)) (out : Out ℕ) (a b : Parts ℕ ℕ ℕ) → StandsAt moves out a → IsForgotten a b → StandsAt moves out b
forgot moves out a b s f = subst (StandsAt moves out) (sym f.same) (record {
  status = s.status;
  agrees = record { undecided = s.agrees.undecided; struck = λ g here. s.agrees.struck g (f.fewer g here); fresh = s.agrees.fresh };
  stands = s.stands;
})

-- nothing has changed, as far as anyone sees
pub same_parts : (moves : List (Move Entry)) (out : Out ℕ) (a b : Parts ℕ ℕ ℕ) → StandsAt moves out a → IsSame nat_cmp a b → StandsAt moves out b
same_parts moves out a b s is = record {
  status = s.status;
  agrees = subst (λ v. AreStatuses v b.opens s.status) (sym is.guesses) (subst (λ os. AreStatuses a.guesses os s.status) (sym is.opens) s.agrees);
  stands = subst (MergedStands host nothing moves) (λ i. record {
    state = record { look = λ k. sym (is.look k) i; logs = λ k. sym (is.logs k) i; opens = sym is.opens i };
    status = s.status;
    texts = (with_told out (machine_of nat_cmp (record a { said = sym is.said i }) s.status)).texts;
  }) s.stands;
}

-- ---- what is left of steps, and the undecided guesses

pub undecided_are : (moves : List (Move Entry)) (out : Out ℕ) (p : Parts ℕ ℕ ℕ) → StandsAt moves out p → numbers p.opens ≡ undecided_of host nothing moves
undecided_are moves out p s = ap numbers s.stands.merged.opens ∙ s.stands.stands.state.guesses

guesses_more : (moves : List (Move Entry)) (e : Move Entry)
    → undecided_of host nothing (moves ++ e ∷ []) ≡ (recorded host nothing (all_recorded host nothing no_record moves) e).undecided
guesses_more moves e = ap (λ (r : Record Entry). r.undecided) (recorded_more host nothing no_record moves e)

pub steps_taken : (moves : List (Move Entry)) (n : Entry) → record_of host nothing (moves ++ Taken n ∷ []) ≡ record_of host nothing moves ++ n ∷ []
steps_taken moves n = record_more host nothing moves (Taken n)

pub guesses_opened : (moves : List (Move Entry)) (number checkpoint : ℕ)
    → undecided_of host nothing (moves ++ Taken (Opens number checkpoint) ∷ []) ≡ undecided_of host nothing moves ++ number ∷ []
guesses_opened moves number checkpoint = guesses_more moves (Taken (Opens number checkpoint))

pub guesses_kept : (moves : List (Move Entry)) (event : Event) → undecided_of host nothing (moves ++ Taken (Does event) ∷ []) ≡ undecided_of host nothing moves
guesses_kept moves event = guesses_more moves (Taken (Does event)) ∙ append-nil (undecided_of host nothing moves)

pub steps_committed : (moves : List (Move Entry)) (g : ℕ) → record_of host nothing (moves ++ Commit g ∷ []) ≡ record_of host nothing moves
steps_committed moves g = record_more host nothing moves (Commit g)

pub guesses_committed : (moves : List (Move Entry)) (g : ℕ) → undecided_of host nothing (moves ++ Commit g ∷ []) ≡ without g (undecided_of host nothing moves)
guesses_committed moves g = guesses_more moves (Commit g)

pub steps_failed : (moves : List (Move Entry)) (g : ℕ) → record_of host nothing (moves ++ Fail g ∷ []) ≡ strike host nothing (record_of host nothing moves) g
steps_failed moves g = record_more host nothing moves (Fail g)

pub guesses_failed : (moves : List (Move Entry)) (g : ℕ)
    → undecided_of host nothing (moves ++ Fail g ∷ []) ≡ filter (still_marked (effects host nothing (strike host nothing (record_of host nothing moves) g))) (undecided_of host nothing moves)
guesses_failed moves g =
    guesses_more moves (Fail g)
    ∙ ap (λ ns. filter (still_marked (effects host nothing (strike host nothing ns g))) (undecided_of host nothing moves)) (entries_are host nothing moves)
