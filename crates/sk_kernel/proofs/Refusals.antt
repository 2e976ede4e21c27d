-- Why a step or a guess is refused, or that it is not, from what the machine does at its entry.
use Rattle.sk_kernel.proofs.Names.{◌≡◌, ℕ, ◌<◌, ◌≤◌, Bool, true, false, cond, Option, Some, None, Result, Ok, Err, sym}
use Rattle.sk_kernel.proofs.Names.{◌∙◌, ap, subst, arith, nat_lt, lt-ltb, le-ltb, Effect, perform, Entity, ObjId}
use Rattle.sk_kernel.proofs.Names.{is_full, EntityState, IsCount, name_there, names_in, names_counted, look_at}
use Rattle.sk_kernel.proofs.Names.{EntryView, act, Saying, adds_in, refusal_of, Refusal, NoRoom, TooMany, TraceFull}
use Rattle.sk_kernel.proofs.Names.{Parts, KernelView, or_else, trace_full, room, effect_at, state_at, crowded, no_room}
use Rattle.sk_kernel.proofs.Names.{step_misfit, step_refused, guess_misfits, too_many, guess_refused, IsWhole}
use Rattle.sk_kernel.proofs.Names.{MatchOption, nat_le, DIRECTORY_LIMIT, SlotMap}
use Rattle.std.specs.FinMap as map
use Rattle.sk_kernel.proofs.Whole.{look_is, same_effect}
use Rattle.sk_kernel.proofs.Tokens.{full_is}

-- whether as many names of a directory are there as may be, or more, where a step adds one to it
abbrev pub TellsRoom : SlotMap → Option ObjId → Bool → Type 0
TellsRoom m adds full = MatchOption adds (full ≡ false) (λ d. (n : ℕ) → IsCount (name_there (look_at m)) d n → full ≡ nat_le DIRECTORY_LIMIT n)

short_of_room : (k : KernelView) (n r : ℕ) → r ≡ room k → r < n → trace_full k n ≡ Some TraceFull
short_of_room k n r is less = let small : nat_lt (room k) n ≡ true = lt-ltb (room k) n (omega (arith, is, less)) in ap (λ b. cond b (Some TraceFull) None) small

room_enough : (k : KernelView) (n r : ℕ) → r ≡ room k → n ≤ r → trace_full k n ≡ None
room_enough k n r is least = let enough : nat_lt (room k) n ≡ false = le-ltb (room k) n (omega (arith, is, least)) in ap (λ b. cond b (Some TraceFull) None) enough

module _ (k : KernelView) (m : Parts) (place : ℕ) (whole : IsWhole k m place) (n : EntryView) where
  abbrev does : Result (Effect Entity EntityState Saying) Refusal
  does = perform (look_at m.slots) (act k.scripts n.pid n.input)

  abbrev no_place : ℕ → Option Refusal
  no_place places = trace_full k places

  -- ---- a step
  step_by : (r : Result (Effect Entity EntityState Saying) Refusal) → does ≡ r → step_refused k n ≡ or_else (or_else (refusal_of r) (no_room (state_at k) r)) (no_place 1)
  step_by r is = ap (λ r. or_else (or_else (refusal_of r) (no_room (state_at k) r)) (no_place 1)) (sym (same_effect k m whole.stands n) ∙ is)

  -- how many names a directory has is what the machine counts
  room_is : (d : Option ObjId) (b : Bool) → TellsRoom m.slots d b → crowded (state_at k) d ≡ cond b (Some NoRoom) None
  room_is None b tells = ap (λ b. cond b (Some NoRoom) None) (sym tells)
  room_is (Some d) b tells =
      let counted = names_in (state_at k) d in
      let look : map.get (state_at k) ≡ look_at m.slots = (λ i e. sym (look_is k m whole.stands e) i) in
      ap (λ b. cond b (Some NoRoom) None) (sym (tells counted (subst (λ (l : Entity → Option EntityState). IsCount (name_there l) d counted) look (names_counted (state_at k) d))))

  pub step_room : (f : Effect Entity EntityState Saying) (d : Option ObjId) (b : Bool) → adds_in f.written ≡ d → TellsRoom m.slots d b → no_room (state_at k) (Ok f) ≡ cond b (Some NoRoom) None
  step_room f d b adds tells = ap (crowded (state_at k)) adds ∙ room_is d b tells

  pub step_crowded : (f : Effect Entity EntityState Saying) → does ≡ Ok f → no_room (state_at k) (Ok f) ≡ Some NoRoom → step_refused k n ≡ Some NoRoom
  step_crowded f is none = step_by (Ok f) is ∙ ap (λ o. or_else (or_else None o) (no_place 1)) none

  pub step_misfits : (why : Refusal) → does ≡ Err why → step_refused k n ≡ Some why
  step_misfits why is = step_by (Err why) is

  pub step_without_room : (f : Effect Entity EntityState Saying) (r : ℕ) → does ≡ Ok f → no_room (state_at k) (Ok f) ≡ None → r ≡ room k → r < 1 → step_refused k n ≡ Some TraceFull
  step_without_room f r is free has_room less = step_by (Ok f) is ∙ ap (λ o. or_else (or_else None o) (no_place 1)) free ∙ short_of_room k 1 r has_room less

  pub step_free : (f : Effect Entity EntityState Saying) (r : ℕ) → does ≡ Ok f → no_room (state_at k) (Ok f) ≡ None → r ≡ room k → 1 ≤ r → step_refused k n ≡ None
  step_free f r is free has_room least = step_by (Ok f) is ∙ ap (λ o. or_else (or_else None o) (no_place 1)) free ∙ room_enough k 1 r has_room least

  pub step_why : (r : Result (Effect Entity EntityState Saying) Refusal) → does ≡ r → step_misfit k n ≡ or_else (refusal_of r) (no_room (state_at k) r)
  step_why r is = ap (λ r. or_else (refusal_of r) (no_room (state_at k) r)) (sym (same_effect k m whole.stands n) ∙ is)

  -- the room of a step, where it is asked for alone
  pub room_why : (r : Result (Effect Entity EntityState Saying) Refusal) → does ≡ r → no_room (state_at k) (effect_at k n) ≡ no_room (state_at k) r
  room_why r is = ap (no_room (state_at k)) (sym (same_effect k m whole.stands n) ∙ is)

  -- ---- a guess
  guess_by : (o : Option Refusal) → guess_misfits n.input does ≡ o → guess_refused k n ≡ or_else o (or_else (too_many k) (no_place 2))
  guess_by o is = ap (λ o. or_else o (or_else (too_many k) (no_place 2))) (sym (ap (guess_misfits n.input) (same_effect k m whole.stands n)) ∙ is)

  full_by : (b : Bool) → is_full m.guesses ≡ b → too_many k ≡ cond b (Some TooMany) None
  full_by b is = full_is k m place whole ∙ ap (λ b. cond b (Some TooMany) None) is

  pub guess_why : (o : Option Refusal) → guess_misfits n.input does ≡ o → (b : Bool) → is_full m.guesses ≡ b
      → or_else (guess_misfits n.input (effect_at k n)) (too_many k) ≡ or_else o (cond b (Some TooMany) None)
  guess_why o fits b full = (λ i. or_else ((ap (guess_misfits n.input) (sym (same_effect k m whole.stands n)) ∙ fits) i) (full_by b full i))

  pub guess_misfit : (why : Refusal) → guess_misfits n.input does ≡ Some why → guess_refused k n ≡ Some why
  guess_misfit why is = guess_by (Some why) is

  pub guess_too_many : guess_misfits n.input does ≡ None → is_full m.guesses ≡ true → guess_refused k n ≡ Some TooMany
  guess_too_many fits full = guess_by None fits ∙ ap (λ o. or_else o (no_place 2)) (full_by true full)

  module _ (fits : guess_misfits n.input does ≡ None) (free : is_full m.guesses ≡ false) (r : ℕ) (has_room : r ≡ room k) where
    room_decides : guess_refused k n ≡ no_place 2
    room_decides = guess_by None fits ∙ ap (λ o. or_else o (no_place 2)) (full_by false free)

    pub guess_without_room : r < 2 → guess_refused k n ≡ Some TraceFull
    guess_without_room less = room_decides ∙ short_of_room k 2 r has_room less

    pub guess_free : 2 ≤ r → guess_refused k n ≡ None
    guess_free least = room_decides ∙ room_enough k 2 r has_room least
