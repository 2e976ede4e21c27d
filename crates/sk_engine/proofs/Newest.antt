-- A host that heeds its rounds tells nothing old.
use Rattle.sk_engine.proofs.Names.{◌≡◌, ℕ, ◌<◌, ◌≤◌, Bool, true, false, cond, List, [], ◌∷◌, Some, inl, inr, refl, sym}
use Rattle.sk_engine.proofs.Names.{◌∙◌, ap, subst, arith, ◌⊎◌, ltb-true, ltb-false, BatchSeen, RoundAnswer, Seen, Still}
use Rattle.sk_engine.proofs.Names.{leads, held_of, may_put, is_none, Has, BatchTry, World, batch_of, HasDecided}
use Rattle.sk_engine.proofs.Names.{ServesFrom, Move, Tries, Happens, round_told, new_hosted, round_of, Acts, Asks}
use Rattle.sk_engine.proofs.Names.{Calls, Hosted, HostDoes, HostRuns, Rides, IsHeeded, IsKnown, Ride, RoundTry, Step}
use Rattle.sk_engine.proofs.Names.{ToldIsNewest, CarriesOut, Holds, Loses, Takes, RoundCall, RoundDoes, RoundsView}
use Rattle.sk_engine.proofs.Names.{and_parts, after_move}
use Rattle.sk_engine.specs.declared.answer.BatchAnswer.TheVariants as batch
use Rattle.sk_engine.proofs.Tests.{led}
use Rattle.sk_engine.proofs.Sound.{HasPut, IsSound}
use Rattle.sk_engine.proofs.Steps.{new_sound, step}
use Rattle.sk_engine.proofs.Runs.{more_batches, more_fences, newest_found, still_led}
use Rattle.sk_engine.proofs.RoundRuns.{stilled}

-- ---- nothing that a host knows of is past the last round that it took

pub record IsBounded (tries : List RoundTry) (riding : List Ride) (known bound : ℕ) : Type 0 where
  pub held : known ≤ bound
  pub answered : (t : RoundTry) → Has t tries → t.round ≤ bound
  pub rides : (t : Ride) → Has t riding → t.round ≤ bound

abbrev pub AreTaken : Hosted → Type 0
AreTaken h = IsBounded h.answered h.rides h.rounds.held h.rounds.taken

more_bound : (h : Hosted) (held low high : ℕ) → IsBounded h.answered h.rides held low → low ≤ high
    → IsBounded h.answered h.rides held high
more_bound h held low high b le = record {
  held = let one = b.held in omega arith;
  answered = λ t has. let one = b.answered t has in omega arith;
  rides = λ t has. let one = b.rides t has in omega arith;
}

called_taken : (h : Hosted) (c : RoundCall) (r : RoundsView) → RoundDoes h.rounds c r → AreTaken h
    → IsBounded h.answered h.rides r.held r.taken
called_taken h (CarriesOut mark) r does b = subst (λ (x : RoundsView). IsBounded h.answered h.rides x.held x.taken) (sym does.1) b
called_taken h Loses r does b = subst (λ (x : RoundsView). IsBounded h.answered h.rides x.held x.taken) (sym does) b
called_taken h (Takes round) r does b =
    let is = does.1 in
    subst (λ (x : RoundsView). IsBounded h.answered h.rides x.held x.taken) (sym does.2)
    (more_bound h h.rounds.held h.rounds.taken round b (omega arith))
called_taken h (Holds round) r does b =
    let at = stilled round h.rounds r does.1 in
    let most = ltb-false h.rounds.taken round does.0 in
    let same = at.taken in
    let one = b.held in
    record {
      held = elim at.held as (λ _. r.held ≤ r.taken) [ inl is ↦ omega arith | inr is ↦ omega arith ];
      answered = λ t has. let two = b.answered t has in omega arith;
      rides = λ t has. let two = b.rides t has in omega arith;
    }

taken_step : (r : ℕ) (h : Hosted) (s : Step) (g : Hosted) → HostDoes r h s g → AreTaken h → AreTaken g
taken_step r h (Acts move) g does b = subst (λ (x : Hosted). AreTaken x) (sym does.2) b
taken_step r h (Calls c) g does b = subst (λ (x : Hosted). AreTaken x) (sym does.3) (called_taken h c does.0 does.1 b)
taken_step r h (Asks round) g does b =
    let le = does.0 in
    subst (λ (x : Hosted). AreTaken x) (sym does.1) (record {
      held = b.held;
      answered = λ t has. elim has as (λ _. t.round ≤ h.rounds.taken) [
        | inl is ↦ let same = ap (λ (x : RoundTry). x.round) is in omega arith
        | inr old ↦ b.answered t old
      ];
      rides = b.rides;
    })
taken_step r h (Rides number round) g does b =
    let le = does.0 in
    subst (λ (x : Hosted). AreTaken x) (sym does.2) (record {
      held = b.held;
      answered = b.answered;
      rides = λ t has. elim has as (λ _. t.round ≤ h.rounds.taken) [
        | inl is ↦ let same = ap (λ (x : Ride). x.round) is in omega arith
        | inr old ↦ b.rides t old
      ];
    })

sound_step : (r : ℕ) (h : Hosted) (s : Step) (g : Hosted) → HostDoes r h s g → IsSound h.world → IsSound g.world
sound_step r h (Acts move) g does so = subst (λ (x : Hosted). IsSound x.world) (sym does.2)
    (step h.world move does.0 so does.1)
sound_step r h (Calls c) g does so = subst (λ (x : Hosted). IsSound x.world) (sym does.3) so
sound_step r h (Asks round) g does so = subst (λ (x : Hosted). IsSound x.world) (sym does.1) so
sound_step r h (Rides number round) g does so = subst (λ (x : Hosted). IsSound x.world) (sym does.2) so

begun : (r : ℕ) (ss : List Step) (h g : Hosted) → HostRuns r h ss g → IsSound h.world → AreTaken h
    → IsSound g.world × AreTaken g
begun r [] h g runs so b = (subst (λ (x : Hosted). IsSound x.world) runs so, subst (λ (x : Hosted). AreTaken x) runs b)
begun r (s ∷ ss) h g runs so b = begun r ss runs.0 g runs.2 (sound_step r h s runs.0 runs.1 so)
    (taken_step r h s runs.0 runs.1 b)

-- ---- what is put is put by the leader

put_answer : (t : Bool) (seen : BatchSeen) → batch.Done ≡ cond t batch.Done (batch.Not seen) → t ≡ true
put_answer true seen e = refl
put_answer false seen e = cc

move_put : (w : World) (c : Move) (r n : ℕ) (v : List ℕ) → HasPut (after_move w c) r n v
    → HasPut w r n v ⊎ (w.engine.leader ≡ Some r)
move_put w (Tries b u) r n v put = elim put as (λ _. HasPut w r n v ⊎ (w.engine.leader ≡ Some r)) [
  | inl is ↦
      let answer = put_answer (may_put w.engine b)
      (record { leader = w.engine.leader; held = held_of u (w.engine.log b.number); snap = w.engine.snap })
      (ap (λ (t : BatchTry). t.answer) is) in
      let may = and_parts (leads b.leadership w.engine.leader) (is_none (w.engine.log b.number)) answer in
      inr (led b.leadership w.engine.leader may.0
      ∙ ap (λ (n : ℕ). Some n) (sym (ap (λ (t : BatchTry). t.batch.leadership) is)))
  | inr old ↦ inl old
]
move_put w c r n v put = inl put

put_by : (w : World) (c : Move) (m : World) → Happens w c m → (r n : ℕ) (v : List ℕ) → HasPut m r n v
    → HasPut w r n v ⊎ (w.engine.leader ≡ Some r)
put_by w c m h r n v put = move_put w c r n v (subst (λ x. HasPut x r n v) h.1 put)

-- ---- what was so when something was carried out

module _ (r gap other from last mark : ℕ) (ordered : from ≤ last) (differs : other ≡ r → ⊥) where
  record IsNewest (h : Hosted) : Type 0 where
    pub sound : IsSound h.world
    pub serves : ServesFrom h.world r gap
    pub decided : HasDecided h.world other from last
    pub held : (h.rounds.held ≤ mark) ⊎ (last < gap)
    pub answered : (t : RoundTry) → Has t h.answered → round_told (round_of r t.round) t.answer ≡ Still t.round
        → (t.round ≤ mark) ⊎ (last < gap)
    pub rides : (t : Ride) → Has t h.rides → (v : List ℕ) → HasPut h.world r t.number v
        → (t.round ≤ mark) ⊎ (last < gap)

  found : (w : World) → IsSound w → ServesFrom w r gap → HasDecided w other from last → w.engine.leader ≡ Some r
      → last < gap
  found w so serves decided leader = newest_found w so r gap other from last serves leader decided ordered differs

  moved : (h : Hosted) (c : Move) (m : World) → Happens h.world c m → IsNewest h → IsNewest (record h { world = m })
  moved h c m happens so = record {
    sound = step h.world c m so.sound happens;
    serves = (so.serves.0, more_fences h.world c m happens _ so.serves.1, so.serves.2);
    decided = (
      (so.decided.0.0, more_fences h.world c m happens _ so.decided.0.1, so.decided.0.2),
      λ i ge le. let told = so.decided.1 i ge le in (told.0, told.1, more_batches h.world c m happens _ told.2, told.3),
    );
    held = so.held;
    answered = so.answered;
    rides = λ t has v put. elim (put_by h.world c m happens r t.number v put) as
        (λ _. (t.round ≤ mark) ⊎ (last < gap)) [
          | inl old ↦ so.rides t has v old
          | inr leader ↦ inr (found h.world so.sound so.serves so.decided leader)
        ];
  }

  -- a round that the host knows of was taken before, or the other's batches were found
  known : (h : Hosted) (round : ℕ) → IsNewest h → IsKnown r h round → (round ≤ mark) ⊎ (last < gap)
  known h round so is = elim is as (λ _. (round ≤ mark) ⊎ (last < gap)) [
    | inl asked ↦ so.answered (record { round = round; answer = asked.0 }) asked.1 asked.2
    | inr ride ↦
        let told = ride.2 in
        so.rides (record { number = ride.0; round = round }) ride.1 told.0
        (so.sound.synced (batch_of r ride.0) told.0 told.1 told.2 told.3)
  ]

  called : (h : Hosted) (c : RoundCall) (rounds : RoundsView) → RoundDoes h.rounds c rounds → IsHeeded r h c
      → IsNewest h → (rounds.held ≤ mark) ⊎ (last < gap)
  called h (CarriesOut m) rounds does heeded so = subst (λ (x : RoundsView). (x.held ≤ mark) ⊎ (last < gap))
      (sym does.1) so.held
  called h Loses rounds does heeded so = subst (λ (x : RoundsView). (x.held ≤ mark) ⊎ (last < gap)) (sym does) so.held
  called h (Takes round) rounds does heeded so = subst (λ (x : RoundsView). (x.held ≤ mark) ⊎ (last < gap))
      (sym does.2) so.held
  called h (Holds round) rounds does heeded so =
      let at = stilled round h.rounds rounds does.1 in
      elim at.held as (λ _. (rounds.held ≤ mark) ⊎ (last < gap)) [
        | inl is ↦ subst (λ (n : ℕ). (n ≤ mark) ⊎ (last < gap)) (sym is) (known h round so heeded)
        | inr is ↦ subst (λ (n : ℕ). (n ≤ mark) ⊎ (last < gap)) (sym is) so.held
      ]

  newest_step : (h : Hosted) (s : Step) (g : Hosted) → HostDoes r h s g → IsNewest h → IsNewest g
  newest_step h (Acts move) g does so = subst (λ (x : Hosted). IsNewest x) (sym does.2) (moved h move does.0 does.1 so)
  newest_step h (Calls c) g does so = subst (λ (x : Hosted). IsNewest x) (sym does.3) (record {
    sound = so.sound;
    serves = so.serves;
    decided = so.decided;
    held = called h c does.0 does.1 does.2 so;
    answered = so.answered;
    rides = so.rides;
  })
  newest_step h (Asks round) g does so = subst (λ (x : Hosted). IsNewest x) (sym does.1) (record {
    sound = so.sound;
    serves = so.serves;
    decided = so.decided;
    held = so.held;
    answered = λ t has told. elim has as (λ _. (t.round ≤ mark) ⊎ (last < gap)) [
      | inl is ↦
          let it : round_told (round_of r t.round) (Seen h.world.engine.leader) ≡ Still t.round
          = subst (λ (a : RoundAnswer). round_told (round_of r t.round) a ≡ Still t.round)
          (ap (λ (x : RoundTry). x.answer) is) told in
          let leader = led r h.world.engine.leader
          (still_led r t.round h.world.engine.leader (leads r h.world.engine.leader) refl it) in
          inr (found h.world so.sound so.serves so.decided leader)
      | inr old ↦ so.answered t old told
    ];
    rides = so.rides;
  })
  newest_step h (Rides number round) g does so = subst (λ (x : Hosted). IsNewest x) (sym does.2) (record {
    sound = so.sound;
    serves = so.serves;
    decided = so.decided;
    held = so.held;
    answered = so.answered;
    rides = λ t has v put. elim has as (λ _. (t.round ≤ mark) ⊎ (last < gap)) [
      | inl is ↦
          let at : HasPut h.world r number v = subst (λ (n : ℕ). HasPut h.world r n v)
          (ap (λ (x : Ride). x.number) is) put in
          absurd (does.1 (v, so.sound.tried (batch_of r number) v batch.Done at))
      | inr old ↦ so.rides t old v put
    ];
  })

  newest_run : (ss : List Step) (h g : Hosted) → HostRuns r h ss g → IsNewest h → IsNewest g
  newest_run [] h g runs so = subst (λ (x : Hosted). IsNewest x) runs so
  newest_run (s ∷ ss) h g runs so = newest_run ss runs.0 g runs.2 (newest_step h s runs.0 runs.1 so)

pub told_is_newest : ToldIsNewest
told_is_newest before after h g r gap other from last mark past serves decided ordered differs runs told =
    let at = begun r before new_hosted h past new_sound
    (record { held = omega arith; answered = λ t has. absurd has; rides = λ t has. absurd has }) in
    let is = runs.1.1.0 in
    let bound = at.1.held in
    let first : IsNewest r gap other from last mark ordered differs h = record {
      sound = at.0;
      serves = serves;
      decided = decided;
      held = inl (omega arith);
      answered = λ t has still. let one = at.1.answered t has in inl (omega arith);
      rides = λ t has v put. let one = at.1.rides t has in inl (omega arith);
    } in
    let end = newest_run r gap other from last mark ordered differs (Calls (CarriesOut mark) ∷ after) h g runs first in
    let more = ltb-true mark g.rounds.held told in
    elim end.held as (λ _. last < gap) [ inl le ↦ absurd (omega arith) | inr is_found ↦ is_found ]
