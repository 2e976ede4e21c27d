-- What a host lets out is the newest.
use Rattle.sk_led.proofs.Names.{◌≡◌, ℕ, ◌≤◌, Bool, true, false, List, [], ◌∷◌, ◌++◌, refl, sym, ◌∙◌, ap, subst, arith}
use Rattle.sk_led.proofs.Names.{◌==◌, ◌||◌, if◌then◌else◌, list_any, eq-eqb, ltb-true, lt-ltb, Carries, Connects, Tells}
use Rattle.sk_led.proofs.Names.{Happens, Move, Moves, may_tell, CarriesOut, Holds, Loses, RoundCall, RoundDoes}
use Rattle.sk_led.proofs.Names.{RoundRuns, RoundsView, Takes, new_hosted, Acts, Asks, Calls, Hosted, HostDoes, HostRuns}
use Rattle.sk_led.proofs.Names.{Rides, Step, told_is_newest, stilled, told_behind_a_round, Act, AllActs, Does, Goes}
use Rattle.sk_led.proofs.Names.{Host, called, connects, RepliesAreNewest}
use Rattle.sk_led.proofs.Led.{logged_at}

-- ---- as the engine and the rounds have it

abbrev steps_by : Act → List Step
steps_by (Does (Carries t bytes ask asked answer rests) mark) = Calls (CarriesOut mark) ∷ []
steps_by (Does other mark) = []
steps_by (Goes step) = step ∷ []

abbrev steps : List Act → List Step
steps [] = []
steps (a ∷ acts) = steps_by a ++ steps acts

unmoved : (x y : Hosted) → y ≡ record x { rounds = y.rounds } → y.rounds ≡ x.rounds → x ≡ y
unmoved x y is same = sym (is ∙ ap (λ (r : RoundsView). record x { rounds = r }) same)

as_steps : (leadership : ℕ) (acts : List Act) (h g : Host) → AllActs leadership h acts g
    → HostRuns leadership h.hosted (steps acts) g.hosted
as_steps r [] h g runs = ap (λ (x : Host). x.hosted) runs
as_steps r (Does (Carries t bytes ask asked answer rests) mark ∷ acts) h g (m, (does, marks, is), runs) =
    (m.hosted, (m.hosted.rounds, marks.0, tt, is), as_steps r acts m g runs)
as_steps r (Does (Connects t) mark ∷ acts) h g (m, (does, marks, is), runs) =
    subst (λ (x : Hosted). HostRuns r x (steps acts) g.hosted) (sym (unmoved h.hosted m.hosted is marks.0))
    (as_steps r acts m g runs)
as_steps r (Does other mark ∷ acts) h g (m, (does, marks, is), runs) =
    subst (λ (x : Hosted). HostRuns r x (steps acts) g.hosted) (sym (unmoved h.hosted m.hosted is marks.0))
    (as_steps r acts m g runs)
as_steps r (Goes step ∷ acts) h g (m, (does, same, marks), runs) = (m.hosted, does, as_steps r acts m g runs)

-- the moves of the engine and of all hosts
as_moves : (leadership : ℕ) (ss : List Step) (h g : Hosted) → HostRuns leadership h ss g → (ms : List Move)
    × Moves h.world ms g.world
as_moves r [] h g runs = ([], ap (λ (x : Hosted). x.world) runs)
as_moves r (Acts move ∷ ss) h g (m, does, runs) =
    let rest = as_moves r ss m g runs in (
      move ∷ rest.0,
      (
        m.world,
        subst (λ w. Happens h.world move w)
            (sym (ap (λ (x : Hosted). x.world) does.2)) does.1,
        rest.1,
      ),
    )
as_moves r (Calls call ∷ ss) h g (m, does, runs) =
    let rest = as_moves r ss m g runs in
    (rest.0, subst (λ w. Moves w rest.0 g.world) (ap (λ (x : Hosted). x.world) does.3) rest.1)
as_moves r (Asks round ∷ ss) h g (m, does, runs) =
    let rest = as_moves r ss m g runs in
    (rest.0, subst (λ w. Moves w rest.0 g.world) (ap (λ (x : Hosted). x.world) does.1) rest.1)
as_moves r (Rides number round ∷ ss) h g (m, does, runs) =
    let rest = as_moves r ss m g runs in
    (rest.0, subst (λ w. Moves w rest.0 g.world) (ap (λ (x : Hosted). x.world) does.2) rest.1)

-- a step that calls nothing of the rounds leaves them
same_rounds : (acts : List Act) (a b c : RoundsView) → b ≡ a → RoundRuns b (called acts) c → RoundRuns a (called acts) c
same_rounds acts a b c is runs = subst (λ (x : RoundsView). RoundRuns x (called acts) c) is runs

as_calls : (leadership : ℕ) (acts : List Act) (h g : Host) → AllActs leadership h acts g
    → RoundRuns h.hosted.rounds (called acts) g.hosted.rounds
as_calls r [] h g runs = ap (λ (x : Host). x.hosted.rounds) runs
as_calls r (Does (Carries t bytes ask asked answer rests) mark ∷ acts) h g (m, (does, marks, is), runs) =
    (m.hosted.rounds, marks.0, as_calls r acts m g runs)
as_calls r (Does (Connects t) mark ∷ acts) h g (m, (does, marks, is), runs) =
    same_rounds acts h.hosted.rounds m.hosted.rounds g.hosted.rounds marks.0 (as_calls r acts m g runs)
as_calls r (Does other mark ∷ acts) h g (m, (does, marks, is), runs) =
    same_rounds acts h.hosted.rounds m.hosted.rounds g.hosted.rounds marks.0 (as_calls r acts m g runs)
as_calls r (Goes (Calls call) ∷ acts) h g (m, (does, same, marks), runs) =
    let is = ap (λ (x : Hosted). x.rounds) does.3 in (
      m.hosted.rounds,
      subst (λ (x : RoundsView). RoundDoes h.hosted.rounds call x)
          (sym is) does.1,
      as_calls r acts m g runs,
    )
as_calls r (Goes (Acts move) ∷ acts) h g (m, (does, same, marks), runs) =
    same_rounds acts h.hosted.rounds m.hosted.rounds g.hosted.rounds (ap (λ (x : Hosted). x.rounds) does.2)
    (as_calls r acts m g runs)
as_calls r (Goes (Asks round) ∷ acts) h g (m, (does, same, marks), runs) =
    same_rounds acts h.hosted.rounds m.hosted.rounds g.hosted.rounds (ap (λ (x : Hosted). x.rounds) does.1)
    (as_calls r acts m g runs)
as_calls r (Goes (Rides number round) ∷ acts) h g (m, (does, same, marks), runs) =
    same_rounds acts h.hosted.rounds m.hosted.rounds g.hosted.rounds (ap (λ (x : Hosted). x.rounds) does.2)
    (as_calls r acts m g runs)

joined : (leadership : ℕ) (acts later : List Act) (h m g : Host) → AllActs leadership h acts m
    → AllActs leadership m later g
    → AllActs leadership h (acts ++ later) g
joined r [] later h m g runs more = subst (λ (x : Host). AllActs r x later g) (sym runs) more
joined r (a ∷ acts) later h m g (n, does, runs) more = (n, does, joined r acts later n m g runs more)

-- ---- the mark of a channel is never older than what was carried out on it

taken_more : (r : RoundsView) (c : RoundCall) (s : RoundsView) → RoundDoes r c s → r.taken ≤ s.taken
taken_more r (CarriesOut mark) s does = let same = ap (λ (x : RoundsView). x.taken) does.1 in omega arith
taken_more r (Takes round) s does = let is = does.1 in let same = ap (λ (x : RoundsView). x.taken) does.2 in omega arith
taken_more r (Holds round) s does = let same = (stilled round r s does.1).taken in omega arith
taken_more r Loses s does = let same = ap (λ (x : RoundsView). x.taken) does in omega arith

step_taken : (leadership : ℕ) (h : Hosted) (s : Step) (g : Hosted) → HostDoes leadership h s g
    → h.rounds.taken ≤ g.rounds.taken
step_taken r h (Acts move) g does = let same = ap (λ (x : Hosted). x.rounds.taken) does.2 in omega arith
step_taken r h (Calls c) g does =
    let more = taken_more h.rounds c does.0 does.1 in let same
    = ap (λ (x : Hosted). x.rounds.taken) does.3 in omega arith
step_taken r h (Asks round) g does = let same = ap (λ (x : Hosted). x.rounds.taken) does.1 in omega arith
step_taken r h (Rides number round) g does = let same = ap (λ (x : Hosted). x.rounds.taken) does.2 in omega arith

record IsMarked (t bound : ℕ) (h : Host) : Type 0 where
  pub mark : bound ≤ h.marks t
  pub taken : bound ≤ h.hosted.rounds.taken

parted : (a b : Bool) → a || b ≡ false → (a ≡ false) × (b ≡ false)
parted true b e = cc
parted false b e = (refl, e)

marked : (t bound mark old : ℕ) (here : Bool) → bound ≤ mark → bound ≤ old → bound ≤ (if here then mark else old)
marked t bound mark old true new was = new
marked t bound mark old false new was = was

mark_kept : (leadership t bound : ℕ) (acts : List Act) (h g : Host) → AllActs leadership h acts g
    → list_any (connects t) acts ≡ false → IsMarked t bound h → IsMarked t bound g
mark_kept r t bound [] h g runs none so = subst (λ (x : Host). IsMarked t bound x) runs so
mark_kept r t bound (Does (Carries u bytes ask asked answer rests) mark ∷ acts) h g
    (m, (does, marks, is), runs) none so =
    let at = marks.0.0 in
    let was = so.taken in
    let more = taken_more h.hosted.rounds (CarriesOut mark) m.hosted.rounds marks.0 in
    let new : bound ≤ (if t == u then mark else h.marks t)
    = marked t bound mark (h.marks t) (t == u) (omega arith) so.mark in
    mark_kept r t bound acts m g runs none (record {
      mark = subst (λ (f : ℕ → ℕ). bound ≤ f t) (sym marks.1) new;
      taken = omega arith;
    })
mark_kept r t bound (Does (Connects u) mark ∷ acts) h g (m, (does, marks, is), runs) none so =
    let apart = parted (u == t) (list_any (connects t) acts) none in
    let same = marks.1 t apart.0 in
    let one = so.mark in
    mark_kept r t bound acts m g runs apart.1 (record {
      mark = omega arith;
      taken = subst (λ (x : RoundsView). bound ≤ x.taken) (sym marks.0) so.taken;
    })
mark_kept r t bound (Does other mark ∷ acts) h g (m, (does, marks, is), runs) none so =
    mark_kept r t bound acts m g runs none (record {
      mark = subst (λ (f : ℕ → ℕ). bound ≤ f t) (sym marks.1) so.mark;
      taken = subst (λ (x : RoundsView). bound ≤ x.taken) (sym marks.0) so.taken;
    })
mark_kept r t bound (Goes step ∷ acts) h g (m, (does, same, marks), runs) none so =
    let more = step_taken r h.hosted step m.hosted does in
    let was = so.taken in
    mark_kept r t bound acts m g runs none (record {
      mark = subst (λ (f : ℕ → ℕ). bound ≤ f t) (sym marks) so.mark;
      taken = omega arith;
    })

-- ---- the law

same_mark : (mark old : ℕ) (here : Bool) → here ≡ true → (if here then mark else old) ≡ mark
same_mark mark old true e = refl
same_mark mark old false e = cc

pub replies_are_newest : RepliesAreNewest
replies_are_newest read r gap t mark any first h m g before between after bytes ask asked answer rests new past serves
    (k, does, runs) none more told =
    let call = Carries t bytes ask asked answer rests in
    let reply = Does (Tells t asked.ticket answer) any in
    let later = between ++ reply ∷ after in
    let rest = joined r between (reply ∷ after) k m g runs more in
    let all : AllActs r h (Does call mark ∷ later) g = (k, does, rest) in
    let at = does.1.0.0 in
    let stays = ap (λ (x : RoundsView). x.taken) does.1.0.1 in
    let own = same_mark mark (h.marks t) (t == t) (eq-eqb t t refl) in
    let its : mark ≤ k.marks t = subst (λ (f : ℕ → ℕ). mark ≤ f t) (sym does.1.1) (omega arith) in
    let low = (mark_kept r t mark between k m runs none (record { mark = its; taken = omega arith })).mark in
    let high = ltb-true (m.marks t) g.hosted.rounds.held told in
    let may : may_tell mark g.hosted.rounds ≡ true = lt-ltb mark g.hosted.rounds.held (omega arith) in
    let begun = subst (λ (x : Hosted). HostRuns r x (steps before) h.hosted) new (as_steps r before first h past) in
    let ends = as_steps r (Does call mark ∷ later) h g all in
    let moves = as_moves r (steps before) new_hosted h.hosted begun in
    record {
      round = told_behind_a_round (called before) (called later) h.hosted.rounds g.hosted.rounds mark
          (subst (λ (x : Hosted). RoundRuns x.rounds (called before) h.hosted.rounds) new
          (as_calls r before first h past))
          (as_calls r (Does call mark ∷ later) h g all) may;
      found = λ one from last decided ordered differs.
          told_is_newest (steps before) (steps later) h.hosted g.hosted r gap one from last mark begun serves decided ordered differs ends may;
      told = λ one from limits next start ds s done led differs batch logged.
          let placed = logged_at read moves.0 h.hosted.world one from limits next start ds s moves.1 done led batch logged in (
            placed.0,
            told_is_newest (steps before) (steps later) h.hosted g.hosted r gap one from placed.0.number mark begun serves
                placed.1 placed.2 differs ends may,
          );
    }
