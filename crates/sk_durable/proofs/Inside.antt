-- What a call may do, told to the machine of records: nothing, a guess is drawn, an answer is taken out, a step is taken.
use Rattle.std.proofs.lemmas.Bool.Decides.{nat_tests}
use Rattle.sk_durable.proofs.Names.{◌≡◌, ℕ, Bool, true, false, not, ◌||◌, ◌&&◌, List, [], ◌∷◌, ◌++◌, length, map}
use Rattle.sk_durable.proofs.Names.{Option, Some, None, Ok, inl, inr, refl, sym, ◌∙◌, ap, subst, arith, ◌==◌, nat_le}
use Rattle.sk_durable.proofs.Names.{list_any, true≢false, leb-false, has, marked_effect, Taken, is_tag, tags_at}
use Rattle.sk_durable.proofs.Names.{with_drawn, Status, AreStatuses, Token, Deed, effect_of, IsNext, Moves, told_more}
use Rattle.sk_durable.proofs.Names.{TakenOut, look_at, log_at, bytes_cmp, next_of, Takes, TakesOut, undo_state_of}
use Rattle.sk_durable.proofs.Names.{IsSame, Parts, is_full, opening, IsStill, Stays, IsInStep, batch_key, Spares}
use Rattle.sk_durable.proofs.Names.{begins, requeued, said_less, same_seen, step_taken, IsNumbered, all_same}
use Rattle.sk_durable.proofs.Names.{same_machine, same_statuses, Answer, comes_to, IsProper, Out, deed, served, Asked}
use Rattle.sk_durable.proofs.Names.{Opens, Runs, acts, has_now, touched, Batches, Kernel, StoreView, Command}
use Rattle.sk_durable.proofs.Names.{none-some, or-false}
use Rattle.std.specs.Option.{unwrap_or}
use Rattle.sk_deeds.specs.Told.{Does, Tells}
use Rattle.sk_batched.specs.Batched.{Draws}
use Rattle.sk_durable.proofs.Machines.{Agree, machine, InStep, Led, Machine}

abbrev Inner : Type 0
Inner = Parts (List ℕ) (List ℕ) (ℕ × Answer)

-- what is read is what is looked at
reads : {V : Type 0} (look : List ℕ → Option V) (ks : List (List ℕ))
    → map (λ (r : List ℕ × Option V). r.0) (map (λ k. (k, look k)) ks) ≡ ks
reads look [] = refl
reads look (k ∷ ks) = ap (λ rest. k ∷ rest) (reads look ks)

-- what a command is kept as
abbrev pub kept_as : Asked → Answer → List ℕ → Command
kept_as asked answer rests =
    record { entry = Runs asked; said = Some (asked.channel, (asked.ticket, answer)); rests = rests }

seen_still : (old new : Kernel) → IsStill old new → IsSame bytes_cmp old.parts new.parts
seen_still old new (inl is) = grind (arith, nat_tests, all_same bytes_cmp old.parts)
seen_still old new (inr still) = still.parts

-- the guess of the open batch is drawn, where it was not
abbrev pub drawn_store : StoreView → Kernel → StoreView
drawn_store a m = record a { batched = record a.batched { kernel = m; begun = true } }

module _ (told : Out) (a : StoreView) (status : ℕ → Option Status)
    (are : Agree a.batched.kernel status) (known : InStep a.batched) where
  abbrev x : Machine
  x = machine a.batched.kernel status

  -- the kernel is seen as it was, and batches have the numbers that they had
  pub idle : (s : StoreView) → IsSame bytes_cmp a.batched.kernel.parts s.batched.kernel.parts
      → IsNumbered a.batched.queue s.batched.queue
      → s.batched.begun ≡ a.batched.begun → Led told told x [] [] s
  idle s same numbered begun =
      let as_it_was = same_machine bytes_cmp a.batched.kernel.parts s.batched.kernel.parts same status in
      let seen = same_seen a.batched.kernel.parts a.batched.queue a.batched.begun known.0 known.1 s.batched.kernel.parts
      same in
      record {
        moves = [];
        log = [];
        status = status;
        agrees = same_statuses bytes_cmp a.batched.kernel.parts s.batched.kernel.parts same status are;
        calls = (refl, as_it_was);
        logs = (refl, refl, as_it_was);
        known = (
          known.0,
          subst (λ e. IsInStep s.batched.kernel.parts s.batched.queue e known.0) (sym begun)
              (requeued s.batched.kernel.parts a.batched.queue a.batched.begun known.0 seen s.batched.queue numbered),
        );
        quiet = tt;
        commands_are = refl;
        decides_are = refl;
      }

  pub still : (s : StoreView) → Stays a.batched s.batched → Led told told x [] [] s
  still s stays = idle s (seen_still a.batched.kernel s.batched.kernel stays.kernel)
      (ap (λ q. map (λ b. b.number) q.batches) stays.queue, ap (λ q. q.number) stays.queue) stays.begun

  pub same : (s : StoreView) → s.batched ≡ a.batched → Led told told x [] [] s
  same s is = idle s
      (subst (λ (b : Batches). IsSame bytes_cmp a.batched.kernel.parts b.kernel.parts) (sym is)
      (all_same bytes_cmp a.batched.kernel.parts))
      (ap (λ (b : Batches). map (λ c. c.number) b.queue.batches) is, ap (λ (b : Batches). b.queue.number) is)
      (ap (λ (b : Batches). b.begun) is)

  -- an answer is taken out
  pub let_out : (s : StoreView) (t ticket : ℕ) (answer : Answer)
      → TakesOut a.batched.kernel.parts t (ticket, answer) s.batched.kernel.parts
      → s.batched.queue ≡ a.batched.queue → s.batched.begun ≡ a.batched.begun
      → Led told (told_more t (ticket, answer) told) x [] [] s
  let_out s t ticket answer out queue begun =
      let gone : TakenOut x t (ticket, answer) (machine s.batched.kernel status) = record {
        look = λ k. ap (λ (p : Inner). look_at bytes_cmp p.slots k) out.same;
        logs = λ k. ap (λ (p : Inner). log_at bytes_cmp p.slots k) out.same;
        opens = ap (λ (p : Inner). p.opens) out.same;
        status = λ g. refl;
        first = out.first;
        others = out.others;
      } in
      record {
        moves = Tells t (ticket, answer) ∷ [];
        log = [];
        status = status;
        agrees = subst (λ (p : Inner). AreStatuses p.guesses p.opens status) (sym out.same) are;
        calls = (machine s.batched.kernel status, gone, (refl, refl));
        logs = (machine s.batched.kernel status, gone, (refl, refl, refl));
        known = (
          known.0,
          subst (λ e. IsInStep s.batched.kernel.parts s.batched.queue e known.0) (sym begun)
              (subst (λ q. IsInStep s.batched.kernel.parts q a.batched.begun known.0) (sym queue)
              (said_less a.batched.kernel.parts a.batched.queue a.batched.begun known.0 known.1 s.batched.kernel.parts
              out.same)),
        );
        quiet = tt;
        commands_are = refl;
        decides_are = refl;
      }

  drawn_by : (m : Kernel) (begun : Bool) → begun ≡ a.batched.begun → is_full a.batched ≡ false
      → Draws begun a.batched.kernel a.batched.queue.number m → Led told told x [] [] (drawn_store a m)
  drawn_by m true is room same =
      idle (drawn_store a m)
      (subst (λ (b : Kernel). IsSame bytes_cmp a.batched.kernel.parts b.parts) (sym same)
      (all_same bytes_cmp a.batched.kernel.parts)) (refl, refl) is
  drawn_by m false is room takes =
      let n = a.batched.queue.number in
      let parts = a.batched.kernel.parts in
      let closed : IsInStep parts a.batched.queue false known.0 =
      subst (λ b. IsInStep parts a.batched.queue b known.0) (sym is) known.1 in
      let less = leb-false parts.guesses.limit (length parts.opens)
      (ap (λ b. not b && nat_le parts.guesses.limit (length parts.opens)) is ∙ room) in
      let t : Token = record { kernel = parts.guesses.kernel; id = next_of parts.guesses } in
      let tags = tags_at (undo_state_of bytes_cmp parts) (batch_key n) in
      let r : Command = record { entry = Opens n; said = None; rests = n ∷ tags } in
      let next : IsNext x (Some n) = λ g h same le.
      let first : n ≡ g = ap (λ o. unwrap_or o 0) same in
      let at = closed.number in are.fresh h (omega (arith, first, at, le)) in
      let goes : Moves served x (Taken (Opens n)) (machine m (with_drawn (Some n) status)) =
      record { deed = opening n; honest = refl; takes = takes.takes status are; fresh = next } in
      record {
        moves = Does (Taken (Opens n)) ∷ [];
        log = r ∷ [];
        status = with_drawn (Some n) status;
        agrees = takes.agrees status are;
        calls = (machine m (with_drawn (Some n) status), tt, goes, (refl, refl));
        logs = (
          machine m (with_drawn (Some n) status),
          r ∷ [],
          [],
          refl,
          goes,
          (
            r,
            refl,
            record {
              entry = refl;
              said = refl;
              rests = λ g. ap (λ b. (n == g) || b) (sym (or-false (has g tags)));
            },
          ),
          (refl, refl, refl),
        );
        known = (
          known.0 ++ t ∷ [],
          begins parts m.parts a.batched.queue known.0 (known.0 ++ t ∷ []) t closed less refl refl takes,
        );
        quiet = (λ e. refl, tt);
        commands_are = refl;
        decides_are = refl;
      }

  pub drawn : (m : Kernel) → is_full a.batched ≡ false → Draws a.batched.begun a.batched.kernel a.batched.queue.number m
      → Led told told x [] [] (drawn_store a m)
  drawn m room draws = drawn_by m a.batched.begun refl room draws

  -- a command is carried out, with a step that depends on this
  pub stepped : (s : StoreView) (asked : Asked) (answer : Answer) (rests : List ℕ)
      (d : Deed (List ℕ) (List ℕ) (ℕ × Answer))
      → d ≡ deed (Runs asked) (has_now a.batched.kernel)
      → Takes bytes_cmp a.batched.kernel.parts d None s.batched.kernel.parts → Spares d
      → IsProper x (Taken (Runs asked)) → answer ≡ (comes_to asked.known asked.work (has_now a.batched.kernel)).reply
      → ((g : ℕ) → has g rests ≡ list_any (λ k. has g (tags_at (undo_state_of bytes_cmp a.batched.kernel.parts) k))
      (touched (deed (Runs asked) (has_now a.batched.kernel))))
      → IsNumbered a.batched.queue s.batched.queue → s.batched.begun ≡ a.batched.begun
      → Led told told x (kept_as asked answer rests ∷ []) [] s
  stepped s asked answer rests d is takes spares proper says rests_are numbered begun =
      let look = has_now a.batched.kernel in
      let state = undo_state_of bytes_cmp a.batched.kernel.parts in
      let all = deed (Runs asked) look in
      let r = kept_as asked answer rests in
      let goes : Moves served x (Taken (Runs asked)) (machine s.batched.kernel status) = record {
        deed = d;
        honest = acts (Runs asked) look ∙ ap (λ e. Ok (effect_of look e)) (sym is);
        takes = takes.takes status are;
        fresh = λ g h same le. absurd (none-some g same);
      } in
      let done = step_taken a.batched.kernel.parts a.batched.queue a.batched.begun known.0 known.1
      s.batched.kernel.parts d spares takes in
      record {
        moves = Does (Taken (Runs asked)) ∷ [];
        log = r ∷ [];
        status = status;
        agrees = takes.agrees status are;
        calls = (machine s.batched.kernel status, proper, goes, (refl, refl));
        logs = (
          machine s.batched.kernel status,
          r ∷ [],
          [],
          refl,
          goes,
          (
            r,
            refl,
            record {
              entry = refl;
              said = ap (λ w. Some (asked.channel, (asked.ticket, w))) says
                  ∙ ap (λ o. (marked_effect served None o).said) (sym (acts (Runs asked) look));
              rests = λ g. rests_are g
                  ∙ ap (λ ks. list_any (λ k. has g (tags_at state k)) (ks ++ map (λ w. w.0) all.written))
                  (sym (reads look all.looked))
                  ∙ ap (λ o. is_tag state (marked_effect served None o) g) (sym (acts (Runs asked) look));
            },
          ),
          (refl, refl, refl),
        );
        known = (
          known.0,
          subst (λ e. IsInStep s.batched.kernel.parts s.batched.queue e known.0) (sym begun)
              (requeued s.batched.kernel.parts a.batched.queue a.batched.begun known.0 done s.batched.queue numbered),
        );
        quiet = (λ e. absurd (true≢false e), tt);
        commands_are = refl;
        decides_are = refl;
      }
