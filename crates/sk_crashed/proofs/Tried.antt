-- Where a cut is tried all is written as if it was made.
use Rattle.sk_crashed.proofs.Names.{◌≡◌, ℕ, zero, suc, ◌+◌, ◌-◌, ◌≤◌, List, [], ◌∷◌, ◌++◌, length, take, refl, sym, ap}
use Rattle.sk_crashed.proofs.Names.{◌∙◌, arith, length-append, append_assoc, length-take, length-take-le, take_at}
use Rattle.sk_crashed.proofs.Names.{payload, RecordView, Cut, Call, Cuts, Sends, Turns, frames_by, frames_from, cut_at}
use Rattle.sk_crashed.proofs.Names.{end_of, left_by, now_in, turned, with_frame, written_by, written_from, Written}
use Rattle.sk_crashed.proofs.Scanned.{last_of, tried_from}
use Rattle.sk_crashed.proofs.Writing.{AreWithin}

abbrev pub cuts_of : Cut → ℕ → List Call
cuts_of c zero = []
cuts_of c (suc n) = Cuts c ∷ cuts_of c n

only_cuts : (c : Cut) (n : ℕ) (w : Written) → written_from w (cuts_of c n) ≡ w ∷ tried_from c.frame w n
only_cuts c zero w = refl
only_cuts c (suc n) w = ap (λ ws. w ∷ ws) (only_cuts c n (cut_at c.frame w))

pub push_cuts : (c : Cut) (n : ℕ) (w : Written) (cs : List Call)
    → written_from w (cs ++ cuts_of c n) ≡ written_from w cs ++ tried_from c.frame (now_in w cs) n
push_cuts c n w [] = only_cuts c n w
push_cuts c n w (d ∷ cs) = ap (λ ws. left_by d w ++ ws) (push_cuts c n (written_by d w) cs)
    ∙ sym (append_assoc (left_by d w) (written_from (written_by d w) cs) (tried_from c.frame (now_in (written_by d w) cs) n))

pub last_now : (prev w : Written) (cs : List Call) → last_of prev (written_from w cs) ≡ now_in w cs
last_now prev w [] = refl
last_now prev w (Turns ∷ cs) = last_now w (turned w) cs
last_now prev w (Cuts cut ∷ cs) = last_now w (cut_at cut.frame w) cs
last_now prev w (Sends sealed records ∷ cs) = last_now prev (with_frame records w) cs
last_now prev w (c ∷ cs) = last_now prev w cs

module _ (nf : ℕ) where
  pub end_now : (cs : List Call) (w : Written) (log : List (List RecordView)) → AreWithin nf log cs → end_of w ≡ nf + length log
      → end_of (now_in w cs) ≡ nf + length (frames_from nf log cs)
  end_now [] w log within at = at
  end_now (Sends sealed records ∷ cs) w log within at =
      let one = length-append w.payloads (payload records ∷ []) in
      let more = length-append log (records ∷ []) in
      end_now cs (with_frame records w) (log ++ records ∷ []) within.1 (omega (arith, at, one, more))
  end_now (Turns ∷ cs) w log within at = end_now cs (turned w) log within.1 (omega (arith, at))
  end_now (Cuts cut ∷ cs) w log within at =
      let from = within.0.0 in
      let upto = within.0.1 in
      let size = length-append (take (cut.frame - nf) log) ([] ∷ []) in
      let front = length-take (cut.frame - nf) log in
      end_now cs (cut_at cut.frame w) (take (cut.frame - nf) log ++ [] ∷ []) within.1 (omega (arith, from, upto, size, front))
  end_now (c ∷ cs) w log within at = end_now cs w log within.1 at

  pub within_both : (cs ds : List Call) (log : List (List RecordView)) → AreWithin nf log cs
      → AreWithin nf (frames_from nf log cs) ds → AreWithin nf log (cs ++ ds)
  within_both [] ds log one two = two
  within_both (c ∷ cs) ds log one two = (one.0, within_both cs ds (frames_by nf c log) one.1 two)

  pub frames_both : (cs ds : List Call) (log : List (List RecordView))
      → frames_from nf log (cs ++ ds) ≡ frames_from nf (frames_from nf log cs) ds
  frames_both [] ds log = refl
  frames_both (c ∷ cs) ds log = frames_both cs ds (frames_by nf c log)

  module _ (c : Cut) (from : nf ≤ c.frame) where
    pub within_cuts : (n : ℕ) (log : List (List RecordView)) → c.frame ≤ nf + length log → AreWithin nf log (cuts_of c n)
    within_cuts zero log upto = tt
    within_cuts (suc n) log upto =
        let size = length-append (take (c.frame - nf) log) ([] ∷ []) in
        let front = length-take (c.frame - nf) log in
        ((from, upto), within_cuts n (take (c.frame - nf) log ++ [] ∷ []) (omega (arith, upto, size, front)))

    pub frames_cuts : (n : ℕ) (log : List (List RecordView)) → c.frame ≤ nf + length log
        → frames_from nf log (cuts_of c (suc n)) ≡ take (c.frame - nf) log ++ [] ∷ []
    frames_cuts zero log upto = refl
    frames_cuts (suc n) log upto =
        let cut_log = take (c.frame - nf) log ++ [] ∷ [] in
        let size = length-append (take (c.frame - nf) log) ([] ∷ []) in
        let front = length-take-le (c.frame - nf) log (omega (arith, from, upto)) in
        frames_cuts n cut_log (omega (arith, upto, size, front))
        ∙ ap (λ xs. xs ++ [] ∷ []) (take_at (take (c.frame - nf) log) ([] ∷ []) (c.frame - nf) front)
