-- No barred key comes to be there, whatever a step, a new guess, a commit or a failure does.
use Rattle.sk_batched.proofs.Names.{◌≡◌, ℕ, Bool, true, false, cond, ◌||◌, List, [], ◌∷◌, ◌++◌, map, Option, None, Ok}
use Rattle.sk_batched.proofs.Names.{inl, inr, refl, sym, ◌∙◌, ap, subst, list_any, Vec, vec_items, true≢false}
use Rattle.sk_batched.proofs.Names.{or_parts, or_from, false_from_ne_true, eq_by_cmp, is_in, written_value}
use Rattle.sk_batched.proofs.Names.{marked_effect, Note, has, without, noted, cut, committed, unwound, Merges, Effect}
use Rattle.sk_batched.proofs.Names.{MergedTakes, MergedCommits, Fails, with_drawn, with_failure, with_status, Status}
use Rattle.sk_batched.proofs.Names.{StatusCommitted, AreStatuses, Deed, again, performs, look_at, log_at}
use Rattle.sk_batched.proofs.Names.{bytes_cmp, same_bytes, Commits, FailsIn, Takes, Parts, machine_of, undo_state_of}
use Rattle.sk_batched.proofs.Names.{step_tags, IsSame, WholeStep, byte_deed, batch_key, is_reserved}
use Rattle.sk_batched.proofs.Names.{step_refused}
use Rattle.sk_batched.specs.Barred.{is_barred, is_too_long, AllAbsent, HasNoneBarred}
use Rattle.sk_batched.proofs.Moves.{ok_or, unwritten}
use Rattle.sk_batched.proofs.Spared.{short, unreserved}

-- ---- notes

module _ {V : Type 0} where
  noted_absent : (wrote : Bool) (tags : List ℕ) (v : Option V) (rest : List (Note V)) → v ≡ None → AllAbsent rest → AllAbsent (noted wrote tags v rest)
  noted_absent false tags v rest none absent = absent
  noted_absent true [] v rest none absent = absent
  noted_absent true (t ∷ tags) v rest none absent = (none, absent)

  append_absent : (xs ys : List (Note V)) → AllAbsent xs → AllAbsent ys → AllAbsent (xs ++ ys)
  append_absent [] ys first later = later
  append_absent (n ∷ ns) ys first later = (first.0, append_absent ns ys first.1 later)

  merged_absent : (t : List ℕ) (xs ys : List (Note V)) → Merges t xs ys → AllAbsent xs → AllAbsent ys
  merged_absent t [] [] merges absent = tt
  merged_absent t [] (m ∷ ms) merges absent = absurd merges
  merged_absent t (n ∷ ns) [] merges absent = tt
  merged_absent t (n ∷ ns) (m ∷ ms) (inl skips) absent = merged_absent t ns (m ∷ ms) skips.1 absent.1
  merged_absent t (n ∷ ns) (m ∷ ms) (inr keeps) absent =
      (ap (λ (k : Note V). k.before) keeps.0 ∙ absent.0, merged_absent n.tags ns ms keeps.1 absent.1)

  committed_absent : (g : ℕ) (log : List (Note V)) → AllAbsent log → AllAbsent (committed g log)
  committed_absent g [] absent = tt
  committed_absent g (n ∷ ns) absent = noted_absent true (without g n.tags) n.before (committed g ns) absent.0 (committed_absent g ns absent.1)

  cut_absent : (g : ℕ) (log : List (Note V)) → AllAbsent log → AllAbsent (cut g log)
  cut_absent g [] absent = tt
  cut_absent g (n ∷ ns) absent =
      elim (has g n.tags) as (λ b. AllAbsent (cond b [] (n ∷ cut g ns))) [
        | true ↦ tt
        | false ↦ (absent.0, cut_absent g ns absent.1)
      ]

  unwound_absent : (g : ℕ) (log : List (Note V)) (v : Option V) → AllAbsent log → v ≡ None → unwound g log v ≡ None
  unwound_absent g [] v absent none = none
  unwound_absent g (n ∷ ns) v absent none =
      elim (has g n.tags) as (λ b. cond b n.before (unwound g ns v) ≡ None) [
        | true ↦ absent.0
        | false ↦ unwound_absent g ns v absent.1 none
      ]

  none_merged : (xs ys : List (Note V)) → xs ≡ [] → Merges [] xs ys → ys ≡ []
  none_merged [] [] is merges = refl
  none_merged [] (m ∷ ms) is merges = absurd merges
  none_merged (x ∷ xs) ys is merges = absurd (cc)

-- ---- steps

-- a step makes no barred key be there, and writes none that is too long
pub record Bars {V : Type 0} (written : List (List ℕ × Option V)) : Type 0 where
  pub writes : (k : List ℕ) → is_barred k ≡ true → written_value bytes_cmp written k None ≡ None
  pub long : (k : List ℕ) → is_too_long k ≡ true → is_in bytes_cmp (map (λ w. w.0) written) k ≡ false

-- what names no key of a kind writes none
written_free : {V : Type 0} (test : List ℕ → Bool) (ws : List (Vec ℕ × Option V)) (k : List ℕ) → test k ≡ true → list_any (λ (w : Vec ℕ × Option V). test w.0.items) ws ≡ false
    → is_in bytes_cmp (map (λ (w : List ℕ × Option V). w.0) (map (λ (w : Vec ℕ × Option V). (vec_items w.0, w.1)) ws)) k ≡ false
written_free test [] k is none = refl
written_free test (w ∷ ws) k is none =
    let parts = or_parts (test w.0.items) (list_any (λ (v : Vec ℕ × _). test v.0.items) ws) none in
    or_from (eq_by_cmp bytes_cmp k w.0.items) _
    (false_from_ne_true (eq_by_cmp bytes_cmp k w.0.items) (λ same. true≢false (sym is ∙ ap test ((same_bytes k w.0.items).0 same) ∙ parts.0)))
    (written_free test ws k is parts.1)

module _ {V O : Type 0} (step : WholeStep (Vec ℕ) V O) (free : step_refused step ≡ None) where
  long_free : list_any (λ (w : Vec ℕ × _). is_too_long w.0.items) step.written.items ≡ false
  long_free = (or_parts (list_any (λ (key : Vec ℕ). is_too_long key.items) step.looked.items) (list_any (λ (w : Vec ℕ × _). is_too_long w.0.items) step.written.items) (short step free)).1

  reserved_free : list_any (λ (w : Vec ℕ × _). is_reserved w.0.items) step.written.items ≡ false
  reserved_free = (or_parts (list_any (λ (key : Vec ℕ). is_reserved key.items) step.looked.items) (list_any (λ (w : Vec ℕ × _). is_reserved w.0.items) step.written.items) (unreserved step free)).1

  barred_free : (k : List ℕ) (long : Bool) → is_too_long k ≡ long → (long || is_reserved k) ≡ true → is_in bytes_cmp (map (λ w. w.0) (byte_deed step).written) k ≡ false
  barred_free k true is barred = written_free is_too_long step.written.items k is long_free
  barred_free k false is barred = written_free is_reserved step.written.items k barred reserved_free

  pub step_bars : Bars (byte_deed step).written
  step_bars = record {
    writes = λ k barred. unwritten (byte_deed step).written k None (barred_free k (is_too_long k) refl barred);
    long = λ k is. written_free is_too_long step.written.items k is long_free;
  }

-- the step that draws a guess makes its batch's key absent
pub opening_bars : {V : Type 0} (n : ℕ) → Bars {V = V} ((batch_key n, None) ∷ [])
opening_bars {V} n = record {
  writes = λ k barred. neither (eq_by_cmp bytes_cmp k (batch_key n));
  long = λ k is. or_from (eq_by_cmp bytes_cmp k (batch_key n)) false
      (false_from_ne_true (eq_by_cmp bytes_cmp k (batch_key n)) (λ same. true≢false (sym is ∙ ap is_too_long ((same_bytes k (batch_key n)).0 same)))) refl;
} where
  neither : (c : Bool) → cond {A = Option V} c None None ≡ None
  neither true = refl
  neither false = refl

module _ {V O : Type 0} (a b : Parts (List ℕ) V O) (h : HasNoneBarred a) (status : ℕ → Option Status) (are : AreStatuses a.guesses a.opens status) where
  -- a step was taken, with its own guess or none
  pub taken_barred : (d : Deed (List ℕ) V O) (mark : Option ℕ) → Bars d.written → Takes bytes_cmp a d mark b → HasNoneBarred b
  taken_barred d mark bars takes = record {
    look = λ k is. t.look k ∙ (λ i. written_value bytes_cmp (wrote i) k (h.look k is i)) ∙ bars.writes k is;
    before = λ k is. merged_absent [] _ (log_at bytes_cmp b.slots k) (t.logs k)
        (append_absent (log_at bytes_cmp a.slots k) _ (h.before k is)
        (noted_absent (is_in bytes_cmp (map (λ w. w.0) t.effect.written) k) tags (look_at bytes_cmp a.slots k) [] (h.look k is) tt));
    long = λ k is. none_merged _ (log_at bytes_cmp b.slots k)
        (λ i. h.long k is i ++ noted ((ap (λ ws. is_in bytes_cmp (map (λ w. w.0) ws) k) wrote ∙ bars.long k is) i) tags (look_at bytes_cmp a.slots k) [])
        (t.logs k);
  } where
    t : MergedTakes (again bytes_cmp) (machine_of bytes_cmp a status) (record { deed = d; guess = mark }) (machine_of bytes_cmp b (with_drawn mark status))
    t = takes.takes status are

    tags : List ℕ
    tags = step_tags (undo_state_of bytes_cmp a) (marked_effect (again {V = V} {O = O} bytes_cmp) mark (Ok t.effect))

    wrote : t.effect.written ≡ d.written
    wrote = ap (λ (f : Effect (List ℕ) V (ℕ × O)). f.written) (sym (ap (ok_or t.effect) (sym (performs (look_at bytes_cmp a.slots) d) ∙ t.accepted)))

  pub committed_barred : (g : ℕ) → Commits bytes_cmp a g b → HasNoneBarred b
  committed_barred g commits = record {
    look = λ k is. t.look k ∙ h.look k is;
    before = λ k is. merged_absent [] _ (log_at bytes_cmp b.slots k) (t.logs k) (committed_absent g (log_at bytes_cmp a.slots k) (h.before k is));
    long = λ k is. none_merged _ (log_at bytes_cmp b.slots k) (ap (committed g) (h.long k is)) (t.logs k);
  } where
    t : MergedCommits (machine_of bytes_cmp a status) g (machine_of bytes_cmp b (with_status g StatusCommitted status))
    t = commits.commits status are

  pub failed_barred : (g : ℕ) → FailsIn bytes_cmp a g b → HasNoneBarred b
  failed_barred g fails = record {
    look = λ k is. t.state.look k ∙ unwound_absent g (log_at bytes_cmp a.slots k) (look_at bytes_cmp a.slots k) (h.before k is) (h.look k is);
    before = λ k is. subst AllAbsent (sym (t.state.logs k)) (cut_absent g (log_at bytes_cmp a.slots k) (h.before k is));
    long = λ k is. t.state.logs k ∙ ap (cut g) (h.long k is);
  } where
    t : Fails (machine_of bytes_cmp a status) g (machine_of bytes_cmp b (with_failure g a.opens status))
    t = fails.fails status are

-- nothing that is seen has changed
pub same_barred : {V O : Type 0} (a b : Parts (List ℕ) V O) → HasNoneBarred a → IsSame bytes_cmp a b → HasNoneBarred b
same_barred a b h same = record {
  look = λ k is. same.look k ∙ h.look k is;
  before = λ k is. subst AllAbsent (sym (same.logs k)) (h.before k is);
  long = λ k is. same.logs k ∙ h.long k is;
}

-- nothing is there
pub new_barred : {V O : Type 0} (m : Parts (List ℕ) V O) → ((k : List ℕ) → look_at bytes_cmp m.slots k ≡ None) → ((k : List ℕ) → log_at bytes_cmp m.slots k ≡ []) → HasNoneBarred m
new_barred m look log = record {
  look = λ k is. look k;
  before = λ k is. subst AllAbsent (sym (log k)) tt;
  long = λ k is. log k;
}
