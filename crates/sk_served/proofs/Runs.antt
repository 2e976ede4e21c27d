-- The plain run of entries is a plain store's.
use Rattle.sk_served.proofs.Names.{◌≡◌, ℕ, suc, Bool, true, false, cond, List, [], ◌∷◌, ◌++◌, map, Option, Some, None}
use Rattle.sk_served.proofs.Names.{if◌then◌else◌, refl, sym, ap, subst, ◌∙◌, ◌==◌, AllByRecursion, eq_by_cmp, FinMap}
use Rattle.sk_served.proofs.Names.{get, bytes_eq-Decides, after, effects, marked_effect, outcome, put_all, run, said_by}
use Rattle.sk_served.proofs.Names.{said_from, get-put, map_append, Answer, Outcome, Written, written_after, comes_to}
use Rattle.sk_served.proofs.Names.{wants_all, with_value, bytes_cmp, held, keys_of, Entries, bytes_same, bytes_total}
use Rattle.sk_served.proofs.Names.{holds_written, stays_in_order, batch_key, is_reserved, deed, mark, served, Asked}
use Rattle.sk_served.proofs.Names.{Entry, Opens, Runs, NamesNoReserved, entries_after, entry_after, replies_to}
use Rattle.sk_served.proofs.Names.{reply_to, AreTold, IsTold, KnowsAll, HoldsSame}
use Rattle.sk_record.specs.Run.{put}
use Rattle.sk_served.proofs.Steps.{acts}
use Rattle.sk_served.proofs.Known.{alone_work, more_known, store_knows}
use Rattle.sk_served.proofs.Free.{free_after, work_free}

-- ---- what is written

one_put : (s : FinMap served.order (List ℕ)) (key : List ℕ) (value : Option (List ℕ))
    → get (put s key value) ≡ with_value key value (get s)
one_put s key value i q = (get-put bytes_total s key value q ∙ ap (λ b. cond b value (get s q)) (bytes_same q key)) i

puts_all : (ws : Written) (s : FinMap served.order (List ℕ)) (q : List ℕ)
    → get (put_all ws s) q ≡ written_after ws (get s) q
puts_all [] s q = refl
puts_all (w ∷ ws) s q = puts_all ws (put s w.0 w.1) q ∙ ap (λ has. written_after ws has q) (one_put s w.0 w.1)

batch_reserved : (n : ℕ) → is_reserved (batch_key n) ≡ true
batch_reserved n = refl

equal_is : (a b : List ℕ) → eq_by_cmp bytes_cmp a b ≡ true → a ≡ b
equal_is a b e = (bytes_eq-Decides a b).0 (sym (bytes_same a b) ∙ e)

if_said : (b : Bool) (w v : ℕ × (ℕ × Answer)) (i : ℕ) → w ≡ v
    → map {A = (ℕ × (ℕ × Answer)) × ℕ} (λ x. x.0) (if b then (w, i) ∷ [] else []) ≡ (if b then v ∷ [] else [])
if_said true w v i is = ap (λ w. w ∷ []) is
if_said false w v i is = refl

-- ---- one entry

module _ (s : FinMap served.order (List ℕ)) (entries : Entries) (h : HoldsSame s entries) where
  same_have : get s ≡ held entries
  same_have i key = h.same key i

  -- work comes to the same
  work_is : (a : Asked) → IsTold (get s) (Runs a)
      → comes_to a.known a.work (get s) ≡ comes_to (keys_of entries) a.work (held entries)
  work_is a told =
      ap (comes_to a.known a.work) same_have
      ∙ elim (wants_all a.work) as (λ b. wants_all a.work ≡ b → comes_to a.known a.work (held entries) ≡ comes_to (keys_of entries) a.work (held entries)) [
        | true ↦ λ is. more_known a.work a.known (keys_of entries) (held entries) h.none_reserved (subst (KnowsAll a.known) same_have (told is)) (store_knows entries h.in_order)
        | false ↦ λ is. alone_work a.work a.known (keys_of entries) (held entries) is
      ] refl

  batch_held : (n : ℕ) → HoldsSame (put s (batch_key n) None) entries
  batch_held n = record {
    same = λ key.
        get-put bytes_total s (batch_key n) None key
        ∙ elim (eq_by_cmp bytes_cmp key (batch_key n)) as (λ b. eq_by_cmp bytes_cmp key (batch_key n) ≡ b → cond b None (get s key) ≡ held entries key) [
          | true ↦ λ is. sym (h.none_reserved key (subst (λ k. is_reserved k ≡ true) (sym (equal_is key (batch_key n) is)) (batch_reserved n)))
          | false ↦ λ is. h.same key
        ] refl;
    in_order = h.in_order;
    none_reserved = h.none_reserved;
  }

  work_held : (a : Asked) → NamesNoReserved (Runs a) → IsTold (get s) (Runs a)
      → HoldsSame (put_all (comes_to a.known a.work (get s)).written s) (entry_after (Runs a) entries)
  work_held a names told =
      let ws = (comes_to (keys_of entries) a.work (held entries)).written in
      record {
        same = λ key.
            puts_all (comes_to a.known a.work (get s)).written s key
            ∙ ap (λ o. written_after o.written (get s) key) (work_is a told)
            ∙ ap (λ has. written_after ws has key) same_have
            ∙ sym (holds_written ws entries key);
        in_order = stays_in_order ws entries h.in_order;
        none_reserved = λ key reserved.
            holds_written ws entries key
            ∙ free_after ws (held entries) (work_free a.work (keys_of entries) (held entries) names) h.none_reserved key reserved;
      }

  deed_held : (n : Entry) → NamesNoReserved n → IsTold (get s) n
      → HoldsSame (put_all (deed n (get s)).written s) (entry_after n entries)
  deed_held (Opens m) names told = batch_held m
  deed_held (Runs a) names told = work_held a names told

  one_held : (n : Entry) → NamesNoReserved n → IsTold (get s) n
      → HoldsSame (after served (outcome served s n) s) (entry_after n entries)
  one_held n names told =
      subst (λ o. HoldsSame (after served o s) (entry_after n entries)) (sym (acts n (get s))) (deed_held n names told)

  -- what it says
  one_reply : (t i channel ticket : ℕ) (o p : Outcome Answer) → o ≡ p
      → map (λ x. x.0) (said_by served t (Some (channel, (ticket, o.reply))) i) ≡ (if channel == t then (channel, (ticket, p.reply)) ∷ [] else [])
  one_reply t i channel ticket o p is = if_said (channel == t) (channel, (ticket, o.reply)) (channel, (ticket, p.reply)) i (ap (λ o. (channel, (ticket, o.reply))) is)

  deed_said : (n : Entry) (t i : ℕ) → IsTold (get s) n
      → map (λ x. x.0) (said_by served t (deed n (get s)).said i) ≡ reply_to t n entries
  deed_said (Opens m) t i told = refl
  deed_said (Runs a) t i told = one_reply t i a.channel a.ticket (comes_to a.known a.work (get s)) (comes_to (keys_of entries) a.work (held entries)) (work_is a told)

  one_said : (n : Entry) (t i : ℕ) → IsTold (get s) n
      → map (λ x. x.0) (said_by served t (marked_effect served (mark n) (outcome served s n)).said i) ≡ reply_to t n entries
  one_said n t i told =
      ap (λ o. map (λ x. x.0) (said_by served t (marked_effect served (mark n) o).said i)) (acts n (get s)) ∙ deed_said n t i told

-- ---- a run

pub runs_plain : (start : FinMap served.order (List ℕ)) (entries : Entries) (ns : List Entry)
    → HoldsSame start entries → AllByRecursion NamesNoReserved ns → AreTold start ns
    → HoldsSame (run served start ns) (entries_after ns entries) × ((t i : ℕ) → map (λ x. x.0) (said_from served t i (effects served start ns)) ≡ replies_to t ns entries)
runs_plain start entries [] h names told = (h, λ t i. refl)
runs_plain start entries (n ∷ ns) h names told =
    let rest = runs_plain (after served (outcome served start n) start) (entry_after n entries) ns (one_held start entries h n names.0 told.0) names.1 told.1 in (
      rest.0,
      λ t i.
          map_append (λ x. x.0) (said_by served t (marked_effect served (mark n) (outcome served start n)).said i) (said_from served t (suc i) (effects served (after served (outcome served start n) start) ns))
          ∙ ap (λ xs. xs ++ map (λ x. x.0) (said_from served t (suc i) (effects served (after served (outcome served start n) start) ns))) (one_said start entries h n t i told.0)
          ∙ ap (λ xs. reply_to t n entries ++ xs) (rest.1 t (suc i)),
    )
