-- A guess is decided by the token at the place that was found: what a commit and a failure answer, and that the other tokens are held as before.
use Rattle.sk_kernel.proofs.Names.{Some, subst, inr, Ok, ◌∷◌, Err, inl, ◌≡◌, List, get_or, ap, ◌++◌, ℕ, true, sym}
use Rattle.sk_kernel.proofs.Names.{refl, Result, [], ◌∙◌, true≢false, remove, slice_get, ◌⊎◌, Token, HolderView, but}
use Rattle.sk_kernel.proofs.Names.{DecidesPost, ids, IsHeld, entity_total, entity_exact}
use Rattle.sk_kernel.proofs.Undecided.{undecided_is}
use Rattle.sk_kernel.proofs.Names.{DecisionPost, FailPost, CommitPost, HasStatus}
use Rattle.sk_kernel.proofs.Undecided.{struck_is_decided}
use Rattle.sk_kernel.proofs.Whole.{map_more}
use Rattle.sk_kernel.proofs.Names.{events_of, with_event, undecided_at, KernelView, HasSoundTrace, FailRefusal}
use Rattle.sk_kernel.proofs.Names.{Outcome, Stranger, plain, image, in_trace, sound_commit, sound_fail, status_in}
use Rattle.sk_kernel.proofs.Names.{has, Commit, Fail, StatusIs, undecided_of, IsSound, Struck, Undecided, Event}
use Rattle.sk_trace.specs.declared.event.Event.TheVariants as events
use Rattle.sk_kernel.specs.declared.kernel.Outcome.TheVariants as outcomes
use Rattle.sk_kernel.specs.declared.kernel.FailRefusal.TheVariants as refusals
use Rattle.sk_kernel.proofs.Opens.{open_commit, open_fail, decided_shut}
use Rattle.sk_kernel.proofs.Held.{Out, taken_out, all_still, still_unspent, no_stranger}

-- ---- what a commit and a failure answer

committed : (result : Result Outcome Stranger) (o : Outcome) (t : Token) (old new : KernelView) → CommitPost result t old new → result ≡ Ok o → DecisionPost o t (events.Commit t.id) old new
committed (Ok x) o t old new h e = let same : x ≡ o = cc in subst (λ o. DecisionPost o t (events.Commit t.id) old new) same h
committed (Err s) o t old new h e = absurd cc

failed : (result : Result Outcome FailRefusal) (o : Outcome) (t : Token) (old new : KernelView) → FailPost result t old new → result ≡ Ok o → DecisionPost o t (events.Fail t.id) old new
failed (Ok x) o t old new h e = let same : x ≡ o = cc in subst (λ o. DecisionPost o t (events.Fail t.id) old new) same h
failed (Err s) o t old new h e = absurd cc

-- a holder of these tokens
abbrev pub with_tokens : KernelView → List Token → HolderView
with_tokens k ts = record { kernel = k; held = ids ts }

-- ---- the token at the place of a guess is taken out

module _ (k : KernelView) (ts others : List Token) (v : HolderView) (view : with_tokens k ts ≡ v) (t : Token) (place id : ℕ) (held : IsHeld k ts) (sound : HasSoundTrace k)
    (at : slice_get v.held place ≡ Some id) (value : t ≡ get_or ts place t) (rest : others ≡ remove ts place) where
  out : Out k ts others id t
  out =
      let here : slice_get (ids ts) place ≡ Some id = ap (λ (h : HolderView). slice_get h.held place) view ∙ at in
      subst (λ us. Out k ts us id t) (sym rest) (taken_out k place id ts t here value held.unspent)

  pub commit_met : (result : Result Outcome Stranger) (s : Stranger) (new : KernelView) → CommitPost result t k new → result ≡ Err s → ⊥
  commit_met (Ok x) s new h e = absurd cc
  commit_met (Err x) s new h e = no_stranger k t sound out.unspent h.0

  pub fail_met : (result : Result Outcome FailRefusal) (why : FailRefusal) (new : KernelView) → FailPost result t k new → result ≡ Err why → ⊥
  fail_met (Ok x) why new h e = absurd cc
  fail_met (Err (refusals.Stranger x)) why new h e = no_stranger k t sound out.unspent h.0

  -- a decision of its guess
  module _ (e : Event) (new : KernelView) (own : (u : Token) → (u.id ≡ t.id → ⊥) → (image e ≡ Commit u.id → ⊥) × (image e ≡ Fail u.id → ⊥))
      (after : StatusIs (plain k.scripts) k.start (events_of k) t.id Undecided → IsSound (plain k.scripts) k.start (events_of k ++ image e ∷ []))
      (decides : (image e ≡ Commit t.id) ⊎ (image e ≡ Fail t.id))
      (fewer : (g : ℕ) → has g (undecided_of (plain k.scripts) k.start (events_of k ++ image e ∷ [])) ≡ true → has g (undecided_at k) ≡ true) where
    holds : (o : Outcome) → DecisionPost o t e k new → IsHeld new others
    holds outcomes.Done h =
        let shut = decided_shut (plain k.scripts) k.start (events_of k) (image e) t.id (after (in_trace (plain k.scripts) k.start (status_in k.earlier t.id) (events_of k) t.id (sound.decided t.id) h.1)) decides in
        let other : (u : Token) → has u.id (ids others) ≡ true → u.id ≡ t.id → ⊥ = λ u there same. true≢false (sym there ∙ ap (λ g. has g (ids others)) (same ∙ out.number) ∙ out.apart) in
        subst (λ k. IsHeld k others) (sym h.2) (record {
          unspent = all_still k (with_event k e) others (λ u there us. let o = own u (other u there) in still_unspent k e u o.0 o.1 us) out.rest;
          each = λ g is.
              let here = ap (λ es. has g (undecided_of (plain k.scripts) k.start es)) (sym (map_more k.trace e)) ∙ is in
              elim (out.stays g (held.each g (fewer g here))) [
                | inl same ↦ absurd (true≢false (sym here ∙ ap (λ g. has g (undecided_of (plain k.scripts) k.start (events_of k ++ image e ∷ []))) (same ∙ sym out.number) ∙ shut))
                | inr there ↦ there
              ];
        })
    holds outcomes.Gone h =
        subst (λ k. IsHeld k others) (sym h.2) (record {
          unspent = out.rest;
          each = λ g is. elim (out.stays g (held.each g is)) [
            | inl same ↦ absurd (true≢false (sym is ∙ ap (λ g. has g (undecided_at k)) (same ∙ sym out.number) ∙ struck_is_decided k sound t.id h.1))
            | inr there ↦ there
          ];
        })

  pub commit_holds : (result : Result Outcome Stranger) (o : Outcome) (new : KernelView) → CommitPost result t k new → result ≡ Ok o → IsHeld new others
  commit_holds result o new h e =
      holds (events.Commit t.id) new (λ u other. ((λ is. other (let same : t.id ≡ u.id = cc in sym same)), λ is. cc))
      (sound_commit (plain k.scripts) k.start (events_of k) t.id sound.sound) (inl refl) (open_commit (plain k.scripts) k.start (events_of k) t.id) o (committed result o t k new h e)

  pub fail_holds : (result : Result Outcome FailRefusal) (o : Outcome) (new : KernelView) → FailPost result t k new → result ≡ Ok o → IsHeld new others
  fail_holds result o new h e =
      holds (events.Fail t.id) new (λ u other. ((λ is. cc), λ is. other (let same : t.id ≡ u.id = cc in sym same)))
      (sound_fail (plain k.scripts) k.start entity_total entity_exact (events_of k) t.id sound.sound) (inr refl) (open_fail (plain k.scripts) k.start (events_of k) t.id) o (failed result o t k new h e)

  -- ---- what is told of it

  left : (new was : KernelView) → new ≡ was → with_tokens new others ≡ record { kernel = was; held = but id (ids ts) }
  left new was same = (λ i. record { kernel = same i; held = out.left i })

  decides_by : (o : Outcome) (e : ℕ → Event) (new : KernelView) → DecisionPost o t (e t.id) k new → DecidesPost (Some o) (e id) id (with_tokens k ts) (with_tokens new others)
  decides_by outcomes.Done e new h =
      let is_open = subst (λ g. HasStatus k g Undecided) out.number h.1 in
      (out.here, is_open, (undecided_is k sound id).1 is_open, left new _ (h.2 ∙ ap (λ g. with_event k (e g)) out.number))
  decides_by outcomes.Gone e new h =
      let struck = subst (λ g. HasStatus k g Struck) out.number h.1 in
      (out.here, struck, struck_is_decided k sound id struck, left new _ h.2)

  pub commit_decides : (result : Result Outcome Stranger) (o : Outcome) (new : KernelView) → CommitPost result t k new → result ≡ Ok o → DecidesPost (Some o) (events.Commit id) id v (with_tokens new others)
  commit_decides result o new h e = subst (λ v. DecidesPost (Some o) (events.Commit id) id v (with_tokens new others)) view (decides_by o (λ g. events.Commit g) new (committed result o t k new h e))

  pub fail_decides : (result : Result Outcome FailRefusal) (o : Outcome) (new : KernelView) → FailPost result t k new → result ≡ Ok o → DecidesPost (Some o) (events.Fail id) id v (with_tokens new others)
  fail_decides result o new h e = subst (λ v. DecidesPost (Some o) (events.Fail id) id v (with_tokens new others)) view (decides_by o (λ g. events.Fail g) new (failed result o t k new h e))
