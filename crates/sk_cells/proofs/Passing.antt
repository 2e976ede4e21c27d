-- A function that takes a struct of one pointer for another, of which the same is held. Assumes `Logic`.
use Rattle.sk_cells.proofs.Names.{◌≡◌, ℕ, List, [], ◌∷◌, refl, Option, Ura, ftrue, fsep, Fml, emp, fact, Logic, Ptr}
use Rattle.sk_cells.proofs.Names.{RattleType, Is, Tells, Last, ty_ptr, ty_struct, tcons, tnil, yes, plain, cell_at, Fn, Callee, local}
use Rattle.sk_cells.proofs.Names.{value_local, seq, assign, place, field, copy, rv_opd, aggregate, return, Closed}
use Rattle.sk_cells.proofs.Names.{Model, Running, tables, Ended, Clauses, closing, Meets, Goes, stay_dropped, Stays}
use Rattle.sk_cells.proofs.Names.{walk_of, ends_at, says, proved, ‵, ◌⊛◌, ◌$◌, ◌∵◌, !, qed, drop, keep, split, join}
use Rattle.sk_cells.proofs.Names.{rewrite, suffices, done, enter, of_opd, stop, fld, no_more, and_then, returns}
use Rattle.sk_cells.proofs.Names.{alloc_all, pass_all, free_all, look_at, get, get_in, sets, agg, sub, whole, nothing}
use Rattle.sk_cells.proofs.Pointer.{word, ptr_fits, word_fits, Pointer}

-- its code, of structs of these names
abbrev pub passing : (from into : List ℕ) → Fn
passing from into = record {
  lifetimes = 0;
  outlives = [];
  ty_params = [];
  givens = 0;
  params = 1;
  locals = local (ty_struct into (tcons ty_ptr tnil)) value_local ∷ local (ty_struct from (tcons ty_ptr tnil)) value_local
      ∷ local ty_ptr value_local ∷ local ty_ptr value_local ∷ [];
  body = seq (assign (place 2 []) (rv_opd (copy (place 1 (field 0 ∷ [])))))
      (seq (assign (place 3 []) (rv_opd (copy (place 2 []))))
      (seq (assign (place 0 []) (aggregate (copy (place 3 []) ∷ []))) return));
}

-- what such a struct owns
abbrev pub cell_owned : (R : RattleType) → Ptr → Option R.Denot → Fml
cell_owned R p x = fsep (Pointer.own_val (p, tt) (word p ∷ [])) (cell_at R p x)

module _ (R In Out : RattleType) (at : In.Denot → Ptr) (held : In.Denot → Option R.Denot)
    (make : Ptr → Option R.Denot → Out.Denot) (holds : Out.Denot → Option R.Denot) where
  abbrev pub ended : Ended
  ended = record {
    signature = record { lifetimes = 0; outlives = []; params = plain (λ _. In) ∷ []; result = plain (λ _. Out) };
    kept = (yes, tt);
  }

  abbrev pub same : {M : Type 1} (𝓤 : Ura M) → Clauses 𝓤 ended
  same 𝓤 κs a = record { ghost = Unit {0}; requires = λ _. emp 𝓤; ensures = λ g result end. fact 𝓤 (holds result ≡ held a.0) }

  abbrev stayed : Stays ended.signature.params ended.kept
  stayed = (stay_dropped (plain (λ _. In)) yes, tt)

  module _ {M : Type 1} (𝓤 : Ura M) (𝓛 : Logic 𝓤) (𝓜 : Model 𝓤 𝓛.H) (𝓡 : Running 𝓤 𝓛.H 𝓜) where
    pub passes : (from into : List ℕ) → Goes 𝓛 0 (plain (λ _. In)) yes stayed.0 → Tells In (Is In) (λ h. word (at h) ∷ [])
        → ((h : In.Denot) → Last (In.exit yes) h)
        → ((h : In.Denot) → In.own_val h (word (at h) ∷ []) ≡ cell_owned R (at h) (held h))
        → ((p : Ptr) (x : Option R.Denot) → cell_owned R p x ≡ Out.own_val (make p x) (word p ∷ []))
        → ((p : Ptr) (x : Option R.Denot) → holds (make p x) ≡ x)
        → (k : Callee) → Closed 𝓤 𝓛.H (tables 𝓤 𝓛.H 𝓜 𝓡 𝓡.env).C (tables 𝓤 𝓛.H 𝓜 𝓡 𝓡.env).Λ k (passing from into)
        → Meets 𝓛 ended.signature ((tables 𝓤 𝓛.H 𝓜 𝓡 𝓡.env).C k) (closing 𝓛 ended (same 𝓤))
    passes from into goes tells lasts opens shuts is k closed =
        proved 𝓛 ended stayed (same 𝓤) 𝓜 𝓡 (goes, tt) k (passing from into) closed (λ κs. ((λ h. word (at h) ∷ []), tt)) (λ κs. (tells, tt)) (λ κs qs bounds a n are.
        let h = a.0 in let p = at h in let x = held h in
        let y : (walk_of 𝓛 ended stayed (same 𝓤)).Ghost = ((κs, qs, bounds, a, (word p ∷ [], tt)), n) in
        qed 𝓛 ((‵ ftrue ⊛ ‵ (In.own_val h (word p ∷ [])) ⊛ ‵ ftrue) ∷ ‵ ftrue ∷ []) ∵
        split ! $ drop ! $ split ! $ keep ! (0 ∷ []) $ rewrite ! 0 (λ (P : Fml). ‵ P) (opens h) refl $
        -- [what is owned]
        enter ! _ _ _ _ _ $ alloc_all ! (λ l. pass_all ! refl (word_fits p, tt) $
        sets ! (of_opd ! (get_in ! (fld ! refl (stop !)) (sub ! 0 refl (whole !)))) refl (ptr_fits p) $
        sets ! (of_opd ! (get ! refl)) refl (ptr_fits p) $
        sets ! (agg ! (and_then ! (get ! refl) (no_more !))) refl (word_fits p) $
        returns ! (look_at ! 0 refl) $ free_all ! refl $ keep ! (0 ∷ []) $ rewrite ! 0 (λ (P : Fml). ‵ P) (shuts p x) refl $
        suffices ! _ (ends_at 𝓛 ended stayed (same 𝓤) y (word p) (make p x) (lasts h, tt) (tt, tt)) $ says ! (is p x) $
        nothing ! $ nothing ! $ join ! $ nothing ! $ done !))
