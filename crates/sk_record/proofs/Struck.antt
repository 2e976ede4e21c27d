-- The laws of struck runs.
use Rattle.sk_record.proofs.Names.{◌≡◌, ℕ, suc, List, [], ◌∷◌, take, Option, Some, refl, sym, ◌∙◌, ap, arith, slice_get}
use Rattle.sk_record.proofs.Names.{Contains, IsTotalOrder, FinMap, get, IsAntisymmetric, MarkedEffect, Dep, writes}
use Rattle.sk_record.proofs.Names.{keep, place, hits, value_after, System, IsLegal, effects, struck, strike}
use Rattle.sk_record.proofs.Names.{FlagsAreDep, Footprint, StruckRun, Later, LaterDep}
use Rattle.sk_record.proofs.Runs.{AgreeOn, same_accepted, struck_run, Follows}
use Rattle.sk_record.proofs.Later.{later_hits}
use Rattle.sk_record.proofs.Values.{StruckWrite, value_at_first, value_at_end, get-run, effects-take}
use Rattle.sk_record.proofs.Chains.{in_from, from_in, flags_are_Dep, slice_get-keep}

agree_from : {E V : Type 0} (look look2 : E → Option V) (es : List E) → ((e : E) → Contains es e → look e ≡ look2 e) → AgreeOn look look2 es
agree_from look look2 [] h = tt
agree_from look look2 (e ∷ es) h = (h e (0, omega arith, refl), agree_from look look2 es (λ x c. h x (suc c.0, omega arith, c.2)))

module _ {E V W F N : Type 0} (K : System E V W F N) (total : IsTotalOrder K.order) (exact : IsAntisymmetric K.order) where
  pub flags : FlagsAreDep K
  flags s ns g i = flags_are_Dep total g exact (effects K s ns) i

  pub footprint : Footprint K
  footprint s t n f accepted reads written = same_accepted (get s) (get t) (K.act n) f accepted (agree_from (get s) (get t) _ reads)

  follows : (s : FinMap K.order V) (ns : List N) (g : ℕ) → IsLegal K s ns → Follows K total g [] s s ns
  follows s ns g legal = struck_run K total g [] s s (λ e clean. refl) ns legal

  -- what the relation says, by the flags
  struck_write : (s : FinMap K.order V) (ns : List N) (g j : ℕ) (e : E) → StruckWrite K.order (struck K s ns g) (effects K s ns) e j
      → (f : MarkedEffect E V W) × (slice_get (effects K s ns) j ≡ Some f) × Dep (effects K s ns) g j × Contains (writes f) e
  struck_write s ns g j e w = (w.1.0, w.1.1, (flags s ns g j).0 w.0, in_from total exact _ _ w.1.2)

  pub struck_runs : StruckRun K
  struck_runs s ns g legal =
      let run_of : IsLegal K s (strike K s ns g) × (effects K s (strike K s ns g) ≡ keep (struck K s ns g) (effects K s ns)) = unfold Follows in follows s ns g legal in
      record {
        legal = run_of.0;
        steps = run_of.1;
        values = λ e i first.
            get-run K total s (strike K s ns g) e
            ∙ ap (λ ts. value_after K.order ts e (get s e)) run_of.1
            ∙ value_at_first total g [] (effects K s ns) e (get s e) i refl
            ((flags s ns g i).1 first.depends, (first.marked_effect, first.at_i, from_in total _ _ first.is_written))
            (λ j lt w. let p = struck_write s ns g j e w in first.none_before j p.0 lt p.1 p.2 p.3)
            ∙ ap (λ ts. value_after K.order ts e (get s e)) (sym (effects-take K total i s ns))
            ∙ sym (get-run K total s (take i ns) e);
        others = λ e none.
            get-run K total s (strike K s ns g) e
            ∙ ap (λ ts. value_after K.order ts e (get s e)) run_of.1
            ∙ value_at_end total g [] (effects K s ns) e (get s e) refl
            (λ j w. let p = struck_write s ns g j e w in none j p.0 p.1 p.2 p.3)
            ∙ sym (get-run K total s ns e);
      }

  pub later : Later K
  later s ns g h legal =
      ap (hits K.order h []) (struck_runs s ns g legal).steps
      ∙ later_hits K.order g h [] [] [] (λ e clean. refl) (effects K s ns)

  pub later_dep : LaterDep K
  later_dep s ns g h k legal =
      let same : slice_get (struck K s (strike K s ns g) h) k ≡ slice_get (struck K s ns h) (place (struck K s ns g) k) =
      ap (λ bs. slice_get bs k) (later s ns g h legal) ∙ slice_get-keep (struck K s ns g) (struck K s ns h) k in (
        λ d. (flags s ns h (place (struck K s ns g) k)).0 (sym same ∙ (flags s (strike K s ns g) h k).1 d),
        λ d. (flags s (strike K s ns g) h k).0 (same ∙ (flags s ns h (place (struck K s ns g) k)).1 d),
      )
