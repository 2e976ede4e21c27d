-- A step that names no reserved key writes no key of a batch.
use Rattle.sk_batched.proofs.Names.{◌≡◌, ℕ, Bool, true, false, List, [], ◌∷◌, map, Option, Some, None, refl, sym, ◌∙◌}
use Rattle.sk_batched.proofs.Names.{ap, if◌then◌else◌, list_any, Vec, vec_items, eq_by_cmp, true≢false, or_from}
use Rattle.sk_batched.proofs.Names.{or_parts, false_from_ne_true, is_in, bytes_cmp, same_bytes, WholeStep, has_long_key}
use Rattle.sk_batched.proofs.Names.{byte_deed, LongKey, Reserved, batch_key, is_reserved, has_reserved_key}
use Rattle.sk_batched.proofs.Names.{step_refused}
use Rattle.sk_batched.proofs.Moves.{Spares}

neither : (a b : Bool) → (if a then Some LongKey else if b then Some Reserved else None) ≡ None → (a ≡ false) × (b ≡ false)
neither true b is = cc
neither false true is = cc
neither false false is = (refl, refl)

reserves : (n : ℕ) → is_reserved (batch_key n) ≡ true
reserves n = refl

written_spared : {V : Type 0} (ws : List (Vec ℕ × Option V)) (n : ℕ) → list_any (λ (w : Vec ℕ × Option V). is_reserved w.0.items) ws ≡ false
    → is_in bytes_cmp (map (λ (w : List ℕ × Option V). w.0) (map (λ (w : Vec ℕ × Option V). (vec_items w.0, w.1)) ws)) (batch_key n) ≡ false
written_spared [] n none = refl
written_spared (w ∷ ws) n none =
    let parts = or_parts (is_reserved w.0.items) (list_any (λ (v : Vec ℕ × _). is_reserved v.0.items) ws) none in
    or_from (eq_by_cmp bytes_cmp (batch_key n) w.0.items) _
    (false_from_ne_true (eq_by_cmp bytes_cmp (batch_key n) w.0.items) (λ same. true≢false (sym (reserves n) ∙ ap is_reserved ((same_bytes (batch_key n) w.0.items).0 same) ∙ parts.0)))
    (written_spared ws n parts.1)

module _ {V O : Type 0} (step : WholeStep (Vec ℕ) V O) (free : step_refused step ≡ None) where
  pub short : has_long_key step ≡ false
  short = (neither (has_long_key step) (has_reserved_key step) free).0

  pub unreserved : has_reserved_key step ≡ false
  unreserved = (neither (has_long_key step) (has_reserved_key step) free).1

  pub spared : Spares (byte_deed step)
  spared n = written_spared step.written.items n (or_parts (list_any (λ (key : Vec ℕ). is_reserved key.items) step.looked.items) (list_any (λ (w : Vec ℕ × _). is_reserved w.0.items) step.written.items) unreserved).1
