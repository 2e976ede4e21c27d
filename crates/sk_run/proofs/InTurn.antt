-- Items that are taken in turn: one more, the first of them, and what is kept of what was written.
use Rattle.sk_run.proofs.Names.{◌≡◌, ◌+◌, ℕ, List, [], ◌∷◌, ◌++◌, length, Option, refl, sym, ap, ◌∙◌, subst, arith}
use Rattle.sk_run.proofs.Names.{append-nil, append_assoc, Keeps, Appends-kept, Appends-nil, Tells, Answered, Reported}
use Rattle.sk_run.proofs.Names.{HasAnswered}

module _ {S I : Type 0} (Takes : ℕ → I → S → S → List ℕ → Type 0) where
  pub tells_more : (n : ℕ) (xs : List I) (x : I) (s mid last : S) (text line : List ℕ) → Tells Takes n xs s mid text
      → Takes (n + length xs) x mid last line → Tells Takes n (xs ++ x ∷ []) s last (text ++ line)
  tells_more n [] x s mid last text line p told =
      let here : n + 0 ≡ n = omega arith in
      rw (p.1, ← p.0) (last, line, [], subst (λ m. Takes m x mid last line) here told, sym (append-nil line), (refl, refl))
  tells_more n (y ∷ ys) x s mid last text line p told =
      let later : n + length (y ∷ ys) ≡ n + 1 + length ys = omega arith in (
        p.0,
        p.1,
        p.2 ++ line,
        p.3,
        ap (λ ls. ls ++ line) p.4 ∙ append_assoc p.1 p.2 line,
        tells_more (n + 1) ys x p.0 mid last p.2 line p.5 (subst (λ m. Takes m x mid last line) later told),
      )

  -- none was taken, where nothing is written
  pub none_answered : (xs : List I) (s : S) (out : Option (List ℕ)) → HasAnswered Takes xs s out out
  none_answered xs s out = ([], xs, s, refl, ([], (refl, refl), Appends-nil out))

  -- all were
  pub all_answered : (xs : List I) (s last : S) (old new : Option (List ℕ)) → Answered Takes xs s last old new → HasAnswered Takes xs s old new
  all_answered xs s last old new all = (xs, [], last, sym (append-nil xs), all)

  -- writing out what is left changes no byte
  pub answered_kept : (xs : List I) (s : S) (old mid new : Option (List ℕ)) → HasAnswered Takes xs s old mid → Keeps mid new → HasAnswered Takes xs s old new
  answered_kept xs s old mid new h kept = (h.0, h.1, h.2, h.3, (h.4.0, h.4.1, Appends-kept old mid new h.4.0 h.4.2 kept))

  pub reported_kept : (IsReport : S → List ℕ → Type 0) (xs : List I) (s : S) (old mid new : Option (List ℕ))
      → Reported Takes IsReport xs s old mid → Keeps mid new → Reported Takes IsReport xs s old new
  reported_kept IsReport xs s old mid new r kept = (r.0, r.1, r.2, r.3, r.4, Appends-kept old mid new _ r.5 kept)
