-- Frames that are carried out, one more.
use Rattle.sk_recovered.proofs.Names.{◌≡◌, ℕ, ◌+◌, List, [], ◌∷◌, ◌++◌, Option, Some, None, true, false, is_some, refl}
use Rattle.sk_recovered.proofs.Names.{sym, ap, ◌∙◌, append_assoc, append-nil, Work, Entries, SayAll, after_work}
use Rattle.sk_recovered.proofs.Names.{after_works, log_limits, Says, IsMade, Damage, capped, length, length-append, arith, IsRefused}
use Rattle.sk_replay.specs.declared.refusal.Refusal.TheVariants.{Memory}

pub after_append : (vs ws : List Work) (start : Entries)
    → after_works (vs ++ ws) start ≡ after_works ws (after_works vs start)
after_append [] ws start = refl
after_append (v ∷ vs) ws start = after_append vs ws (after_work v start)

pub say_on : (payloads : List (List ℕ)) (works : List Work) (payload : List ℕ) (more : List Work) → SayAll payloads works
    → Says log_limits payload more → SayAll (payloads ++ payload ∷ []) (works ++ more)
say_on [] works payload more all one = (more, [], one, refl, ap (λ ws. ws ++ more) all ∙ sym (append-nil more))
say_on (p ∷ payloads) works payload more all one =
    let first = all.0 in
    let others = all.1 in
    (first, others ++ more, all.2, say_on payloads others payload more all.3 one, ap (λ ws. ws ++ more) all.4 ∙ append_assoc first others more)

-- the next frame is carried out
abbrev pub one_made : (first : ℕ) (start : Entries) (payloads : List (List ℕ)) (old new : Entries) (payload : List ℕ) (works : List Work)
    → IsMade first start payloads old None
    → Says log_limits payload works → new ≡ after_works works old → IsMade first start (payloads ++ payload ∷ []) new None
one_made first start payloads old new payload works made says is = record {
  taken = made.taken ++ payload ∷ [];
  left = [];
  all = ap (λ ps. ps ++ payload ∷ []) (made.all ∙ ap (λ ps. made.taken ++ ps) made.left_is ∙ append-nil made.taken)
      ∙ sym (append-nil (made.taken ++ payload ∷ []));
  works = made.works ++ works;
  say = say_on made.taken made.works payload works made.say says;
  store_is = is ∙ ap (after_works works) made.store_is ∙ sym (after_append made.works works start);
  left_is = refl;
}

-- a frame behind one that says no works
abbrev pub one_left : (first : ℕ) (start : Entries) (payloads : List (List ℕ)) (store : Entries) (payload : List ℕ) (damage : Damage)
    → IsMade first start payloads store (Some damage)
    → IsMade first start (payloads ++ payload ∷ []) store (Some damage)
one_left first start payloads store payload damage made =
    let is = made.left_is in record {
      taken = made.taken;
      left = made.left ++ payload ∷ [];
      all = ap (λ ps. ps ++ payload ∷ []) made.all ∙ append_assoc made.taken made.left (payload ∷ []);
      works = made.works;
      say = made.say;
      store_is = made.store_is;
      left_is = (is.0, is.1 ++ payload ∷ [], ap (λ ps. ps ++ payload ∷ []) is.2, is.3, is.4, is.5);
    }

-- ---- what a call knows of the damage

-- what the frames so far made, and how many works were carried out
abbrev Took : ℕ → Entries → List (List ℕ) → Entries → Option Damage → ℕ → Type 0
Took first start payloads store damage works = (made : IsMade first start payloads store damage) × (works ≡ capped (length made.works))

pub made_left : (first : ℕ) (start : Entries) (payloads : List (List ℕ)) (store : Entries) (payload : List ℕ) (damage : Option Damage) (works : ℕ)
    → is_some damage ≡ true → Took first start payloads store damage works → Took first start (payloads ++ payload ∷ []) store damage works
made_left first start payloads store payload None works there took = cc
made_left first start payloads store payload (Some damage) works there took = (one_left first start payloads store payload damage took.0, took.1)

pub made_on : (first : ℕ) (start : Entries) (payloads : List (List ℕ)) (old new : Entries) (payload : List ℕ) (works : List Work) (damage : Option Damage)
    (before after : ℕ) → is_some damage ≡ false → Took first start payloads old damage before → Says log_limits payload works
    → new ≡ after_works works old → after ≡ capped (before + length works) → Took first start (payloads ++ payload ∷ []) new damage after
made_on first start payloads old new payload works None before after none took says is more =
    (one_made first start payloads old new payload works took.0 says is, omega (arith, took.1, more, length-append took.0.works works))
made_on first start payloads old new payload works (Some damage) before after none took says is more = cc

-- the next says no works, and is the first that doesn't
pub made_damaged : (first : ℕ) (start : Entries) (payloads : List (List ℕ)) (store : Entries) (payload : List ℕ) (old : Option Damage) (damage : Damage)
    (works : ℕ) → is_some old ≡ false → Took first start payloads store old works → damage.place.number ≡ first + length payloads
    → IsRefused log_limits payload damage.why → (damage.why ≡ Memory → ⊥)
    → Took first start (payloads ++ payload ∷ []) store (Some damage) works
made_damaged first start payloads store payload (Some other) damage works none took number refused other_why = cc
made_damaged first start payloads store payload None damage works none took number refused other_why =
    let made = took.0 in
    let same : made.taken ≡ payloads = sym (made.all ∙ ap (λ ps. made.taken ++ ps) made.left_is ∙ append-nil made.taken) in (
      record {
        taken = made.taken;
        left = payload ∷ [];
        all = ap (λ ps. ps ++ payload ∷ []) (sym same);
        works = made.works;
        say = made.say;
        store_is = made.store_is;
        left_is = (payload, [], refl, refused, other_why, number ∙ ap (λ ps. first + length ps) (sym same));
      },
      took.1,
    )
