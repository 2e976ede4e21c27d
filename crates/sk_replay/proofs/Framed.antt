-- What frames say that are read again.
use Rattle.sk_replay.proofs.Names.{◌≡◌, ℕ, zero, suc, List, [], ◌∷◌, ◌++◌, flat_map, take, refl, ap, subst, ◌∙◌}
use Rattle.sk_replay.proofs.Names.{take-map, log_text, Work, payloads_of, works_in, AreLogged, FramesRestore, SayAll}
use Rattle.sk_replay.proofs.Names.{after_works, log_limits}
use Rattle.sk_replay.proofs.Again.{says_again}

say_logged : (frames : List (List Work)) (works : List Work) → AreLogged frames → SayAll (payloads_of frames) works → works ≡ works_in frames
say_logged [] works logged all = all
say_logged (ws ∷ frames) works logged all =
    let first : all.0 ≡ ws = says_again log_limits ws all.0 (flat_map log_text ws) logged.0 logged.1 refl all.2 in
    let others = say_logged frames all.1 logged.2 all.3 in all.4 ∙ ap (λ vs. vs ++ all.1) first ∙ ap (λ vs. ws ++ vs) others

pub logged_front : (n : ℕ) (frames : List (List Work)) → AreLogged frames → AreLogged (take n frames)
logged_front zero frames logged = tt
logged_front (suc n) [] logged = tt
logged_front (suc n) (ws ∷ frames) logged = (logged.0, logged.1, logged_front n frames logged.2)

pub restore : FramesRestore
restore n frames works start logged say =
    let front = subst (λ ps. SayAll ps works) (take-map (flat_map log_text) n frames) say in
    ap (λ ws. after_works ws start) (say_logged (take n frames) works (logged_front n frames logged) front)
