-- One step more that is taken: from what the steps before it left.
use Rattle.sk_play.proofs.Names.{ℕ, List, [], ◌∷◌, ◌++◌, refl, Call, KernelView, CallAnswer, AnswerMatches, held_after}
use Rattle.sk_play.proofs.Names.{Plays}

pub plays_more : (ss : List Call) (bs : List CallAnswer) (s : Call) (a : CallAnswer) (ts us : List ℕ) (k mid last : KernelView) → Plays ss bs ts k us mid → AnswerMatches a s us mid last
    → Plays (ss ++ s ∷ []) (bs ++ a ∷ []) ts k (held_after a s us) last
plays_more [] [] s a ts us k mid last p told = rw (← p.0, ← p.1) (last, told, (refl, refl))
plays_more [] (b ∷ bs) s a ts us k mid last p told = absurd p
plays_more (x ∷ ss) [] s a ts us k mid last p told = absurd p
plays_more (x ∷ ss) (b ∷ bs) s a ts us k mid last p told = (p.0, p.1, plays_more ss bs s a (held_after b x ts) us p.0 mid last p.2 told)
