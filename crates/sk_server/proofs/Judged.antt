-- What an answer tells of the request.
use Rattle.sk_server.proofs.Names.{◌≡◌, Bool, true, false, is_some, if◌then◌else◌, sym, ap, ◌∙◌, ServerView, remembered}
use Rattle.sk_server.proofs.Names.{is_dropped, judged, answer_to, refused_by, is_new_file, adds, Request, Answer, Yes}
use Rattle.sk_server.proofs.Names.{No, Copy, Dropped}

not_dropped : (b : Bool) (a : Answer) → (if b then Dropped else a) ≡ Yes → a ≡ Yes
not_dropped true a h = cc
not_dropped false a h = h

-- a request that is answered Yes was not dropped
pub yes_judged : (s : ServerView) (q : Request) (a : Answer) → a ≡ answer_to s q → a ≡ Yes → judged s.files q.ask ≡ Yes
yes_judged s q a is says = not_dropped (is_dropped q (remembered q s.refused)) (judged s.files q.ask) (sym is ∙ says)

-- a guess that is refused is one more to remember
pub adds_guess : (s : ServerView) (q : Request) (a : Answer) → is_some (refused_by q.guess a) ≡ true → adds s q a ≡ true
adds_guess s q Yes h = cc
adds_guess s q (No file) h = h
adds_guess s q (Copy file) h = h
adds_guess s q Dropped h = h

-- a new file is one more
pub adds_file : (s : ServerView) (q : Request) (a : Answer) → a ≡ Yes → is_new_file s.files q.ask ≡ true → adds s q a ≡ true
adds_file s q a says h = ap (adds s q) says ∙ h

pub ruleset takes = (yes_judged, adds_guess, adds_file)
