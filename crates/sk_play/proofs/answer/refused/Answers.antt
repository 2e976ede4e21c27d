-- Each refusal has the number and the name that are printed of it.
use Rattle.sk_play.proofs.Names.{◌≡◌, ◌<◌, ◌+◌, ◌++◌, ◌∷◌, [], List, ℕ, ap, arith, codes, sym, decimal_digit}
use Rattle.sk_play.proofs.Names.{Refusal, refusal_number, refusal_name, answer_text}
use Rattle.sk_plain.specs.declared.refusal.Refusal.TheVariants.{NoProcess, Ended, Mismatch, NeedsReply, Blocked, TooMany, TraceFull, Memory, NoRoom}
use Rattle.sk_play.specs.declared.answer.CallAnswer.TheVariants as answers
use Rattle.sk_play.proofs.answer.refused.Goals as goal

small : (why : Refusal) → refusal_number why < 10
small NoProcess = omega arith
small Ended = omega arith
small Mismatch = omega arith
small NeedsReply = omega arith
small Blocked = omega arith
small TooMany = omega arith
small TraceFull = omega arith
small Memory = omega arith
small NoRoom = omega arith

-- a refusal's number is one digit
printed : (why : Refusal) → 32 ∷ answer_text (answers.Refused why) ++ 10 ∷ [] ≡ 32 ∷ codes "refused " ++ (48 + refusal_number why) ∷ 32 ∷ refusal_name why ++ 10 ∷ []
printed why = ap (λ (d : List ℕ). 32 ∷ (codes "refused " ++ d ++ 32 ∷ refusal_name why) ++ 10 ∷ []) (decimal_digit (refusal_number why) (small why))

pub returns-in-NoProcess-clause-words : goal.returns-in-NoProcess-clause-words
returns-in-NoProcess-clause-words c = rw c.in-NoProcess.is (sym (printed NoProcess))

pub returns-in-Ended-clause-words : goal.returns-in-Ended-clause-words
returns-in-Ended-clause-words c = rw c.in-Ended.is (sym (printed Ended))

pub returns-in-Mismatch-clause-words : goal.returns-in-Mismatch-clause-words
returns-in-Mismatch-clause-words c = rw c.in-Mismatch.is (sym (printed Mismatch))

pub returns-in-NeedsReply-clause-words : goal.returns-in-NeedsReply-clause-words
returns-in-NeedsReply-clause-words c = rw c.in-NeedsReply.is (sym (printed NeedsReply))

pub returns-in-Blocked-clause-words : goal.returns-in-Blocked-clause-words
returns-in-Blocked-clause-words c = rw c.in-Blocked.is (sym (printed Blocked))

pub returns-in-TooMany-clause-words : goal.returns-in-TooMany-clause-words
returns-in-TooMany-clause-words c = rw c.in-TooMany.is (sym (printed TooMany))

pub returns-in-TraceFull-clause-words : goal.returns-in-TraceFull-clause-words
returns-in-TraceFull-clause-words c = rw c.in-TraceFull.is (sym (printed TraceFull))

pub returns-in-Memory-clause-words : goal.returns-in-Memory-clause-words
returns-in-Memory-clause-words c = rw c.in-Memory.is (sym (printed Memory))

pub returns-in-NoRoom-clause-words : goal.returns-in-NoRoom-clause-words
returns-in-NoRoom-clause-words c = rw c.in-NoRoom.is (sym (printed NoRoom))
