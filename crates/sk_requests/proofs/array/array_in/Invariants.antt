use Rattle.sk_requests.proofs.Names.{words_of}
use Rattle.sk_requests.proofs.Whole.{Came}
use Rattle.sk_requests.proofs.array.array_in.Given as goal

abbrev pub invariant-loop-word : goal.invariant-loop-word
invariant-loop-word l = Came l.fn.limits l.bytes l.count l._word l.at l.room (words_of l.words.items)
