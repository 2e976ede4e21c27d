use Rattle.sk_requests.proofs.Names.{◌++◌, refl, ◌∙◌, ap, ended, words_of}
use Rattle.sk_requests.proofs.Typed.{space_ends, byte_on}
use Rattle.sk_requests.proofs.line.take_byte.Goals as goal

pub returns-then-byte-eq32 : goal.returns-then-byte-eq32
returns-then-byte-eq32 c = λ bytes.
    space_ends (words_of c.args.words.now.items) (words_of c.end_word.new.words.items) c.args.word.now.items c.replace.new.dest.items bytes c.args.byte c.if-byte-eq32.true
    (c.in_ok-end_word.ensures ∙ ap (λ w. words_of c.args.words.now.items ++ ended w.items) c.replace.ensures.value) (ap (λ w. w.items) c.replace.ensures.after ∙ c.new.ensures.items)

pub returns : goal.returns
returns c = λ bytes.
    byte_on (words_of c.args.words.now.items) (words_of c.args.words.now.items) c.args.word.now.items c.push.new.self.items bytes c.args.byte c.if-byte-eq32.false refl c.in_ok-push.ensures.items
