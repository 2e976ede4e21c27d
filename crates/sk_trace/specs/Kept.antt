-- What is seen of an input that is kept, and what holds of every input.
use Rattle.sk_objects.specs.Value.{IsContent}
use Rattle.sk_words.specs.Printed.{AreBytes}
use Rattle.sk_script.specs.declared.instruction.Input.{Input}
use Rattle.sk_trace.specs.declared.kept.InputRef.{InputRef}
use Rattle.sk_trace.specs.declared.kept.KeptWords.{KeptWords}

-- the input, with its content out of its box
abbrev pub input_of : KeptWords → Input
input_of KeptWords.None = Input.None
input_of KeptWords.Good = Input.Good
input_of (KeptWords.Fresh b) = Input.Fresh b.value
input_of (KeptWords.Stale b) = Input.Stale b.value

-- the input that is lent
abbrev pub input_in : InputRef → Input
input_in InputRef.None = Input.None
input_in InputRef.Good = Input.Good
input_in (InputRef.Fresh c) = Input.Fresh c.now
input_in (InputRef.Stale c) = Input.Stale c.now

-- an input that brings a content, for which alone memory is wanted
abbrev pub HasContent : Input → Type 0
HasContent (Input.Fresh c) = Unit {0}
HasContent (Input.Stale c) = Unit {0}
HasContent _ = ⊥

abbrev pub IsInput : Input → Type 0
IsInput (Input.Fresh c) = IsContent c × AreBytes c.bytes
IsInput (Input.Stale c) = IsContent c × AreBytes c.bytes
IsInput _ = Unit {0}
