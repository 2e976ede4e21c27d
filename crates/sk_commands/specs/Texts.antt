-- The bytes of replies.
use Rattle.std.specs.Prelude.{ℕ, List, ◌++◌, flat_map, length, Option, Some, None}
use Rattle.sk_commands.specs.Base.{array_text, bulk_text, error_text, integer_text, null_text, simple_text, Reply}
use Rattle.sk_commands.specs.Base.{Simple, Error, Rejected, Text, Integer, Bulk, Null, Array, Answer}
use Rattle.sk_commands.specs.Faults.{said_by, words_of}
use Rattle.sk_commands.specs.declared.work.Answer.TheVariants.{One, Each}

-- what a key has, or that it has nothing
abbrev pub value_text : Option (List ℕ) → List ℕ
value_text None = null_text
value_text (Some bytes) = bulk_text bytes

abbrev pub reply_text : Reply → List ℕ
reply_text (Simple word) = simple_text (said_by word)
reply_text (Error fault) = error_text (words_of fault)
reply_text (Rejected words) = error_text words
reply_text (Text bytes) = bytes
reply_text (Integer n) = integer_text n
reply_text (Bulk bytes) = bulk_text bytes
reply_text Null = null_text
reply_text (Array values) = array_text (length values) ++ flat_map value_text values

-- the replies of a queue are an array
abbrev pub answer_text : Answer → List ℕ
answer_text (One reply) = reply_text reply
answer_text (Each replies) = array_text (length replies) ++ flat_map reply_text replies
