-- A reply as bytes, and the reply that bytes are.
use Rattle.std.specs.Prelude.{◌<◌, ◌≤◌, ◌^◌, ℕ, ◌==◌, ◌&&◌, nat_lt, nat_le, if◌then◌else◌, List, [], ◌∷◌, ◌++◌, length, drop, Option, Some, None}
use Rattle.std.specs.Option.{option_map}
use Rattle.sk_ids.specs.declared.text.TheConstants.{TEXT_LIMIT}
use Rattle.sk_objects.specs.Content.{ContentView}
use Rattle.sk_objects.specs.declared.content.TheConstants.{LAST_VERSION}
use Rattle.sk_server.specs.declared.reply.Answer.{Answer}
use Rattle.sk_server.specs.declared.reply.Answer.TheVariants.{Yes, No, Copy, Dropped}
use Rattle.sk_server.specs.declared.reply.Reply.{Reply}
use Rattle.sk_messages.specs.Numbers.{number_at, number_bytes}

-- ---- a reply as bytes

abbrev pub kind_of : Answer → ℕ
kind_of Yes = 1
kind_of (No content) = 2
kind_of (Copy content) = 3
kind_of Dropped = 4

-- the content that it sends; version 0 and no bytes where it sends none
abbrev pub content_in : Answer → ContentView
content_in Yes = record { version = 0; bytes = [] }
content_in (No content) = content
content_in (Copy content) = content
content_in Dropped = record { version = 0; bytes = [] }

-- four numbers come first: that of the request, the kind of the answer, the version, and how long the bytes are
abbrev pub reply_head : Reply → List ℕ
reply_head r = r.number ∷ kind_of r.answer ∷ (content_in r.answer).version ∷ length (content_in r.answer).bytes ∷ []

abbrev pub reply_bytes : Reply → List ℕ
reply_bytes r = number_bytes (reply_head r) ++ (content_in r.answer).bytes

-- its numbers are those that there can be
abbrev pub IsReply : Reply → Type 0
IsReply r = (r.number < 2 ^ 64) × ((content_in r.answer).version ≤ LAST_VERSION) × (length (content_in r.answer).bytes ≤ TEXT_LIMIT)

-- ---- the reply that bytes are

abbrev pub content_of : ℕ → List ℕ → Option ContentView
content_of version bytes =
    if nat_le version LAST_VERSION && nat_le (length bytes) TEXT_LIMIT then Some (record { version = version; bytes = bytes }) else None

-- an answer that sends no content
abbrev pub bare : Answer → ℕ → List ℕ → Option Answer
bare answer version [] = if version == 0 then Some answer else None
bare answer version (b ∷ bs) = None

abbrev pub answer_of : ℕ → ℕ → List ℕ → Option Answer
answer_of kind version bytes =
    if kind == 1 then bare Yes version bytes
    else if kind == 2 then option_map No (content_of version bytes)
    else if kind == 3 then option_map Copy (content_of version bytes)
    else if kind == 4 then bare Dropped version bytes
    else None

-- with the bytes behind the four numbers, which are so many
abbrev pub reply_from : ℕ → ℕ → ℕ → ℕ → List ℕ → Option Reply
reply_from number kind version count bytes =
    if count == length bytes then option_map (λ answer. record { number = number; answer = answer }) (answer_of kind version bytes) else None

abbrev pub reply_of : List ℕ → Option Reply
reply_of bytes =
    if nat_lt (length bytes) 32 then None
    else reply_from (number_at 0 bytes) (number_at 1 bytes) (number_at 2 bytes) (number_at 3 bytes) (drop 32 bytes)
