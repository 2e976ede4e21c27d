-- What the frames of a log say, one after another.
use Rattle.std.specs.Prelude.{◌≡◌, ℕ, ◌<◌, ◌^◌, List, [], ◌∷◌, ◌++◌, flat_map, length, map, take}
use Rattle.sk_commands.specs.Requests.{log_text, requests_of, AreAsked, AreWithin}
use Rattle.sk_commands.specs.declared.work.Work.{Work}
use Rattle.sk_plain_store.specs.Plain.{Entries}
use Rattle.sk_replay.specs.Snapshot.{after_works}
use Rattle.sk_replay.specs.Works.{log_limits, Says}

-- Payloads say these works, in order: each says its own.
abbrev pub SayAll : List (List ℕ) → List Work → Type 0
SayAll [] works = works ≡ []
SayAll (payload ∷ payloads) works = (first others : List Work) × Says log_limits payload first × SayAll payloads others × (works ≡ first ++ others)

-- The works of each frame are asked for by some request, and within the limits of a log.
abbrev pub AreLogged : List (List Work) → Type 0
AreLogged [] = Unit {0}
AreLogged (works ∷ frames) = AreAsked works × AreWithin log_limits (flat_map requests_of works) × AreLogged frames

-- the payloads of frames, and the works of them all
abbrev pub payloads_of : List (List Work) → List (List ℕ)
payloads_of frames = map (flat_map log_text) frames

abbrev pub works_in : List (List Work) → List Work
works_in frames = flat_map (λ works. works) frames

-- Of however many first frames the payloads are read again: a plain store behind what they say is that behind the works of these frames.
abbrev pub FramesRestore : Type 0
FramesRestore = (n : ℕ) (frames : List (List Work)) (works : List Work) (start : Entries)
    → AreLogged frames → SayAll (take n (payloads_of frames)) works → after_works works start ≡ after_works (works_in (take n frames)) start

-- Works whose bytes have room in a frame are within the limits of a log.
abbrev pub ShortIsWithin : Type 0
ShortIsWithin = (works : List Work) → length (flat_map log_text works) < 2 ^ 28 → AreWithin log_limits (flat_map requests_of works)
