use Rattle.sk_crashed.proofs.Places.{frames_are_behind, places_are_behind}
use Rattle.sk_crashed.proofs.laws.places_law.Goals as goal

pub returns-clause-places : goal.returns-clause-places
returns-clause-places c = places_are_behind

pub returns-clause-frames : goal.returns-clause-frames
returns-clause-frames c = frames_are_behind
