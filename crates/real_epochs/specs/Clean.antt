-- What steps of epochs go with them, where the server tells only of names that no epoch without its reply has changed.
use Rattle.std.specs.Prelude.{◌≡◌, ◌==◌, Bool, true, false, List, [], ◌∷◌, if◌then◌else◌}
use Rattle.real_epochs.specs.declared.event.Event.{Event}
use Rattle.real_epochs.specs.declared.event.Event.TheVariants.{Changes, Told, Says}
use Rattle.real_epochs.specs.Story.{changed_in}
use Rattle.real_epochs.specs.Host.{Entry, Opens, Does, tree}

-- whether a step goes with the oldest epoch, if it comes behind its beginning
abbrev pub goes_along : Entry → Bool
goes_along (Opens number checkpoint) = true
goes_along (Does (Changes name version)) = true
goes_along (Does (Told name version)) = false
goes_along (Does (Says stream output)) = true

-- the steps that do not go with the oldest epoch
abbrev pub staying : List Entry → List Entry
staying [] = []
staying (n ∷ ns) = if goes_along n then staying ns else n ∷ staying ns

-- what was changed, with what a step changes
abbrev pub past_with : Entry → List Event → List Event
past_with (Opens number checkpoint) past = past
past_with (Does (Changes name version)) past = Changes name version ∷ past
past_with (Does (Told name version)) past = past
past_with (Does (Says stream output)) past = past

-- the server tells of a name that was not changed
abbrev pub IsCleanAt : List Event → Entry → Type 0
IsCleanAt past (Opens number checkpoint) = Unit {0}
IsCleanAt past (Does (Changes name version)) = Unit {0}
IsCleanAt past (Does (Told name version)) = (changed_in past name ≡ false) × ((name == tree) ≡ false)
IsCleanAt past (Does (Says stream output)) = Unit {0}

abbrev pub IsClean : List Event → List Entry → Type 0
IsClean past [] = Unit {0}
IsClean past (n ∷ ns) = IsCleanAt past n × IsClean (past_with n past) ns
