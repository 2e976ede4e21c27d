-- Channels by number, and the pasts that they have.
use Rattle.sk_durable.proofs.Names.{arith, ◌≡◌, ◌≢◌, ◌<◌, ℕ, [], length, get_or-set_same, get_or-set_other, Option}
use Rattle.sk_durable.proofs.Names.{Some, None, refl, sym, ◌∙◌, ap, subst, get_or_past, set-get_or, Requests, Channel}
use Rattle.sk_durable.proofs.Names.{Channels, HasServed, channel_at, channel_of, hung_up, place_at, with_channel}
use Rattle.sk_durable.proofs.Names.{KeepsOthers, came, no_past, Becomes, Goes, HasPast, HavePasts, Past}
use Rattle.std.proofs.lemmas.Bool.Decides.{nat_tests}
use Rattle.std.proofs.Common.{append-nil}
use Rattle.sk_channels.specs.Table as table

-- ---- a channel becomes another

-- a place with a channel
place_is : (place : Option (Option Channel)) (channel : Channel) → channel_of place ≡ Some channel → place ≡ Some (Some channel)
place_is None channel is = cc
place_is (Some place) channel is = ap Some is

module _ (old : Channels) (t : ℕ) (before : Channel) (there : channel_at old t ≡ Some before) where
  within : t < length old.places.slots
  within = grind (arith, nat_tests, get_or_past old.places.slots t None)

  -- it is there
  pub now_there : (after : Channel) → channel_at (with_channel old t after) t ≡ Some after
  now_there after = ap channel_of (get_or-set_same old.places.slots t (Some (Some after)) None within)

  -- nothing has changed where it is as it was
  pub unchanged : with_channel old t before ≡ old
  unchanged = grind (arith, nat_tests, place_is (place_at old t) before there, set-get_or old.places.slots t None)

  pub becomes : (after : Channel) → after.outlet.most ≡ before.outlet.most → Becomes t before after old (with_channel old t after)
  becomes after most = record { there = there; left = refl; most = most }

-- the others are as they were
pub others_there : (old : Channels) (t : ℕ) (after : Channel) (u : ℕ) → u ≢ t → channel_at (with_channel old t after) u ≡ channel_at old u
others_there old t after u apart = ap channel_of (get_or-set_other old.places.slots t u (Some (Some after)) None apart)

pub none_hung_up : (place : Option (Option Channel)) → channel_of (hung_up place) ≡ None
none_hung_up None = refl
none_hung_up (Some place) = refl

-- what is hung up is no more
pub gone : (t : ℕ) (old new : Channels) → table.HangsUp t old new → channel_at new t ≡ None
gone t old new (here, others) = ap channel_of here ∙ none_hung_up (place_at old t)

-- ---- pasts

module _ (limits : Requests) where
  -- one channel is another, and the others are as they were
  module _ (old new : Channels) (t : ℕ) (have : HavePasts limits old) (others : (u : ℕ) → u ≢ t → channel_at new u ≡ channel_at old u) where
    one_past : (after : Channel) → channel_at new t ≡ Some after → (p : Past) × HasPast limits p after → HavePasts limits new
    one_past after here past u channel at = grind (arith, nat_tests)

  -- it was lent, and has some past then
  pub lent_pasts : (t : ℕ) (before after : Channel) (old : Channels) → HavePasts limits old → channel_at old t ≡ Some before → (p : Past) × HasPast limits p after → HavePasts limits (with_channel old t after)
  lent_pasts t before after old have there past =
      one_past old (with_channel old t after) t have (others_there old t after) after (now_there old t before there after) past

  -- a channel has another past then
  pub past_goes : (t : ℕ) (before after : Channel) (old new : Channels) (change : Past → Past) → HavePasts limits old → Becomes t before after old new → Goes change before after → HavePasts limits new
  past_goes t before after old new change have is goes =
      grind (arith, nat_tests, lent_pasts t before after old have is.there)

  pub connected_past : (channel : Channel) (t : ℕ) (old new : Channels) → HasPast limits no_past channel → place_at new t ≡ Some (Some channel) → KeepsOthers t old new → HavePasts limits old → HavePasts limits new
  connected_past channel t old new has here others have =
      one_past old new t have (λ u apart. ap channel_of (others u apart)) channel (ap channel_of here) (no_past, has)

-- no byte came
pub nothing_came : (before after : Channel) → ((limits : Requests) (p : Past) → HasPast limits p before → HasPast limits p after) → Goes (came []) before after
nothing_came before after still limits p has = subst (λ stream. HasServed limits p.asked stream p.told p.handed after) (sym (append-nil p.stream)) (still limits p has)
