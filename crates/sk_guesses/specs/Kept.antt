-- The guesses of a kernel that keeps nothing of decided ones, but for the struck ones whose tokens have not come back.
use Rattle.std.specs.Prelude.{◌≡◌, ◌==◌, ◌+◌, ◌<◌, ◌≤◌, ◌&&◌, ℕ, true, not, List, [], ◌++◌, map, length, Option, Some, None, Result, Ok, Err, if◌then◌else◌}
use Rattle.sk_guesses.specs.Base.{filter, AllByRecursion, IsStrictlySortedBy, nat_cmp, has, without, Open, numbers}
use Rattle.sk_guesses.specs.Base.{Status, Undecided, Struck, LAST_GUESS, Redeemed}
use Rattle.sk_guesses.specs.Token.{Token}
use Rattle.sk_guesses.specs.Calls.{redeemed_at}
use Rattle.sk_guesses.specs.Opens.{OpenGuess, opens_of, open_in}
use Rattle.sk_guesses.specs.Room.{Listing}

-- the kernel's number, how many guesses may be undecided at once, how many were drawn, whose numbers are 1, 2 and so on, and the
-- struck ones whose tokens have not come back, in the order in which they were struck
pub record KeptView : Type 0 where
  pub kernel : ℕ
  pub limit : ℕ
  pub drawn : ℕ
  pub struck : List ℕ

-- where none is drawn
abbrev pub none_drawn : ℕ → ℕ → KeptView
none_drawn kernel limit = record { kernel = kernel; limit = limit; drawn = 0; struck = [] }

-- what is kept, with what is known of the undecided guesses, and for how many of them, of struck ones, and of entities that depend on the
-- next one there is memory
pub record Kept (E : Type 0) : Type 0 where
  pub view : KeptView
  pub opens : List (OpenGuess E)
  pub places : ℕ
  pub strikes : ℕ
  pub next : ℕ

-- the next draw, with so many entities, needs no memory
abbrev pub HasKeptRoom : {E : Type 0} → Kept E → ℕ → Type 0
HasKeptRoom g count = (length g.opens < g.places) × (length g.view.struck + length g.opens < g.strikes) × (count ≤ g.next)

-- ---- what is known of a guess

-- the status of a guess: undecided, or struck with its token out; of any other nothing is known
abbrev pub known : KeptView → List Open → ℕ → Option Status
known v os g = if has g (numbers os) then Some Undecided else (if has g v.struck then Some Struck else None)

-- what a token redeems: another kernel's comes back, and so does one of a guess of which nothing is known
abbrev pub redeemed_kept : KeptView → List Open → Token → Result Redeemed Token
redeemed_kept v os token = if token.kernel == v.kernel then redeemed_at (known v os token.id) token else Err token

-- a struck guess is forgotten with its token
abbrev pub forgotten : KeptView → Result Redeemed Token → KeptView
forgotten v (Ok (Redeemed.Struck g)) = record v { struck = without g v.struck }
forgotten v _ = v

-- ---- a draw and a failure

-- one guess more
abbrev pub one_drawn : KeptView → KeptView
one_drawn v = record v { drawn = v.drawn + 1 }

-- the guesses that the failure of g strikes, by rising number
abbrev pub struck_with : ℕ → List Open → List ℕ
struck_with g os = numbers (filter (λ o. has g o.1 && not (o.0 == g)) os)

-- what is kept once these are struck too
abbrev pub with_struck : ℕ → List Open → KeptView → KeptView
with_struck g os v = record v { struck = v.struck ++ struck_with g os }

-- the guesses of what was written
abbrev pub keys_of : {E V : Type 0} → List (E × V) → List E
keys_of ws = map (λ w. w.0) ws

-- ---- the statuses of all guesses, which nobody keeps

-- statuses that agree with what is kept: just the open guesses are undecided, those that are kept as struck are, and none from the next number on was drawn
pub record AreStatuses (v : KeptView) (os : List Open) (status : ℕ → Option Status) : Type 0 where
  pub undecided : (g : ℕ) → has g (numbers os) ≡ open_in (status g)
  pub struck : (g : ℕ) → has g v.struck ≡ true → status g ≡ Some Struck
  pub fresh : (g : ℕ) → v.drawn < g → status g ≡ None

-- ---- between calls

-- no guess is among the tags of an earlier one
abbrev pub AreBelow : List Open → Type 0
AreBelow os = AllByRecursion (λ o. (g : ℕ) → has g o.1 ≡ true → g ≤ o.0) os

-- of what is kept, of the undecided guesses with room in their lists, of the entities on the list with which the next guess begins, and of
-- the room for struck ones
pub record AreKept {E : Type 0} (v : KeptView) (ls : List (Listing E)) (next : List E) (strikes : ℕ) : Type 0 where
  -- the undecided guesses rise, each is among its own tags, and each was drawn
  pub rising : IsStrictlySortedBy nat_cmp (numbers (opens_of (map (λ l. l.guess) ls)))
  pub own : AllByRecursion (λ o. has o.id o.tags ≡ true) (map (λ l. l.guess) ls)
  pub below : (g : ℕ) → has g (numbers (opens_of (map (λ l. l.guess) ls))) ≡ true → g ≤ v.drawn
  -- no more guesses are undecided than may be
  pub few : length ls ≤ v.limit
  -- each that was drawn has a number
  pub numbered : v.drawn ≤ LAST_GUESS
  -- each undecided guess can be struck without memory
  pub places : length v.struck + length ls ≤ strikes
  -- no entity depends on the next guess yet
  pub empty : next ≡ []
