-- What an order does to accounts: a step of the user's own.
use Rattle.std.specs.Prelude.{◌≡◌, ◌+◌, ◌-◌, ◌^◌, ◌==◌, ℕ, List, [], ◌∷◌, ◌++◌, Option, Some, None, Ok, nat_le, nat_lt, if◌then◌else◌}
use Rattle.std.specs.Ordering.{nat_cmp}
use Rattle.hidewillow.specs.RecordStep.{Step, Ask, Refuse, Done, perform}
use Rattle.hidewillow.specs.Run.{System}
use Rattle.hidewillow.specs.OwnDeed.{Deed, effect_of}
use Rattle.hidewillow.specs.OwnSlot.{SlotView}
use Rattle.hidewillow.specs.OwnSlots.{look_at}
use Rattle.own_accounts.specs.declared.order.Order.{Order}
use Rattle.own_accounts.specs.declared.order.Order.TheVariants.{Deposit, Transfer}

-- a step over accounts, which says the amount to channel 0
abbrev pub Booking : Type 0
Booking = Step ℕ ℕ (ℕ × ℕ) (Unit {0})

-- what an account has; an absent one has nothing
abbrev pub balance : Option ℕ → ℕ
balance None = 0
balance (Some n) = n

-- these writes, and an account has so much more, where that is a balance
abbrev pub paid_in : List (ℕ × Option ℕ) → ℕ → ℕ → Option ℕ → Booking
paid_in written account amount has =
    if nat_lt (balance has + amount) (2 ^ 64) then Done (written ++ (account, Some (balance has + amount)) ∷ []) (Some (0, amount))
    else Refuse tt

-- what an order does; a transfer is refused to the account that it is from, and where that has too little
abbrev pub act : Order → Booking
act (Deposit account amount) = Ask account (paid_in [] account amount)
act (Transfer sender receiver amount) =
    Ask sender (λ has. Ask receiver (λ gets. if sender == receiver then Refuse tt
    else if nat_le amount (balance has) then paid_in ((sender, Some (balance has - amount)) ∷ []) receiver amount gets else Refuse tt))

-- an order, with its guess or none
pub record Entry : Type 0 where
  pub order : Order
  pub guess : Option ℕ

-- the plain kernel of accounts
abbrev pub accounts : System ℕ ℕ (ℕ × ℕ) (Unit {0}) Entry
accounts = record { order = nat_cmp; act = λ n. act n.order; mark = λ n. n.guess; goes_to = λ w. w.0 }

-- a deed is what an order does on what accounts have
abbrev pub IsHonest : List (ℕ × SlotView ℕ) → Order → Deed ℕ ℕ ℕ → Type 0
IsHonest slots order deed = perform (look_at nat_cmp slots) (act order) ≡ Ok (effect_of (look_at nat_cmp slots) deed)
