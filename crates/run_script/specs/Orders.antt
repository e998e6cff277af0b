-- The orders by their numbers. Assumes nothing.
use Rattle.std.specs.Prelude.{◌≡◌, ◌≢◌, ℕ, Result, MatchResult}
use Rattle.events.specs.Rules.{happens_before, schedulable}
use Rattle.run_script.specs.declared.fault.ScriptError.{ScriptError}
use Rattle.run_script.specs.declared.fault.ScriptError.TheVariants.{NoSuchOrder}
use Rattle.run_script.specs.declared.order.Order.{Order}
use Rattle.run_script.specs.declared.order.Order.TheVariants.{HappensBefore, Schedulable}

-- an order's number is its rule's
abbrev pub number_of : Order → ℕ
number_of HappensBefore = happens_before.number
number_of Schedulable = schedulable.number

-- the order of this number, or the refusal of a number that no order has
abbrev pub IsOrder : ℕ → Result Order ScriptError → Type 0
IsOrder number r = MatchResult r (λ order. number_of order ≡ number)
    (λ e. (e ≡ NoSuchOrder) × ((order : Order) → number_of order ≢ number))
