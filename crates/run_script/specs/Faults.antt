-- The text of refusals. Assumes nothing.
use Rattle.std.specs.Prelude.{ℕ, List, codes, Option, Some, None}
use Rattle.run_script.specs.declared.fault.ScriptError.{ScriptError}
use Rattle.run_script.specs.declared.fault.ScriptError.TheVariants.{EndsEarly, OtherLabel, NotNumbered, NoSuchOperation, NoSuchOrder, NoTimes, NoPairs, Number}

-- none is stated of a number, whose text is the library's
abbrev pub fault_text : ScriptError → Option (List ℕ)
fault_text EndsEarly = Some (codes "a line ends early")
fault_text OtherLabel = Some (codes "a number has another label")
fault_text NotNumbered = Some (codes "a thread, lock or variable is expected")
fault_text NoSuchOperation = Some (codes "no such operation")
fault_text NoSuchOrder = Some (codes "no such order")
fault_text NoTimes = Some (codes "an order has times")
fault_text NoPairs = Some (codes "an order has pairs")
fault_text (Number cause) = None
