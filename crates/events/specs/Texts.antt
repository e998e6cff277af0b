-- The text of operations and events. Assumes nothing.
use Rattle.std.specs.Prelude.{ℕ, List, ◌++◌, codes, decimal}
use Rattle.events.specs.declared.event.Event.{Event}
use Rattle.events.specs.declared.event.Operation.{Operation}
use Rattle.events.specs.declared.event.Operation.TheVariants.{Read, Write, Acquire, Release}

abbrev pub operation_text : Operation → List ℕ
operation_text (Read v) = codes "read v" ++ decimal v
operation_text (Write v) = codes "write v" ++ decimal v
operation_text (Acquire l) = codes "acquire l" ++ decimal l
operation_text (Release l) = codes "release l" ++ decimal l

-- the thread, then what it did
abbrev pub event_text : Event → List ℕ
event_text e = codes "t" ++ (decimal e.thread ++ (codes " " ++ operation_text e.operation))
