-- The parts of an operation. Assumes nothing.
use Rattle.std.specs.Prelude.{ℕ, Some, None, Option}
use Rattle.events.specs.declared.event.Operation.{Operation}
use Rattle.events.specs.declared.event.Operation.TheVariants.{Read, Write, Acquire, Release}
use Rattle.events.specs.declared.conflict.Kind.{Kind}
use Rattle.events.specs.declared.conflict.Kind.TheVariants as kind

abbrev pub kind_of : Operation → Kind
kind_of (Read v) = kind.Read
kind_of (Write v) = kind.Write
kind_of (Acquire l) = kind.Acquire
kind_of (Release l) = kind.Release

-- the number of its variable or lock
abbrev pub object_of : Operation → ℕ
object_of (Read v) = v
object_of (Write v) = v
object_of (Acquire l) = l
object_of (Release l) = l

-- the variable that it touches: only an access touches one
abbrev pub variable_of : Operation → Option ℕ
variable_of (Read v) = Some v
variable_of (Write v) = Some v
variable_of (Acquire l) = None
variable_of (Release l) = None
