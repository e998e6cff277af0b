-- Which events conflict. Assumes nothing.
use Rattle.std.specs.Prelude.{◌≡◌, ℕ, Bool, true, false, not, ◌&&◌, ◌||◌, List, [], ◌∷◌, map, Some, ◌==◌}
use Rattle.events.specs.declared.event.Event.{Event}
use Rattle.events.specs.declared.conflict.Kind.{Kind}
use Rattle.events.specs.declared.conflict.Kind.TheVariants.{Read, Write, Acquire, Release}
use Rattle.events.specs.declared.conflict.KindRow.{KindRow}
use Rattle.events.specs.Events.{kind_of, object_of, variable_of}

abbrev pub is_access : Kind → Bool
is_access Read = true
is_access Write = true
is_access Acquire = false
is_access Release = false

abbrev pub is_write : Kind → Bool
is_write Read = false
is_write Write = true
is_write Acquire = false
is_write Release = false

-- the rule of the table of kinds: both are accesses, and at least one writes
abbrev pub clashes : Kind → Kind → Bool
clashes a b = (is_access a && is_access b) && (is_write a || is_write b)

abbrev pub kinds : List Kind
kinds = Read ∷ Write ∷ Acquire ∷ Release ∷ []

-- the whole table by its rule
abbrev pub table_of_kinds : List KindRow
table_of_kinds = map (λ a. record { with = map (clashes a) kinds }) kinds

-- two events conflict: they touch one variable, belong to different threads, and at least one writes
pub record Conflict (a b : Event) : Type 0 where
  pub variable : ℕ
  pub first : variable_of a.operation ≡ Some variable
  pub second : variable_of b.operation ≡ Some variable
  pub apart : a.thread ≡ b.thread → ⊥
  pub written : (is_write (kind_of a.operation) || is_write (kind_of b.operation)) ≡ true

-- the test of a conflict
abbrev pub conflicts : Event → Event → Bool
conflicts a b =
    (not (a.thread == b.thread) && object_of a.operation == object_of b.operation)
    && clashes (kind_of a.operation) (kind_of b.operation)
