-- The test of a conflict decides whether two events conflict. Assumes nothing.
use Rattle.std.proofs.Common.{Decides, arith}
use Rattle.std.proofs.lemmas.Bool.Decides.{nat_tests}
use Rattle.events.specs.declared.event.Event.{Event}
use Rattle.events.specs.Events.{object_of}
use Rattle.events.specs.Conflicts.{Conflict, conflicts}

pub decides : (a b : Event) → Decides (conflicts a b) (Conflict a b)
decides a b = (
  λ holds. record {
    variable = object_of a.operation;
    first = grind (arith, nat_tests);
    second = grind (arith, nat_tests);
    apart = grind (arith, nat_tests);
    written = grind (arith, nat_tests);
  },
  λ c. grind (arith, nat_tests),
)
