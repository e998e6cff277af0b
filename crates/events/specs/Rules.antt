-- Rules, their law, and the first two. Assumes nothing.
use Rattle.std.specs.Prelude.{◌≡◌, ℕ, ◌+◌, Some, None, Option}
use Rattle.events.specs.declared.event.Operation.{Operation}
use Rattle.events.specs.declared.event.Operation.TheVariants.{Read, Write, Acquire, Release}
use Rattle.clock_bank.specs.declared.slots.Slots.{Slots}

-- a rule has a number, and tells for a number of locks and an operation the slot to take from and the slot to post to
pub record OrderRule : Type 0 where
  pub number : ℕ
  pub takes : ℕ → Operation → Option ℕ
  pub posts : ℕ → Operation → Option ℕ

abbrev pub slots_of : OrderRule → ℕ → Operation → Slots
slots_of r locks o = record { take = r.takes locks o; post = r.posts locks o }

-- rule 1, happens-before: accesses use no slot
abbrev pub takes_1 : ℕ → Operation → Option ℕ
takes_1 locks (Read v) = None
takes_1 locks (Write v) = None
takes_1 locks (Acquire l) = Some l
takes_1 locks (Release l) = None

abbrev pub posts_1 : ℕ → Operation → Option ℕ
posts_1 locks (Read v) = None
posts_1 locks (Write v) = None
posts_1 locks (Acquire l) = None
posts_1 locks (Release l) = Some l

abbrev pub happens_before : OrderRule
happens_before = record { number = 1; takes = takes_1; posts = posts_1 }

-- rule 2, schedulable happens-before: a read takes, and a write posts
abbrev pub takes_2 : ℕ → Operation → Option ℕ
takes_2 locks (Read v) = Some (locks + v)
takes_2 locks (Write v) = None
takes_2 locks (Acquire l) = Some l
takes_2 locks (Release l) = None

abbrev pub posts_2 : ℕ → Operation → Option ℕ
posts_2 locks (Read v) = None
posts_2 locks (Write v) = Some (locks + v)
posts_2 locks (Acquire l) = None
posts_2 locks (Release l) = Some l

abbrev pub schedulable : OrderRule
schedulable = record { number = 2; takes = takes_2; posts = posts_2 }

-- no slot, or this one
abbrev pub AtMost : ℕ → Option ℕ → Type 0
AtMost s None = Unit {0}
AtMost s (Some q) = q ≡ s

-- two rules give the same answers
abbrev pub SameAnswers : OrderRule → OrderRule → Type 0
SameAnswers r q = (locks : ℕ) (o : Operation) → slots_of r locks o ≡ slots_of q locks o

-- the law of a rule
pub record Lawful (r : OrderRule) : Type 0 where
  pub acquire_takes : (locks l : ℕ) → r.takes locks (Acquire l) ≡ Some l
  pub acquire_posts : (locks l : ℕ) → r.posts locks (Acquire l) ≡ None
  pub release_takes : (locks l : ℕ) → r.takes locks (Release l) ≡ None
  pub release_posts : (locks l : ℕ) → r.posts locks (Release l) ≡ Some l
  pub read_takes : (locks v : ℕ) → AtMost (locks + v) (r.takes locks (Read v))
  pub read_posts : (locks v : ℕ) → AtMost (locks + v) (r.posts locks (Read v))
  pub write_takes : (locks v : ℕ) → AtMost (locks + v) (r.takes locks (Write v))
  pub write_posts : (locks v : ℕ) → AtMost (locks + v) (r.posts locks (Write v))
  pub number_1 : r.number ≡ 1 → SameAnswers r happens_before
  pub number_2 : r.number ≡ 2 → SameAnswers r schedulable
