-- What a keep-list means: the table that it was lent, and how many records it was given. Assumes nothing.
use Rattle.std.specs.Prelude.{ℕ, ◌+◌, if◌then◌else◌, List, [], ◌∷◌, take, nat_lt, slice_set}

pub record Kept (X : Type 0) : Type 0 where
  pub table : List X
  pub total : ℕ

-- given nothing yet, over a table as it is lent
abbrev pub empty : {X : Type 0} → List X → Kept X
empty table = record { table = table; total = 0 }

-- the records that it holds: of those given, the first, as far as the table lasts
abbrev pub records : {X : Type 0} → Kept X → List X
records k = take k.total k.table

-- the largest number of 32 bits, where counting stops
abbrev pub most : ℕ
most = 4294967295

-- one record more: it has the next place, if the table has one; at the largest number nothing changes
abbrev pub added : {X : Type 0} → Kept X → X → Kept X
added k x = if nat_lt k.total most then record { table = slice_set k.table k.total x; total = k.total + 1 } else k

-- several records more, one after another
abbrev pub all_added : {X : Type 0} → Kept X → List X → Kept X
all_added k [] = k
all_added k (x ∷ xs) = all_added (added k x) xs
