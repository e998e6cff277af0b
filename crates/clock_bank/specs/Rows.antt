-- What a clock bank means: a row of numbers for each thread and for each slot, with a number for each thread.
-- Assumes nothing.
use Rattle.std.specs.Prelude.{◌≡◌, ℕ, ◌+◌, ◌<◌, max, List, [], ◌∷◌, length, replicate, Some, None, Option, slice_index, slice_index_or, slice_set}

pub record Rows : Type 0 where
  pub threads : List (List ℕ)
  pub slots : List (List ℕ)

-- every row has a number for each thread
pub record Shaped (r : Rows) : Type 0 where
  pub thread_rows : (t : ℕ) → t < length r.threads → length (slice_index_or r.threads t []) ≡ length r.threads
  pub slot_rows : (s : ℕ) → s < length r.slots → length (slice_index_or r.slots s []) ≡ length r.threads

-- the rows of a bank at the start: k thread rows and s slot rows of k zeros
abbrev pub fresh : ℕ → ℕ → Rows
fresh k s = record { threads = replicate k (replicate k 0); slots = replicate s (replicate k 0) }

abbrev pub entry : List (List ℕ) → ℕ → ℕ → ℕ
entry rows r u = slice_index (slice_index_or rows r []) u

-- entry t is one more
abbrev pub grown : List ℕ → ℕ → List ℕ
grown row t = slice_set row t (slice_index row t + 1)

-- each number is the larger of two
abbrev pub larger : List ℕ → List ℕ → List ℕ
larger [] ys = []
larger (x ∷ xs) [] = x ∷ xs
larger (x ∷ xs) (y ∷ ys) = max x y ∷ larger xs ys

-- a row after a take: joined with the slot's row
abbrev pub joined : List (List ℕ) → Option ℕ → List ℕ → List ℕ
joined slots None row = row
joined slots (Some s) row = larger row (slice_index_or slots s [])

-- the slot rows after a post: the slot's row is the thread's, also where it was larger
abbrev pub posted : List (List ℕ) → Option ℕ → List ℕ → List (List ℕ)
posted slots None row = slots
posted slots (Some s) row = slice_set slots s row

-- the row of thread t after an advance: first its own entry grows, then it takes
abbrev pub new_row : Rows → ℕ → Option ℕ → List ℕ
new_row r t take = joined r.slots take (grown (slice_index_or r.threads t []) t)

-- an advance of thread t; nothing else changes
abbrev pub advanced : Rows → ℕ → Option ℕ → Option ℕ → Rows
advanced r t take post = record {
  threads = slice_set r.threads t (new_row r t take);
  slots = posted r.slots post (new_row r t take);
}
