-- Runs of numbers in a list, and what a write to one of them leaves. Assumes nothing.
use Rattle.std.proofs.Common.{◌≡◌, ℕ, ◌+◌, ◌<◌, ◌≤◌, ◌⊎◌, List, length, get_or, inl, inr, rules}
use lib.Seq.{paste}
use Rattle.std.proofs.lemmas.List.{places, same_lists}
use Rattle.clock_bank.specs.Runs.{run}

pub get_or_run : (at n i d : ℕ) (cells : List ℕ) → i < n → get_or (run at n cells) i d ≡ get_or cells (at + i) d
get_or_run at n i d cells h = search (rules, places)

-- a number that a write of the first n of ys does not reach
pub get_or_beside : (cells : List ℕ) (at n : ℕ) (ys : List ℕ) (i d : ℕ) → n ≤ length ys → at + n ≤ length cells → (i < at) ⊎ (at + n ≤ i)
    → get_or (paste cells at ys n) i d ≡ get_or cells i d
get_or_beside cells at n ys i d short fits (inl h) = search (rules, places)
get_or_beside cells at n ys i d short fits (inr h) = search (rules, places)

module _ (cells : List ℕ) (at n : ℕ) (ys : List ℕ) (long : length ys ≡ n) (fits : at + n ≤ length cells) where
  pub run_same : run at n (paste cells at ys n) ≡ ys
  run_same = same_lists _ _ (search (rules, places)) (λ j d h. search (rules, places))

  pub run_beside : (b : ℕ) → (b + n ≤ at) ⊎ (at + n ≤ b) → run b n (paste cells at ys n) ≡ run b n cells
  run_beside b (inl before) = same_lists _ _ (search (rules, places)) (λ j d h. search (rules, places))
  run_beside b (inr after) = same_lists _ _ (search (rules, places)) (λ j d h. search (rules, places))
