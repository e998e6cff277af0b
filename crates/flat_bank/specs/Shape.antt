-- Every row of a flat bank has a number for each thread: the law of a bank that its rows are shaped.
-- Assumes nothing.
use Rattle.std.specs.Prelude.{◌≡◌, ℕ, zero, suc, ◌+◌, ◌*◌, ◌<◌, ◌≤◌, List, [], length, take, drop, slice_index_or, refl}
use Rattle.std.proofs.Common.{sym, ap, ◌∙◌, arith, zero-mul, suc-mul, add-mul, mul-le-mul_right, length-take, length-drop}
use Rattle.std.proofs.lemmas.List.{drop-drop}
use Rattle.clock_bank.specs.Rows.{Shaped}
use Rattle.clock_bank.specs.Runs.{run}
use Rattle.flat_bank.specs.Flat.{rows_in, flat_rows, places}

pub length_rows : (n k : ℕ) (cells : List ℕ) → length (rows_in n k cells) ≡ n
length_rows zero k cells = refl
length_rows (suc n) k cells = ap suc (length_rows n k (drop k cells))

pub row_at : (n k q : ℕ) (cells : List ℕ) → q < n → slice_index_or (rows_in n k cells) q [] ≡ run (q * k) k cells
row_at zero k q cells h = absurd (omega arith)
row_at (suc n) k zero cells h = rw zero-mul
row_at (suc n) k (suc q) cells h =
    row_at n k q (drop k cells) (omega arith) ∙ ap (take k) (drop-drop (q * k) k cells ∙ ap (λ (a : ℕ). drop a cells) (omega (arith, suc-mul q k)))

-- row q of n rows ends within them
pub row_within : (q n k : ℕ) → q < n → q * k + k ≤ n * k
row_within q n k h = omega (arith, suc-mul q k, mul-le-mul_right k h)

pub length_run : (at n : ℕ) (cells : List ℕ) → at + n ≤ length cells → length (run at n cells) ≡ n
length_run at n cells h = simp (length-take, length-drop) (omega arith)

pub row_long : (n k q : ℕ) (cells : List ℕ) → q < n → n * k ≤ length cells → length (slice_index_or (rows_in n k cells) q []) ≡ k
row_long n k q cells h fits = ap length (row_at n k q cells h) ∙ length_run (q * k) k cells (omega (arith, row_within q n k h))

pub flat_shaped : (k s : ℕ) (cells : List ℕ) → places k s ≤ length cells → Shaped (flat_rows k s cells)
flat_shaped k s cells fits = record {
  thread_rows = λ t h. row_long k k t cells (omega (arith, length_rows k k cells)) (omega (arith, add-mul k s k)) ∙ sym (length_rows k k cells);
  slot_rows = λ p h. row_long s k p (drop (k * k) cells) (omega (arith, length_rows s k (drop (k * k) cells))) (omega (arith, add-mul k s k, length-drop (k * k) cells))
      ∙ sym (length_rows k k cells);
}
