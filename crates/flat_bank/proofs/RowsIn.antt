-- Where a table's rows lie, and what a write of a row makes of them. Assumes nothing.
use Rattle.std.proofs.Common.{◌≡◌, ℕ, zero, suc, ◌+◌, ◌-◌, ◌*◌, ◌<◌, ◌≤◌, List, [], ◌++◌, length, get_or, take, drop, set, replicate, Option, sym, refl, ap, ◌∙◌, suc-mul, add-mul, zero-mul, arith, rules}
use borrow.Rule.Slice.PartMut.{put_mid}
use Rattle.std.proofs.lemmas.List.{places, same_lists, get_or_past, length-drop, length-replicate, drop-drop, take_at, drop_at, take-append-le, drop-append-le, take-replicate, drop-replicate}
use Rattle.std.proofs.lemmas.Bool.Decides.{nat_tests}
use Rattle.std.proofs.lemmas.Slice.{take-put_mid_below, drop-put_mid}
use Rattle.clock_bank.specs.Rows.{Rows, fresh, entry, grown, joined, posted, new_row, advanced}
use Rattle.clock_bank.specs.Runs.{run}
use Rattle.flat_bank.specs.Flat as flat
use Rattle.flat_bank.specs.Flat.{rows_in, flat_rows, cleared}
use Rattle.flat_bank.specs.Shape.{length_rows, row_at, row_within}

pub same_rows : {a b c d : List (List ℕ)} → a ≡ b → c ≡ d → ◌≡◌ {A = Rows} (record { threads = a; slots = c }) (record { threads = b; slots = d })
same_rows e f = cc

-- the rows of the slots lie behind those of the threads
pub slot_at : (s k p : ℕ) (cells : List ℕ) → p < s → get_or (rows_in s k (drop (k * k) cells)) p [] ≡ run ((k + p) * k) k cells
slot_at s k p cells h = row_at s k p (drop (k * k) cells) h ∙ ap (take k) (drop-drop (p * k) (k * k) cells ∙ ap (λ (a : ℕ). drop a cells) (sym (add-mul k p k)))

-- and an entry of a thread that there is not is 0
pub no_entry : (k s : ℕ) (cells : List ℕ) (t u : ℕ) → k ≤ t → entry (flat_rows k s cells).threads t u ≡ 0
no_entry k s cells t u h = ap (λ (row : List ℕ). get_or row u 0) (get_or_past (rows_in k k cells) t [] (omega (arith, length_rows k k cells)))

-- what lies behind the rows is not read
pub rows_before : (n k : ℕ) (front back : List ℕ) → n * k ≤ length front → rows_in n k (front ++ back) ≡ rows_in n k front
rows_before zero k front back fits = refl
rows_before (suc n) k front back fits =
    let enough : k ≤ length front = omega (arith, suc-mul n k) in
    let first : take k (front ++ back) ≡ take k front = take-append-le k front back enough in
    let others : rows_in n k (drop k (front ++ back)) ≡ rows_in n k (drop k front) =
    ap (rows_in n k) (drop-append-le k front back enough) ∙ rows_before n k (drop k front) back (omega (arith, suc-mul n k, length-drop k front)) in
    cc

drop_zeros : (k m : ℕ) (behind : List ℕ) → k ≤ m → drop k (replicate m 0 ++ behind) ≡ replicate (m - k) 0 ++ behind
drop_zeros k m behind h =
    drop-append-le k (replicate m 0) behind (omega (arith, length-replicate {A = ℕ} m 0)) ∙ ap (λ (zeros : List ℕ). zeros ++ behind) (drop-replicate k m 0)

zero_rows : (n k m : ℕ) (behind : List ℕ) → n * k ≤ m → rows_in n k (replicate m 0 ++ behind) ≡ replicate n (replicate k 0)
zero_rows zero k m behind fits = refl
zero_rows (suc n) k m behind fits =
    let enough : k ≤ length (replicate {A = ℕ} m 0) = omega (arith, suc-mul n k, length-replicate {A = ℕ} m 0) in
    let first : take k (replicate m 0 ++ behind) ≡ replicate k 0 = take-append-le k (replicate m 0) behind enough ∙ take-replicate k m 0 (omega (arith, suc-mul n k)) in
    let others : drop k (replicate m 0 ++ behind) ≡ replicate (m - k) 0 ++ behind = drop_zeros k m behind (omega (arith, suc-mul n k)) in
    let below : rows_in n k (replicate (m - k) 0 ++ behind) ≡ replicate n (replicate k 0) = zero_rows n k (m - k) behind (omega (arith, suc-mul n k)) in
    cc

pub fresh_rows : (k s : ℕ) (now table : List ℕ) → now ≡ cleared (flat.places k s) table → flat_rows k s now ≡ fresh k s
fresh_rows k s now table is =
    let n : ℕ = flat.places k s in
    let behind : List ℕ = drop n table in
    let size : n ≡ k * k + s * k = add-mul k s k in
    ap (flat_rows k s) is
    ∙ same_rows (zero_rows k k n behind (omega arith))
    (ap (rows_in s k) (drop_zeros (k * k) n behind (omega arith)) ∙ zero_rows s k (n - k * k) behind (omega arith))

-- what lies behind a row, after a write past it
drop-put_mid_past : (k b : ℕ) (cells ys : List ℕ) → k + b ≤ length cells → drop k (put_mid (k + b) k cells ys) ≡ put_mid b k (drop k cells) ys
drop-put_mid_past k b cells ys h = same_lists _ _ (search (rules, places)) (λ j d l. search (rules, places))

-- a write of row q
put_row_at : (n k q : ℕ) (cells ys : List ℕ) → q < n → length ys ≡ k → n * k ≤ length cells
    → rows_in n k (put_mid (q * k) k cells ys) ≡ set (rows_in n k cells) q ys
put_row_at zero k q cells ys h long fits = absurd (omega arith)
put_row_at (suc n) k zero cells ys h long fits =
    let behind : List ℕ = drop k cells in
    let first : take k (ys ++ behind) ≡ ys = take_at ys behind k long in
    let others : drop k (ys ++ behind) ≡ behind = drop_at ys behind k long in
    rw zero-mul (cc)
put_row_at (suc n) k (suc q) cells ys h long fits =
    let at : suc q * k ≡ k + q * k = omega (arith, suc-mul q k) in
    let inside : suc q * k ≤ length cells = omega (arith, suc-mul n k, row_within q n k (omega arith)) in
    let first : take k (put_mid (suc q * k) k cells ys) ≡ take k cells = take-put_mid_below (suc q * k) k cells ys k (omega arith) inside in
    let others : drop k (put_mid (k + q * k) k cells ys) ≡ put_mid (q * k) k (drop k cells) ys = drop-put_mid_past k (q * k) cells ys (omega arith) in
    let put = put_row_at n k q (drop k cells) ys (omega arith) long (omega (arith, suc-mul n k, length-drop k cells)) in
    cc

pub put_row : (n k q at width : ℕ) (cells ys : List ℕ) → at ≡ q * k → width ≡ k → q < n → length ys ≡ k → n * k ≤ length cells
    → rows_in n k (put_mid at width cells ys) ≡ set (rows_in n k cells) q ys
put_row n k q at width cells ys is wide h long fits = rw (is, wide) (put_row_at n k q cells ys h long fits)

-- it leaves what lies behind n rows
pub behind_row : (n k q at width : ℕ) (cells ys : List ℕ) → at ≡ q * k → width ≡ k → q < n → length ys ≡ k → n * k ≤ length cells
    → drop (n * k) (put_mid at width cells ys) ≡ drop (n * k) cells
behind_row n k q at width cells ys is wide h long fits =
    let inside : q * k + k ≤ n * k = row_within q n k h in
    drop-put_mid at width cells ys (n * k) (omega arith) (omega arith) (omega arith)

-- a table in two parts, the rows of the threads and what is behind them
pub split_rows : (k s : ℕ) (front back : List ℕ) → length front ≡ k * k
    → flat_rows k s (front ++ back) ≡ record { threads = rows_in k k front; slots = rows_in s k back }
split_rows k s front back long = same_rows (rows_before k k front back (omega arith)) (ap (rows_in s k) (drop_at front back (k * k) long))

-- what lies behind the rows of a table in two parts
past_parts : (k s : ℕ) (front back : List ℕ) → length front ≡ k * k → drop (flat.places k s) (front ++ back) ≡ drop (s * k) back
past_parts k s front back long =
    ap (λ (n : ℕ). drop n (front ++ back)) (add-mul k s k) ∙ sym (drop-drop (s * k) (k * k) (front ++ back)) ∙ ap (drop (s * k)) (drop_at front back (k * k) long)

-- the row of thread t, from its place on
row_in : (k t at width : ℕ) (front : List ℕ) → t < k → at ≡ t * k → width ≡ k → take width (drop at front) ≡ get_or (rows_in k k front) t []
row_in k t at width front h is wide = rw (is, wide) (sym (row_at k k t front h))

-- the same row in a table of which those rows are the first part
pub front_row : (k t at width : ℕ) (cells front back : List ℕ) → cells ≡ front ++ back → length front ≡ k * k → t < k → at ≡ t * k → width ≡ k
    → take width (drop at front) ≡ get_or (rows_in k k cells) t []
front_row k t at width cells front back parts long h is wide =
    row_in k t at width front h is wide
    ∙ ap (λ (rows : List (List ℕ)). get_or rows t []) (sym (ap (rows_in k k) parts ∙ rows_before k k front back (omega arith)))

-- a table in two parts, after an advance that wrote a row of the first and some of the second
module _ (k s t at width : ℕ) (cells front back row after : List ℕ) (parts : cells ≡ front ++ back) (long : length front ≡ k * k) (h : t < k) (is : at ≡ t * k) (wide : width ≡ k)
    (row-long : length row ≡ k) where
  wrote : length (put_mid at width front row) ≡ k * k
  wrote = let inside = row_within t k k h in search (rules, places, is, wide)

  pub advanced_parts : (from to : Option ℕ) → row ≡ joined (rows_in s k back) from (grown (take width (drop at front)) t) → rows_in s k after ≡ posted (rows_in s k back) to row
      → flat_rows k s (put_mid at width front row ++ after) ≡ advanced (flat_rows k s cells) t from to
  advanced_parts from to row-is posts =
      let rows : Rows = record { threads = rows_in k k front; slots = rows_in s k back } in
      let is-new : row ≡ new_row rows t from = row-is ∙ ap (λ (mine : List ℕ). joined (rows_in s k back) from (grown mine t)) (row_in k t at width front h is wide) in
      split_rows k s (put_mid at width front row) after wrote
      ∙ same_rows (put_row k k t at width front row is wide h row-long (omega arith) ∙ ap (set (rows_in k k front) t) is-new)
      (posts ∙ ap (posted (rows_in s k back) to) is-new)
      ∙ ap (λ (r : Rows). advanced r t from to) (sym (ap (flat_rows k s) parts ∙ split_rows k s front back long))

  pub behind_parts : drop (s * k) after ≡ drop (s * k) back → drop (flat.places k s) (put_mid at width front row ++ after) ≡ drop (flat.places k s) cells
  behind_parts same = past_parts k s (put_mid at width front row) after wrote ∙ same ∙ sym (ap (drop (flat.places k s)) parts ∙ past_parts k s front back long)

-- what the entries of a bank ask for, an advance of one row, and an advance in a table
pub ruleset entries = (length_rows, row_at, slot_at, nat_tests)

pub ruleset one_row = (row_at, put_row, behind_row, nat_tests)

pub ruleset all_rows = (length_rows, row_within, front_row, advanced_parts, behind_parts, nat_tests)
