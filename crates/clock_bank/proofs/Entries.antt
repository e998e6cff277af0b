-- The lengths and the numbers of rows, fresh and after an advance. Assumes nothing.
use Rattle.std.proofs.Common.{◌≡◌, ℕ, zero, suc, ◌<◌, max, List, [], ◌∷◌, length, get_or, set, replicate, Some, None, Option, sym, refl, ap, ◌∙◌, arith, rules}
use native.Mathlib.Decide.{ℕ_discrete}
use Rattle.std.proofs.lemmas.List.{places, length-set, length-replicate}
use Rattle.clock_bank.specs.Rows.{Rows, Shaped, fresh, entry, grown, larger, new_row, advanced}

pub length_larger : (xs ys : List ℕ) → length (larger xs ys) ≡ length xs
length_larger [] ys = refl
length_larger (x ∷ xs) [] = refl
length_larger (x ∷ xs) (y ∷ ys) = ap suc (length_larger xs ys)

pub get_or_larger : (xs ys : List ℕ) (i d : ℕ) → i < length xs → i < length ys → get_or (larger xs ys) i d ≡ max (get_or xs i d) (get_or ys i d)
get_or_larger [] ys i d h l = absurd (omega arith)
get_or_larger (x ∷ xs) [] i d h l = absurd (omega arith)
get_or_larger (x ∷ xs) (y ∷ ys) zero d h l = refl
get_or_larger (x ∷ xs) (y ∷ ys) (suc i) d h l = get_or_larger xs ys i d (omega arith) (omega arith)

-- shaped rows of k threads and s slots
pub record Sized (k s : ℕ) (r : Rows) : Type 0 where
  pub threads : length r.threads ≡ k
  pub slots : length r.slots ≡ s
  pub shaped : Shaped r

pub thread_row : {k s : ℕ} {r : Rows} → Sized k s r → (t : ℕ) → t < k → length (get_or r.threads t []) ≡ k
thread_row z t h = z.shaped.thread_rows t (omega (arith, z.threads)) ∙ z.threads

pub slot_row : {k s : ℕ} {r : Rows} → Sized k s r → (p : ℕ) → p < s → length (get_or r.slots p []) ≡ k
slot_row z p h = z.shaped.slot_rows p (omega (arith, z.slots)) ∙ z.threads

-- sized rows, by the length of each
sized : {k s : ℕ} {r : Rows} → length r.threads ≡ k → length r.slots ≡ s → ((t : ℕ) → t < k → length (get_or r.threads t []) ≡ k)
    → ((p : ℕ) → p < s → length (get_or r.slots p []) ≡ k) → Sized k s r
sized threads slots lines posts = record {
  threads = threads;
  slots = slots;
  shaped = record {
    thread_rows = λ t h. lines t (omega arith) ∙ sym threads;
    slot_rows = λ p h. posts p (omega arith) ∙ sym threads;
  };
}

pub fresh_sized : (k s : ℕ) → Sized k s (fresh k s)
fresh_sized k s = sized (length-replicate k (replicate k 0)) (length-replicate s (replicate k 0))
    (λ t h. search (rules, places)) (λ p h. search (rules, places))

-- every number of fresh rows is 0
pub fresh_entry : (k n t u : ℕ) → t < n → u < k → entry (replicate n (replicate k 0)) t u ≡ 0
fresh_entry k n t u h l = search (rules, places)

-- a row in the place of another keeps their lengths
set_long : (k : ℕ) (rows : List (List ℕ)) (at : ℕ) (row : List ℕ) → length row ≡ k → ((t : ℕ) → t < length rows → length (get_or rows t []) ≡ k)
    → (t : ℕ) → t < length rows → length (get_or (set rows at row) t []) ≡ k
set_long k rows at row long all t h = elim (ℕ_discrete t at) [
  | yes e ↦ rw e (search (rules, places))
  | no e ↦ search (rules, places)
]

pub length_new_row : (r : Rows) (t : ℕ) (take : Option ℕ) → length (new_row r t take) ≡ length (get_or r.threads t [])
length_new_row r t None = length-set (get_or r.threads t []) t _
length_new_row r t (Some p) = length_larger (grown (get_or r.threads t []) t) _ ∙ length-set (get_or r.threads t []) t _

pub advanced_sized : (k s : ℕ) (r : Rows) (t : ℕ) (take post : Option ℕ) → Sized k s r → t < k → Sized k s (advanced r t take post)
advanced_sized k s r t take post z inside = go post
  where
    long : length (new_row r t take) ≡ k
    long = length_new_row r t take ∙ thread_row z t inside

    lines : (u : ℕ) → u < k → length (get_or (set r.threads t (new_row r t take)) u []) ≡ k
    lines u h = set_long k r.threads t (new_row r t take) long
        (λ q g. thread_row z q (omega (arith, z.threads))) u (omega (arith, z.threads))

    go : (post : Option ℕ) → Sized k s (advanced r t take post)
    go None = sized (length-set r.threads t _ ∙ z.threads) z.slots lines (slot_row z)
    go (Some p) = sized (length-set r.threads t _ ∙ z.threads) (length-set r.slots p _ ∙ z.slots) lines
        (λ q h. set_long k r.slots p (new_row r t take) long (λ x g. slot_row z x (omega (arith, z.slots))) q (omega (arith, z.slots)))
