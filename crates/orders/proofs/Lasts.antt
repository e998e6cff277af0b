-- Of the positions where a condition holds, the last before another. Assumes nothing.
use Rattle.std.proofs.Common.{◌≡◌, ℕ, zero, suc, ◌<◌, ◌↔◌, inl, inr, arith}
use Rattle.std.proofs.lemmas.Bool.{cases_lt}
use Rattle.orders.specs.Orders.{Last}

module _ {P : ℕ → Type 0} where
  -- what holds at no position between m and n, and not at n
  pub none_more : {m n : ℕ} → ((k : ℕ) → m < k → k < n → P k → ⊥) → (P n → ⊥) → (k : ℕ) → m < k → k < suc n → P k → ⊥
  none_more {n = n} none other k a b p = elim (cases_lt k n) [
    | inl c ↦ none k a c p
    | inr c ↦ let z : k ≡ n = omega arith in other (rw z at p)
  ]

  -- if P holds at n, then n is the last before n + 1, and nothing else is
  pub last_here : {n : ℕ} → P n → Last P n (suc n)
  last_here p = record { earlier = omega arith; holds = p; latest = λ k a b q. omega arith }

  pub last_is : {q n : ℕ} → P n → Last P q (suc n) → q ≡ n
  last_is {q} {n} p l = let late : q < n → ⊥ = λ a. l.latest n a (omega arith) p in omega arith

  -- if not, the last before n + 1 is the last before n
  pub last_more : {q n : ℕ} → (P n → ⊥) → Last P q n → Last P q (suc n)
  last_more other l = record { earlier = omega arith; holds = l.holds; latest = none_more l.latest other }

  pub last_less : {q n : ℕ} → (P n → ⊥) → Last P q (suc n) → Last P q n
  last_less {q} {n} other l = record {
    earlier = elim (cases_lt q n) [ inl a ↦ a | inr a ↦ let z : q ≡ n = omega arith in absurd (other (rw z at l.holds)) ];
    holds = l.holds;
    latest = λ k a b. l.latest k a (omega arith);
  }

  -- a condition that holds somewhere before n, and can be tested, has a last place before n
  pub last_before : ((k : ℕ) → Dec (P k)) → (i n : ℕ) → i < n → P i → (q : ℕ) × Last P q n
  last_before test i zero h p = absurd (omega arith)
  last_before test i (suc n) h p = elim (test n) [
    | yes here ↦ (n, last_here here)
    | no other ↦
        let less : i < n = elim (cases_lt i n) [ inl a ↦ a | inr a ↦ let z : i ≡ n = omega arith in absurd (other (rw z at p)) ] in
        let w = last_before test i n less p in
        (w.0, last_more other w.1)
  ]

-- conditions that hold at the same positions before n have the same last one
pub last_as : {P Q : ℕ → Type 0} {q n : ℕ} → ((k : ℕ) → k < n → P k ↔ Q k) → Last P q n → Last Q q n
last_as {q = q} same l = record {
  earlier = l.earlier;
  holds = (same q l.earlier).0 l.holds;
  latest = λ k a b c. l.latest k a b ((same k b).1 c);
}
