-- Pairs listed by a test: which are listed, and that their order makes a list of pairs the only one. Assumes nothing.
use Rattle.std.proofs.Common.{◌≡◌, ℕ, zero, suc, ◌*◌, ◌<◌, ◌≤◌, Bool, true, false, cond, ◌⊎◌, ◌↔◌, List, [], ◌∷◌, ◌++◌, length, take, sym, refl, ap, ◌∙◌, ap₂, inl, inr, arith}
use mathlib.Core.List.Memᴰ
use mathlib.Core.List.{Memᴰ}
use native.Mathlib.Decide.{le_ind}
use Rattle.std.proofs.lemmas.Bool.{cases_lt}
use Rattle.std.proofs.lemmas.List.{length-append, length-take, take-append-le, take_all}
use Rattle.events.specs.declared.event.Event.{Event}
use Rattle.orders.specs.declared.pair.PositionPair.{PositionPair}
use Rattle.orders.specs.Orders.{Relation, Earlier}
use Rattle.orders.specs.Pairs.{Pair, positions, Ahead, Rising, Lists}
use Rattle.orders.specs.Stamps.{pairs_with, pairs_below}

-- what a pair tells that is listed with the later position j and an earlier one below n
record ListedWith (test : ℕ → Bool) (j n : ℕ) (p : PositionPair) : Type 0 where
  within : p.earlier < n
  at : p.later ≡ j
  passes : test p.earlier ≡ true

-- what a listed pair of positions below n tells
pub record Listed (test : ℕ → ℕ → Bool) (n : ℕ) (p : PositionPair) : Type 0 where
  pub first : p.earlier < p.later
  pub below : p.later < n
  pub passes : test p.earlier p.later ≡ true

-- what an element of a list of one pair or none tells
one_sound : (b : Bool) (i j : ℕ) (p : PositionPair) → Memᴰ p (cond b (positions i j ∷ []) [])
    → (b ≡ true) × (p.earlier ≡ i) × (p.later ≡ j)
one_sound true i j p m = let e = Memᴰ.eq_of_singleton m in (refl, cc, cc)
one_sound false i j p m = absurd (Memᴰ.not-nil m)

one_rising : (b : Bool) (p : PositionPair) → Rising (cond b (p ∷ []) [])
one_rising true p = (λ q m. absurd (Memᴰ.not-nil m), tt)
one_rising false p = tt

-- the pairs listed with the later position j: what they tell, and which they are
with_sound : (test : ℕ → Bool) (j n : ℕ) (p : PositionPair) → Memᴰ p (pairs_with test j n) → ListedWith test j n p
with_sound test j zero p m = absurd (Memᴰ.not-nil m)
with_sound test j (suc n) p m = elim (Memᴰ.append_cases (pairs_with test j n) m) [
  | inl k ↦ let w = with_sound test j n p k in record { within = omega arith; at = w.at; passes = w.passes }
  | inr k ↦ let w = one_sound (test n) n j p k in record { within = omega arith; at = w.2; passes = cc }
]

with_whole : (test : ℕ → Bool) (j n i : ℕ) → i < n → test i ≡ true → Memᴰ (positions i j) (pairs_with test j n)
with_whole test j zero i h t = absurd (omega arith)
with_whole test j (suc n) i h t = elim (cases_lt i n) [
  | inl a ↦ Memᴰ.append_left _ (with_whole test j n i a t)
  | inr a ↦ let e : n ≡ i = omega arith in Memᴰ.append_right (pairs_with test j n) (rw (e, t) (Memᴰ.head refl))
]

-- the same of all pairs of positions below n
pub below_sound : (test : ℕ → ℕ → Bool) (n : ℕ) (p : PositionPair) → Memᴰ p (pairs_below test n) → Listed test n p
below_sound test zero p m = absurd (Memᴰ.not-nil m)
below_sound test (suc n) p m = elim (Memᴰ.append_cases (pairs_below test n) m) [
  | inl k ↦ let w = below_sound test n p k in record { first = w.first; below = omega arith; passes = w.passes }
  | inr k ↦ let w = with_sound (λ i. test i n) n n p k in record { first = omega arith; below = omega arith; passes = cc }
]

pub below_whole : (test : ℕ → ℕ → Bool) (n i j : ℕ) → i < j → j < n → test i j ≡ true → Memᴰ (positions i j) (pairs_below test n)
below_whole test zero i j h b t = absurd (omega arith)
below_whole test (suc n) i j h b t = elim (cases_lt j n) [
  | inl a ↦ Memᴰ.append_left _ (below_whole test n i j h a t)
  | inr a ↦ let e : n ≡ j = omega arith in Memᴰ.append_right (pairs_below test n) (rw e (with_whole (λ k. test k j) j j i h t))
]

-- pairs below a later position begin with those below an earlier one
pub below_begin : (test : ℕ → ℕ → Bool) (n m : ℕ) → n ≤ m → take (length (pairs_below test n)) (pairs_below test m) ≡ pairs_below test n
below_begin test n m h = le_ind (λ k. take (length ps) (pairs_below test k) ≡ ps) (take_all (length ps) ps (omega arith)) more m h
  where
    ps : List PositionPair
    ps = pairs_below test n

    more : (k : ℕ) → n ≤ k → take (length ps) (pairs_below test k) ≡ ps → take (length ps) (pairs_below test (suc k)) ≡ ps
    more k l same = take-append-le (length ps) (pairs_below test k) _ (omega (arith, ap length same, length-take (length ps) (pairs_below test k))) ∙ same

-- a list rises if its two parts do, and each of the first is ahead of each of the second
rising_append : (ps qs : List PositionPair) → Rising ps → Rising qs
    → ((p q : PositionPair) → Memᴰ p ps → Memᴰ q qs → Ahead p q) → Rising (ps ++ qs)
rising_append [] qs a b ahead = b
rising_append (p ∷ ps) qs a b ahead = (
  λ q m. elim (Memᴰ.append_cases ps m) [ inl k ↦ a.0 q k | inr k ↦ ahead p q (Memᴰ.head refl) k ],
  rising_append ps qs a.1 b (λ p' q m k. ahead p' q (Memᴰ.tail m) k),
)

with_rising : (test : ℕ → Bool) (j n : ℕ) → Rising (pairs_with test j n)
with_rising test j zero = tt
with_rising test j (suc n) = rising_append (pairs_with test j n) _ (with_rising test j n) (one_rising (test n) (positions n j))
    (λ p q m k. let v = with_sound test j n p m in let w = one_sound (test n) n j q k in inr (omega arith, omega arith))

pub below_rising : (test : ℕ → ℕ → Bool) (n : ℕ) → Rising (pairs_below test n)
below_rising test zero = tt
below_rising test (suc n) = rising_append (pairs_below test n) _ (below_rising test n) (with_rising (λ i. test i n) n n)
    (λ p q m k. inl (omega (arith, (below_sound test n p m).below, (with_sound (λ i. test i n) n n q k).at)))

-- no two pairs are each ahead of the other
ahead_one_way : (p q : PositionPair) → Ahead p q → Ahead q p → ⊥
ahead_one_way p q a b = grind arith

-- a rising list has no element twice
pub rising_apart : (p : PositionPair) (ps : List PositionPair) → Rising (p ∷ ps) → Memᴰ p ps → ⊥
rising_apart p ps a m = ahead_one_way p p (a.0 p m) (a.0 p m)

-- of lists with the same head, if a rising one is inside another, so is its tail inside the other's tail
tail_inside : {p q : PositionPair} (ps qs : List PositionPair) → p ≡ q → Rising (p ∷ ps)
    → ((r : PositionPair) → Memᴰ r (p ∷ ps) → Memᴰ r (q ∷ qs)) → (r : PositionPair) → Memᴰ r ps → Memᴰ r qs
tail_inside {p} ps qs e a inside r m = elim (Memᴰ.cases_cons (inside r (Memᴰ.tail m))) [
  | inl z ↦ absurd (rising_apart p ps a (Memᴰ.cast (e ∙ sym z) m))
  | inr k ↦ k
]

-- two rising lists with the same elements are one
pub rising_one : (ps qs : List PositionPair) → Rising ps → Rising qs → ((p : PositionPair) → Memᴰ p ps → Memᴰ p qs)
    → ((p : PositionPair) → Memᴰ p qs → Memᴰ p ps) → ps ≡ qs
rising_one [] [] a b f g = refl
rising_one [] (q ∷ qs) a b f g = absurd (Memᴰ.not-nil (g q (Memᴰ.head refl)))
rising_one (p ∷ ps) [] a b f g = absurd (Memᴰ.not-nil (f p (Memᴰ.head refl)))
rising_one (p ∷ ps) (q ∷ qs) a b f g =
    ap₂ (λ r rs. r ∷ rs) same (rising_one ps qs a.1 b.1 (tail_inside ps qs same a f) (tail_inside qs ps (sym same) b g))
  where
    heads : (p ≡ q) ⊎ Memᴰ p qs → (q ≡ p) ⊎ Memᴰ q ps → p ≡ q
    heads (inl e) k = e
    heads (inr m) (inl e) = sym e
    heads (inr m) (inr k) = absurd (ahead_one_way p q (a.0 q k) (b.0 p m))

    same : p ≡ q
    same = heads (Memᴰ.cases_cons (f p (Memᴰ.head refl))) (Memᴰ.cases_cons (g q (Memᴰ.head refl)))

-- a trace has one list of pairs
pub lists_one : (B : Relation) (log : List Event) (ps qs : List PositionPair) → Lists B log ps → Lists B log qs → ps ≡ qs
lists_one B log ps qs l l' = rising_one ps qs l.rising l'.rising
    (λ p m. l'.whole p.earlier p.later (l.placed p m) (l.sound p m))
    (λ p m. l.whole p.earlier p.later (l'.placed p m) (l'.sound p m))

-- if a test tells of earlier and later positions exactly the pairs, the positions that pass it, listed in order, are the list of pairs
pub lists_by_test : (B : Relation) (log : List Event) (test : ℕ → ℕ → Bool)
    → ((i j : ℕ) → Earlier log i j → (test i j ≡ true) ↔ Pair B log i j) → Lists B log (pairs_below test (length log))
lists_by_test B log test tells = record {
  rising = below_rising test (length log);
  placed = placed;
  sound = λ p m. (tells p.earlier p.later (placed p m)).0 (below_sound test (length log) p m).passes;
  whole = λ i j e pair. below_whole test (length log) i j e.first e.inside ((tells i j e).1 pair);
}
  where
    placed : (p : PositionPair) → Memᴰ p (pairs_below test (length log)) → Earlier log p.earlier p.later
    placed p m = let w = below_sound test (length log) p m in record { first = w.first; inside = w.below }

-- how many pairs there can be: at most n with one later position, and at most n times n in all
with_few : (test : ℕ → Bool) (j n : ℕ) → length (pairs_with test j n) ≤ n
with_few test j zero = omega arith
with_few test j (suc n) = grind (arith, with_few test j n, length-append {A = PositionPair})

pub below_few : (test : ℕ → ℕ → Bool) (n : ℕ) → length (pairs_below test n) ≤ n * n
below_few test zero = omega arith
below_few test (suc n) =
    omega (arith, length-append (pairs_below test n) (pairs_with (λ i. test i n) n n), with_few (λ i. test i n) n n, below_few test n)
