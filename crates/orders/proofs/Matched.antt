-- A list is no longer than one that has for each of its elements a partner of its own. Assumes nothing.
use Rattle.std.proofs.Common.{◌≡◌, ◌≤◌, List, [], ◌∷◌, ◌++◌, length, sym, refl, ap, inl, inr, arith}
use mathlib.Core.List.Memᴰ
use mathlib.Core.List.{Memᴰ}
use Rattle.std.proofs.lemmas.List.{length-append}

-- an element stands between two parts of its list
parts : {A : Type 0} {y : A} {ys : List A} → Memᴰ y ys → (s : List A) × (t : List A) × (ys ≡ s ++ y ∷ t)
parts (Memᴰ.head {xs = xs} e) = ([], xs, ap (λ x. x ∷ xs) (sym e))
parts (Memᴰ.tail {x = x} m) = let w = parts m in (x ∷ w.0, w.1, ap (λ zs. x ∷ zs) w.2)

module _ {A B : Type 0} (R : A → B → Type 0) where
  -- ys has a partner of x
  abbrev pub Matched : List B → A → Type 0
  Matched ys x = (y : B) × Memᴰ y ys × R x y

  -- no two elements of the list share a partner
  abbrev pub Apart : List A → Type 0
  Apart [] = Unit {0}
  Apart (x ∷ xs) = ((z : A) → Memᴰ z xs → (y : B) → R x y → R z y → ⊥) × Apart xs

  -- a partner of z that is not y stands in one of the parts beside y
  still_matched : {y : B} {z : A} (s t : List B) → Matched (s ++ y ∷ t) z → (R z y → ⊥) → Matched (s ++ t) z
  still_matched {z = z} s t w other = elim (Memᴰ.append_cases s w.1) [
    | inl m ↦ (w.0, Memᴰ.append_left t m, w.2)
    | inr m ↦ elim (Memᴰ.cases_cons m) [
      | inl e ↦ absurd (other (rw e at w.2))
      | inr k ↦ (w.0, Memᴰ.append_right s k, w.2)
    ]
  ]

  pub no_more : (xs : List A) (ys : List B) → Apart xs → ((x : A) → Memᴰ x xs → Matched ys x) → length xs ≤ length ys
  no_more [] ys apart matched = omega arith
  no_more (x ∷ xs) ys apart matched =
      let w = matched x (Memᴰ.head refl) in
      let p = parts w.1 in
      let rest = λ (z : A) (m : Memᴰ z xs). still_matched p.0 p.1 (rw p.2 at (matched z (Memᴰ.tail m))) (apart.0 z m w.0 w.2) in
      omega (arith, ap length p.2, length-append p.0 (w.0 ∷ p.1), length-append p.0 p.1, no_more xs (p.0 ++ p.1) apart.1 rest)
