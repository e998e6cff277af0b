-- A row that is joined number by number with another. Assumes nothing.
use Rattle.std.proofs.Common.{◌≡◌, ℕ, zero, suc, ◌+◌, ◌<◌, max, List, [], ◌∷◌, length, get_or, set, take, sym, refl, ap, add-one, arith}
use Rattle.std.proofs.lemmas.List.{take_all}
use Rattle.clock_bank.specs.Rows.{larger}

pub larger_none : (xs : List ℕ) → larger xs [] ≡ xs
larger_none [] = refl
larger_none (x ∷ xs) = refl

-- one number more
larger_next : (xs ys : List ℕ) (i : ℕ) → i < length xs → i < length ys
    → set (larger xs (take i ys)) i (max (get_or (larger xs (take i ys)) i 0) (get_or ys i 0)) ≡ larger xs (take (suc i) ys)
larger_next [] ys i h l = absurd (omega arith)
larger_next (x ∷ xs) [] i h l = absurd (omega arith)
larger_next (x ∷ xs) (y ∷ ys) zero h l = ap (λ (zs : List ℕ). max x y ∷ zs) (sym (larger_none xs))
larger_next (x ∷ xs) (y ∷ ys) (suc i) h l = ap (λ (zs : List ℕ). max x y ∷ zs) (larger_next xs ys i (omega arith) (omega arith))

pub larger_more : (xs ys row : List ℕ) (i v : ℕ) → row ≡ larger xs (take i ys) → v ≡ max (get_or row i 0) (get_or ys i 0) → i < length xs → i < length ys
    → set row i v ≡ larger xs (take (i + 1) ys)
larger_more xs ys row i v so-far is h l = rw (is, so-far, add-one) (larger_next xs ys i h l)

pub ruleset joining = (larger_none, larger_more, take_all)
