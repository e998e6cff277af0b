-- Largest local times over sets of events. Assumes nothing.
use Rattle.std.proofs.Common.{◌≡◌, ℕ, ◌≤◌, max, ◌⊎◌, List, sym, refl, ◌∙◌, subst, inl, inr, arith}
use native.Mathlib.Decide.{dec_le}
use Rattle.events.specs.declared.event.Event.{Event}
use Rattle.orders.specs.Traces.{SameName}
use Rattle.orders.specs.Times.{Reached, Largest}

module _ {log : List Event} where
  -- the same number in other words
  pub largest_as : {Set : ℕ → Type 0} {t v w : ℕ} → v ≡ w → Largest log Set t v → Largest log Set t w
  largest_as {Set} {t} e l = subst (λ x. Largest log Set t x) e l

  -- a larger set in which it is reached too
  pub reached_in : {Set Other : ℕ → Type 0} → ((j : ℕ) → Set j → Other j) → {t v w : ℕ} → v ≡ w
      → (v ≡ 0) ⊎ Reached log Set t v → (w ≡ 0) ⊎ Reached log Other t w
  reached_in f e (inl z) = inl (sym e ∙ z)
  reached_in f e (inr w) = inr (record { at = w.at; member = f w.at w.member; own = w.own; time = w.time ∙ e })

  -- two sets with the same members
  pub largest_same : {Set Other : ℕ → Type 0} → ((j : ℕ) → Set j → Other j) → ((j : ℕ) → Other j → Set j)
      → {t v : ℕ} → Largest log Set t v → Largest log Other t v
  largest_same f g l = record { bound = λ j m own. l.bound j (g j m) own; met = reached_in f refl l.met }

  -- a set with no member
  pub largest_none : {Set : ℕ → Type 0} → ((j : ℕ) → Set j → ⊥) → (t : ℕ) → Largest log Set t 0
  largest_none f t = record { bound = λ j m own. absurd (f j m); met = inl refl }

  -- two sets together
  pub largest_both : {Set Other Both : ℕ → Type 0} → ((j : ℕ) → Set j → Both j) → ((j : ℕ) → Other j → Both j)
      → ((j : ℕ) → Both j → Set j ⊎ Other j)
      → {t v w : ℕ} → Largest log Set t v → Largest log Other t w → Largest log Both t (max v w)
  largest_both f g h {v = v} {w = w} l m = record {
    bound = λ j b own. elim (h j b) [ inl s ↦ omega (arith, l.bound j s own) | inr s ↦ omega (arith, m.bound j s own) ];
    met = elim (dec_le v w) [ yes c ↦ reached_in g (omega arith) m.met | no c ↦ reached_in f (omega arith) l.met ];
  }

  -- no largest exceeds another
  largest_most : {Set : ℕ → Type 0} {t v w : ℕ} → Largest log Set t v → Largest log Set t w → v ≤ w
  largest_most l m = elim l.met [ inl z ↦ omega arith | inr x ↦ omega (arith, x.time, m.bound x.at x.member x.own) ]

  -- there is one largest
  pub largest_one : {Set : ℕ → Type 0} {t v w : ℕ} → Largest log Set t v → Largest log Set t w → v ≡ w
  largest_one l m = omega (arith, largest_most l m, largest_most m l)

-- sets of events of two traces, with the same names
pub largest_named : {log other : List Event} {Set Other : ℕ → Type 0} → ((i : ℕ) → Set i → (k : ℕ) × Other k × SameName log other i k)
    → ((k : ℕ) → Other k → (i : ℕ) × Set i × SameName log other i k) → {t v : ℕ} → Largest log Set t v → Largest other Other t v
largest_named f g l = record {
  bound = λ k m own. let w = g k m in omega (arith, w.2.time, l.bound w.0 w.1 (w.2.thread ∙ own));
  met = elim l.met [
    | inl z ↦ inl z
    | inr x ↦ let w = f x.at x.member in inr (record { at = w.0; member = w.1; own = sym w.2.thread ∙ x.own; time = sym w.2.time ∙ x.time })
  ];
}
