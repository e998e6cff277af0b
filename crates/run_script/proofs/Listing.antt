-- What joining the pieces of a list gives. Assumes nothing.
use Rattle.std.proofs.Common.{◌≡◌, ◌<◌, ◌∙◌, List, [], ◌∷◌, ◌++◌, codes, decimal, ℕ, length, map, Option, Some, Result, Ok, Err, IfOk, String, string_bytes, Bor, refl, arith}
use Rattle.std.specs.Iterator.Runs.{WholeRun}
use Rattle.std.specs.List.{flat_map}
use Rattle.std.specs.declared.alloc.Global.{Global}
use Rattle.std.proofs.lemmas.Iterator.{YieldsList}
use Rattle.itertools.specs.Consumer.{joined, ShownBy}
use Rattle.itertools.proofs.AdaptorLemmas.{items_from_whole_run}
use Rattle.run_script.specs.Lists.{list_text, numbers_text}

-- the pieces behind the first, each behind a space
others : (xs : List (Bor (String Global))) → flat_map (λ x. codes " " ++ string_bytes x.now) xs ≡ flat_map (λ y. codes " " ++ y) (map string_bytes (map (λ x. x.now) xs))
others [] = refl
others (x ∷ xs) = rw (others xs) refl

joined-list_text : (xs : List (Bor (String Global))) → 0 < length (map (λ x. x.now) xs) → joined (λ x. string_bytes x.now) (codes " ") xs ≡ list_text (map string_bytes (map (λ x. x.now) xs))
joined-list_text [] some = absurd (omega arith)
joined-list_text (x ∷ xs) some = rw (others xs) refl

module _ {S E : Type 0} {steps : S → Option (Bor (String Global)) → S → Type 0} {s : S} where
  -- the text that a whole run joined is that of the list
  pub listed_from_run : (pieces : List (String Global)) → 0 < length pieces → YieldsList steps (λ y. y.now) s pieces → (r : Result (String Global) E) → IfOk r (λ text. WholeRun steps s (λ p. ShownBy (λ x. Some (string_bytes x.now)) p.items (λ show. string_bytes text ≡ joined show (codes " ") p.items))) → IfOk r (λ text. string_bytes text ≡ list_text (map string_bytes pieces))
  listed_from_run pieces some chain (Err e) ran = tt
  listed_from_run pieces some chain (Ok text) ran =
      let items = items_from_whole_run chain ran.0 ran.1 ran.2 in
      ran.3 (λ x. string_bytes x.now) (λ x. refl) ∙ rw (← items) (joined-list_text ran.0.items (rw items some))

-- the numbers behind the first, each behind a comma
other_numbers : (xs : List (Bor ℕ)) → flat_map (λ x. codes "," ++ decimal x.now) xs ≡ flat_map (λ m. codes "," ++ decimal m) (map (λ x. x.now) xs)
other_numbers [] = refl
other_numbers (x ∷ xs) = rw (other_numbers xs) refl

joined-numbers_text : (xs : List (Bor ℕ)) → joined (λ x. decimal x.now) (codes ",") xs ≡ numbers_text (map (λ x. x.now) xs)
joined-numbers_text [] = refl
joined-numbers_text (x ∷ xs) = rw (other_numbers xs) refl

module _ {S : Type 0} {steps : S → Option (Bor ℕ) → S → Type 0} {s : S} where
  -- the text that a whole run of numbers joined
  pub numbers_from_run : (time : List ℕ) → YieldsList steps (λ y. y.now) s time → (text : List ℕ) → WholeRun steps s (λ p. ShownBy (λ x. Some (decimal x.now)) p.items (λ show. text ≡ joined show (codes ",") p.items)) → text ≡ numbers_text time
  numbers_from_run time chain text ran =
      ran.3 (λ x. decimal x.now) (λ x. refl) ∙ rw (← items_from_whole_run chain ran.0 ran.1 ran.2) (joined-numbers_text ran.0.items)
