-- What a keep-list holds, by places. Assumes nothing.
use Rattle.std.proofs.Common.{◌≡◌, ℕ, ◌+◌, ◌<◌, ◌≤◌, min, ltb, ◌⊎◌, List, [], ◌∷◌, ◌++◌, length, get_or, take, set, Some, None, sym, refl, ap, ◌∙◌, inl, inr, arith}
use Rattle.std.specs.List.{slice_get}
use Rattle.std.proofs.lemmas.List.{length-set, length-take, get_or-take, take_all, take_at, take_more_set, set_past, append-nil, append_assoc}
use Rattle.std.proofs.lemmas.Option.{slice_get-get_or, slice_get_past}
use Rattle.std.proofs.lemmas.Bool.{cond_below, cond_both, cases_lt}
use Rattle.keep_list.specs.Kept.{Kept, records, added, all_added, most}

module _ {X : Type 0} (table : List X) (total i : ℕ) where
  pub held_at : (d : X) → i < total → i < length table → Some (get_or table i d) ≡ slice_get (take total table) i
  held_at d below within =
      ap Some (sym (get_or-take total table i d below)) ∙ sym (slice_get-get_or (take total table) i d (simp length-take (omega arith)))

  pub held_none : min total (length table) ≤ i → None ≡ slice_get (take total table) i
  held_none past = sym (slice_get_past (take total table) i (simp length-take past))

pub added_is : {X : Type 0} (k : Kept X) (table : List X) (x : X) → k.total < most → table ≡ set k.table k.total x
    → record { table = table; total = k.total + 1 } ≡ added k x
added_is k table x below is =
    ap (λ (t : List _). record { table = t; total = k.total + 1 }) is ∙ cond_below k.total most _ k below

pub all_added_append : {X : Type 0} (k : Kept X) (xs ys : List X) → all_added k (xs ++ ys) ≡ all_added (all_added k xs) ys
all_added_append k [] ys = refl
all_added_append k (x ∷ xs) ys = all_added_append (added k x) xs ys

pub length_all_added : {X : Type 0} (k : Kept X) (xs : List X) → length (all_added k xs).table ≡ length k.table
length_all_added k [] = refl
length_all_added k (x ∷ xs) = length_all_added (added k x) xs ∙ length_added k x
  where
    length_added : {X : Type 0} (k : Kept X) (x : X) → length (added k x).table ≡ length k.table
    length_added k x = cond_both (ltb k.total most) _ k (λ y. length y.table ≡ length k.table) (λ e. length-set k.table k.total x) (λ e. refl)

-- several records more, where counting does not stop: all are counted, and those that find a place are held
module _ {X : Type 0} where
  abbrev pub more : Kept X → X → Kept X
  more k x = record { table = set k.table k.total x; total = k.total + 1 }

  pub added_more : (k : Kept X) (x : X) → k.total < most → added k x ≡ more k x
  added_more k x h = sym (added_is k _ x h refl)

  pub total_all_added : (k : Kept X) (xs : List X) → k.total + length xs ≤ most → (all_added k xs).total ≡ k.total + length xs
  total_all_added k [] h = omega arith
  total_all_added k (x ∷ xs) h =
      ap (λ (y : Kept X). (all_added y xs).total) (added_more k x (omega arith)) ∙ (total_all_added (more k x) xs (omega arith) ∙ omega arith)

  records_more : (k : Kept X) (x : X) (xs : List X)
      → take (length (more k x).table) (records (more k x) ++ xs) ≡ take (length k.table) (records k ++ x ∷ xs)
  records_more k x xs = go (cases_lt k.total (length k.table))
    where
      long : length (set k.table k.total x) ≡ length k.table
      long = length-set k.table k.total x

      go : (k.total < length k.table) ⊎ (length k.table ≤ k.total)
          → take (length (set k.table k.total x)) (take (k.total + 1) (set k.table k.total x) ++ xs) ≡ take (length k.table) (records k ++ x ∷ xs)
      go (inl h) =
          ap (λ (m : ℕ). take m (take (k.total + 1) (set k.table k.total x) ++ xs)) long
          ∙ ap (take (length k.table)) (ap (λ (ys : List X). ys ++ xs) (take_more_set k.table k.total x h) ∙ append_assoc (records k) (x ∷ []) xs)
      go (inr h) =
          let full : records k ≡ k.table = take_all k.total k.table h in
          let same : set k.table k.total x ≡ k.table = set_past k.table k.total x h in
          ap (λ (t : List X). take (length t) (take (k.total + 1) t ++ xs)) same
          ∙ (ap (λ (t : List X). take (length k.table) (t ++ xs)) (take_all (k.total + 1) k.table (omega arith))
          ∙ (take_at k.table xs (length k.table) refl
          ∙ (sym (take_at k.table (x ∷ xs) (length k.table) refl)
          ∙ ap (λ (t : List X). take (length k.table) (t ++ x ∷ xs)) (sym full))))

  pub records_all_added : (k : Kept X) (xs : List X) → k.total + length xs ≤ most
      → records (all_added k xs) ≡ take (length k.table) (records k ++ xs)
  records_all_added k [] h =
      sym (ap (take (length k.table)) (append-nil (records k)) ∙ take_all (length k.table) (records k) (simp length-take (omega arith)))
  records_all_added k (x ∷ xs) h =
      ap (λ (y : Kept X). records (all_added y xs)) (added_more k x (omega arith))
      ∙ (records_all_added (more k x) xs (omega arith) ∙ records_more k x xs)
