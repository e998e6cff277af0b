-- One position more in the pass over the log. Assumes nothing.
use Rattle.std.proofs.Common.{◌≡◌, ℕ, zero, suc, ◌+◌, Bool, true, false, cond, List, [], ◌∷◌, ◌++◌, sym, refl, ap, ◌∙◌, ap₂, add-one}
use Rattle.std.proofs.lemmas.Bool.{and_left, and_right}
use Rattle.keep_list.specs.Kept.{Kept, added, all_added}
use Rattle.keep_list.proofs.Records.{all_added_append}
use Rattle.events.specs.declared.event.Event.{Event}
use Rattle.events.specs.Events.{kind_of}
use Rattle.events.specs.Conflicts.{is_access, conflicts}
use Rattle.orders.specs.declared.pair.PositionPair.{PositionPair}
use Rattle.orders.specs.Traces.{event}
use Rattle.orders.specs.Pairs.{positions}
use Rattle.orders.specs.Stamps.{unseen_by, pairs_with}

-- the pairs of the positions below i are added, and position i is passed: it is a pair too, or it is not
module _ (ps : Kept PositionPair) (test : ℕ → Bool) (n i : ℕ) where
  more : (b : Bool) → test i ≡ b
      → all_added (all_added ps (pairs_with test n i)) (cond b (positions i n ∷ []) []) ≡ all_added ps (pairs_with test n (i + 1))
  more b is =
      ap (λ (x : Bool). all_added (all_added ps (pairs_with test n i)) (cond x (positions i n ∷ []) [])) (sym is)
      ∙ (sym (all_added_append ps (pairs_with test n i) _) ∙ ap (λ (m : ℕ). all_added ps (pairs_with test n m)) (sym (add-one i)))

  pub pair_more : test i ≡ true → added (all_added ps (pairs_with test n i)) (positions i n) ≡ all_added ps (pairs_with test n (i + 1))
  pair_more = more true

  pub pair_skip : test i ≡ false → all_added ps (pairs_with test n i) ≡ all_added ps (pairs_with test n (i + 1))
  pair_skip = more false

-- what is no access conflicts with nothing
no_conflict : (d e : Event) → is_access (kind_of e.operation) ≡ false → conflicts d e ≡ false
no_conflict d e other = and_right _ _ (and_left _ _ (and_right (is_access (kind_of d.operation)) _ other))

pairs_none : (test : ℕ → Bool) (j n : ℕ) → ((i : ℕ) → test i ≡ false) → pairs_with test j n ≡ []
pairs_none test j zero none = refl
pairs_none test j (suc n) none =
    ap₂ (λ (ps : List PositionPair) (b : Bool). ps ++ cond b (positions n j ∷ []) []) (pairs_none test j n none) (none n)

-- so it is a pair with nothing
pub no_pairs : (ps : Kept PositionPair) (log : List Event) (e : Event) (row : List ℕ) (n : ℕ) → is_access (kind_of e.operation) ≡ false
    → ps ≡ all_added ps (pairs_with (unseen_by log e row) n n)
no_pairs ps log e row n other =
    ap (all_added ps) (sym (pairs_none (unseen_by log e row) n n (λ k. and_left _ _ (no_conflict (event log k) e other))))
