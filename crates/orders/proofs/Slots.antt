-- The slots of a lawful rule. Assumes nothing.
use Rattle.std.proofs.Common.{◌≡◌, ℕ, ◌+◌, ◌<◌, ◌⊎◌, ◌↔◌, Some, sym, refl, ap, ◌∙◌, subst, inl, inr, arith, rules}
use Rattle.std.proofs.lemmas.Option.{none-some}
use Rattle.events.specs.declared.event.Operation.{Operation}
use Rattle.events.specs.declared.event.Operation.TheVariants.{Read, Write, Acquire, Release}
use Rattle.events.specs.Events.{variable_of}
use Rattle.events.specs.Rules.{OrderRule, Lawful, AtMost, happens_before, schedulable}
use Rattle.orders.specs.declared.counts.Counts.{Counts}
use Rattle.orders.specs.Accepted.{HasObject}

-- an access of a variable, whose slot this is
pub record Access (locks : ℕ) (o : Operation) (s : ℕ) : Type 0 where
  pub variable : ℕ
  pub touches : variable_of o ≡ Some variable
  pub slot : s ≡ locks + variable

module _ (r : OrderRule) (law : Lawful r) (locks : ℕ) where
  -- what takes from a slot is an acquire of its lock, or an access of its variable
  pub who_takes : (o : Operation) (s : ℕ) → r.takes locks o ≡ Some s → (o ≡ Acquire s) ⊎ Access locks o s
  who_takes (Read v) s e = inr (record { variable = v; touches = refl; slot = subst (AtMost (locks + v)) e (law.read_takes locks v) })
  who_takes (Write v) s e = inr (record { variable = v; touches = refl; slot = subst (AtMost (locks + v)) e (law.write_takes locks v) })
  who_takes (Acquire l) s e = inl (cc (law.acquire_takes locks l))
  who_takes (Release l) s e = absurd (none-some _ (sym (law.release_takes locks l) ∙ e))

  -- what posts to a slot is a release of its lock, or an access of its variable
  pub who_posts : (o : Operation) (s : ℕ) → r.posts locks o ≡ Some s → (o ≡ Release s) ⊎ Access locks o s
  who_posts (Read v) s e = inr (record { variable = v; touches = refl; slot = subst (AtMost (locks + v)) e (law.read_posts locks v) })
  who_posts (Write v) s e = inr (record { variable = v; touches = refl; slot = subst (AtMost (locks + v)) e (law.write_posts locks v) })
  who_posts (Acquire l) s e = absurd (none-some _ (sym (law.acquire_posts locks l) ∙ e))
  who_posts (Release l) s e = inl (cc (law.release_posts locks l))

module _ (r : OrderRule) (law : Lawful r) (c : Counts) (o : Operation) (s : ℕ) where
  -- a lawful rule takes from slots that there are, and posts to such
  pub takes_inside : HasObject c o → r.takes c.locks o ≡ Some s → s < c.locks + c.variables
  takes_inside h e = grind (arith, law.acquire_takes, law.release_takes, law.read_takes, law.write_takes)

  pub posts_inside : HasObject c o → r.posts c.locks o ≡ Some s → s < c.locks + c.variables
  posts_inside h e = grind (arith, law.acquire_posts, law.release_posts, law.read_posts, law.write_posts)

  -- releases of a lock post to its slot, and nothing else does
  pub posts_release : s < c.locks → (r.posts c.locks o ≡ Some s) ↔ (o ≡ Release s)
  posts_release h = (
    λ e. grind (arith, law.acquire_posts, law.release_posts, law.read_posts, law.write_posts),
    λ e. cc (law.release_posts c.locks s),
  )

  -- rule 1 takes at acquires alone
  pub takes_acquire : r.number ≡ 1 → r.takes c.locks o ≡ Some s → o ≡ Acquire s
  takes_acquire first e = grind (arith, ap (λ x. x.take) (law.number_1 first c.locks o))

  -- and rule 2 also at reads
  pub takes_read : r.number ≡ 2 → r.takes c.locks o ≡ Some s → (o ≡ Acquire s) ⊎ ((v : ℕ) × (o ≡ Read v) × (s ≡ c.locks + v))
  takes_read second e = grind (arith, ap (λ x. x.take) (law.number_2 second c.locks o))

module _ (r : OrderRule) (law : Lawful r) (second : r.number ≡ 2) (c : Counts) (o : Operation) (v : ℕ) where
  -- under rule 2 writes of a variable post to its slot, and nothing else does
  pub posts_write : HasObject c o → (r.posts c.locks o ≡ Some (c.locks + v)) ↔ (o ≡ Write v)
  posts_write h = (
    λ e. grind (arith, ap (λ x. x.post) (law.number_2 second c.locks o)),
    λ e. cc (ap (λ x. x.post) (law.number_2 second c.locks (Write v))),
  )

pub happens_before_lawful : Lawful happens_before
happens_before_lawful = search rules

pub schedulable_lawful : Lawful schedulable
schedulable_lawful = search rules
