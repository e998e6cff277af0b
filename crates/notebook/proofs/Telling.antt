-- What a notebook that a run has reached tells: times, the order, and all pairs. Assumes nothing.
use Rattle.std.proofs.Common.{◌≡◌, ℕ, ◌+◌, ◌<◌, ◌≤◌, Bool, ◌&&◌, ltb, leb, ◌↔◌, List, length, get_or, take, None, Ok, Err, IsTrue, Result, sym, ap, ◌∙◌, subst, ap₂, mul-le-mul, zero-add, arith}
use Rattle.std.specs.List.{slice_get}
use Rattle.std.proofs.lemmas.Bool.{and_parts, ltb-true, leb-true, le-leb}
use Rattle.keep_list.specs.Kept.{Kept, empty, records, all_added, most}
use Rattle.keep_list.proofs.Records.{length_all_added, total_all_added, records_all_added}
use Rattle.clock_bank.specs.Rows.{Rows}
use Rattle.clock_bank.specs.Faults.{require}
use Rattle.clock_bank.proofs.Refusals.{answered}
use Rattle.events.specs.declared.event.Event.{Event}
use Rattle.events.specs.Rules.{OrderRule, Lawful}
use Rattle.orders.specs.declared.counts.Counts.{Counts}
use Rattle.orders.specs.declared.pair.PositionPair.{PositionPair}
use Rattle.orders.specs.Traces.{thread_at, local}
use Rattle.orders.specs.Accepted.{Accepted, holder}
use Rattle.orders.specs.Orders.{Relation, Before}
use Rattle.orders.specs.Times.{Time}
use Rattle.orders.specs.Pairs.{Lists, Total}
use Rattle.orders.specs.Stamps.{stamp, found, unseen}
use Rattle.orders.proofs.Largest.{largest_as}
use Rattle.orders.proofs.Times.{stamp_time, rule_told}
use Rattle.orders.proofs.Found.{found_list}
use Rattle.orders.proofs.Listing.{lists_one, below_few}
use Rattle.orders.proofs.Locks.{rules_mean_orders}
use Rattle.orders.proofs.SameOrders.{SameRelations, turned, time_as, lists_as, total_as}
use Rattle.notebook.specs.declared.fault.NotebookFault.{NotebookFault}
use Rattle.notebook.specs.declared.fault.NotebookFault.TheVariants.{NoThread, NoPosition}
use Rattle.notebook.specs.declared.notebook.Notebook.{Notebook}
use Rattle.notebook.specs.Books.{events, stamp_held, admitted_counts}
use Rattle.notebook.specs.Notes.{Setting}
use Rattle.notebook.specs.Runs.{Start, accepted_by, InEveryRun}
use Rattle.notebook.specs.Questions.{stamp_answer, before_answer, pair_found, pair_answer, KeepsAccount, OfOrder, TellsTime, TellsOrder, TellsTotal, TellsPair}
use Rattle.notebook.specs.View.{book}
use Rattle.notebook.proofs.Logs.{length_events}
use Rattle.notebook.proofs.Entering.{holder_one}
use Rattle.notebook.proofs.Noting.{required}
use Rattle.notebook.proofs.Following.{Follows, follows}

-- what holds of the rule's order holds of order 1 or 2 where the rule has its number
of_order : (r : OrderRule) → Lawful r → (c : Counts) (log : List Event) → Accepted c log → (P : Relation → Type 0)
    → ((B C : Relation) → SameRelations B C → P B → P C) → P (Before r c.locks log) → OfOrder r c log P
of_order r law c log ok P carry p = record {
  rule = p;
  order_1 = λ is. carry _ _ (rules_mean_orders.rule_1 r law is c log ok) p;
  order_2 = λ is. carry _ _ (rules_mean_orders.rule_2 r law is c log ok) p;
}

module _ (n : Notebook) (s : Start) (r : OrderRule) (law : Lawful r) (log : List Event) (rows : Rows) (f : Follows s r law log rows (book n)) where
  counts_are : n.counts ≡ admitted_counts s.counts
  counts_are = ap (λ (m : Setting). m.counts) f.same

  accepts : Accepted n.counts log
  accepts = subst (λ (x : Counts). Accepted x log) (sym counts_are) f.accepts

  short : length log ≤ 65535
  short = omega (arith, n.sound.short, length_events n.tables.log n.sound.whole, ap length f.logs)

  stamps : (i : ℕ) → i < length log → stamp_held (book n) i ≡ stamp r n.counts log i
  stamps i h = f.stamps i h ∙ ap (λ (x : Counts). stamp r x log i) (sym counts_are)

  pub keeps : KeepsAccount n log
  keeps = record {
    logs = f.logs;
    holds = λ l h. holder_one _ _ (n.sound.held l (omega (arith, n.sound.some))) ∙ ap₂ (λ (es : List Event) (m : ℕ). holder es l m) f.logs
        (sym (length_events n.tables.log n.sound.whole) ∙ ap length f.logs);
    accepts = accepts;
  }

  time_at : (i t : ℕ) → i < length log → t < n.counts.threads → Time (Before r n.counts.locks log) log i t (get_or (stamp_held (book n) i) t 0)
  time_at i t h below = largest_as (ap (λ (row : List ℕ). get_or row t 0) (sym (stamps i h))) (stamp_time r law n.counts log accepts.inside i t h below)

  pub tells_time : (i t : ℕ) (answer : Result ℕ NotebookFault) → answer ≡ stamp_answer (book n) i t → TellsTime i t answer n.counts r log
  tells_time i t (Err x) is = tt
  tells_time i t (Ok v) is =
      let told = answered (require (ltb i (length (events (book n)))) NoPosition (require (ltb t n.counts.threads) NoThread None)) _ v is in
      let position = required (ltb i (length (events (book n)))) NoPosition _ told.0 in
      let thread = required (ltb t n.counts.threads) NoThread None position.1 in
      let below : i < length log = omega (arith, ltb-true _ _ position.0, ap length f.logs) in
      of_order r law n.counts log accepts (λ B. Time B log i t v) (λ B C same. time_as same)
      (largest_as (sym told.1) (time_at i t below (ltb-true _ _ thread.0)))

  order_told : (i j : ℕ) → i < length log → j < length log
      → Before r n.counts.locks log i j ↔ local log i ≤ get_or (stamp_held (book n) j) (thread_at log i) 0
  order_told i j h g =
      rule_told r n.counts.locks log i j (get_or (stamp_held (book n) j) (thread_at log i) 0) h g
      (time_at j (thread_at log i) g (accepts.inside.thread i h))

  pub tells_order : (i j : ℕ) (answer : Result Bool NotebookFault) → answer ≡ before_answer (book n) i j → TellsOrder i j answer n.counts r log
  tells_order i j (Err x) is = tt
  tells_order i j (Ok v) is =
      let told = answered (require (ltb i (length (events (book n))) && ltb j (length (events (book n)))) NoPosition None) _ v is in
      let position = required (ltb i (length (events (book n))) && ltb j (length (events (book n)))) NoPosition None told.0 in
      let both = and_parts (ltb i (length (events (book n)))) (ltb j (length (events (book n)))) position.0 in
      let i-in : i < length log = omega (arith, ltb-true _ _ both.0, ap length f.logs) in
      let j-in : j < length log = omega (arith, ltb-true _ _ both.1, ap length f.logs) in
      let test : v ≡ leb (local log i) (get_or (stamp_held (book n) j) (thread_at log i) 0) =
      told.1 ∙ ap (λ (es : List Event). leb (local es i) (get_or (stamp_held (book n) j) (thread_at es i) 0)) f.logs in
      let order = order_told i j i-in j-in in
      of_order r law n.counts log accepts (λ B. IsTrue v ↔ B i j) (λ B C same d. (λ e. (same i j).0 (d.0 e), λ b. d.1 ((same i j).1 b)))
      (λ e. order.1 (leb-true _ _ (sym test ∙ e)), λ b. test ∙ le-leb _ _ (order.0 b))

  few : 0 + length (found r n.counts log) ≤ most
  few = omega (arith, below_few (unseen r n.counts log) (length log), mul-le-mul short short)

  pairs_are : (book n).tables.pairs ≡ all_added (empty s.pairs) (found r n.counts log)
  pairs_are = f.pairs ∙ ap (λ (x : Counts). all_added (empty s.pairs) (found r x log)) (sym counts_are)

  listed : Lists (Before r n.counts.locks log) log (found r n.counts log)
  listed = found_list r law n.counts log accepts.inside

  pub tells_total : (answer : ℕ) → answer ≡ (book n).tables.pairs.total → TellsTotal answer n.counts r log
  tells_total answer is =
      let all : length (found r n.counts log) ≡ answer =
      sym (is ∙ (ap (λ (k : Kept PositionPair). k.total) pairs_are ∙ (total_all_added (empty s.pairs) (found r n.counts log) few ∙ zero-add _))) in
      of_order r law n.counts log accepts (λ B. Total B log answer) (λ B C same. total_as same)
      (record { list = found r n.counts log; lists = listed; counts = all })

  pub tells_pair : (m : ℕ) (answer : Result PositionPair NotebookFault) → answer ≡ pair_answer (book n) m
      → TellsPair (length (book n).tables.pairs.table) m answer n.counts r log
  tells_pair m answer is =
      let all = found r n.counts log in
      let places : length (book n).tables.pairs.table ≡ length s.pairs =
      ap (λ (k : Kept PositionPair). length k.table) pairs_are ∙ length_all_added (empty s.pairs) all in
      let held : records (book n).tables.pairs ≡ take (length (book n).tables.pairs.table) all =
      ap records pairs_are ∙ (records_all_added (empty s.pairs) all few ∙ ap (λ (q : ℕ). take q all) (sym places)) in
      of_order r law n.counts log accepts
      (λ B. (ps : List PositionPair) → Lists B log ps → answer ≡ pair_found (slice_get (take (length (book n).tables.pairs.table) ps) m))
      (λ B C same p ps lists. p ps (lists_as (turned same) lists))
      (λ ps lists. is ∙ (ap (λ (xs : List PositionPair). pair_found (slice_get xs m)) held
      ∙ ap (λ (xs : List PositionPair). pair_found (slice_get (take (length (book n).tables.pairs.table) xs) m)) (lists_one _ log all ps listed lists)))

module _ (n : Notebook) where
  pub in_every_run : (P : OrderRule → List Event → Type 0)
      → ((s : Start) (r : OrderRule) (law : Lawful r) (log : List Event) (rows : Rows) → Follows s r law log rows (book n) → P r log) → InEveryRun n P
  in_every_run P tells s r calls rows law run = tells s r law (accepted_by s r calls) rows (follows s r law calls rows n run)
