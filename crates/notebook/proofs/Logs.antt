-- The events of a log, by places. Assumes nothing.
use Rattle.std.proofs.Common.{◌≡◌, ℕ, ◌<◌, ◌≤◌, length, get_or, Some, ap, ◌∙◌, arith}
use Rattle.std.specs.List.{slice_get}
use Rattle.std.proofs.lemmas.List.{length-take, length-map, get_or-take, get_or-map}
use Rattle.keep_list.specs.Kept.{Kept, records}
use Rattle.keep_list.proofs.Records.{held_at}
use Rattle.orders.specs.Traces.{no_event, event}
use Rattle.notebook.specs.declared.log.LoggedEvent.{LoggedEvent}
use Rattle.notebook.specs.Books.{logged_events}
use Rattle.notebook.specs.Places.{no_logged_event}

module _ (log : Kept LoggedEvent) (whole : log.total ≤ length log.table) where
  pub length_events : length (logged_events log) ≡ log.total
  length_events = length-map (records log) _ ∙ (length-take log.total log.table ∙ omega arith)

  pub event_at : (i : ℕ) → i < log.total → event (logged_events log) i ≡ (get_or log.table i no_logged_event).event
  event_at i h =
      get_or-map (λ (x : LoggedEvent). x.event) (records log) i no_logged_event no_event (simp length-take (omega arith))
      ∙ ap (λ (x : LoggedEvent). x.event) (get_or-take log.total log.table i no_logged_event h)

  -- the record that a keep-list tells
  pub record_at : (i : ℕ) (x : LoggedEvent) → i < log.total → Some x ≡ slice_get (records log) i → x ≡ get_or log.table i no_logged_event
  record_at i x h is = let at = held_at log.table log.total i no_logged_event h (omega arith) in cc
