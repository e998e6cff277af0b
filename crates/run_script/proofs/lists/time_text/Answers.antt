use Rattle.std.proofs.Common.{rules}
use Rattle.std.proofs.lemmas.Iterator.{YieldsList-from_slice}
use Rattle.run_script.proofs.Listing.{numbers_from_run}
use Rattle.run_script.proofs.lists.time_text.Goals as goal

pub returns : goal.returns
returns c =
    rw (← numbers_from_run c.args.time.now (YieldsList-from_slice _ c.iter.ensures.rest) _ c.in_ok-entries.ensures.text) (search rules)
