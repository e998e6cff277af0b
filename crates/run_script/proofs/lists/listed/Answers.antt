use Rattle.std.proofs.Common.{arith}
use Rattle.std.proofs.lemmas.Bool.Decides.{nat_tests}
use Rattle.std.proofs.lemmas.Iterator.{YieldsList-from_slice}
use Rattle.run_script.proofs.Listing.{listed_from_run}
use Rattle.run_script.proofs.lists.listed.Goals as goal

pub returns : goal.returns
returns c = listed_from_run c.args.pieces.now (grind (arith, nat_tests)) (YieldsList-from_slice _ c.iter.ensures.rest) _ c.join.ensures.text
