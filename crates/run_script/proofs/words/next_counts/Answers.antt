use Rattle.std.proofs.Common.{rules}
use Rattle.run_script.proofs.words.next_counts.Goals as goal

pub returns-in_err-next_number-2 : goal.returns-in_err-next_number-2
returns-in_err-next_number-2 c =
    (_, _, c.next_number.ensures, rw c.in_ok-next_number.was (_, _, c.next_number-2.ensures, rw c.in_err-next_number-2.was (search rules)))

pub returns-in_err-next_number-3 : goal.returns-in_err-next_number-3
returns-in_err-next_number-3 c =
    (_, _, c.next_number.ensures, rw c.in_ok-next_number.was (_, _, c.next_number-2.ensures, rw c.in_ok-next_number-2.was (_, _, c.next_number-3.ensures, rw c.in_err-next_number-3.was (search rules))))
