-- Verdicts, and what a tally counts. Assumes nothing.
use Rattle.std.specs.Prelude.{ℕ, ◌+◌, ◌-◌, ◌^◌, min, Bool, if◌then◌else◌, List, [], ◌∷◌, ◌++◌, codes, decimal, bytes_eq}
use Rattle.run_script.specs.declared.tally.Tally.{Tally}
use Rattle.run_script.specs.declared.tally.Verdict.{Verdict}
use Rattle.run_script.specs.declared.tally.Verdict.TheVariants.{NothingExpected, AsExpected, Differs}

abbrev pub verdict_text : Verdict → List ℕ
verdict_text NothingExpected = []
verdict_text AsExpected = codes " as expected"
verdict_text Differs = codes " DIFFERS"

abbrev pub verdict_if : Bool → Verdict
verdict_if holds = if holds then AsExpected else Differs

-- a question mark
abbrev pub open_mark : List ℕ
open_mark = 63 ∷ []

-- nothing is expected where a script has a question mark
abbrev pub verdict_of : List ℕ → List ℕ → Verdict
verdict_of found expected = if bytes_eq expected open_mark then NothingExpected else verdict_if (bytes_eq found expected)

-- the sum, or the largest number of 32 bits
abbrev pub total : ℕ → ℕ → ℕ
total a b = min (a + b) (2 ^ 32 - 1)

-- a tally with a verdict more
abbrev pub counted : Verdict → Tally → Tally
counted NothingExpected t = t
counted AsExpected t = record t { compared = total t.compared 1 }
counted Differs t = record t { compared = total t.compared 1; differ = total t.differ 1 }

-- a tally with a run of so many events more
abbrev pub one_order_more : ℕ → Tally → Tally
one_order_more events t = record t { orders = total t.orders 1; events = total t.events events }

abbrev pub tally_text : Tally → List ℕ
tally_text t = decimal t.orders ++ (codes " runs of " ++ (decimal t.events ++ (codes " events, "
    ++ (decimal t.compared ++ (codes " results compared, " ++ (decimal t.differ ++ codes " differ"))))))
