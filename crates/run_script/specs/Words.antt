-- What is read of a line's words, one after another. Assumes nothing.
use Rattle.std.specs.Prelude.{◌≡◌, ◌≢◌, ℕ, ◌^◌, ◌<◌, ◌⊎◌, Bool, List, ◌++◌, codes, bytes_eq, Option, None, Result, Ok, Err, IfErr, MatchResult, MatchBool}
use Rattle.std.specs.Borrow.{Bor}
use Rattle.std.specs.Option.{ok_or}
use Rattle.std.specs.Result.{OkIff}
use Rattle.std.specs.Str.Iter.{split_whitespace_steps}
use Rattle.std.specs.Str.Pattern.{FindsText, SplitsAroundMatch}
use Rattle.std.specs.Str.Parse.{IsNumeral, IsParseIntError, digits_value, error_kind, without_leading_plus}
use Rattle.std.specs.declared.num.ParseIntError.{ParseIntError}
use Rattle.std.specs.declared.num.IntErrorKind.TheVariants.{PosOverflow}
use Rattle.std.specs.declared.str.SplitWhitespace.{SplitWhitespace}
use Rattle.events.specs.declared.event.Event.{Event}
use Rattle.events.specs.declared.event.Operation.{Operation}
use Rattle.events.specs.declared.event.Operation.TheVariants.{Read, Write, Acquire, Release}
use Rattle.orders.specs.declared.counts.Counts.{Counts}
use Rattle.run_script.specs.declared.fault.ScriptError.{ScriptError}
use Rattle.run_script.specs.declared.fault.ScriptError.TheVariants.{EndsEarly, OtherLabel, NotNumbered, NoSuchOperation, NoTimes, NoPairs, Number}
use Rattle.run_script.specs.declared.words.OrderLine.{OrderLine}

-- what a reader of an A may do: the words that there are, the answer, and the words that it leaves
abbrev pub Reader : Type 0 → Type 1
Reader A = SplitWhitespace → Result A ScriptError → SplitWhitespace → Type 0

-- it reads nothing, and gives this answer
abbrev pub Gives : {A : Type 0} → Result A ScriptError → Reader A
Gives answer s r t = (r ≡ answer) × (t ≡ s)

-- it reads by the first, and goes on by what that gave; a refusal is its own, and it reads no further
abbrev pub Then : {A B : Type 0} → Reader A → (A → Reader B) → Reader B
Then {A} first next s r t = (a : Result A ScriptError) × (u : SplitWhitespace) × first s a u
    × MatchResult a (λ x. next x u r t) (λ e. Gives (Err e) u r t)

-- it reads by the first where a test holds, and else by the second
abbrev pub Either : {A : Type 0} → Bool → Reader A → Reader A → Reader A
Either test first second s r t = MatchBool test (first s r t) (second s r t)

-- the next word
abbrev pub ReadsWord : Reader (Bor (List ℕ))
ReadsWord s r t = (found : Option (Bor (List ℕ))) × split_whitespace_steps s found t × (r ≡ ok_or found EndsEarly)

-- a label, and the word behind it
abbrev pub ReadsLabelled : List ℕ → Reader (Bor (List ℕ))
ReadsLabelled label = Then ReadsWord (λ found. Either (bytes_eq found.now label) ReadsWord (Gives (Err OtherLabel)))

-- the number that digits write
abbrev pub number_of : List ℕ → ℕ
number_of digits = digits_value 10 (without_leading_plus digits)

-- decimal digits of a number of 16 bits, which a `+` may lead
pub record IsShort (digits : List ℕ) : Type 0 where
  pub digit : IsNumeral 10 (without_leading_plus digits)
  pub short : number_of digits < 2 ^ 16

-- the fault has what is wrong with digits: none is there, one is no digit, or the number is too large
abbrev pub TellsCause : List ℕ → ScriptError → Type 0
TellsCause digits e = (cause : ParseIntError) × (e ≡ Number cause)
    × IsParseIntError 10 digits (without_leading_plus digits) PosOverflow (error_kind cause)

-- the number of a text, where it is one of 16 bits, or a fault that has what is wrong with it
abbrev pub IsNumberOf : List ℕ → Result ℕ ScriptError → Type 0
IsNumberOf digits r = OkIff r (IsShort digits) (number_of digits) × IfErr r (TellsCause digits)

abbrev pub ReadsLabelledNumber : List ℕ → Reader ℕ
ReadsLabelledNumber label = Then (ReadsLabelled label) (λ digits s r t. IsNumberOf digits.now r × (t ≡ s))

-- `threads K locks L variables X`
abbrev pub ReadsCounts : Reader Counts
ReadsCounts = Then (ReadsLabelledNumber (codes "threads")) (λ k. Then (ReadsLabelledNumber (codes "locks")) (λ l.
    Then (ReadsLabelledNumber (codes "variables")) (λ x. Gives (Ok (record { threads = k; locks = l; variables = x })))))

-- the number behind a letter, where the text has that letter and a number
pub record IsNumberBehind (letter text : List ℕ) (r : Result ℕ ScriptError) : Type 0 where
  pub behind : (digits : List ℕ) → text ≡ letter ++ digits → IsNumberOf digits r
  pub elsewhere : ((digits : List ℕ) → text ≢ letter ++ digits) → r ≡ Err NotNumbered

abbrev pub ReadsNumberBehind : List ℕ → Reader ℕ
ReadsNumberBehind letter = Then ReadsWord (λ word s r t. IsNumberBehind letter word.now r × (t ≡ s))

-- an operation on the object whose number is read
abbrev pub ReadsObject : List ℕ → (ℕ → Operation) → Reader Operation
ReadsObject letter operation = Then (ReadsNumberBehind letter) (λ number. Gives (Ok (operation number)))

abbrev pub ReadsOperationNamed : List ℕ → Reader Operation
ReadsOperationNamed name = Either (bytes_eq name (codes "read")) (ReadsObject (codes "v") Read)
    (Either (bytes_eq name (codes "write")) (ReadsObject (codes "v") Write)
    (Either (bytes_eq name (codes "acquire")) (ReadsObject (codes "l") Acquire)
    (Either (bytes_eq name (codes "release")) (ReadsObject (codes "l") Release)
    (Gives (Err NoSuchOperation)))))

abbrev pub ReadsOperation : Reader Operation
ReadsOperation = Then ReadsWord (λ name. ReadsOperationNamed name.now)

-- `t0 write v0`
abbrev pub ReadsEvent : Reader Event
ReadsEvent = Then (ReadsNumberBehind (codes "t")) (λ t. Then ReadsOperation (λ o. Gives (Ok (record { thread = t; operation = o }))))

-- front and back are what stands before and behind the first of these marks
abbrev pub SplitsAt : List ℕ → List ℕ → List ℕ → List ℕ → Type 0
SplitsAt mark text front back = SplitsAroundMatch (FindsText mark) text front back

-- no such mark stands in the text
abbrev pub Lacks : List ℕ → List ℕ → Type 0
Lacks mark text = FindsText mark text None

-- the three parts of a line `R times .. / pairs ..`
abbrev pub IsOrderLine : List ℕ → OrderLine → Type 0
IsOrderLine line o = (rest : List ℕ) × SplitsAt (codes " times ") line o.number.now rest × SplitsAt (codes "/ pairs ") rest o.times.now o.pairs.now

-- which mark the line has not
abbrev pub IsNoOrderLine : List ℕ → ScriptError → Type 0
IsNoOrderLine line e = ((e ≡ NoTimes) × Lacks (codes " times ") line)
    ⊎ ((e ≡ NoPairs) × ((number : List ℕ) × (rest : List ℕ) × SplitsAt (codes " times ") line number rest × Lacks (codes "/ pairs ") rest))

abbrev pub SplitsOrder : List ℕ → Result OrderLine ScriptError → Type 0
SplitsOrder line r = MatchResult r (IsOrderLine line) (IsNoOrderLine line)
