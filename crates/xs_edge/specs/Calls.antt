-- The reads and writes that a source and a sink make of their stream.
use Prim.Native.Nat.{zero, suc}
use Rattle.std.specs.Prelude.{ℕ, ◌≡◌, ◌≢◌, ◌<◌, ◌⊎◌, ◌-◌, ◌^◌, List, length, Result, Ok, Err, IsErr}
use Rattle.std.specs.IoError.{error_kind}
use Rattle.std.specs.declared.io.Error.{Error}
use Rattle.std.specs.declared.io.ErrorKind.TheVariants.{Interrupted}
use Rattle.xs_edge.specs.Edge.{HasRisen}
use Rattle.xs_edge.specs.declared.Failed.{Failed}

-- What one call may answer and leave behind, by what it is given: a read by the length of its buffer, a write by its piece.
abbrev pub Gives : Type 0 → Type 0 → Type 1
Gives S A = S → A → Result ℕ Error → S → Type 0

-- so many calls in a row, each cut short by a signal, lead from one state of the stream to the other
abbrev pub Interruptions : {S A : Type 0} → Gives S A → A → ℕ → S → S → Type 0
Interruptions gives given zero from to = from ≡ to
Interruptions {S} gives given (suc n) from to =
    (mid : S) × Interruptions gives given n from mid × (error : Error) × (error_kind error ≡ Interrupted) × gives mid given (Err error) to

-- What is answered tells what the call answered, by a relation of the two. The call is made again as often as a signal cut
-- it short; after 2^64 - 1 of these the answer is Failed.
abbrev pub Tells : {S A : Type 0} → Gives S A → (Result ℕ Error → Result ℕ Failed → Type 0) → S → A → Result ℕ Failed → S → Type 0
Tells {S} gives told from given answered to =
    (n : ℕ) × (mid : S) × Interruptions gives given n from mid
    × (((call : Result ℕ Error) × gives mid given call to × told call answered) ⊎ ((n ≡ 2 ^ 64 - 1) × (mid ≡ to) × IsErr answered))

-- Failed for an error that is no interruption
abbrev pub IsFault : Error → Result ℕ Failed → Type 0
IsFault error answered = (error_kind error ≢ Interrupted) × IsErr answered

-- what is told of a read: its count, or that it failed
abbrev pub ToldOfRead : Result ℕ Error → Result ℕ Failed → Type 0
ToldOfRead (Ok count) answered = answered ≡ Ok count
ToldOfRead (Err error) answered = IsFault error answered

-- what is told of a write: its count, or that it failed, or took nothing of a piece that isn't empty
abbrev pub ToldOfWrite : List ℕ → Result ℕ Error → Result ℕ Failed → Type 0
ToldOfWrite piece (Ok count) answered = (answered ≡ Ok count) ⊎ ((count ≡ 0) × (0 < length piece) × IsErr answered)
ToldOfWrite piece (Err error) answered = IsFault error answered

-- the answer of a source over a reader
abbrev pub TellsRead : {R : Type 0} → Gives R ℕ → R → ℕ → Result ℕ Failed → R → Type 0
TellsRead gives from room answered to = Tells gives ToldOfRead from room answered to

-- the answer of a sink over a writer
abbrev pub TellsWrite : {W : Type 0} → Gives W (List ℕ) → W → List ℕ → Result ℕ Failed → W → Type 0
TellsWrite gives from piece answered to = Tells gives (ToldOfWrite piece) from piece answered to

-- a call raises the count of calls, but for one that a signal cut short, which leaves it
abbrev pub CountsCall : ℕ → Result ℕ Error → ℕ → Type 0
CountsCall old (Ok _) new = HasRisen old new
CountsCall old (Err error) new = (error_kind error ≡ Interrupted → new ≡ old) × (error_kind error ≢ Interrupted → HasRisen old new)
