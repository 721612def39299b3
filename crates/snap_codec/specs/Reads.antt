-- What the reader returns: what bytes stand for, unless memory was wanting.
use Rattle.std.specs.Prelude.{ℕ, ◌≡◌, Result, Ok, Err, List}
use Rattle.byte_forms.specs.declared.fault.Fault.{Fault}
use Rattle.byte_forms.specs.declared.fault.Fault.TheVariants as fault
use Rattle.byte_forms.specs.Forms.{Form, read_whole}
use Rattle.snap_codec.specs.Snaps.{SnapRec, SnapRead, byte_at}
use Rattle.snap_codec.specs.Snaps as read
use Rattle.snap_codec.specs.declared.snap_kind.SnapKind.{SnapKind}
use Rattle.snap_codec.specs.declared.snap_kind.SnapKind.TheVariants.{BadSnapshot}
use Rattle.snap_codec.specs.declared.snap_kind.SnapError.{SnapError}
use Rattle.snap_codec.specs.declared.snap_kind.SnapError.TheVariants as error

-- all of the bytes are what the form reads, seen by `view`
abbrev pub GivesWhole : {X A : Type 0} → Form A → (X → A) → List ℕ → Result X Fault → Type 0
GivesWhole form view bytes (Ok x) = read_whole form bytes ≡ Ok (view x)
GivesWhole form view bytes (Err (fault.Wrong left)) = read_whole form bytes ≡ Err left
GivesWhole form view bytes (Err fault.Memory) = Unit {0}

-- the fault of a field as that of a snapshot of so many bytes
abbrev pub told : ℕ → Fault → SnapError
told count (fault.Wrong left) = error.Fault (byte_at count left) BadSnapshot
told count fault.Memory = error.Memory

-- the snapshot or the fault that bytes stand for
abbrev pub ReadsSnap : SnapRead → Result SnapRec SnapError → Type 0
ReadsSnap bytes (Ok snap) = bytes ≡ read.Snap snap
ReadsSnap bytes (Err (error.Fault byte kind)) = bytes ≡ read.Fault byte kind
ReadsSnap bytes (Err error.Memory) = Unit {0}

-- this snapshot
abbrev pub GivesSnap : SnapRec → Result SnapRec SnapError → Type 0
GivesSnap snap (Ok given) = given ≡ snap
GivesSnap snap (Err e) = e ≡ error.Memory

-- this fault
abbrev pub RefusesSnap : ℕ → SnapKind → Result SnapRec SnapError → Type 0
RefusesSnap byte kind (Ok snap) = ⊥
RefusesSnap byte kind (Err (error.Fault b k)) = (b ≡ byte) × (k ≡ kind)
RefusesSnap byte kind (Err error.Memory) = Unit {0}
