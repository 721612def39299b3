-- What the caller learns of each outcome, from which one stands.
use Rattle.std.proofs.Common.{◌≡◌, ℕ, Result, Ok, Err, refl}
use Rattle.snap_codec.specs.Snaps as read
use Rattle.snap_codec.specs.Snaps.{SnapRec, SnapRead}
use Rattle.snap_codec.specs.Reads.{ReadsSnap, GivesSnap, RefusesSnap}
use Rattle.snap_codec.specs.declared.snap_kind.SnapKind.{SnapKind}
use Rattle.snap_codec.specs.declared.snap_kind.SnapError.{SnapError}
use Rattle.snap_codec.specs.declared.snap_kind.SnapError.TheVariants.{Fault, Memory}

pub gives_snap : (r : Result SnapRec SnapError) (bytes : SnapRead) (snap : SnapRec) → ReadsSnap bytes r → bytes ≡ read.Snap snap → GivesSnap snap r
gives_snap (Ok given) bytes snap h e = cc
gives_snap (Err Memory) bytes snap h e = refl
gives_snap (Err (Fault b k)) bytes snap h e = cc

pub refuses_snap : (r : Result SnapRec SnapError) (bytes : SnapRead) (byte : ℕ) (kind : SnapKind) → ReadsSnap bytes r → bytes ≡ read.Fault byte kind → RefusesSnap byte kind r
refuses_snap (Ok given) bytes byte kind h e = cc
refuses_snap (Err Memory) bytes byte kind h e = tt
refuses_snap (Err (Fault b k)) bytes byte kind h e = (cc, cc)

pub ruleset outcomes = (gives_snap, refuses_snap)
