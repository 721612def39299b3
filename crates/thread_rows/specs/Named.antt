-- What of a core a word names, as rows on threads take it.
use Rattle.std.specs.Prelude.{ℕ, if◌then◌else◌, Option, Some, None}
use Rattle.xs_base.specs.Numbers.{ThreadNumber}
use Rattle.xs_model.specs.declared.resource.Resource.{Resource}
use Rattle.xs_model.specs.declared.resource.Resource.TheVariants as resource
use Rattle.xs_model.specs.Record.{CoreRec, sync_of}
use Rattle.xs_model.specs.Syncs.{is_thread}

-- the thread that was named, if one was
abbrev pub named_thread : Option Resource → Option ThreadNumber
named_thread (Some (resource.Thread j)) = Some j
named_thread _ = None

-- the synchroniser that was named, if the thread is its master
abbrev pub mastered : CoreRec → ThreadNumber → Option Resource → Option ℕ
mastered core k (Some (resource.Sync n)) = if is_thread k (sync_of core n).master then Some n else None
mastered core k _ = None
