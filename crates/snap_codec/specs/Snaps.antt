-- Snapshots as bytes: the line that they begin with, the system text, and all else.
use Rattle.std.specs.Prelude.{ℕ, ◌≡◌, ◌-◌, nat_lt, if◌then◌else◌, List, ◌++◌, length, Result, Ok, Err, bytes_eq, codes}
use Rattle.sys_plan.specs.Plan.{PlanRec}
use Rattle.system_model.specs.System as stands
use Rattle.system_model.specs.System.{System, system_of}
use Rattle.snap_parts.specs.Parts.{BodyRec}
use Rattle.byte_forms.specs.Forms.{Form, word, bytes, where_is, both, counted, seen_as, read_whole}
use Rattle.snap_codec.specs.Body.{body}
use Rattle.snap_codec.specs.declared.snap_kind.SnapKind.{SnapKind}
use Rattle.snap_codec.specs.declared.snap_kind.SnapKind.TheVariants.{BadSnapshot, SystemRefused, TooLong}

-- ---- The first line and the text

-- the first line, with its line feed
abbrev pub first_line : List ℕ
first_line = codes "xs1 snapshot 1\n"

-- it is one field
unfoldable pub line : Form (List ℕ)
line = where_is (bytes 15) (λ line. bytes_eq line first_line)

-- a text, as one field after its length
unfoldable pub text_field : Form (List ℕ)
text_field = counted word bytes

abbrev pub text_of : List ℕ × List ℕ → List ℕ
text_of p = p.1

abbrev pub with_line : List ℕ → List ℕ × List ℕ
with_line text = (first_line, text)

-- the first line and the system text
unfoldable pub head : Form (List ℕ)
head = seen_as (both line (λ line. text_field)) text_of with_line

-- where the text begins
abbrev pub text_at : ℕ
text_at = 19

-- ---- Snapshots

-- a system text, and what a run of it has come to
pub record SnapRec : Type 0 where
  pub text : List ℕ
  pub body : BodyRec

-- what bytes stand for: a snapshot, or a fault at a byte
pub data SnapRead : Type 0 where
  Snap : (snap : SnapRec) → SnapRead
  Fault : (byte : ℕ) (kind : SnapKind) → SnapRead

-- the byte at which so many are left, of so many in all
abbrev pub byte_at : (count left : ℕ) → ℕ
byte_at count left = count - left

-- a snapshot of a text, where all after it is read
abbrev pub snap_with : ℕ → List ℕ → Result BodyRec ℕ → SnapRead
snap_with count text (Ok body) = Snap (record { text = text; body = body })
snap_with count text (Err left) = Fault (byte_at count left) BadSnapshot

-- the same, by what the text stands for. A system that is refused is told at the first byte of its text
abbrev pub snap_by : ℕ → List ℕ → List ℕ → System → SnapRead
snap_by count text rest (stands.Plan plan) = snap_with count text (read_whole (body plan) rest)
snap_by count text rest _ = Fault text_at SystemRefused

-- the same, where the first line and the text are read
abbrev pub snap_after : ℕ → Result (List ℕ × List ℕ) ℕ → SnapRead
snap_after count (Ok p) = snap_by count p.0 p.1 (system_of p.0)
snap_after count (Err left) = Fault (byte_at count left) BadSnapshot

-- a snapshot may have so many bytes
abbrev pub longest_snapshot : ℕ
longest_snapshot = 8388608

-- what bytes stand for: the first of its faults in the order of too many bytes, the first line and the text's length, the text, and all else
unfoldable pub snap_of : List ℕ → SnapRead
snap_of all = if nat_lt longest_snapshot (length all) then Fault 0 TooLong else snap_after (length all) (head.read all)

-- ---- Written

-- the bytes of a snapshot whose text has this plan
unfoldable pub snap_bytes : PlanRec → SnapRec → List ℕ
snap_bytes plan snap = head.write snap.text ++ (body plan).write snap.body

-- a snapshot of this plan: its text is that of the plan, and what a run of it has come to has the form
pub record IsSnap (plan : PlanRec) (snap : SnapRec) : Type 0 where
  pub system : system_of snap.text ≡ stands.Plan plan
  pub text : head.Holds snap.text
  pub body : (body plan).Holds snap.body

-- a snapshot of some plan
pub record IsSnapOfSome (snap : SnapRec) : Type 0 where
  pub plan : PlanRec
  pub is : IsSnap plan snap
