-- What timers show, when their condition holds, and the edges of clocks, worked out by hand.
use Rattle.std.specs.Prelude.{ℕ, zero, suc, ◌≡◌, ◌+◌, Bool, true, false, List, [], ◌∷◌, ◌++◌, map, replicate}
use Rattle.xs_base.specs.Numbers.{Slot, Word}
use Rattle.xs_model.specs.declared.clock.Clock.{Clock}
use Rattle.xs_model.specs.declared.clock.Clock.TheVariants.{Reference, Block}
use Rattle.xs_model.specs.declared.clock.Edge.{Edge}
use Rattle.xs_model.specs.declared.clock.Edge.TheVariants.{Rise, Fall}
use Rattle.xs_model.specs.declared.clock.Edge.TheVariants as edge
use Rattle.xs_model.specs.Record.{ClockRec, off_clock}
use Rattle.xs_model.specs.Time.{time_at, is_after, edge_at}

-- ---- Timers

-- a step every four slots, and round all times
pub record WorkedTimes : Type 0 where
  pub first_slots : map time_at (0 ∷ 1 ∷ 2 ∷ 3 ∷ 4 ∷ 5 ∷ 7 ∷ 8 ∷ 11 ∷ 12 ∷ []) ≡ 0 ∷ 0 ∷ 0 ∷ 0 ∷ 1 ∷ 1 ∷ 1 ∷ 2 ∷ 2 ∷ 3 ∷ []
  -- the slots up to 2^32 and on from there
  pub late_slots : map time_at (0xfffffffb ∷ 0xfffffffc ∷ 0xffffffff ∷ 0x100000000 ∷ 0x100000003 ∷ 0x100000004 ∷ []) ≡
      0x3ffffffe ∷ 0x3fffffff ∷ 0x3fffffff ∷ 0x40000000 ∷ 0x40000000 ∷ 0x40000001 ∷ []
  -- the slots in which the time is the greatest, and then 0 again
  pub wraps : map time_at (0x3fffffffb ∷ 0x3fffffffc ∷ 0x3ffffffff ∷ 0x400000000 ∷ 0x400000004 ∷ []) ≡
      0xfffffffe ∷ 0xffffffff ∷ 0xffffffff ∷ 0 ∷ 1 ∷ []

-- the times around 0, half of all times, and the greatest
abbrev pub times_around : List Word
times_around =
    0 ∷ 1 ∷ 2 ∷
    0x7ffffffe ∷ 0x7fffffff ∷ 0x80000000 ∷ 0x80000001 ∷ 0x80000002 ∷
    0xfffffffd ∷ 0xfffffffe ∷ 0xffffffff ∷ []

-- which of those times are after a value
abbrev pub after : Word → List Bool
after x = map (is_after x) times_around

-- true from the time after the value on, and false again half of all times after the value: each row has the three groups
pub record WorkedAfter : Type 0 where
  pub value_0 : after 0 ≡
      false ∷ true ∷ true ∷
      true ∷ true ∷ false ∷ false ∷ false ∷
      false ∷ false ∷ false ∷ []
  pub value_1 : after 1 ≡
      false ∷ false ∷ true ∷
      true ∷ true ∷ true ∷ false ∷ false ∷
      false ∷ false ∷ false ∷ []
  pub before_half : after 0x7fffffff ≡
      false ∷ false ∷ false ∷
      false ∷ false ∷ true ∷ true ∷ true ∷
      true ∷ true ∷ false ∷ []
  pub half : after 0x80000000 ≡
      false ∷ false ∷ false ∷
      false ∷ false ∷ false ∷ true ∷ true ∷
      true ∷ true ∷ true ∷ []
  pub after_half : after 0x80000001 ≡
      true ∷ false ∷ false ∷
      false ∷ false ∷ false ∷ false ∷ true ∷
      true ∷ true ∷ true ∷ []
  pub before_greatest : after 0xfffffffe ≡
      true ∷ true ∷ true ∷
      false ∷ false ∷ false ∷ false ∷ false ∷
      false ∷ false ∷ true ∷ []
  pub greatest : after 0xffffffff ≡
      true ∷ true ∷ true ∷
      true ∷ false ∷ false ∷ false ∷ false ∷
      false ∷ false ∷ false ∷ []

-- ---- Clocks

-- a clock block that runs with this divider, and one that does not
abbrev pub runs_by : ℕ → ClockRec
runs_by divider = record { on = true; divider = divider; running = true }

abbrev pub rests_by : ℕ → ClockRec
rests_by divider = record { on = true; divider = divider; running = false }

-- clock blocks 0 to 3 run with the dividers 0, 1, 2 and 255; block 4 does not run, and block 5 is off
abbrev pub six_blocks : List ClockRec
six_blocks = runs_by 0 ∷ runs_by 1 ∷ runs_by 2 ∷ runs_by 255 ∷ rests_by 1 ∷ off_clock ∷ []

-- a clock's edges in so many slots, from one on
abbrev pub edges_from : Clock → Slot → ℕ → List Edge
edges_from clock slot zero = []
edges_from clock slot (suc count) = edge_at six_blocks clock slot ∷ edges_from clock (slot + 1) count

-- so many slots without an edge
abbrev pub none : ℕ → List Edge
none count = replicate count edge.None

-- an edge, and so many slots without one
abbrev pub with_rest : Edge → ℕ → List Edge
with_rest edge count = edge ∷ none count

-- slots 0 to 8
abbrev pub every_four : List Edge
every_four = with_rest Rise 1 ++ (with_rest Fall 1 ++ (with_rest Rise 1 ++ (with_rest Fall 1 ++ (Rise ∷ []))))

pub record WorkedEdges : Type 0 where
  pub reference : edges_from Reference 0 9 ≡ every_four
  pub divider_0 : edges_from (Block 0) 0 9 ≡ every_four
  pub divider_1 : edges_from (Block 1) 0 17 ≡
      with_rest Rise 3 ++ (with_rest Fall 3 ++ (with_rest Rise 3 ++ (with_rest Fall 3 ++ (Rise ∷ []))))
  pub divider_2 : edges_from (Block 2) 0 33 ≡
      with_rest Rise 7 ++ (with_rest Fall 7 ++ (with_rest Rise 7 ++ (with_rest Fall 7 ++ (Rise ∷ []))))
  -- a period of 2040 slots
  pub divider_255 : edges_from (Block 3) 0 2041 ≡ with_rest Rise 1019 ++ (with_rest Fall 1019 ++ (Rise ∷ []))
  pub third_period : edges_from (Block 3) 5099 3 ≡ edge.None ∷ Fall ∷ edge.None ∷ []
  pub does_not_run : edges_from (Block 4) 0 17 ≡ none 17
  pub is_off : edges_from (Block 5) 0 17 ≡ none 17
  -- the last slots below 2^32, which is a multiple of 16
  pub late_reference : edges_from Reference 0xfffffffc 4 ≡ with_rest Rise 1 ++ with_rest Fall 1
  pub late_divider_2 : edges_from (Block 2) 0xfffffff0 16 ≡ with_rest Rise 7 ++ with_rest Fall 7

pub record WorkedTime : Type 0 where
  pub times : WorkedTimes
  pub after : WorkedAfter
  pub edges : WorkedEdges
