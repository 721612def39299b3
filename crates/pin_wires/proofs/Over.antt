-- The levels of wires over those of the script.
use Rattle.std.proofs.Common.{ℕ, ◌≡◌, ◌<◌, ◌≤◌, ◌^◌, Bool, true, false, cond, List, length, get_or, map, sym, ◌∙◌, subst, arith}
use Rattle.std.specs.List.{range_with_len}
use Rattle.std.proofs.lemmas.List.FromFn.{fill_by_all, length-map-range_with_len, get_or-map-range_with_len}
use Rattle.xs_base.specs.Ids.{port_width}
use Rattle.xs_base.specs.Numbers.{Word, PortNumber}
use Rattle.xs_model.specs.Masks.{in_mask}
use Rattle.xs_model.specs.Outside.{LevelsFit}
use Rattle.pin_wires.specs.Wires.{level_over, levels_over}
use Rattle.pin_wires.proofs.Fit.{fit-at, each-fits}

-- they are what any rule says that says so of each port
pub over-by : (wired : ℕ) (came script : List Word) (level : PortNumber → Word) → ((port : PortNumber) → port < 29 → level_over wired came script port ≡ level port)
    → levels_over wired came script ≡ map level (range_with_len 0 29)
over-by wired came script level each =
    fill_by_all level (levels_over wired came script) 29 0 (length-map-range_with_len (level_over wired came script) 0 29) (λ port within.
    get_or-map-range_with_len (level_over wired came script) 0 29 port port 0 within (omega arith) ∙ each port within)

-- the ports below one were looked at
pub record AreOverBelow (wired : ℕ) (came script : List Word) (port : PortNumber) (now : List Word) : Type 0 where
  pub long : length now ≡ length script
  pub below : (k : PortNumber) → k < port → get_or now k 0 ≡ level_over wired came script k
  pub rest : (k : PortNumber) → port ≤ k → get_or now k 0 ≡ get_or script k 0

module _ (wired : ℕ) (came script : List Word) where
  -- all were
  pub all-over : (port : PortNumber) (now : List Word) → 29 ≤ port → length script ≡ 29 → AreOverBelow wired came script port now → now ≡ levels_over wired came script
  all-over port now all long so-far = fill_by_all (level_over wired came script) now 29 0 (so-far.long ∙ long) (λ k l. so-far.below k (omega (arith, l, all)))

  -- they fit where both do
  level-fits : (port : PortNumber) (is : Bool) → get_or came port 0 < 2 ^ port_width port → get_or script port 0 < 2 ^ port_width port
      → cond is (get_or came port 0) (get_or script port 0) < 2 ^ port_width port
  level-fits port true c s = c
  level-fits port false c s = s

  pub over-fits : length came ≡ 29 → length script ≡ 29 → LevelsFit came → LevelsFit script → LevelsFit (levels_over wired came script)
  over-fits c s came-fits script-fits = each-fits (levels_over wired came script) (λ port l.
      let within : port < 29 = omega (arith, l, length-map-range_with_len (level_over wired came script) 0 29) in
      subst (λ level. level < 2 ^ port_width port) (sym (get_or-map-range_with_len (level_over wired came script) 0 29 port port 0 within (omega arith)))
      (level-fits port (in_mask wired port) (fit-at came port (omega (arith, within, c)) came-fits) (fit-at script port (omega (arith, within, s)) script-fits)))
