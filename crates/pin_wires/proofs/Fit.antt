-- Levels that fit the widths of their ports.
use Rattle.std.proofs.Common.{ℕ, zero, suc, ◌≡◌, ◌+◌, ◌<◌, ◌^◌, List, [], ◌∷◌, length, get_or, set, subst, arith}
use Rattle.xs_base.specs.Ids.{port_width}
use Rattle.xs_base.specs.Numbers.{Word, PortNumber}
use Rattle.xs_model.specs.Outside.{LevelsFit, LevelsFitFrom}

-- the level of one port fits
fit-at-from : (p : PortNumber) (levels : List Word) (i : ℕ) → i < length levels → LevelsFitFrom p levels → get_or levels i 0 < 2 ^ port_width (p + i)
fit-at-from p [] i within fit = absurd (omega (arith, within))
fit-at-from p (level ∷ levels) zero within fit =
    let same : p ≡ p + 0 = omega arith in
    subst (λ q. level < 2 ^ port_width q) same fit.0
fit-at-from p (level ∷ levels) (suc i) within fit =
    let same : p + 1 + i ≡ p + suc i = omega arith in
    subst (λ q. get_or levels i 0 < 2 ^ port_width q) same (fit-at-from (p + 1) levels i (omega (arith, within)) fit.1)

pub fit-at : (levels : List Word) (port : PortNumber) → port < length levels → LevelsFit levels → get_or levels port 0 < 2 ^ port_width port
fit-at levels port within fit =
    let same : 0 + port ≡ port = omega arith in
    subst (λ q. get_or levels port 0 < 2 ^ port_width q) same (fit-at-from 0 levels port within fit)

-- all fit where each does
each-fits-from : (p : PortNumber) (levels : List Word) → ((i : ℕ) → i < length levels → get_or levels i 0 < 2 ^ port_width (p + i)) → LevelsFitFrom p levels
each-fits-from p [] each = tt
each-fits-from p (level ∷ levels) each =
    let here : p + 0 ≡ p = omega arith in (
      subst (λ q. level < 2 ^ port_width q) here (each 0 (omega arith)),
      each-fits-from (p + 1) levels (λ i within.
          let same : p + suc i ≡ p + 1 + i = omega arith in
          subst (λ q. get_or levels i 0 < 2 ^ port_width q) same (each (suc i) (omega (arith, within)))),
    )

pub each-fits : (levels : List Word) → ((port : PortNumber) → port < length levels → get_or levels port 0 < 2 ^ port_width port) → LevelsFit levels
each-fits levels each =
    each-fits-from 0 levels (λ i within. let same : i ≡ 0 + i = omega arith in subst (λ q. get_or levels i 0 < 2 ^ port_width q) same (each i within))

-- one is written
set-fits-from : (p : PortNumber) (levels : List Word) (i : ℕ) (value : Word) → value < 2 ^ port_width (p + i) → LevelsFitFrom p levels → LevelsFitFrom p (set levels i value)
set-fits-from p [] i value narrow fit = tt
set-fits-from p (level ∷ levels) zero value narrow fit =
    let same : p + 0 ≡ p = omega arith in
    (subst (λ q. value < 2 ^ port_width q) same narrow, fit.1)
set-fits-from p (level ∷ levels) (suc i) value narrow fit =
    let same : p + suc i ≡ p + 1 + i = omega arith in
    (fit.0, set-fits-from (p + 1) levels i value (subst (λ q. value < 2 ^ port_width q) same narrow) fit.1)

pub set-fits : (levels : List Word) (port : PortNumber) (value : Word) → value < 2 ^ port_width port → LevelsFit levels → LevelsFit (set levels port value)
set-fits levels port value narrow fit =
    let same : port ≡ 0 + port = omega arith in
    set-fits-from 0 levels port value (subst (λ q. value < 2 ^ port_width q) same narrow) fit
