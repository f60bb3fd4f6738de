-- The pin over a place: that of the nearest set leaf bit, at the place or left of it.
use Rattle.std.specs.Prelude.{ℕ, zero, suc}

-- a set bit's own pin, else what lies over the place before
abbrev pub nearer : ℕ → ℕ → ℕ → ℕ
nearer zero own before = before
nearer (suc b) own before = own

-- the pin over place p, of leaf bits f and pins g
unfoldable pub over : (ℕ → ℕ) → (ℕ → ℕ) → ℕ → ℕ
over f g zero = g 0
over f g (suc p) = nearer (f (suc p)) (g (suc p)) (over f g p)
