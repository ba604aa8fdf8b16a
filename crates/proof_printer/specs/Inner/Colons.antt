-- The bytes before the first `:`.
use Rattle.std.specs.Prelude.{ℕ, Bool, ◌==◌, not}

-- any byte but `:`
abbrev pub is_before_colon : ℕ → Bool
is_before_colon b = not (b == 58)
