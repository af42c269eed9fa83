-- What a cleared buffer holds.
use Rattle.std.specs.Prelude.{ℕ, List, length, replicate}

-- zeros, as many as the buffer is long
abbrev pub cleared : List ℕ → List ℕ
cleared xs = replicate (length xs) 0
