-- Comparing with the pool: a text met at a place of the pool, with the place where it ends.
use Rattle.std.specs.Prelude.{ℕ, ◌+◌, List, length, take, Option, Some, None}
use Rattle.frames.specs.Logic.{pick, same}
use Rattle.packed.specs.Pool.{range}

-- where a text that was met in the pool ends, or none where other bytes stand there
abbrev pub Met : Type 0
Met = Option ℕ

-- whether the bytes of the pool from `at` up to `to` begin with the text, and where it ends
unfoldable pub met : List ℕ → ℕ → ℕ → List ℕ → Met
met text at to pool = pick (same text (take (length text) (range at to pool))) (Some (at + length text)) None
