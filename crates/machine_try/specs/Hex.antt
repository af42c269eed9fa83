-- Files as hexadecimal text, two digits a byte, for examples made elsewhere.
use Rattle.std.specs.Prelude.{ℕ, ◌+◌, ◌-◌, ◌*◌, List, [], ◌∷◌}
use Prim.Native.Char.{Char, code}
use Prim.Native.String.{String, [], ◌∷◌}
use Rattle.frames.specs.Logic.{below, pick}
use Rattle.machine.specs.Memory.{Room}
use Rattle.machine.specs.Files.{Row}

-- `0` to `9` and `a` to `f`
unfoldable pub digit : Char → ℕ
digit c = pick (below (code c) 58) (code c - 48) (code c - 87)

unfoldable pub hex : String → List ℕ
hex [] = []
hex (c ∷ []) = []
hex (c ∷ d ∷ cs) = (16 * digit c + digit d) ∷ hex cs

-- file, statement, pool, stack, places, and the answer
unfoldable pub call : String → ℕ → ℕ → ℕ → ℕ → ℕ × ℕ × ℕ → Row
call file statement pool stack places given =
    record { file = hex file; statement = statement; room = record { pool = pool; stack = stack; places = places }; given = given }
