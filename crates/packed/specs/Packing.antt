-- Packed expressions: symbol names one after another, the high bit set on each name's last byte. The typecode stands apart.
use Rattle.std.specs.Prelude.{ℕ, ◌+◌, ◌%◌, List, [], ◌∷◌, ◌++◌}
use Rattle.frames.specs.Database.{Database}
use Rattle.frames.specs.Facts.{symbol_of}

-- a name with the high bit set on its last byte
unfoldable pub ended : List ℕ → List ℕ
ended [] = []
ended (b ∷ []) = (128 + b % 128) ∷ []
ended (b ∷ c ∷ cs) = b ∷ ended (c ∷ cs)

unfoldable pub packed_symbol : Database → ℕ → List ℕ
packed_symbol db s = ended (symbol_of db s).name

-- a sequence of symbols
unfoldable pub packed : Database → List ℕ → List ℕ
packed db [] = []
packed db (s ∷ ss) = packed_symbol db s ++ packed db ss
