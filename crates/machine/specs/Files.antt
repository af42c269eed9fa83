-- Frame files written by hand: the bytes of each record in the layout of document 01. For the bench table and other examples.
use Rattle.std.specs.Prelude.{ℕ, ◌+◌, ◌/◌, ◌%◌, List, [], ◌∷◌, ◌++◌, length}
use Prim.Native.Char.{code}
use Prim.Native.String.{String, [], ◌∷◌}
use Rattle.machine.specs.Answer.{Answer, number, place, steps}
use Rattle.machine.specs.Memory.{Room}
use Rattle.machine.specs.Bench.{answer}

-- the bytes of a text in ASCII
unfoldable pub bytes : String → List ℕ
bytes [] = []
bytes (c ∷ cs) = code c ∷ bytes cs

-- numbers are little-endian
unfoldable pub two : ℕ → List ℕ
two n = n % 256 ∷ n / 256 ∷ []

unfoldable pub four : ℕ → List ℕ
four n = two (n % 65536) ++ two (n / 65536)

-- the scope end of what is never out of scope
unfoldable pub forever : ℕ
forever = 4294967295

unfoldable pub each : (ℕ → List ℕ) → List ℕ → List ℕ
each f [] = []
each f (n ∷ ns) = f n ++ each f ns

unfoldable pub each_pair : List (ℕ × ℕ) → List ℕ
each_pair [] = []
each_pair (q ∷ qs) = two q.0 ++ (two q.1 ++ each_pair qs)

-- a record of this kind and body
unfoldable pub record_of : ℕ → List ℕ → List ℕ
record_of kind body = four (2 + length body) ++ (two kind ++ body)

-- a symbol of this name (its bytes)
unfoldable pub constant : List ℕ → List ℕ
constant name = record_of 1 (0 ∷ name)

unfoldable pub variable : List ℕ → List ℕ
variable name = record_of 1 (1 ∷ name)

-- a $f: scope end, typecode, variable, label
unfoldable pub float : ℕ → ℕ → ℕ → String → List ℕ
float end c v label = record_of 2 (four end ++ (two c ++ (two v ++ bytes label)))

-- a $e: scope end, symbols, label
unfoldable pub essential : ℕ → List ℕ → String → List ℕ
essential end xs label = record_of 3 (four end ++ (two (length xs) ++ (each two xs ++ bytes label)))

-- a $a (4) or $p (5): hypotheses, pairs, symbols, label
unfoldable pub assertion : ℕ → List ℕ → List (ℕ × ℕ) → List ℕ → String → List ℕ
assertion kind hyps pairs xs label =
    record_of kind
    (two (length hyps) ++ (two (length pairs) ++ (two (length xs) ++ (each four hyps ++ (each_pair pairs ++ (each two xs ++ bytes label))))))

unfoldable pub proof : List ℕ → List ℕ
proof text = record_of 6 text

-- the greatest sizes
unfoldable pub greatest : Room
greatest = record { pool = 65536; stack = 1024; places = 4096 }

-- an example: the file, the statement asked for, the room lent, and the answer that document 01 gives it: number, place, steps
pub record Row : Type 0 where
  pub file : List ℕ
  pub statement : ℕ
  pub room : Room
  pub given : ℕ × ℕ × ℕ

-- number, place and steps of an answer
unfoldable pub told : Answer → ℕ × ℕ × ℕ
told a = (number a, place a, steps a)

-- what the definition of a run answers
unfoldable pub answered : Row → ℕ × ℕ × ℕ
answered row = told (answer row.file row.statement row.room)

unfoldable pub stated : Row → ℕ × ℕ × ℕ
stated row = row.given
