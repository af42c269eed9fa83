-- For each number from 20 to 46 a run that answers it. (That they do: proofs/Witnesses.antt.)
use Rattle.std.specs.Prelude.{ℕ, zero, suc, ◌+◌, ◌/◌, ◌%◌, List, [], ◌∷◌, ◌++◌}
use Prim.Native.String.{String}
use Rattle.machine.specs.Memory.{Room}
use Rattle.machine.specs.Files.{bytes, forever, constant, variable, float, essential, assertion, proof, greatest, Row}
use Rattle.machine.specs.BenchTable.{bench_file, first2, th1, th2}

-- a file with a $f out of scope (fz) and an assertion with a pair: T is symbol 0, x, y, z are 1, 2, 3; the $p is statement 4
unfoldable pub pair_file : List ℕ → List ℕ
pair_file text =
    constant (bytes "T")
    ++ (variable (bytes "x")
    ++ (variable (bytes "y")
    ++ (variable (bytes "z")
    ++ (float forever 0 1 "fx"
    ++ (float forever 0 2 "fy"
    ++ (float 3 0 3 "fz"
    ++ (assertion 4 (0 ∷ 1 ∷ []) ((1, 2) ∷ []) (0 ∷ 1 ∷ []) "a"
    ++ (assertion 5 (0 ∷ []) [] (0 ∷ 1 ∷ []) "p"
    ++ proof text))))))))

unfoldable pub paired : String → ℕ × ℕ × ℕ → Row
paired text given = record { file = pair_file (bytes text); statement = 4; room = greatest; given = given }

-- n variables, named by two letters each, from i on
unfoldable pub many_variables : ℕ → ℕ → List ℕ
many_variables zero i = []
many_variables (suc n) i = variable ((65 + i / 26) ∷ (65 + i % 26) ∷ []) ++ many_variables n (suc i)

-- the pairs (i, i + 1), (i + 2, i + 3), .., n of them
unfoldable pub many_pairs : ℕ → ℕ → List (ℕ × ℕ)
many_pairs zero i = []
many_pairs (suc n) i = (i, suc i) ∷ many_pairs n (suc (suc i))

-- a $p with n pairs of 2 n variables
unfoldable pub wide_file : ℕ → List ℕ
wide_file n = constant (bytes "T") ++ (many_variables (n + n) 0 ++ (assertion 5 [] (many_pairs n 1) (0 ∷ []) "p" ++ proof []))

unfoldable pub wide : ℕ → ℕ × ℕ × ℕ → Row
wide n given = record { file = wide_file n; statement = 0; room = greatest; given = given }

-- a proof of th1 with this room
unfoldable pub short : ℕ → ℕ → ℕ → String → ℕ × ℕ × ℕ → Row
short pool stack places text given =
    record {
      file = bench_file (bytes text) first2;
      statement = 6;
      room = record { pool = pool; stack = stack; places = places };
      given = given;
    }

unfoldable pub witnesses : List Row
witnesses =
    th1 "wp $" (20, 0, 0)
    ∷ th1 "( wi " (21, 5, 0)
    ∷ th1 "( wi ) AU" (22, 9, 1)
    ∷ th1 "( wi ) Z" (23, 7, 0)
    ∷ th1 "wp ?" (24, 3, 1)
    ∷ th1 "wp none" (25, 3, 1)
    ∷ th1 "wq:wp" (26, 0, 0)
    ∷ th1 "a:wp a:wq" (27, 5, 2)
    ∷ th1 "a:none" (28, 0, 0)
    ∷ th1 "wp th1" (29, 3, 1)
    ∷ paired "fx fz" (30, 3, 1)
    ∷ th1 "( wi ) D" (31, 7, 0)
    ∷ th1 "wp wi" (32, 3, 1)
    ∷ th1 "min=wp wq wi" (33, 10, 2)
    ∷ th1 "wp=wp wp=wq wi" (34, 12, 2)
    ∷ th2 "h1 wq h1 h2 mp" (35, 12, 4)
    ∷ th2 "wp wq wp h2 mp" (36, 12, 4)
    ∷ th2 "wp wq h2 h2 mp" (37, 12, 4)
    ∷ paired "fx fx a" (38, 6, 2)
    ∷ th1 "wp wq" (39, 5, 2)
    ∷ th1 " " (40, 1, 0)
    ∷ th2 "wp" (41, 2, 1)
    ∷ th1 "wp" (42, 2, 1)
    ∷ short 0 1024 4096 "wp" (43, 0, 0)
    ∷ wide 129 (44, 0, 0)
    ∷ short 65536 0 4096 "wp" (45, 0, 0)
    ∷ short 65536 1024 1 " (" (46, 1, 0)
    ∷ []
