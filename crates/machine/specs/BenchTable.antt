-- The bench table of runs: its statements 0 to 9 as the bytes of a frame file, and its rows. (That they hold: proofs/Rows.antt.)
use Rattle.std.specs.Prelude.{ℕ, zero, suc, List, [], ◌∷◌, ◌++◌}
use Prim.Native.String.{String}
use Rattle.machine.specs.Files.{bytes, forever, constant, variable, float, essential, assertion, proof, greatest, Row}

-- the symbols 0 to 6
unfoldable pub symbols : List ℕ
symbols =
    constant (bytes "wff") ++ (constant (bytes "|-") ++ (constant (bytes "(") ++ (constant (bytes ")") ++ (constant (bytes "->") ++ (variable (bytes "p") ++ variable (bytes "q"))))))

-- `p`, `q` and `( a -> b )` as symbol numbers
unfoldable pub var_p : List ℕ
var_p = 5 ∷ []

unfoldable pub var_q : List ℕ
var_q = 6 ∷ []

unfoldable pub implies : List ℕ → List ℕ → List ℕ
implies a b = 2 ∷ (a ++ (4 ∷ (b ++ (3 ∷ []))))

-- typecodes: wff and |-
unfoldable pub wff : List ℕ → List ℕ
wff xs = 0 ∷ xs

unfoldable pub proves : List ℕ → List ℕ
proves xs = 1 ∷ xs

-- the file, with these proofs of th1 and th2
unfoldable pub bench_file : List ℕ → List ℕ → List ℕ
bench_file proof1 proof2 =
    symbols
    ++ (float forever 0 5 "wp"
    ++ (float forever 0 6 "wq"
    ++ (assertion 4 (0 ∷ 1 ∷ []) [] (wff (implies var_p var_q)) "wi"
    ++ (essential 6 (proves var_p) "min"
    ++ (essential 6 (proves (implies var_p var_q)) "maj"
    ++ (assertion 4 (0 ∷ 1 ∷ 3 ∷ 4 ∷ []) [] (proves var_q) "mp"
    ++ (assertion 5 (0 ∷ 1 ∷ []) [] (wff (implies (implies var_p var_q) (implies var_p var_q))) "th1"
    ++ (proof proof1
    ++ (essential 10 (proves var_p) "h1"
    ++ (essential 10 (proves (implies var_p var_q)) "h2"
    ++ (assertion 5 (0 ∷ 1 ∷ 7 ∷ 8 ∷ []) [] (proves var_q) "th2"
    ++ proof proof2)))))))))))

-- the first proof shown for each claim
unfoldable pub first1 : List ℕ
first1 = bytes "( wi ) ABCZDC"

unfoldable pub first2 : List ℕ
first2 = bytes "wp wq h1 h2 mp"

-- a proof of th1 with so many pool bytes; one of th1 and one of th2 with the greatest sizes
unfoldable pub th1_pool : ℕ → String → ℕ × ℕ × ℕ → Row
th1_pool pool text given =
    record {
      file = bench_file (bytes text) first2;
      statement = 6;
      room = record { pool = pool; stack = 1024; places = 4096 };
      given = given;
    }

unfoldable pub th1 : String → ℕ × ℕ × ℕ → Row
th1 text given = th1_pool 65536 text given

unfoldable pub th2 : String → ℕ × ℕ × ℕ → Row
th2 text given = record { file = bench_file first1 (bytes text); statement = 9; room = greatest; given = given }

-- the rows marked *
unfoldable pub starred : List Row
starred =
    th1 "( wi ) ABCZDC" (0, 13, 5)
    ∷ th1_pool 24 "( wi ) ABCZDC" (0, 13, 5)
    ∷ th1_pool 23 "( wi ) ABCZDC" (43, 12, 4)
    ∷ th1 "wp wq wi wp wq wi wi" (0, 20, 7)
    ∷ th1 "( wi ) ABCD" (31, 10, 3)
    ∷ th1 "( wi ) AC" (32, 8, 1)
    ∷ th1 "( wi ) ABCZZ" (23, 11, 3)
    ∷ th1 "( wi ) ABCU" (22, 11, 3)
    ∷ th1 "( wi ) AB" (39, 9, 2)
    ∷ th1 "" (40, 0, 0)
    ∷ th2 "wp wq h1 h2 mp" (0, 14, 5)
    ∷ th2 "wq=wq min=h1 wp=wp maj=h2 mp" (0, 28, 5)
    ∷ []

-- the rows without *
unfoldable pub unstarred : List Row
unstarred =
    th1 "( wi ) U?" (22, 8, 0)
    ∷ th1 "wp" (42, 2, 1)
    ∷ th1 "(" (21, 1, 0)
    ∷ th2 "wq" (41, 2, 1)
    ∷ []

-- further rows, on `Z` and on the place of a token
unfoldable pub further : List Row
further =
    th1 "wp  x=nosuch" (25, 4, 1)
    ∷ th1 "( wi ) ABUZ" (23, 10, 2)
    ∷ th1 "( wi ) ABCZDZEC" (39, 15, 6)
    ∷ []

-- the roster has n labels `wi`, so that there are n + 2 places; then these letters
unfoldable pub repeated : ℕ → List ℕ → List ℕ
repeated zero text = []
repeated (suc n) text = text ++ repeated n text

unfoldable pub roster : ℕ → String → ℕ × ℕ × ℕ → Row
roster n letters given =
    record {
      file = bench_file (bytes "( " ++ (repeated n (bytes "wi ") ++ (bytes ") " ++ bytes letters))) first2;
      statement = 6;
      room = greatest;
      given = given;
    }

-- the book's number examples, `UA` is place 20, `YT` 119, `UUA` 120: a place that is there is run (and `wi` lacks entries), one that is not is 31
unfoldable pub numbers : List Row
numbers =
    roster 18 "UA" (31, 59, 0)
    ∷ roster 19 "UA" (32, 62, 0)
    ∷ roster 117 "YT" (31, 356, 0)
    ∷ roster 118 "YT" (32, 359, 0)
    ∷ roster 118 "UUA" (31, 360, 0)
    ∷ roster 119 "UUA" (32, 363, 0)
    ∷ []
