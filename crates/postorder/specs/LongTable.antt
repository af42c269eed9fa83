-- Long forms of proofs in the bench table's file and in two files beside it, with what document 01 answers. (That they hold:
-- proofs/Examples.antt.)
use Rattle.std.specs.Prelude.{ℕ, List, [], ◌∷◌, ◌++◌}
use Prim.Native.String.{String}
use Rattle.machine.specs.Files.{bytes, forever, float, essential, assertion, proof, greatest}
use Rattle.machine.specs.BenchTable.{symbols, var_p, var_q, implies, wff, proves, bench_file, first1, first2}
use Rattle.postorder.specs.LongForm.{LongAnswer, long_answer, with_proof}

-- an example: the file, the statement asked for, the tree entries and output bytes lent, and number, place, steps and text
pub record LongRow : Type 0 where
  pub file : List ℕ
  pub statement : ℕ
  pub entries : ℕ
  pub output : ℕ
  pub given : ℕ × ℕ × ℕ
  pub text : List ℕ

unfoldable pub long_told : LongAnswer → (ℕ × ℕ × ℕ) × List ℕ
long_told a = ((a.number, a.place, a.steps), a.text)

-- what the definition answers, with the greatest room for the run
unfoldable pub long_answered : LongRow → (ℕ × ℕ × ℕ) × List ℕ
long_answered row = long_told (long_answer row.file row.statement greatest row.entries row.output)

unfoldable pub long_stated : LongRow → (ℕ × ℕ × ℕ) × List ℕ
long_stated row = (row.given, row.text)

-- a proof of th1, and one of th2
unfoldable pub long1 : String → ℕ → ℕ → ℕ × ℕ × ℕ → String → LongRow
long1 proved entries output given text =
    record { file = bench_file (bytes proved) first2; statement = 6; entries = entries; output = output; given = given; text = bytes text }

unfoldable pub long2 : String → ℕ → ℕ → ℕ × ℕ × ℕ → String → LongRow
long2 proved entries output given text =
    record { file = bench_file first1 (bytes proved); statement = 9; entries = entries; output = output; given = given; text = bytes text }

-- `( T -> T )` where T is `( S -> S )` and S is `( p -> q )`: a step that is saved has a saved step in it
unfoldable pub twice : List ℕ → List ℕ
twice xs = implies xs xs

unfoldable pub nested : String → ℕ → ℕ → ℕ × ℕ × ℕ → String → LongRow
nested proved entries output given text =
    record {
      file =
          symbols
          ++ (float forever 0 5 "wp"
          ++ (float forever 0 6 "wq"
          ++ (assertion 4 (0 ∷ 1 ∷ []) [] (wff (implies var_p var_q)) "wi"
          ++ (assertion 5 (0 ∷ 1 ∷ []) [] (wff (twice (twice (implies var_p var_q)))) "deep"
          ++ proof (bytes proved)))));
      statement = 3;
      entries = entries;
      output = output;
      given = given;
      text = bytes text;
    }

-- `dup` concludes `|- p` from `|- p` and `|- p`: each use of it doubles the derivation
unfoldable pub doubled : String → ℕ → ℕ → ℕ × ℕ × ℕ → String → LongRow
doubled proved entries output given text =
    record {
      file =
          symbols
          ++ (float forever 0 5 "wp"
          ++ (essential 4 (proves var_p) "e1"
          ++ (essential 4 (proves var_p) "e2"
          ++ (assertion 4 (0 ∷ 1 ∷ 2 ∷ []) [] (proves var_p) "dup"
          ++ (essential 6 (proves var_p) "h"
          ++ (assertion 5 (0 ∷ 4 ∷ []) [] (proves var_p) "th"
          ++ proof (bytes proved)))))));
      statement = 5;
      entries = entries;
      output = output;
      given = given;
      text = bytes text;
    }

-- just enough and one short, of tree entries and of output
unfoldable pub limits : List LongRow
limits =
    long1 "( wi ) ABCZDC" 9 20 (0, 20, 5) "wp wq wi wp wq wi wi"
    ∷ long1 "( wi ) ABCZDC" 8 20 (60, 13, 5) ""
    ∷ long1 "( wi ) ABCZDC" 9 19 (61, 13, 5) ""
    ∷ long1 "( wi ) ABCZDC" 8 19 (60, 13, 5) ""
    ∷ []

-- the proof's own refusal comes first
unfoldable pub refusals : List LongRow
refusals =
    long1 "( wi ) ABCD" 0 0 (31, 10, 3) ""
    ∷ long1 "" 0 0 (40, 0, 0) ""
    ∷ record { file = bench_file first1 first2; statement = 5; entries = 0; output = 0; given = (8, 0, 0); text = [] }
    ∷ record { file = 7 ∷ []; statement = 6; entries = 0; output = 0; given = (1, 0, 0); text = [] }
    ∷ []

-- normal and compressed proofs, with marks, local labels and saved steps in them
unfoldable pub shapes : List LongRow
shapes =
    long1 "wp wq wi wp wq wi wi" 13 20 (0, 20, 7) "wp wq wi wp wq wi wi"
    ∷ long1 "wp wq x:wi x wi" 9 20 (0, 20, 5) "wp wq wi wp wq wi wi"
    ∷ long2 "wp wq h1 h2 mp" 9 14 (0, 14, 5) "wp wq h1 h2 mp"
    ∷ long2 "wq=wq min=h1 wp=wp maj=h2 mp" 9 14 (0, 14, 5) "wp wq h1 h2 mp"
    ∷ nested "( wi ) ABCZDCZEC" 13 44 (0, 44, 7) "wp wq wi wp wq wi wi wp wq wi wp wq wi wi wi"
    ∷ record {
      file = with_proof (bench_file first1 first2) 6 (bytes "wp wq wi wp wq wi wi");
      statement = 6;
      entries = 13;
      output = 20;
      given = (0, 20, 7);
      text = bytes "wp wq wi wp wq wi wi";
    }
    ∷ []

-- a proof of 540 bytes whose derivation has more than 2^110 labels
unfoldable pub many_letters : String
many_letters = "( dup ) AAAAAAAAAAAAAAAAAAAAAAAAAAAAAAAAAAAAAAAAAAAAAAAAAAAAAAAAAAAAAAAAAAAAAAAAAAAAAAAAAAAAAAAAAAAAAAAAAAAAAAAAAAAAAABBCZDCZECZFCZGCZHCZICZJCZKCZLCZMCZNCZOCZPCZQCZRCZSCZTCZUACZUBCZUCCZUDCZUECZUFCZUGCZUHCZUICZUJCZUKCZULCZUMCZUNCZUOCZUPCZUQCZURCZUSCZUTCZVACZVBCZVCCZVDCZVECZVFCZVGCZVHCZVICZVJCZVKCZVLCZVMCZVNCZVOCZVPCZVQCZVRCZVSCZVTCZWACZWBCZWCCZWDCZWECZWFCZWGCZWHCZWICZWJCZWKCZWLCZWMCZWNCZWOCZWPCZWQCZWRCZWSCZWTCZXACZXBCZXCCZXDCZXECZXFCZXGCZXHCZXICZXJCZXKCZXLCZXMCZXNCZXOCZXPCZXQCZXRCZXSCZXTCZYACZYBCZYCCZYDCZYECZYFCZYGCZYHCZYICZYJCZYKCZYLC"

unfoldable pub huge : List LongRow
huge =
    doubled "( dup ) ABBC" 7 10 (0, 10, 4) "wp h h dup"
    ∷ doubled "( dup ) AABBCZDC" 13 28 (0, 28, 7) "wp wp h h dup wp h h dup dup"
    ∷ doubled many_letters 661 1000 (61, 540, 331) ""
    ∷ doubled many_letters 661 100000 (61, 540, 331) ""
    ∷ doubled many_letters 660 1000 (60, 540, 331) ""
    ∷ []
