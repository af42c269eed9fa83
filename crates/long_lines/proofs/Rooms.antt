-- A line has at most 65,728 bytes: a label has at most 64, a text at most 65,536, a number at most 20 digits.
use Prim.Native.Nat.{ℕ, ◌≤◌, min}
use mathlib.Core.Path.{◌≡◌, refl, sym, ◌∙◌}
use mathlib.Core.Bool.{Bool, true, false}
use mathlib.Core.List.{List, [], ◌∷◌, ◌++◌}
use native.Mathlib.Omega.{arith}
use lib.ListN.{length, length-append}
use Rattle.frames.specs.Logic.{below, equal, pick}
use Rattle.frames.specs.Database.{Database, database, GoodFile}
use Rattle.frames.specs.Facts.{statement_of}
use Rattle.frames.proofs.Chains.{at_most-true}
use Rattle.machine.specs.Answer.{Answer, accepted, refused, turned_away, not_provable}
use Rattle.machine.specs.Bench.{answer}
use Rattle.postorder.specs.LongForm.{long_text, fits, nothing_written, written, entries_for, most_bytes, long_of, long_answer}
use Rattle.postorder.proofs.Sizes.{fits-exactly}
use Rattle.reply.specs.Output.{greatest}
use Rattle.reply.proofs.Lengths.{then-few, line-few, label-few}
use Rattle.long_lines.specs.LongLines.{text_line, refused_label, refusal_line, line_for, long_line, long_line_of}

-- a long form is written only where it has at most 65,536 bytes
text_few : (db : Database) (entries output : ℕ) (a : Answer) → length (long_of db entries output a).text ≤ 65536
unfolding long_of nothing_written written most_bytes pick
text_few db entries output (accepted at completed consumed tree) = tried (below entries (entries_for completed)) (fits db tree (min output 65536)) refl
  where
    tried : (t u : Bool) → fits db tree (min output 65536) ≡ u
        → length (pick t (nothing_written 60 at completed) (pick u (written completed (long_text db tree)) (nothing_written 61 at completed))).text ≤ 65536
    tried true u e = omega arith
    tried false true e = let m = at_most-true _ _ (sym (fits-exactly db tree (min output 65536)) ∙ e) in omega arith
    tried false false e = omega arith
text_few db entries output (refused why at completed) = omega arith
text_few db entries output (turned_away why at) = omega arith
text_few db entries output not_provable = omega arith

text-line-few : (label text : List ℕ) → length label ≤ 64 → length text ≤ 65536 → length (text_line label text) ≤ 65728
text-line-few label text small few =
    let colon = length-append label (58 ∷ 32 ∷ []) in
    let all = length-append (label ++ (58 ∷ 32 ∷ [])) text in
    let end = length-append ((label ++ (58 ∷ 32 ∷ [])) ++ text) (10 ∷ []) in
    omega arith

refusal-few : (label : List ℕ) (n p s : ℕ) → length label ≤ 64 → length (refusal_line label n p s) ≤ 65728
refusal-few label n p s small =
    let word = length-append label (32 ∷ 114 ∷ 101 ∷ 102 ∷ 117 ∷ 115 ∷ 101 ∷ 100 ∷ 32 ∷ []) in
    let first = then-few (label ++ (32 ∷ 114 ∷ 101 ∷ 102 ∷ 117 ∷ 115 ∷ 101 ∷ 100 ∷ 32 ∷ [])) n 32 in
    let rest = line-few (refused_label label n) p s in
    omega arith

line-for-few : (label : List ℕ) (n p s : ℕ) (text : List ℕ) → length label ≤ 64 → length text ≤ 65536 → length (line_for label n p s text) ≤ 65728
unfolding line_for pick
line-for-few label n p s text small few = by (equal n 0)
  where
    by : (t : Bool) → length (pick t (text_line label text) (refusal_line label n p s)) ≤ 65728
    by true = text-line-few label text small few
    by false = refusal-few label n p s small

pub long-line-few : (f : List ℕ) → GoodFile f → (p : ℕ) → length (long_line_of f p) ≤ 65728
unfolding long_line_of long_line long_answer
long-line-few f good p =
    let a = long_answer f p greatest 131072 65536 in
    line-for-few (statement_of (database f) p).label a.number a.place a.steps a.text (label-few f good p)
    (text_few (database f) 131072 65536 (answer f p greatest))
