-- What the program writes has at most 524,317 bytes: a number has at most 20 digits, a label at most 64 bytes, a line at most 128, and there are at most 4,096 lines
-- after the first.
use Rattle.std.proofs.Common.{Ok, Err}
use Prim.Native.Nat.{ℕ, zero, suc, ◌+◌, ◌*◌, ◌/◌, ◌%◌, ◌≤◌}
use mathlib.Core.Path.{◌≡◌, refl, ap}
use mathlib.Core.Bool.{Bool, true, false, cond}
use mathlib.Core.List.{List, [], ◌∷◌, ◌++◌}
use native.Mathlib.Omega.{arith}
use lib.Dec.{ltb}
use lib.ListN.{length, length-append, get_or-eq_default}
use Rattle.bitset.specs.Sets.{keep}
use Rattle.frames.specs.Logic.{equal, below, pick}
use Rattle.frames.specs.Verdict.{verdict, number_of, Verdict, Good, Refused}
use Rattle.frames.specs.Database.{Statement, Database, database, GoodFile}
use Rattle.frames.specs.Facts.{statement_of}
use Rattle.frames.proofs.Chains.{below_true, below_false}
use Rattle.facts.proofs.GoodFacts.{good-facts}
use Rattle.facts.proofs.Unique.{good-answer}
use Rattle.machine.specs.Answer.{number, place, steps}
use Rattle.machine.specs.Bench.{answer}
use Rattle.packed.specs.Pool.{joined}
use Rattle.verdict_text.specs.Text.{digits_of, decimal, line, refused_line}
use Rattle.lines.specs.Lines.{checked_line, labelled, answer_line}
use Rattle.walk.specs.Walk.{provable_from, provable}
use Rattle.reply.specs.Output.{greatest, line_for, proof_line, proof_lines, checked_text, text_of, output_of}

digits-few : (k n : ℕ) → length (digits_of k n) ≤ k
unfolding digits_of
digits-few zero n = omega arith
digits-few (suc k) n = by (ltb n 10) (digits-few k (n / 10))
  where
    by : (t : Bool) → length (digits_of k (n / 10)) ≤ k → length (cond t ((48 + n) ∷ []) (digits_of k (n / 10) ++ ((48 + n % 10) ∷ []))) ≤ suc k
    by true few = omega arith
    by false few = let l = length-append (digits_of k (n / 10)) ((48 + n % 10) ∷ []) in omega arith

-- a text with the digits of a number and a byte after it
pub then-few : (text : List ℕ) (n b : ℕ) → length ((text ++ decimal n) ++ (b ∷ [])) ≤ length text + 21
then-few text n b =
    let d = digits-few 20 n in
    let l = length-append text (decimal n) in
    let m = length-append (text ++ decimal n) (b ∷ []) in
    omega arith

pub line-few : (word : List ℕ) (a b : ℕ) → length (line word a b) ≤ length word + 42
line-few word a b =
    let first = then-few word a 32 in
    let second = then-few ((word ++ decimal a) ++ (32 ∷ [])) b 10 in
    omega arith

answer-few : (label : List ℕ) (n p s : ℕ) → length label ≤ 64 → length (answer_line label n p s) ≤ 128
answer-few label n p s few =
    let space = length-append label (32 ∷ []) in
    let first = then-few (label ++ (32 ∷ [])) n 32 in
    let rest = line-few (labelled label n) p s in
    omega arith

joined-few : (g : ℕ → List ℕ) → ((x : ℕ) → length (g x) ≤ 128) → (xs : List ℕ) → length (joined g xs) ≤ 128 * length xs
unfolding joined
joined-few g few [] = omega arith
joined-few g few (x ∷ xs) =
    let here = few x in
    let rest = joined-few g few xs in
    let l = length-append (g x) (joined g xs) in
    omega arith

provable-few : (db : Database) (k n : ℕ) → length (provable_from db k n) ≤ k
unfolding provable_from keep
provable-few db zero n = omega arith
provable-few db (suc k) n = by (equal (statement_of db n).kind 5) (provable-few db k (n + 1))
  where
    by : (t : Bool) → length (provable_from db k (n + 1)) ≤ k → length (keep t n (provable_from db k (n + 1))) ≤ suc k
    by true few = omega arith
    by false few = omega arith

module _ (f : List ℕ) (good : GoodFile f) where
  pub label-few : (p : ℕ) → length (statement_of (database f) p).label ≤ 64
  unfolding statement_of
  label-few p = by (below p (length (database f).statements)) refl
    where
      by : (t : Bool) → below p (length (database f).statements) ≡ t → length (statement_of (database f) p).label ≤ 64
      by true t = ((good-facts f good).statement p (below_true _ _ t)).label_size
      by false t =
          let past = below_false _ _ t in
          let z : (statement_of (database f) p).label ≡ [] = ap (λ (st : Statement). st.label) (get_or-eq_default (database f).statements _ past) in
          let n = ap length z in
          omega arith

  proof-line-few : (p : ℕ) → length (proof_line f p) ≤ 128
  unfolding proof_line line_for
  proof-line-few p =
      let a = answer f p greatest in
      answer-few (statement_of (database f) p).label (number a) (place a) (steps a) (label-few p)

  pub answers-few : length (provable (database f)) ≤ 4096
  unfolding provable
  answers-few = let s = (good-facts f good).statement_count in let l = provable-few (database f) (length (database f).statements) 0 in omega arith

  checked-few : length (checked_text f) ≤ 524317
  unfolding checked_text proof_lines
  checked-few =
      let ps = provable (database f) in
      let n = answers-few in
      let first = then-few (99 ∷ 104 ∷ 101 ∷ 99 ∷ 107 ∷ 101 ∷ 100 ∷ 32 ∷ []) (length ps) 10 in
      let rest = joined-few (proof_line f) (λ p. proof-line-few p) ps in
      let l = length-append (checked_line (length ps)) (joined (proof_line f) ps) in
      omega arith

refused-few : (n p : ℕ) → length (refused_line n p) ≤ 524317
refused-few n p = let l = line-few (114 ∷ 101 ∷ 102 ∷ 117 ∷ 115 ∷ 101 ∷ 100 ∷ 32 ∷ []) n p in omega arith

text_few : (f : List ℕ) → length (text_of (verdict f) f) ≤ 524317
unfolding text_of
text_few f = by (verdict f) refl
  where
    by : (v : Verdict) → verdict f ≡ v → length (text_of v f) ≤ 524317
    by (Ok sizes) e = checked-few f (good-answer f sizes.symbols sizes.statements e).0
    by (Err away) e = refused-few (number_of away.why) away.place

pub output-few : (input : List ℕ) → length (output_of input) ≤ 524317
unfolding output_of pick
output-few input = by (below 65536 (length input))
  where
    by : (t : Bool) → length (pick t (refused_line 2 0) (text_of (verdict input) input)) ≤ 524317
    by true = refused-few 2 0
    by false = text_few input
