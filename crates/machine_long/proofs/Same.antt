-- The quicker way gives the same answer, for every list of bytes: `answer-same`. By induction over the records: the decoded records are those
-- of the index, and what is left is the file from the record's offset on, so each row of the table has the same truth value.
use Rattle.std.proofs.Common.{Some, None}
use Prim.Native.Nat.{ℕ, zero, suc, ◌+◌, ◌≤◌, ◌<◌}
use mathlib.Core.Path.{◌≡◌, refl, sym, ap}
use mathlib.Core.Bool.{Bool, true, false}
use mathlib.Core.List.{List, [], ◌∷◌, ◌++◌, map}
use native.Mathlib.Omega.{arith}
use lib.ListN.{length, get_or, drop, get_or-map}
use lib.Seq.{drop-drop}
use Rattle.frames.specs.Logic.{below, at_most, equal, pick, either, both, any}
use Rattle.frames.specs.Layout.{length_at, kind_at, next_at, supposes, is_statement, scope_end_at, rest_at, typecode_at, variable_at}
use Rattle.frames.specs.Table.{named, used, bad_symbol, bad_label, class_of, constant, variable, within, active, defined, variables, bad_numbers, bad_reference, float_of, float_below, has_float, symbol_given, all_given, lacks_float, second_float, bad_assertion, bad_frame}
use Rattle.frames.specs.Verdict.{Index, nothing, Outcome, fault_at, after, refusal, at_end, decided, walk, outcome, verdict, index, Fault, Refused}
use Rattle.frames.specs.Database.{Statement, symbol_at, statement_at, decode, database}
use Rattle.frames.specs.Facts.{typecode, floated}
use Rattle.frames.specs.declared.Refusal.TheVariants.{TooMany}
use Rattle.machine.specs.Memory.{Room}
use Rattle.machine.specs.Bench.{answer}
use Rattle.frames.proofs.Chains.{at_most-false}
use Rattle.machine_long.proofs.Quick.{Before, constant_of, variable_of, pair_of, defined_of, active_of, numbers_of, float_for, float_under, has_float_of, given_of, all_given_of, lacks_of, second_of, assertion_of, has_name, has_label, fault_here, class_in, statement_in, before, after_here, with_here, Judged, judged_at_end, judged_here, quick_walk, quick, quick_answer}
use Rattle.machine_long.proofs.Moved.{length_moved, kind-moved, symbol-moved, statement-moved, record-moved, many-moved, proof-moved}

-- what stands before a record, read from the file
standing : List ℕ → List ℕ → ℕ → Statement
standing f stmts h = statement_at f (get_or stmts h 0)

before_at : List ℕ → List ℕ → List ℕ → Before
before_at f syms stmts =
    record { known = length syms; class = class_of f syms; own = length stmts; statement = standing f stmts }

class_same : (f syms : List ℕ) → class_in (length syms) (map (symbol_at f) syms) (symbol_at f 0) ≡ class_of f syms
unfolding class_in class_of symbol_at
class_same f syms i s = pick (below s (length syms)) (get_or-map (symbol_at f) syms s 0 i).class 2

standing-same : (f stmts : List ℕ) → statement_in (map (statement_at f) stmts) (statement_at f 0) ≡ standing f stmts
unfolding statement_in standing
standing-same f stmts i h = get_or-map (statement_at f) stmts h 0 i

before_same : (f : List ℕ) (ix : Index) → before (symbol_at f 0) (statement_at f 0) (decode f ix) ix ≡ before_at f ix.symbols ix.statements
unfolding before before_at decode
before_same f ix = cc (class_same f ix.symbols, standing-same f ix.statements)

-- row 5
scope-same : (t : Bool) (end p : ℕ) → both t (within (pick t end 0) p) ≡ both t (within end p)
unfolding both pick
scope-same true end p = refl
scope-same false end p = refl

active-same : (f syms stmts : List ℕ) → active_of (before_at f syms stmts) ≡ active f stmts (length stmts)
unfolding active_of active before_at standing statement_at
active-same f syms stmts i h =
    both (below h (length stmts)) (scope-same (supposes (kind_at f (get_or stmts h 0))) (scope_end_at f (get_or stmts h 0)) (length stmts) i)

numbers_same : (f syms stmts : List ℕ) (o : ℕ) → numbers_of (before_at f syms stmts) (statement_at f o) ≡ bad_numbers f syms stmts o
unfolding numbers_of bad_numbers before_at standing statement_at constant_of constant variable_of variable pair_of variables defined_of defined typecode typecode_at floated variable_at
numbers_same f syms stmts o = rw (active-same f syms stmts)

-- row 6
assertion-same : (f syms stmts : List ℕ) (o : ℕ) → assertion_of (before_at f syms stmts) (statement_at f o) ≡ bad_assertion f syms stmts o
unfolding assertion_of bad_assertion before_at standing statement_at variable_of variable float_for float_of float_under float_below has_float_of has_float given_of symbol_given all_given_of all_given lacks_of lacks_float second_of second_float floated variable_at
assertion-same f syms stmts o = refl

-- rows 3 and 4
any-map : {A B : Type 0} (p : B → Bool) (g : A → B) (xs : List A) → any p (map g xs) ≡ any (λ x. p (g x)) xs
unfolding any
any-map p g [] = refl
any-map p g (x ∷ xs) = ap (either (p (g x))) (any-map p g xs)

names_same : (f syms text : List ℕ) → any (has_name text) (map (symbol_at f) syms) ≡ used f syms text
unfolding has_name used named symbol_at
names_same f syms text = any-map (has_name text) (symbol_at f) syms

labels-same : (f stmts text : List ℕ) → any (has_label text) (map (statement_at f) stmts) ≡ used f stmts text
unfolding has_label used named statement_at
labels-same f stmts text = any-map (has_label text) (statement_at f) stmts

-- all rows, of the record at `o`
module _ (f : List ℕ) (ix : Index) (o : ℕ) (h : o ≤ length f) where
  fault-same : fault_here (before (symbol_at f 0) (statement_at f 0) (decode f ix) ix) (decode f ix) ix (drop o f) (statement_at f o)
      ≡ fault_at f ix.symbols ix.statements ix.owed o
  unfolding fault_here fault_at decode statement_at bad_symbol bad_label bad_reference bad_frame
  fault-same =
      rw (
        before_same f ix,
        record-moved f o h,
        many-moved f o ix.symbols ix.statements,
        proof-moved f o ix.owed,
        numbers_same f ix.symbols ix.statements o,
        assertion-same f ix.symbols ix.statements o,
        names_same f ix.symbols (rest_at f o),
        labels-same f ix.statements (rest_at f o),
      )

-- one more record
map-one : {A B : Type 0} (g : A → B) (xs : List A) (x : A) → map g (xs ++ (x ∷ [])) ≡ map g xs ++ (g x ∷ [])
map-one g [] x = refl
map-one g (y ∷ xs) x = ap (◌∷◌ (g y)) (map-one g xs x)

-- the index and the database with the record read
pick-map : {A B : Type 0} (g : A → B) (t : Bool) (xs : List A) (x : A)
    → pick t (map g xs ++ (g x ∷ [])) (map g xs) ≡ map g (pick t (xs ++ (x ∷ [])) xs)
unfolding pick
pick-map g true xs x = sym (map-one g xs x)
pick-map g false xs x = refl

module _ (f : List ℕ) (ix : Index) (o : ℕ) where
  after_same : after_here (kind_at (drop o f) 0) ix o ≡ after f ix o
  unfolding after_here after
  after_same = rw (kind-moved f o 0 o (omega arith))

  with-same : with_here (decode f ix) (symbol_at f o) (statement_at f o) ≡ decode f (after f ix o)
  unfolding with_here decode after statement_at
  with-same =
      cc (pick-map (symbol_at f) (equal (kind_at f o) 1) ix.symbols o, pick-map (statement_at f) (is_statement (kind_at f o)) ix.statements o)

-- the verdict and the database of an outcome
judged_of : List ℕ → Outcome → Judged
judged_of f r = record { verdict = r.verdict; database = decode f r.index }

decided-same : (f : List ℕ) (v : Fault) (o : ℕ) (ix : Index) (rest : Outcome) (rest' : Judged) → rest' ≡ judged_of f rest
    → judged_here v o (decode f ix) rest' ≡ judged_of f (decided v o ix rest)
unfolding judged_here judged_of decided refusal
decided-same f None o ix rest rest' e = e
decided-same f (Some why) o ix rest rest' e = refl

-- the end of the file, a file that is too long, and one record after another
pick-along : {A B : Type 0} (g : A → B) (t : Bool) (a b : A) (a' b' : B) → a' ≡ g a → (t ≡ false → b' ≡ g b)
    → pick t a' b' ≡ g (pick t a b)
unfolding pick
pick-along g true a b a' b' p q = p
pick-along g false a b a' b' p q = q refl

end_same : (f : List ℕ) (ix : Index) → judged_at_end (length f) (decode f ix) ix ≡ judged_of f (at_end f ix)
unfolding judged_at_end judged_of at_end
end_same f ix = refl

refused-same : (f : List ℕ) → record { verdict = Refused TooMany 0; database = decode f nothing } ≡ judged_of f (refusal TooMany 0 nothing)
unfolding judged_of refusal
refused-same f = refl

-- where the next record begins
next-same : (f : List ℕ) (o : ℕ) → o + 4 + length_at (drop o f) 0 ≡ next_at f o
unfolding next_at
next-same f o = omega (arith, length_moved f o 0 o (omega arith))

left-same : (f : List ℕ) (o : ℕ) → drop (4 + length_at (drop o f) 0) (drop o f) ≡ drop (next_at f o) f
left-same f o =
    let next : o + (4 + length_at (drop o f) 0) ≡ next_at f o = omega (arith, next-same f o) in
    rw (drop-drop, next)

walk_same : (k : ℕ) (f : List ℕ) (ix : Index) (o : ℕ)
    → quick_walk k (length f) (symbol_at f 0) (statement_at f 0) (decode f ix) ix o (drop o f) ≡ judged_of f (walk k f ix o)
unfolding quick_walk walk
walk_same zero f ix o = end_same f ix
walk_same (suc k) f ix o =
    pick-along (judged_of f) (at_most (length f) o) (at_end f ix) _ _ _ (end_same f ix)
    (λ t.
    let inside : o < length f = at_most-false _ _ t in
    rw
    (statement-moved f o, fault-same f ix o (omega arith), symbol-moved f o, with-same f ix o, after_same f ix o, next-same f o, left-same f o)
    (decided-same f (fault_at f ix.symbols ix.statements ix.owed o) o ix _ _ (walk_same k f (after f ix o) (next_at f o))))

-- the whole file
quick-same : (f : List ℕ) → quick f ≡ judged_of f (outcome f)
unfolding quick outcome
quick-same f =
    pick-along (judged_of f) (below 1048576 (length f)) (refusal TooMany 0 nothing) _ _ _ (refused-same f)
    (λ t. walk_same (length f + 1) f nothing 0)

-- the answer
pub answer-same : (f : List ℕ) (p : ℕ) (room : Room) → answer f p room ≡ quick_answer (quick f) p room
unfolding answer quick_answer verdict database index judged_of
answer-same f p room = rw (quick-same f)
