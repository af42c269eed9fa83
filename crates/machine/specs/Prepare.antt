-- Preparing a step: the label is sought, and what it names is made ready. 26, 28, 25, 29, 30, 44, 43, in this order (46 comes after, for
-- compressed proofs alone).
use Rattle.std.specs.Prelude.{ℕ, zero, suc, ◌+◌, Bool, false, List, [], ◌∷◌, ◌++◌, length}
use Rattle.std.proofs.Math.Option.{Option, none, some}
use Rattle.book.specs.Book.{leaf}
use Rattle.frames.specs.Logic.{below, at_most, pick, both, no, same}
use Rattle.frames.specs.Layout.{supposes}
use Rattle.frames.specs.Table.{within}
use Rattle.frames.specs.Database.{Statement, Database}
use Rattle.frames.specs.Facts.{statement_of, floated}
use Rattle.machine.specs.Chain.{Result, fine, stop, unless, bind}
use Rattle.machine.specs.Ground.{is_float, is_essential, expression_of, among}
use Rattle.machine.specs.Reading.{Parts}
use Rattle.machine.specs.Memory.{Room, Proved, Prepared, recalls, applies, Memory, cost, add_place, place_of, is_some}
use Rattle.machine.specs.declared.Refusal.TheVariants.{StepMissing, LocalLabelAmbiguous, ChainBackref, StepUsedBeforeDefinition, StepUsedAfterScope, StepOutOfRange, PoolFull, TooManyVariables}

-- the greatest number of variables
abbrev pub greatest_variables : ℕ
greatest_variables = 256

-- the variables with one more numbered, where it is not yet
unfoldable pub numbered : List ℕ → ℕ → List ℕ
numbered vs v = pick (among vs v) vs (vs ++ (v ∷ []))

-- the variables with those of a prepared $f or $e: a $f names its variable; those of a listed $e are mandatory, so they are numbered already
unfoldable pub numbered_by : Statement → List ℕ → List ℕ
numbered_by st vs = pick (is_float st) (numbered vs (floated st)) vs

-- a prepared step, and the memory with it
pub record Ready : Type 0 where
  pub memory : Memory
  pub step : Prepared

unfoldable pub ready : Memory → Prepared → Ready
ready m step = record { memory = m; step = step }

-- the memory with these variables and these pool bytes used
unfoldable pub spend : Memory → List ℕ → ℕ → Memory
spend m vs bytes =
    record {
      variables = vs;
      pool = m.pool + bytes;
      places = m.places;
      locals = m.locals;
      stack = m.stack;
      steps = m.steps;
      consumed = m.consumed;
    }

-- a hypothesis as it is supposed: its expression, by the tree that is a leaf
unfoldable pub leaf_of : Database → ℕ → Proved
leaf_of db h = record { expression = expression_of db h; tree = leaf h }

-- a $f or $e is made ready: 44, then 43
unfoldable pub prepare_hypothesis : Database → Room → Memory → ℕ → Result Ready
prepare_hypothesis db room m h =
    unless (below greatest_variables (length (numbered_by (statement_of db h) m.variables))) TooManyVariables
    (unless (below room.pool (m.pool + cost db (expression_of db h).symbols)) PoolFull
    (fine
    (ready
    (spend m (numbered_by (statement_of db h) m.variables) (cost db (expression_of db h).symbols))
    (recalls (leaf_of db h)))))

-- the number of the first statement that passes the test, counted from i
unfoldable pub first_from : (Statement → Bool) → ℕ → List Statement → Option ℕ
first_from test i [] = none
first_from test i (st ∷ sts) = pick (test st) (some i) (first_from test (suc i) sts)

-- a $f, $a or $p has this label
unfoldable pub bears : List ℕ → Statement → Bool
bears label st = both (no (is_essential st)) (same st.label label)

-- among $f, $a, $p
unfoldable pub sought : Database → List ℕ → Option ℕ
sought db label = first_from (bears label) 0 db.statements

-- a $e has this label
unfoldable pub bears_own : List ℕ → Statement → Bool
bears_own label st = both (is_essential st) (same st.label label)

-- next among the $e of this $p, which are listed
unfoldable pub sought_own : Database → List ℕ → List ℕ → Option ℕ
sought_own db label [] = none
sought_own db label (h ∷ hs) = pick (bears_own label (statement_of db h)) (some h) (sought_own db label hs)

unfoldable pub or_else : Option ℕ → Option ℕ → Option ℕ
or_else (some s) next = some s
or_else none next = next

unfoldable pub sought_label : Database → ℕ → List ℕ → Option ℕ
sought_label db p label = or_else (sought db label) (sought_own db label (statement_of db p).hyps)

-- a $f, $e, $a or $p that is named: 29 where it is the claim or later, 30 for a $f out of scope
unfoldable pub prepare_statement : Database → ℕ → Room → Memory → ℕ → Result Ready
prepare_statement db p room m s =
    unless (at_most p s) StepUsedBeforeDefinition
    (unless (both (is_float (statement_of db s)) (no (within (statement_of db s).end p))) StepUsedAfterScope
    (pick (supposes (statement_of db s).kind)
    (prepare_hypothesis db room m s)
    (fine (ready m (applies s)))))

-- a roster label, which is never split: 25 where it is found nowhere
unfoldable pub prepare_found : Database → ℕ → Room → Memory → Option ℕ → Result Ready
prepare_found db p room m (some s) = prepare_statement db p room m s
prepare_found db p room m none = stop StepMissing

-- it takes a place: 46
unfoldable pub add_ready : Room → Ready → Result Memory
add_ready room r = add_place room r.memory r.step

unfoldable pub prepare_roster : Database → ℕ → Room → Memory → List ℕ → Result Memory
prepare_roster db p room m label = bind (prepare_found db p room m (sought_label db p label)) (add_ready room)

-- preloading: the listed hypotheses take places, one after another
unfoldable pub preload : Database → Room → List ℕ → Memory → Result Memory
preload db room [] m = fine m
preload db room (h ∷ hs) m = bind (bind (prepare_hypothesis db room m h) (add_ready room)) (preload db room hs)

-- what stands at a place: 31 where there is none
unfoldable pub at_place : List Prepared → ℕ → Result Prepared
at_place [] k = stop StepOutOfRange
at_place (step ∷ steps) zero = fine step
at_place (step ∷ steps) (suc k) = at_place steps k

unfoldable pub ready_with : Memory → Prepared → Result Ready
ready_with m step = fine (ready m step)

unfoldable pub prepare_place : Memory → ℕ → Result Ready
prepare_place m k = bind (at_place m.places k) (ready_with m)

-- the label of a normal token that is no statement's: 28 where a local label is given; else it is sought among local labels, 25
unfoldable pub prepare_local : Memory → Option ℕ → Result Ready
prepare_local m none = stop StepMissing
prepare_local m (some k) = prepare_place m k

unfoldable pub prepare_named : Database → ℕ → Room → Memory → Parts → Option ℕ → Result Ready
prepare_named db p room m token (some s) = prepare_statement db p room m s
prepare_named db p room m token none =
    unless (is_some token.local) ChainBackref
    (prepare_local m (place_of token.label m.locals))

-- the local label is that of a $f, $a or $p
unfoldable pub ambiguous : Database → Option (List ℕ) → Bool
ambiguous db none = false
ambiguous db (some label) = is_some (sought db label)

-- a normal token
unfoldable pub prepare_normal : Database → ℕ → Room → Memory → Parts → Result Ready
prepare_normal db p room m token =
    unless (ambiguous db token.local) LocalLabelAmbiguous
    (prepare_named db p room m token (sought_label db p token.label))
