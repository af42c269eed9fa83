-- What the database of a frame file says in the book's words: expressions, frames, and what the derivation of a statement may rest on.
use Rattle.std.specs.Prelude.{ℕ, ◌<◌, ◌≡◌, Bool, true, false, ◌⊎◌, List, [], ◌∷◌, map, drop}
use Rattle.book.specs.Book.{Expression, Frame, Ground}
use Rattle.frames.specs.Logic.{equal, both, any}
use Rattle.frames.specs.Database.{Statement, Database}
use Rattle.frames.specs.Facts.{◌∈◌, symbol_of, statement_of, typecode, floated, Active}

-- the symbol is a variable
unfoldable pub is_variable : Database → ℕ → Bool
is_variable db s = equal (symbol_of db s).class 1

-- the statement is a $f, and the statement is a $e
unfoldable pub is_float : Statement → Bool
is_float st = equal st.kind 2

unfoldable pub is_essential : Statement → Bool
is_essential st = equal st.kind 3

-- the expression of a statement: its first symbol is the typecode
unfoldable pub expression : Statement → Expression
expression st = record { typecode = typecode st; symbols = drop 1 st.symbols }

unfoldable pub expression_of : Database → ℕ → Expression
expression_of db s = expression (statement_of db s)

-- the number stands in the list
unfoldable pub among : List ℕ → ℕ → Bool
among xs x = any (equal x) xs

-- the member before the list where the test holds, else the list alone
unfoldable pub add_if : {A : Type 0} → Bool → A → List A → List A
add_if true x xs = x ∷ xs
add_if false x xs = xs

-- a frame's mandatory variables are those of its listed $f
unfoldable pub mandatory : Database → List ℕ → List ℕ
mandatory db [] = []
mandatory db (h ∷ hs) = add_if (is_float (statement_of db h)) (floated (statement_of db h)) (mandatory db hs)

-- its mandatory pairs are the pairs with both members mandatory
unfoldable pub mandatory_pairs : List ℕ → List (ℕ × ℕ) → List (ℕ × ℕ)
mandatory_pairs vs [] = []
mandatory_pairs vs (q ∷ qs) = add_if (both (among vs q.0) (among vs q.1)) q (mandatory_pairs vs qs)

unfoldable pub frame_pairs : Database → Statement → List (ℕ × ℕ)
frame_pairs db st = mandatory_pairs (mandatory db st.hyps) st.pairs

-- the frame of a $a or $p: the listed hypotheses in their order, the mandatory pairs, the claim
unfoldable pub frame_of : Database → ℕ → Frame
frame_of db a =
    record {
      hypotheses = map (expression_of db) (statement_of db a).hyps;
      pairs = frame_pairs db (statement_of db a);
      claim = expression_of db a;
    }

-- what the derivation of statement p may suppose: a $f that is active, or a $e that p lists
pub record MaySuppose (db : Database) (p h : ℕ) (e : Expression) : Type 0 where
  pub active : Active db p h
  pub own : ((statement_of db h).kind ≡ 2) ⊎ (h ∈ (statement_of db p).hyps)
  pub is : e ≡ expression_of db h

-- what it may apply: a $a or $p before p
pub record MayApply (db : Database) (p a : ℕ) (frame : Frame) : Type 0 where
  pub before : a < p
  pub kind : ((statement_of db a).kind ≡ 4) ⊎ ((statement_of db a).kind ≡ 5)
  pub is : frame ≡ frame_of db a

-- all that it may rest on; its disjoint pairs are all pairs of p
unfoldable pub ground : Database → ℕ → Ground
ground db p =
    record {
      variable = is_variable db;
      Hypothesis = MaySuppose db p;
      Assertion = MayApply db p;
      pairs = (statement_of db p).pairs;
    }
