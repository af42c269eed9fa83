-- Rows 3 to 7 of the table, read back test by test, as `Fine` does for rows 1 and 2: of a record at which the row fails, each
-- of its tests is known.
use Prim.Native.Nat.{ℕ}
use mathlib.Core.Path.{◌≡◌}
use mathlib.Core.Bool.{Bool, true, false}
use mathlib.Core.List.{List}
use lib.ListN.{length}
use Rattle.frames.specs.Logic.{equal, pick, either, both, no, all, any, rising_from}
use Rattle.frames.specs.Layout.{kind_at, asserts, is_statement, rest_at, hyps_at, pairs_at, symbols_at, typecode_at, variable_at}
use Rattle.frames.specs.Table.{name_byte, label_byte, used, bad_symbol, bad_label, constant, variable, active, defined, variables, bad_numbers, bad_reference, all_given, lacks_float, second_float, equal_members, bad_assertion, bad_frame, no_proof}
use Rattle.frames.proofs.Chains.{equal-yes, equal-true}
use Rattle.frames.proofs.Tells.{one_of-false, both_false, either-false, no_false}

-- a good name or label: its bytes are legal, and no record before this one has it
pub record FreshText (legal : ℕ → Bool) (f os : List ℕ) (o : ℕ) : Type 0 where
  pub bytes : all legal (rest_at f o) ≡ true
  pub unused : used f os (rest_at f o) ≡ false

fresh-text : (legal : ℕ → Bool) (f os : List ℕ) (o : ℕ)
    → either (no (all legal (rest_at f o))) (used f os (rest_at f o)) ≡ false → FreshText legal f os o
fresh-text legal f os o e =
    let h = either-false (no (all legal (rest_at f o))) (used f os (rest_at f o)) e in
    record { bytes = no_false _ h.0; unused = h.1 }

pub symbol-fresh : (f syms : List ℕ) (o : ℕ) → bad_symbol f syms o ≡ false → kind_at f o ≡ 1 → FreshText name_byte f syms o
unfolding bad_symbol
symbol-fresh f syms o e k = fresh-text name_byte f syms o (both_false _ _ e (equal-yes k))

pub label-fresh : (f stmts : List ℕ) (o : ℕ) → bad_label f stmts o ≡ false → is_statement (kind_at f o) ≡ true
    → FreshText label_byte f stmts o
unfolding bad_label
label-fresh f stmts o e k = fresh-text label_byte f stmts o (both_false _ _ e k)

-- row 5, test by test
pub record Refers (f syms stmts : List ℕ) (o : ℕ) : Type 0 where
  pub symbols : all (defined syms) (symbols_at f o) ≡ true
  pub typecode : constant f syms (typecode_at f o) ≡ true
  pub float : kind_at f o ≡ 2 → variable f syms (variable_at f o) ≡ true
  pub pairs : all (variables f syms) (pairs_at f o) ≡ true
  pub rises : rising_from 0 (hyps_at f o) ≡ true
  pub active : all (active f stmts (length stmts)) (hyps_at f o) ≡ true

pub reference-good : (f syms stmts : List ℕ) (o : ℕ) → bad_reference f syms stmts o ≡ false → is_statement (kind_at f o) ≡ true
    → Refers f syms stmts o
unfolding bad_reference bad_numbers
reference-good f syms stmts o e k =
    let t1 = one_of-false (no (all (defined syms) (symbols_at f o))) _ (both_false _ _ e k) in
    let t2 = one_of-false (no (constant f syms (typecode_at f o))) _ t1.1 in
    let t3 = one_of-false (both (equal (kind_at f o) 2) (no (variable f syms (variable_at f o)))) _ t2.1 in
    let t4 = one_of-false (no (all (variables f syms) (pairs_at f o))) _ t3.1 in
    let t5 = one_of-false (no (rising_from 0 (hyps_at f o))) _ t4.1 in
    let t6 = one_of-false (no (all (active f stmts (length stmts)) (hyps_at f o))) _ t5.1 in
    record {
      symbols = no_false _ t1.0;
      typecode = no_false _ t2.0;
      float = λ two. no_false _ (both_false _ _ t3.0 (equal-yes two));
      pairs = no_false _ t4.0;
      rises = no_false _ t5.0;
      active = no_false _ t6.0;
    }

-- row 6, test by test
pub record Framed (f syms stmts : List ℕ) (o : ℕ) : Type 0 where
  pub claim : all_given f syms stmts (hyps_at f o) (length stmts) (symbols_at f o) ≡ true
  pub essentials : any (lacks_float f syms stmts (hyps_at f o)) (hyps_at f o) ≡ false
  pub floats : any (second_float f stmts (hyps_at f o)) (hyps_at f o) ≡ false
  pub pairs : any equal_members (pairs_at f o) ≡ false

pub frame-good : (f syms stmts : List ℕ) (o : ℕ) → bad_frame f syms stmts o ≡ false → asserts (kind_at f o) ≡ true
    → Framed f syms stmts o
unfolding bad_frame bad_assertion
frame-good f syms stmts o e k =
    let t1 = one_of-false (no (all_given f syms stmts (hyps_at f o) (length stmts) (symbols_at f o))) _ (both_false _ _ e k) in
    let t2 = one_of-false (any (lacks_float f syms stmts (hyps_at f o)) (hyps_at f o)) _ t1.1 in
    let t3 = one_of-false (any (second_float f stmts (hyps_at f o)) (hyps_at f o)) _ t2.1 in
    let t4 = one_of-false (any equal_members (pairs_at f o)) _ t3.1 in
    record { claim = no_false _ t1.0; essentials = t2.0; floats = t3.0; pairs = t4.0 }

-- row 7: where a proof is owed, the record is one
pub proof-good : (f : List ℕ) (owed : Bool) (o : ℕ) → no_proof f owed o ≡ false → owed ≡ true → kind_at f o ≡ 6
unfolding no_proof pick
proof-good f owed o e h = equal-true _ _ (no_false _ (rw h at e))
