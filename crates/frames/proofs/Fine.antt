-- A record without a fault: `fault_at` answers `Fine` only where every row of the table fails, so each row is read back as an
-- equation. From the first rows follow the bounds that the walk over the file needs: the record lies within the file, it has
-- at least 6 bytes, and there is room for one more symbol or statement.
use Rattle.std.proofs.Common.{None}
use Prim.Native.Nat.{ℕ, ◌+◌, ◌≤◌, ◌<◌}
use mathlib.Core.Path.{◌≡◌, refl}
use mathlib.Core.Bool.{Bool, true, false}
use mathlib.Core.List.{List}
use native.Mathlib.Omega.{arith}
use lib.ListN.{length}
use Rattle.frames.specs.Logic.{below, at_most, equal, both}
use Rattle.frames.specs.Layout.{length_at, kind_at, next_at, is_statement, class_at, hyp_count, pair_count, listed_count, rest_from, rest_size}
use Rattle.frames.specs.Table.{unknown_kind, bad_rest, no_symbols, cut_short, off_layout, bad_record, too_many, bad_symbol, bad_label, bad_reference, bad_frame, no_proof}
use Rattle.frames.specs.Verdict.{unless, fault_at, Fault}
use Rattle.frames.specs.declared.Refusal.{Refusal}
use Rattle.frames.specs.declared.Refusal.TheVariants.{BadRecord, TooMany, BadSymbol, BadLabel, BadReference, BadFrame, NoProof}
use Rattle.frames.proofs.Chains.{below_false, at_most-false, equal-yes}
use Rattle.frames.proofs.Tells.{one_of-false, both_false}

-- every row of the table fails at the record at `o`
pub record Faultless (f syms stmts : List ℕ) (owed : Bool) (o : ℕ) : Type 0 where
  pub record_row : bad_record f o ≡ false
  pub limit_row : too_many f syms stmts o ≡ false
  pub symbol_row : bad_symbol f syms o ≡ false
  pub label_row : bad_label f stmts o ≡ false
  pub reference_row : bad_reference f syms stmts o ≡ false
  pub frame_row : bad_frame f syms stmts o ≡ false
  pub proof_row : no_proof f owed o ≡ false

-- a chain that ends in `Fine` passed this test
unless-fine : (t : Bool) (why : Refusal) (rest : Fault) → unless t why rest ≡ None → (t ≡ false) × (rest ≡ None)
unfolding unless
unless-fine true why rest e = let z : ◌≡◌ {A = ℕ} 0 1 = cc in absurd (omega arith)
unless-fine false why rest e = (refl, e)

pub fault-fine : (f syms stmts : List ℕ) (owed : Bool) (o : ℕ) → fault_at f syms stmts owed o ≡ None → Faultless f syms stmts owed o
unfolding fault_at
fault-fine f syms stmts owed o e =
    let r1 = unless-fine (bad_record f o) BadRecord _ e in
    let r2 = unless-fine (too_many f syms stmts o) TooMany _ r1.1 in
    let r3 = unless-fine (bad_symbol f syms o) BadSymbol _ r2.1 in
    let r4 = unless-fine (bad_label f stmts o) BadLabel _ r3.1 in
    let r5 = unless-fine (bad_reference f syms stmts o) BadReference _ r4.1 in
    let r6 = unless-fine (bad_frame f syms stmts o) BadFrame _ r5.1 in
    let r7 = unless-fine (no_proof f owed o) NoProof _ r6.1 in
    record {
      record_row = r1.0;
      limit_row = r2.0;
      symbol_row = r3.0;
      label_row = r4.0;
      reference_row = r5.0;
      frame_row = r6.0;
      proof_row = r7.0;
    }

-- row 1, test by test
pub record WellFormed (f : List ℕ) (o : ℕ) : Type 0 where
  pub within : next_at f o ≤ length f
  pub long : 2 ≤ length_at f o
  pub kind : unknown_kind (kind_at f o) ≡ false
  pub class : both (equal (kind_at f o) 1) (below 1 (class_at f o)) ≡ false
  pub lists : rest_from f o ≤ next_at f o
  pub rest : bad_rest (kind_at f o) (rest_size f o) ≡ false
  pub symbols : no_symbols (kind_at f o) (listed_count f o) ≡ false

pub record-well-formed : (f : List ℕ) (o : ℕ) → bad_record f o ≡ false → WellFormed f o
unfolding bad_record cut_short off_layout
record-well-formed f o e =
    let t1 = one_of-false (cut_short f o) _ e in
    let t2 = one_of-false (below (length_at f o) 2) _ t1.1 in
    let t3 = one_of-false (unknown_kind (kind_at f o)) _ t2.1 in
    let t4 = one_of-false (both (equal (kind_at f o) 1) (below 1 (class_at f o))) _ t3.1 in
    let t5 = one_of-false (off_layout f o) _ t4.1 in
    let t6 = one_of-false (below (next_at f o) (rest_from f o)) _ t5.0 in
    let t7 = one_of-false (no_symbols (kind_at f o) (listed_count f o)) _ t6.1 in
    let t8 = one_of-false (bad_rest (kind_at f o) (rest_size f o)) _ t7.1 in
    record {
      within = below_false _ _ t1.0;
      long = below_false _ _ t2.0;
      kind = t3.0;
      class = t4.0;
      lists = below_false _ _ t6.0;
      rest = t8.0;
      symbols = t7.0;
    }

-- row 2, test by test
pub record WithinLimits (f syms stmts : List ℕ) (o : ℕ) : Type 0 where
  pub symbol_room : kind_at f o ≡ 1 → length syms < 4096
  pub statement_room : is_statement (kind_at f o) ≡ true → length stmts < 4096
  pub hyps : hyp_count f o ≤ 64
  pub pairs : pair_count f o ≤ 512
  pub listed : listed_count f o ≤ 1024
  pub text : kind_at f o ≡ 6 → rest_size f o ≤ 65536

pub limits-kept : (f syms stmts : List ℕ) (o : ℕ) → too_many f syms stmts o ≡ false → WithinLimits f syms stmts o
unfolding too_many
limits-kept f syms stmts o e =
    let t1 = one_of-false (both (equal (kind_at f o) 1) (at_most 4096 (length syms))) _ e in
    let t2 = one_of-false (both (is_statement (kind_at f o)) (at_most 4096 (length stmts))) _ t1.1 in
    let t3 = one_of-false (below 64 (hyp_count f o)) _ t2.1 in
    let t4 = one_of-false (below 512 (pair_count f o)) _ t3.1 in
    let t5 = one_of-false (below 1024 (listed_count f o)) _ t4.1 in
    let t6 = one_of-false (both (equal (kind_at f o) 6) (below 65536 (rest_size f o))) _ t5.1 in
    record {
      symbol_room = λ k. at_most-false _ _ (both_false _ _ t1.0 (equal-yes k));
      statement_room = λ k. at_most-false _ _ (both_false _ _ t2.0 k);
      hyps = below_false _ _ t3.0;
      pairs = below_false _ _ t4.0;
      listed = below_false _ _ t5.0;
      text = λ k. below_false _ _ (both_false _ _ t6.0 (equal-yes k));
    }

module _ (f syms stmts : List ℕ) (owed : Bool) (o : ℕ) (fine : fault_at f syms stmts owed o ≡ None) where
  -- the record ends within the file
  pub fine-next : next_at f o ≤ length f
  fine-next = (record-well-formed f o (fault-fine f syms stmts owed o fine).record_row).within

  -- the next record begins at least 6 bytes on
  pub fine-moves : o + 6 ≤ next_at f o
  unfolding next_at
  fine-moves = let w = (record-well-formed f o (fault-fine f syms stmts owed o fine).record_row).long in omega arith

  -- there is room for one more symbol
  pub fine-symbol-room : kind_at f o ≡ 1 → length syms < 4096
  fine-symbol-room = (limits-kept f syms stmts o (fault-fine f syms stmts owed o fine).limit_row).symbol_room

  -- there is room for one more statement
  pub fine-statement-room : is_statement (kind_at f o) ≡ true → length stmts < 4096
  fine-statement-room = (limits-kept f syms stmts o (fault-fine f syms stmts owed o fine).limit_row).statement_room
