-- The law that the layers above use: the database of a good file satisfies every fact, and so does the file. The index of a
-- good file has a history, and each fact is read off it.
use Prim.Native.Nat.{ℕ, ◌+◌, ◌≤◌, ◌<◌}
use mathlib.Core.Path.{◌≡◌, refl}
use mathlib.Core.Bool.{false}
use mathlib.Core.List.{List}
use lib.ListN.{length}
use Rattle.frames.specs.Logic.{below}
use Rattle.frames.specs.Verdict.{Index, nothing, refusal, walk, outcome, verdict, index, Good}
use Rattle.frames.specs.Database.{symbol_at, statement_at, decode, database, GoodFile}
use Rattle.frames.specs.Facts.{Facts, FileFacts}
use Rattle.frames.specs.declared.Refusal.TheVariants.{TooMany}
use Rattle.frames.proofs.Chains.{below_false}
use Rattle.facts.proofs.Kept.{pick-cases, refused-not-good}
use Rattle.frames.proofs.Fine.{record-well-formed}
use Rattle.facts.proofs.History.{History, good-history}
use Rattle.facts.proofs.Decoded.{symbols-length, statements-length, symbol-read, statement-read}
use Rattle.facts.proofs.GoodSymbols.{symbols_few, symbol-record, names_apart}
use Rattle.facts.proofs.GoodStatements.{statements-few, labels_apart, proof-read, statement-record}

module _ (f : List ℕ) (ix : Index) (o : ℕ) (past : History f ix.symbols ix.statements false o) where
  -- a number of the database is a number of the index
  symbol-inside : (s : ℕ) → s < length (decode f ix).symbols → s < length ix.symbols
  symbol-inside s h = rw (symbols-length f ix) at h

  statement-inside : (p : ℕ) → p < length (decode f ix).statements → p < length ix.statements
  statement-inside p h = rw (statements-length f ix) at h

  decoded-facts : Facts (decode f ix)
  unfolding symbol_at statement_at
  decoded-facts =
      record {
        symbol-count = rw (symbols-length f ix) (symbols_few f ix.symbols ix.statements false o past);
        statement_count = rw (statements-length f ix) (statements-few f ix o past);
        symbol = λ s h.
            let l = symbol-inside s h in
            rw (symbol-read f ix s l) (symbol-record f ix.symbols ix.statements false o past s l);
        statement = λ p h.
            let l = statement-inside p h in
            rw (statement-read f ix p l) (statement-record f ix o past p l);
        names_differ = λ s t h g e.
            let l = symbol-inside s h in
            let m = symbol-inside t g in
            names_apart f ix.symbols ix.statements false o past s t l m
            (rw (symbol-read f ix s l, symbol-read f ix t m) at e);
        labels_differ = λ p q h g e.
            let l = statement-inside p h in
            let m = statement-inside q g in
            labels_apart f ix o past p q l m (rw (statement-read f ix p l, statement-read f ix q m) at e);
      }

-- every fact holds of a good file's database
pub good-facts : (f : List ℕ) → GoodFile f → Facts (database f)
unfolding database
good-facts f good = let h = good-history f good in decoded-facts f (index f) h.0 h.1

-- a good file is not too long
good-size : (f : List ℕ) → GoodFile f → length f ≤ 1048576
unfolding verdict outcome refusal
good-size f good =
    pick-cases (λ r. (a b : ℕ) → r.verdict ≡ Good a b → length f ≤ 1048576) (below 1048576 (length f))
    (refusal TooMany 0 nothing) (walk (length f + 1) f nothing 0)
    (λ t a b e. absurd (refused-not-good refl e)) (λ t a b e. below_false _ _ t) _ _ good.is

-- and every fact about where its records lie
pub good-file-facts : (f : List ℕ) → GoodFile f → FileFacts f
unfolding database symbol_at statement_at
good-file-facts f good =
    let h = good-history f good in
    let past = h.1 in
    record {
      size = good-size f good;
      symbol_kind = λ s g.
          let l = symbol-inside f (index f) h.0 past s g in
          rw (symbol-read f (index f) s l) (past.symbol s l).kind;
      symbol_within = λ s g.
          let l = symbol-inside f (index f) h.0 past s g in
          rw (symbol-read f (index f) s l) (record-well-formed f _ (past.symbol s l).faultless.record_row).within;
      statement_kind = λ p g. rw (statement-read f (index f) p (statement-inside f (index f) h.0 past p g)) refl;
      statement_within = λ p g.
          let l = statement-inside f (index f) h.0 past p g in
          rw (statement-read f (index f) p l) (record-well-formed f _ (past.statement p l).faultless.record_row).within;
      proof_follows = λ p g.
          let l = statement-inside f (index f) h.0 past p g in
          rw (statement-read f (index f) p l) (λ k. (proof-read f (index f) h.0 past p l k).kind);
      proof_within = λ p g.
          let l = statement-inside f (index f) h.0 past p g in
          rw (statement-read f (index f) p l) (λ k. (proof-read f (index f) h.0 past p l k).within);
    }
