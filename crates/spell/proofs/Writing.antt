-- The loop that writes what is pending: whatever remains where it begins, the same whole remains after each turn, and the loop ends when nothing does.
use Prim.Native.Nat.{ℕ, suc, ◌+◌, ◌≤◌, ◌<◌}
use mathlib.Core.Path.{◌≡◌, refl, ◌∙◌, ap}
use mathlib.Core.Bool.{Bool, true, false}
use mathlib.Core.List.{List, [], ◌∷◌}
use native.Mathlib.Omega.{arith}
use lib.ListN.{length, get_or, drop, set, length-set}
use Rattle.frames.specs.Logic.{below, at_most, pick}
use Rattle.frames.specs.Database.{Database, database, statement_at, GoodFile}
use Rattle.frames.proofs.Chains.{below_true, at_most-true}
use Rattle.postorder.specs.LongForm.{following}
use Rattle.packed.specs.Pool.{written}
use Rattle.packed.proofs.Written.{written-past}
use Rattle.tree.specs.Recorded.{Applications, Recorded}
use Rattle.spell.specs.Words.{offset_of, words_below, PushesWords}
use Rattle.spell.specs.Text.{Puts, Pending, none, top, Remains, WritesPending, WritesText}
use Rattle.spell.proofs.Turning.{turned, remains-nothing, remains-one}

-- what is pending is within the table
pushes-within : {words : List ℕ} {depth : ℕ} {table table' : List ℕ} {depth' : ℕ} → PushesWords words depth table table' depth' → depth ≤ length table → depth' ≤ length table
unfolding pick
pushes-within {words} {depth} {table} {table'} {depth'} p l = tried (at_most (depth + length words) (length table)) refl p.count
  where
    tried : (t : Bool) → at_most (depth + length words) (length table) ≡ t → depth' ≡ pick t (depth + length words) depth → depth' ≤ length table
    tried true e q = let fits = at_most-true _ _ e in omega arith
    tried false e q = omega arith

-- what stands from `size` on stays
puts-past : {label : List ℕ} {end : ℕ} {out out' : List ℕ} {from : ℕ} (size : ℕ) → Puts label end out out' from → end ≤ size + 1 → size ≤ length out
    → drop size out' ≡ drop size out
unfolding pick
puts-past {label} {end} {out} {out'} {from} size p l fits = tried (below (length label) end) refl p.stands
  where
    tried : (t : Bool) → below (length label) end ≡ t → 32 ∷ out' ≡ pick t (written (32 ∷ label) from (32 ∷ out)) (32 ∷ out) → drop size out' ≡ drop size out
    tried true e q =
        let short = below_true _ _ e in
        let begins = p.begins in
        ap (drop (suc size)) q ∙ written-past (32 ∷ label) from (32 ∷ out) (suc size) (omega arith) (omega arith)
    tried false e q = ap (drop (suc size)) q

-- no labels, no bytes
no_bytes : (db : Database) (order : List ℕ) → order ≡ [] → length (following db order) ≡ 0
unfolding following
no_bytes db order e = rw e refl

-- the loop's invariant
pub record Going (f entries first : List ℕ) (start size : ℕ) (output table out : List ℕ) (depth end : ℕ) : Type 0 where
  pub table_sized : length table ≡ length first
  pub output_sized : length out ≡ length output
  pub fits : size ≤ length out
  pub within : depth ≤ length table
  pub room : end ≤ size + 1
  pub past : drop size out ≡ drop size output
  pub remains : (kept : Applications) (n : ℕ) (whole : List ℕ) → GoodFile f → Recorded f entries kept n → size ≤ 65536 → 32768 ≤ length first
      → Remains f kept first start (size + 1) output whole → Remains f kept table depth end out whole

pub going-first : (f entries first : List ℕ) (start size : ℕ) (output : List ℕ) (end : ℕ) → start ≤ length first → size ≤ length output → end ≡ size + 1
    → Going f entries first start size output first output start end
going-first f entries first start size output end l g e =
    record {
      table_sized = refl;
      output_sized = refl;
      fits = g;
      within = l;
      room = omega arith;
      past = refl;
      remains = λ kept n whole good r small large remains. rw e remains;
    }

module _ {f entries first : List ℕ} {start size : ℕ} {output table out : List ℕ} {depth end : ℕ} (going : Going f entries first start size output table out depth end) where
  pub going_more : {left depth' end' word : ℕ} {label table' out' : List ℕ} → depth ≡ left + 1 → word ≡ get_or table left 0 → label ≡ (statement_at f (offset_of entries word)).label
      → length table' ≡ length table → length out' ≡ length out → Puts label end out out' end' → PushesWords (words_below f entries word) left table table' depth'
      → Going f entries first start size output table' out' depth' end'
  going_more {left} {word = word} d top-word Label-is same same_out puts pushes =
      let within = pushes-within pushes (omega (arith, going.within)) in
      record {
        table_sized = same ∙ going.table_sized;
        output_sized = same_out ∙ going.output_sized;
        fits = omega (arith, going.fits);
        within = omega arith;
        room = omega (arith, puts.begins, going.room);
        past = puts-past size puts going.room going.fits ∙ going.past;
        remains = λ kept n whole good r small large remains.
            turned good r (going.remains kept n whole good r small large remains) d going.within (omega (arith, going.room, going.fits))
            (omega (arith, going.room)) (omega (arith, going.table_sized)) (rw (Label-is, top-word) at puts) (rw top-word at pushes);
      }

  -- the end of the loop, where all is written
  pub going_done : end ≡ 0 → WritesPending f entries first start size output out
  going_done e =
      record {
        past = going.past;
        follows = λ kept n whole good r small large remains. remains-nothing (going.remains kept n whole good r small large remains) e;
      }

  -- bytes are left and nothing is pending: there was nothing that could be written
  pub going-stopped : 0 < end → depth ≡ 0 → WritesPending f entries first start size output out
  going-stopped l e =
      record {
        past = going.past;
        follows = λ kept n whole good r small large remains. absurd (lacking (going.remains kept n whole good r small large remains));
      }
    where
      nothing_left : {kept : Applications} {k : ℕ} {order : List ℕ} → k ≡ 0 → Pending f kept table k order → order ≡ []
      nothing_left z (none q) = refl
      nothing_left z (top rest q d g) = absurd (omega arith)

      lacking : {kept : Applications} {whole : List ℕ} → Remains f kept table depth end out whole → ⊥
      lacking r = omega (arith, r.room, no_bytes (database f) r.order (nothing_left e r.pending))

-- nothing is written where the output or the table is too short
pub text-no-output : (f entries : List ℕ) (word size : ℕ) (table out : List ℕ) → length out < size → WritesText f entries word size table out out
text-no-output f entries word size table out l =
    record { sized = refl; past = refl; follows = λ kept n tree good r d sized small fits large. absurd (omega arith) }

pub text-no-table : (f entries : List ℕ) (word size : ℕ) (table out : List ℕ) → length table ≡ 0 → WritesText f entries word size table out out
text-no-table f entries word size table out l =
    record { sized = refl; past = refl; follows = λ kept n tree good r d sized small fits large. absurd (omega arith) }

-- the word is pending alone
pub text-written : (f entries : List ℕ) (word size : ℕ) (table out out' : List ℕ) → length out' ≡ length out
    → WritesPending f entries (set table 0 word) 1 size out out' → WritesText f entries word size table out out'
text-written f entries word size table out out' same w =
    record {
      sized = same;
      past = w.past;
      follows = λ kept n tree good r d sized small fits large.
          behind (w.follows kept n _ good r small (omega (arith, length-set table 0 word)) (remains-one table size out d sized (omega arith)));
    }
  where
    behind : {xs ys : List ℕ} → 32 ∷ xs ≡ 32 ∷ ys → xs ≡ ys
    behind e = cc
