-- Our tables, cleared, and what is lent, are as a proof asks them to be.
use Prim.Native.Nat.{ℕ, ◌/◌, ◌*◌, ◌≤◌, ◌<◌, min}
use mathlib.Core.Path.{◌≡◌, sym, ◌∙◌, ap}
use mathlib.Core.List.{List}
use native.Mathlib.Omega.{arith}
use lib.ListN.{length, length-replicate}
use Rattle.clearing.specs.Cleared.{cleared}
use Rattle.clearing.proofs.Clearing.{cleared-zeros}
use Rattle.frames.specs.Database.{database}
use Rattle.machine.specs.Memory.{Room, limited}
use Rattle.memory.specs.declared.Limits.{Limits}
use Rattle.memory.specs.Shown.{room_of}
use Rattle.resolve.specs.Filed.{Filed}
use Rattle.facts.proofs.Decoded.{database-symbols}
use Rattle.facts.proofs.GoodFacts.{good-facts}
use Rattle.resolve.proofs.Filing.{filed-length}
use Rattle.begin.specs.Begins.{Unnumbered, Roomy}
use Rattle.disjoint.specs.Disjoint.{Cleared}
use Rattle.apply.specs.Hyps.{Ranged}
use Rattle.run.specs.Running.{env, tables}
use Rattle.proof.specs.Whole.{Blank}
use Rattle.told.specs.Says.{room_lent}
use Rattle.proving.specs.Ours.{Ours, Cut}

-- a cleared table
module _ (xs : List ℕ) {ys : List ℕ} (is : ys ≡ cleared xs) where
  cleared-size : length ys ≡ length xs
  cleared-size = ap length is ∙ length-replicate {0} {A = ℕ} (length xs) 0

  cleared-numbers : (f : List ℕ) → length xs ≡ length (database f).symbols → Unnumbered f ys
  cleared-numbers f size = record { zeros = cleared-zeros xs is; sized = omega (arith, cleared-size) }

  cleared-pairs : length xs ≡ 1024 → Cleared ys
  cleared-pairs size = record { sized = cleared-size ∙ size; zero = cleared-zeros xs is }

cleared-ranges : (xs ys : List ℕ) {froms tos : List ℕ} → froms ≡ cleared xs → tos ≡ cleared ys → Ranged froms tos 0
cleared-ranges xs ys e g =
    record {
      rises = λ s. let z = cleared-zeros xs e s in omega arith;
      within = λ s. let z = cleared-zeros ys g s in omega arith;
    }

-- the limits that are kept, from what is lent
module _ (limits : Limits) (pool stack places : ℕ) (is : room_of limits ≡ limited (room_lent pool stack places)) where
  pool-limit : limits.pool ≡ min pool 65536
  unfolding limited room_lent
  pool-limit = ap (λ (r : Room). r.pool) is

  stack_limit : limits.stack ≡ min (stack / 10) 1024
  unfolding limited room_lent
  stack_limit = ap (λ (r : Room). r.stack) is

  places_limit : limits.places ≡ min (places / 10) 4096
  unfolding limited room_lent
  places_limit = ap (λ (r : Room). r.places) is

roomy : (limits : Limits) (pool stack places locals tree : List ℕ) → 12288 ≤ length locals → length tree ≤ 131072
    → room_of limits ≡ limited (room_lent (length pool) (length stack) (length places)) → Roomy limits pool stack places locals tree
roomy limits pool stack places locals tree size few is =
    let p = pool-limit limits _ _ _ is in
    let s = stack_limit limits _ _ _ is in
    let q = places_limit limits _ _ _ is in
    record {
      pool_sized = omega arith;
      stack_limit = omega arith;
      stack_sized = omega arith;
      places_limit = omega arith;
      places_sized = omega arith;
      locals_sized = size;
      tree_limit = few;
    }

-- the index has as many symbols as the file
pub filed-width : {f syms stmts : List ℕ} → Filed f syms stmts → length syms ≡ length (database f).symbols
filed-width {f} w = ap length w.symbols ∙ sym (database-symbols f)

pub width_few : {f syms stmts : List ℕ} → Filed f syms stmts → length syms ≤ 4096
width_few {f} w = let few = (good-facts f w.good).symbol-count in let width = filed-width w in omega arith

-- it has at most 4,096 statements
pub statements_few : {f syms stmts : List ℕ} → Filed f syms stmts → length stmts ≤ 4096
statements_few {f} w = let few = (good-facts f w.good).statement_count in let l = filed-length w in omega arith

-- so much of our tables
pub cut : (syms : List ℕ) {table seats froms tos sets numbers locals froms' tos' sets' numbers' : List ℕ} → Ours table seats froms tos sets numbers locals → length froms' ≡ length syms
    → length tos' ≡ length syms → length sets' ≡ 4 * length syms → length numbers' ≡ length syms → Cut (length syms) table seats froms' tos' sets' numbers' locals
cut syms o a b d e =
    record {
      table_size = o.table_size;
      seats_size = o.seats_size;
      froms_size = a;
      tos_size = b;
      sets_size = d;
      numbers_size = e;
      locals_size = o.locals_size;
    }

module _ (f syms stmts text table seats froms tos sets numbers pool stack places locals tree : List ℕ) (p : ℕ) {limits : Limits}
    {table' froms' tos' numbers' : List ℕ} where
  pub blank : Filed f syms stmts → (p < length stmts) × (length text ≤ 65536) → Cut (length syms) table seats froms tos sets numbers locals → length tree ≤ 131072
      → table' ≡ cleared table → froms' ≡ cleared froms → tos' ≡ cleared tos → numbers' ≡ cleared numbers
      → room_of limits ≡ limited (room_lent (length pool) (length stack) (length places))
      → Blank (env f syms stmts p text table' limits) (tables seats froms' tos' sets numbers' pool stack places locals tree)
  blank w a o few et ef eo en is =
      let width = filed-width w in
      record {
        filed = w;
        asked = omega (arith, filed-length w, a.0);
        text_few = a.1;
        small = omega (arith, pool-limit limits _ _ _ is);
        numbers = cleared-numbers numbers en f (o.numbers_size ∙ width);
        table = cleared-pairs table et o.table_size;
        roomy = roomy limits pool stack places locals tree o.locals_size few is;
        sized = record {
          seats = o.seats_size;
          froms = cleared-size froms ef ∙ (o.froms_size ∙ width);
          tos = cleared-size tos eo ∙ (o.tos_size ∙ width);
          sets = o.sets_size ∙ ap (λ (k : ℕ). 4 * k) width;
          ranged = cleared-ranges froms tos ef eo;
        };
      }
