-- The variables of listed $f, numbered one after another.
use Prim.Native.Nat.{ℕ, suc, ◌+◌, ◌≤◌, ◌<◌}
use mathlib.Core.Path.{◌≡◌, refl, sym, ◌∙◌, ap}
use mathlib.Core.Bool.{Bool, true, false}
use mathlib.Core.List.Memᴰ
use mathlib.Core.List.{List, [], ◌∷◌, ◌++◌}
use native.Mathlib.Omega.{arith}
use lib.ListN.{length, get_or, take, length-append}
use lib.Seq.{take-suc, take_all}
use Rattle.frames.specs.Logic.{equal}
use Rattle.frames.specs.Database.{Statement, Database, statement_at}
use Rattle.frames.specs.Facts.{◌∈◌, statement_of, floated}
use Rattle.frames.proofs.Chains.{equal-yes, equal-no}
use Rattle.machine.specs.Ground.{add_if, is_float, mandatory}
use Rattle.machine.specs.Run.{all_numbered}
use Rattle.machine.specs.Prepare.{numbered}
use Rattle.variables.specs.Numbering.{Maps, MapsAll, float_at, floats_at}
use Rattle.variables.proofs.Pairs.{all_none, all_more}

pub float-yes : (f : List ℕ) (at k v : ℕ) → k ≡ (statement_at f at).kind → k ≡ 2 → v ≡ get_or (statement_at f at).symbols 1 0
    → v ∷ [] ≡ float_at f at
unfolding add_if is_float floated
float-yes f at k v c two i = rw (equal-yes (sym c ∙ two)) (ap (λ (x : ℕ). x ∷ []) i)

pub float-no : (f : List ℕ) (at k : ℕ) → k ≡ (statement_at f at).kind → (k ≡ 2 → ⊥) → [] ≡ float_at f at
unfolding add_if is_float
float-no f at k c n = rw (equal-no (λ two. n (c ∙ two))) refl

-- that of one statement, by the table of the statements' offsets
pub float-listed : (f stmts : List ℕ) (h o : ℕ) → o ≡ get_or stmts h 0 → float_at f o ≡ floats_at f stmts (h ∷ [])
unfolding floats_at
float-listed f stmts h o e = ap (float_at f) e

-- the same list by another name
pub all_same : {table xs ys table' : List ℕ} {count count' : ℕ} → xs ≡ ys → MapsAll table count xs table' count' → MapsAll table count ys table' count'
all_same e m = rw e at m

pub all_one : {table table' : List ℕ} {count v count' : ℕ} → Maps table count v table' count' → MapsAll table count (v ∷ []) table' count'
all_one {table} {table'} {count} one = all_more (all_none table count) one

numbered-append : (vs xs ys : List ℕ) → all_numbered vs (xs ++ ys) ≡ all_numbered (all_numbered vs xs) ys
unfolding all_numbered
numbered-append vs [] ys = refl
numbered-append vs (x ∷ xs) ys = numbered-append (numbered vs x) xs ys

-- one list after another
pub all_join : {table xs table' ys table'' : List ℕ} {count count' count'' : ℕ} → MapsAll table count xs table' count'
    → MapsAll table' count' ys table'' count'' → MapsAll table count (xs ++ ys) table'' count''
all_join {table} {xs} {table'} {ys} first then =
    let a = first.few in
    let b = then.few in
    record {
      sized = then.sized ∙ first.sized;
      few = omega (arith, length-append xs ys);
      maps = λ vs h n.
          rw (numbered-append vs xs ys)
          (then.maps (all_numbered vs xs)
          (λ w m. let l = h w (Memᴰ.append_right xs m) in let s = first.sized in omega arith)
          (first.maps vs (λ w m. h w (Memᴰ.append_left ys m)) n));
    }

added-append : (t : Bool) (x : ℕ) (xs ys : List ℕ) → add_if t x (xs ++ ys) ≡ add_if t x xs ++ ys
unfolding add_if
added-append true x xs ys = refl
added-append false x xs ys = refl

floats-append : (f stmts xs ys : List ℕ) → floats_at f stmts (xs ++ ys) ≡ floats_at f stmts xs ++ floats_at f stmts ys
unfolding floats_at
floats-append f stmts [] ys = refl
floats-append f stmts (x ∷ xs) ys =
    ap (λ (r : List ℕ). add_if (is_float (statement_at f (get_or stmts x 0))) (floated (statement_at f (get_or stmts x 0))) r) (floats-append f stmts xs ys)
    ∙ added-append _ _ (floats_at f stmts xs) (floats_at f stmts ys)

-- those before the i-th hypothesis, and that one
pub floats-more : (f stmts hs : List ℕ) (i h : ℕ) → i < length hs → h ≡ get_or hs i 0
    → floats_at f stmts (take (i + 1) hs) ≡ floats_at f stmts (take i hs) ++ floats_at f stmts (h ∷ [])
floats-more f stmts hs i h l e =
    let next : i + 1 ≡ suc i = omega arith in
    ap (floats_at f stmts) (ap (λ (k : ℕ). take k hs) next ∙ take-suc hs i 0 l ∙ ap (λ (x : ℕ). take i hs ++ (x ∷ [])) (sym e))
    ∙ floats-append f stmts (take i hs) (h ∷ [])

pub floats-all : (f stmts hs : List ℕ) (i : ℕ) → length hs ≤ i → floats_at f stmts (take i hs) ≡ floats_at f stmts hs
floats-all f stmts hs i l = ap (floats_at f stmts) (take_all i hs l)

added-length : (t : Bool) (x : ℕ) (xs : List ℕ) → length (add_if t x xs) ≤ suc (length xs)
unfolding add_if
added-length true x xs = omega arith
added-length false x xs = omega arith

pub floats-few : (f stmts hs : List ℕ) → length (floats_at f stmts hs) ≤ length hs
unfolding floats_at
floats-few f stmts [] = omega arith
floats-few f stmts (h ∷ hs) =
    let rest = floats-few f stmts hs in
    let one = added-length (is_float (statement_at f (get_or stmts h 0))) (floated (statement_at f (get_or stmts h 0))) (floats_at f stmts hs) in
    omega arith

-- where the table has the statements' offsets, these are the mandatory variables
pub floats-mandatory : (db : Database) (f stmts hs : List ℕ) → ((h : ℕ) → h ∈ hs → statement_at f (get_or stmts h 0) ≡ statement_of db h)
    → floats_at f stmts hs ≡ mandatory db hs
unfolding floats_at mandatory
floats-mandatory db f stmts [] known = refl
floats-mandatory db f stmts (h ∷ hs) known =
    let here = known h (Memᴰ.head refl) in
    let rest = floats-mandatory db f stmts hs (λ g m. known g (Memᴰ.tail m)) in
    ap (λ (st : Statement). add_if (is_float st) (floated st) (floats_at f stmts hs)) here
    ∙ ap (λ (r : List ℕ). add_if (is_float (statement_of db h)) (floated (statement_of db h)) r) rest
