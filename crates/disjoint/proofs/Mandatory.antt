-- The mandatory variables of a statement of a checked file.
use Prim.Native.Nat.{ℕ, ◌<◌}
use mathlib.Core.Path.{◌≡◌, refl, sym, ap, ◌∙◌}
use mathlib.Core.Bool.{Bool, true, false}
use mathlib.Core.List.{List, [], ◌∷◌}
use native.Mathlib.Omega.{arith}
use lib.ListN.{length, get_or}
use Rattle.frames.specs.Logic.{equal, either, both, any}
use Rattle.frames.specs.Layout.{kind_at, variable_at}
use Rattle.frames.specs.Table.{float_of}
use Rattle.frames.specs.Database.{Statement, database, statement_at}
use Rattle.frames.specs.Facts.{statement_of, floated}
use Rattle.frames.proofs.Chains.{equal-yes, equal-true}
use Rattle.facts.proofs.Decoded.{database-statements, database-statement}
use Rattle.facts.proofs.GoodFacts.{good-facts}
use Rattle.machine.specs.Ground.{is_float, among, add_if, mandatory}
use Rattle.packed.specs.Lists.{Located}
use Rattle.variables.specs.Numbering.{floats_at}
use Rattle.variables.proofs.Floats.{floats-mandatory}
use Rattle.resolve.specs.Filed.{Filed}
use Rattle.disjoint.specs.Disjoint.{TellsMandatory}
use Rattle.disjoint.proofs.Numbers.{alike}

turn : (a b : ℕ) → equal a b ≡ equal b a
turn a b = alike _ _ (λ e. equal-yes (sym (equal-true a b e))) (λ e. equal-yes (sym (equal-true b a e)))

among-added : (t : Bool) (x v : ℕ) (xs : List ℕ) → either (both t (equal x v)) (among xs v) ≡ among (add_if t x xs) v
unfolding among any add_if either both
among-added true x v xs = ap (λ (k : Bool). either k (among xs v)) (turn x v)
among-added false x v xs = refl

-- a listed $f of v
pub floats-among : (f stmts : List ℕ) (v : ℕ) (hs : List ℕ) → any (float_of f stmts v) hs ≡ among (floats_at f stmts hs) v
unfolding any among floats_at float_of is_float floated statement_at variable_at
floats-among f stmts v [] = refl
floats-among f stmts v (h ∷ hs) =
    ap (either (float_of f stmts v h)) (floats-among f stmts v hs)
    ∙ among-added (equal (kind_at f (get_or stmts h 0)) 2) (variable_at f (get_or stmts h 0)) v (floats_at f stmts hs)

read_at : (f : List ℕ) (st : Statement) (o : ℕ) → st ≡ statement_at f o → st.at ≡ o
unfolding statement_at
read_at f st o e = ap (λ (x : Statement). x.at) e

-- the statement at an offset is the statement of the number
pub located-statement : {f : List ℕ} {h at : ℕ} → Located f h at → statement_of (database f) h ≡ statement_at f at
located-statement {f} {h} {at} loc =
    let count = database-statements f in
    let read = database-statement f h (let t = loc.there in omega arith) in
    read ∙ ap (statement_at f) (sym (loc.offset ∙ read_at f _ _ read))

-- the table of a checked file has the offset of each statement
pub filed-statement : {f syms stmts : List ℕ} {h : ℕ} → Filed f syms stmts → h < length (database f).statements
    → statement_at f (get_or stmts h 0) ≡ statement_of (database f) h
filed-statement {f} {syms} {stmts} {h} filed l =
    let count = database-statements f in
    ap (λ (s : List ℕ). statement_at f (get_or s h 0)) filed.statements ∙ sym (database-statement f h (omega arith))

-- the variables of the listed $f are the mandatory variables
pub filed-mandatory : {f syms stmts : List ℕ} {a at : ℕ} → Filed f syms stmts → Located f a at
    → floats_at f stmts (statement_at f at).hyps ≡ mandatory (database f) (statement_of (database f) a).hyps
filed-mandatory {f} {syms} {stmts} {a} {at} filed loc =
    let good = (good-facts f filed.good).statement a loc.there in
    let t = loc.there in
    ap (λ (st : Statement). floats_at f stmts st.hyps) (sym (located-statement loc))
    ∙ floats-mandatory (database f) f stmts (statement_of (database f) a).hyps
    (λ h m. filed-statement filed (let e = (good.hyps_active h m).earlier in omega arith))

pub mandatory-told : (f stmts : List ℕ) (at v : ℕ) {r : Bool} → r ≡ among (floats_at f stmts (statement_at f at).hyps) v → TellsMandatory f stmts at v r
mandatory-told f stmts at v e = record { tells = λ syms a filed loc. e ∙ ap (λ (ms : List ℕ). among ms v) (filed-mandatory filed loc) }
