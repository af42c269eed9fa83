-- The first variables: the mandatory ones and the members of the pairs are among them, and all of them are symbols of the file.
use Prim.Native.Nat.{ℕ, ◌<◌}
use mathlib.Core.Path.{◌≡◌, refl, sym, ◌∙◌, ap}
use mathlib.Core.Bool.{Bool, true, false}
use mathlib.Core.Logic.{◌⊎◌, inl, inr}
use mathlib.Core.List.Memᴰ
use mathlib.Core.List.{List, [], ◌∷◌, ◌++◌}
use native.Mathlib.Omega.{arith}
use Rattle.frames.specs.Logic.{equal, pick}
use Rattle.frames.specs.Database.{Statement, Database, database, statement_at}
use Rattle.frames.specs.Facts.{◌∈◌, statement_of, floated}
use Rattle.frames.proofs.Chains.{equal-true}
use Rattle.frames.proofs.Tells.{any-witness}
use Rattle.facts.proofs.Decoded.{database-statements, database-statement}
use Rattle.machine.specs.Ground.{is_float, among, add_if, mandatory}
use Rattle.machine.specs.Prepare.{numbered}
use Rattle.machine.specs.Run.{all_numbered, members, first_variables}
use Rattle.packed.specs.Lists.{Located}

-- a number that is found stands in the list
among_there : (vs : List ℕ) (v : ℕ) → among vs v ≡ true → v ∈ vs
unfolding among
among_there vs v e = let w = any-witness (equal v) vs e in rw (equal-true v w.0 w.2) w.1

numbered-has : (vs : List ℕ) (v : ℕ) → v ∈ numbered vs v
unfolding numbered pick
numbered-has vs v = tried (among vs v) refl
  where
    tried : (t : Bool) → among vs v ≡ t → v ∈ pick (among vs v) vs (vs ++ (v ∷ []))
    tried true e = rw e (among_there vs v e)
    tried false e = rw e (Memᴰ.append_right vs (Memᴰ.head refl))

numbered-keeps : (vs : List ℕ) (v w : ℕ) → w ∈ vs → w ∈ numbered vs v
unfolding numbered pick
numbered-keeps vs v w i = tried (among vs v)
  where
    tried : (t : Bool) → w ∈ pick t vs (vs ++ (v ∷ []))
    tried true = i
    tried false = Memᴰ.append_left (v ∷ []) i

pub all-keeps : (vs xs : List ℕ) (w : ℕ) → w ∈ vs → w ∈ all_numbered vs xs
unfolding all_numbered
all-keeps vs [] w i = i
all-keeps vs (x ∷ xs) w i = all-keeps (numbered vs x) xs w (numbered-keeps vs x w i)

pub all-has : (vs xs : List ℕ) (w : ℕ) → w ∈ xs → w ∈ all_numbered vs xs
unfolding all_numbered
all-has vs [] w i = absurd (Memᴰ.not-nil i)
all-has vs (x ∷ xs) w i = found (Memᴰ.cases_cons i) (all-has (numbered vs x) xs w)
  where
    found : (w ≡ x) ⊎ (w ∈ xs) → (w ∈ xs → w ∈ all_numbered (numbered vs x) xs) → w ∈ all_numbered (numbered vs x) xs
    found (inl same) later = all-keeps (numbered vs x) xs w (rw same (numbered-has vs x))
    found (inr j) later = later j

-- the mandatory variables and the members of the pairs are first variables
pub mandatory-first : (db : Database) (p v : ℕ) → v ∈ mandatory db (statement_of db p).hyps → v ∈ first_variables db p
unfolding first_variables
mandatory-first db p v i = all-keeps _ _ v (all-has [] _ v i)

pub members-first : (db : Database) (p v : ℕ) → v ∈ members (statement_of db p).pairs → v ∈ first_variables db p
unfolding first_variables
members-first db p v i = all-has _ _ v i

-- the variables of listed $f are below n, where each of them is
pub mandatory-below : (db : Database) (n : ℕ) (hs : List ℕ) → ((h : ℕ) → h ∈ hs → (statement_of db h).kind ≡ 2 → floated (statement_of db h) < n)
    → (v : ℕ) → v ∈ mandatory db hs → v < n
unfolding mandatory is_float add_if
mandatory-below db n [] known v i = absurd (Memᴰ.not-nil i)
mandatory-below db n (h ∷ hs) known v i =
    found (equal (statement_of db h).kind 2) refl i (mandatory-below db n hs (λ g j. known g (Memᴰ.tail j)) v)
  where
    found : (t : Bool) → equal (statement_of db h).kind 2 ≡ t → v ∈ add_if t (floated (statement_of db h)) (mandatory db hs)
        → (v ∈ mandatory db hs → v < n) → v < n
    found true e j later = here (Memᴰ.cases_cons j)
      where
        here : (v ≡ floated (statement_of db h)) ⊎ (v ∈ mandatory db hs) → v < n
        here (inl same) = rw same (known h (Memᴰ.head refl) (equal-true _ _ e))
        here (inr k) = later k
    found false e j later = later j

-- the members of pairs are below n, where both of each pair are
pub members-below : (n : ℕ) (qs : List (ℕ × ℕ)) → ((q : ℕ × ℕ) → q ∈ qs → (q.0 < n) × (q.1 < n)) → (v : ℕ) → v ∈ members qs → v < n
unfolding members
members-below n [] known v i = absurd (Memᴰ.not-nil i)
members-below n (q ∷ qs) known v i =
    found (Memᴰ.cases_cons i) (known q (Memᴰ.head refl)) (members-below n qs (λ r j. known r (Memᴰ.tail j)) v)
  where
    second : (v ≡ q.1) ⊎ (v ∈ members qs) → q.1 < n → (v ∈ members qs → v < n) → v < n
    second (inl same) low later = rw same low
    second (inr k) low later = later k

    found : (v ≡ q.0) ⊎ (v ∈ (q.1 ∷ members qs)) → (q.0 < n) × (q.1 < n) → (v ∈ members qs → v < n) → v < n
    found (inl same) low later = rw same low.0
    found (inr j) low later = second (Memᴰ.cases_cons j) low.1 later

-- the statement that is read at its offset
read_at : (f : List ℕ) (st : Statement) (o : ℕ) → st ≡ statement_at f o → st.at ≡ o
unfolding statement_at
read_at f st o e = ap (λ (x : Statement). x.at) e

pub located-statement : {f : List ℕ} {h at : ℕ} → Located f h at → statement_of (database f) h ≡ statement_at f at
located-statement {f} {h} {at} loc =
    let count = database-statements f in
    let read = database-statement f h (let t = loc.there in omega arith) in
    read ∙ ap (statement_at f) (sym (loc.offset ∙ read_at f _ _ read))
