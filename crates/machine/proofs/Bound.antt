-- The substitution of an assertion that is applied: each $f binds its variable to what its entry proves, since no other listed $f has
-- that variable. So each hypothesis, under that substitution, is what its entry proves.
use Prim.Native.Nat.{ℕ, ◌<◌}
use mathlib.Core.Path.{◌≡◌, refl, sym, ◌∙◌}
use mathlib.Core.Bool.{Bool, true, false}
use mathlib.Core.List.Memᴰ
use mathlib.Core.List.{List, [], ◌∷◌, ◌++◌, append_assoc, append-nil}
use native.Mathlib.Omega.{arith}
use lib.ListN.{length, get_or, drop}
use Rattle.book.specs.Book.{Expression, Substitution, replaced, substituted, under}
use Rattle.frames.specs.Database.{Statement, Database}
use Rattle.frames.specs.Facts.{◌∈◌, statement_of, typecode, floated, Variable, Floats, StatementFacts}
use Rattle.frames.proofs.Chains.{pick_first, pick_second, both-second, equal-yes, equal-true}
use Rattle.frames.proofs.Tells.{both_true}
use Rattle.facts.proofs.InOrder.{after-above}
use Rattle.machine.specs.Ground.{is_variable, is_float, expression, expression_of}
use Rattle.machine.specs.Memory.{Proved}
use Rattle.machine.specs.Apply.{binds, bound}

-- h and x stand at the same position of two lists
pub data Paired {A : Type 0} : ℕ → A → List ℕ → List A → Type 0 where
  here : {h : ℕ} {x : A} {hs : List ℕ} {xs : List A} → Paired h x (h ∷ hs) (x ∷ xs)
  there : {h g : ℕ} {x y : A} {hs : List ℕ} {xs : List A} → Paired h x hs xs → Paired h x (g ∷ hs) (y ∷ xs)

paired-member : {A : Type 0} {h : ℕ} {x : A} {hs : List ℕ} {xs : List A} → Paired h x hs xs → h ∈ hs
paired-member here = Memᴰ.head refl
paired-member (there q) = Memᴰ.tail (paired-member q)

not-true : (t : Bool) → (t ≡ true → ⊥) → t ≡ false
not-true false n = refl
not-true true n = absurd (n refl)

pub float-kind : (st : Statement) → is_float st ≡ true → st.kind ≡ 2
unfolding is_float
float-kind st e = equal-true _ _ e

module _ (db : Database) where
  -- no $f of the list has the variable of a later one
  data Apart : List ℕ → Type 0 where
    none : Apart []
    also : {h : ℕ} {hs : List ℕ}
        → ((g : ℕ) → g ∈ hs → is_float (statement_of db g) ≡ true → binds (statement_of db h) (floated (statement_of db g)) ≡ false)
        → Apart hs → Apart (h ∷ hs)

  binds-self : (st : Statement) → is_float st ≡ true → true ≡ binds st (floated st)
  unfolding binds
  binds-self st f = both-second f (sym (equal-yes refl))

  bound-paired : {h : ℕ} {x : Proved} {hs : List ℕ} {xs : List Proved} → Apart hs → Paired h x hs xs
      → is_float (statement_of db h) ≡ true → bound db hs xs (floated (statement_of db h)) ≡ x.expression.symbols
  unfolding bound
  bound-paired none q f = elim q [ ]
  bound-paired (also a later) here f = sym (pick_first _ (sym (binds-self _ f)) refl)
  bound-paired (also a later) (there q) f =
      sym (pick_second _ (a _ (paired-member q) f) (sym (bound-paired later q f)))

  module _ (p : ℕ) (facts : StatementFacts db p (statement_of db p)) where
    one-binds : (done hs : List ℕ) (h : ℕ) → (statement_of db p).hyps ≡ done ++ (h ∷ hs) → (g : ℕ) → g ∈ hs
        → is_float (statement_of db g) ≡ true → binds (statement_of db h) (floated (statement_of db g)) ≡ true → ⊥
    unfolding binds
    one-binds done hs h split g m f b =
        let parts = both_true _ _ b in
        let there : Floats db (floated (statement_of db g)) g = record { kind = float-kind _ f; variable = refl } in
        let here' : Floats db (floated (statement_of db g)) h = record { kind = float-kind _ parts.0; variable = equal-true _ _ parts.1 } in
        let later : h < g = after-above done hs h (rw split at facts.hyps_rise) g m in
        let same : g ≡ h =
        facts.one_float g h _ (rw split (Memᴰ.append_right done (Memᴰ.tail m)))
        (rw split (Memᴰ.append_right done (Memᴰ.head refl))) there here' in
        omega arith

    apart : (done hs : List ℕ) → (statement_of db p).hyps ≡ done ++ hs → Apart hs
    apart done [] split = none
    apart done (h ∷ hs) split =
        also (λ g m f. not-true _ (one-binds done hs h split g m f))
        (apart (done ++ (h ∷ [])) hs (split ∙ sym (append_assoc done (h ∷ []) hs)))

    -- an entry paired with a $f is the image of its variable
    pub float-image : {h : ℕ} {x : Proved} {xs : List Proved} → Paired h x (statement_of db p).hyps xs
        → is_float (statement_of db h) ≡ true → bound db (statement_of db p).hyps xs (floated (statement_of db h)) ≡ x.expression.symbols
    float-image q f = bound-paired (apart [] _ refl) q f

second-alone : (xs : List ℕ) → length xs ≡ 2 → drop 1 xs ≡ get_or xs 1 0 ∷ []
second-alone (x ∷ y ∷ []) e = refl
second-alone [] e = absurd (omega arith)
second-alone (x ∷ []) e = absurd (omega arith)
second-alone (x ∷ y ∷ z ∷ zs) e = absurd (omega arith)

-- expressions are equal where both parts are
pub same-expression : {e g : Expression} → e.typecode ≡ g.typecode → e.symbols ≡ g.symbols → e ≡ g
same-expression {e} {g} t s =
    let made : ◌≡◌ {A = Expression} (record { typecode = e.typecode; symbols = e.symbols }) (record { typecode = g.typecode; symbols = g.symbols }) = cc in
    made

module _ (db : Database) (σ : Substitution) (p : ℕ) (facts : StatementFacts db p (statement_of db p)) where
  variable-is : Variable db (floated (statement_of db p)) → is_variable db (floated (statement_of db p)) ≡ true
  unfolding is_variable
  variable-is v = equal-yes v.class

  -- a $f under a substitution is the image of its variable, at its typecode
  pub float-under : is_float (statement_of db p) ≡ true
      → (under (is_variable db) σ (expression_of db p)).symbols ≡ σ (floated (statement_of db p))
  unfolding under expression_of expression substituted replaced floated
  float-under f =
      let kind = float-kind _ f in
      rw (second-alone _ (facts.float_symbols kind), variable-is (facts.float_variable kind)) (append-nil _)
