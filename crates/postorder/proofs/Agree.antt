-- The substitution that a run finds agrees with that of the derivation: on the variables of the listed $f, and so on the claim and on every
-- listed $e. So the entries pass the tests on hypotheses.
use Prim.Native.Nat.{ℕ, suc, ◌≤◌, ◌<◌}
use mathlib.Core.Path.{◌≡◌, refl, sym, ap, ◌∙◌}
use mathlib.Core.Bool.{Bool, true, false}
use mathlib.Core.Logic.{◌⊎◌, inl, inr}
use mathlib.Core.List.Memᴰ
use mathlib.Core.List.{List, [], ◌∷◌, map}
use native.Mathlib.Omega.{arith}
use lib.ListN.{length, drop}
use Rattle.book.specs.Book.{Expression, Substitution, replaced, substituted, under}
use Rattle.frames.specs.Logic.{both, no, same}
use Rattle.frames.specs.Database.{Statement, Database}
use Rattle.frames.specs.Facts.{◌∈◌, statement_of, floated, Variable, Given, Facts}
use Rattle.frames.proofs.Chains.{both_first, both-second, no-of-true, no-of-false, equal-yes, equal-true}
use Rattle.frames.proofs.Tells.{true-not-false}
use Rattle.frames.proofs.Found.{same_self}
use Rattle.machine.specs.Chain.{Result}
use Rattle.machine.specs.Ground.{is_variable, is_float, expression, expression_of}
use Rattle.machine.specs.Memory.{Proved}
use Rattle.machine.specs.Apply.{bound, check_hyp, check_hyps}
use Rattle.machine.proofs.Bound.{Paired, here, there, float-image, float-under, same-expression}
use Rattle.postorder.proofs.Comes.{Comes, unless_not}

pub float-yes : (st : Statement) → st.kind ≡ 2 → is_float st ≡ true
unfolding is_float
float-yes st k = equal-yes k

member-drop : {v : ℕ} (xs : List ℕ) → v ∈ drop 1 xs → v ∈ xs
member-drop [] m = m
member-drop (x ∷ xs) m = Memᴰ.tail m

module _ (db : Database) (σ τ : Substitution) where
  -- substitutions that agree on the variables of a sequence do the same to it
  pub substituted-same : (ss : List ℕ) → ((v : ℕ) → v ∈ ss → is_variable db v ≡ true → σ v ≡ τ v)
      → substituted (is_variable db) σ ss ≡ substituted (is_variable db) τ ss
  unfolding substituted replaced
  substituted-same [] f = refl
  substituted-same (s ∷ ss) f =
      cc (tried (is_variable db s) (f s (Memᴰ.head refl)), substituted-same ss (λ v m. f v (Memᴰ.tail m)))
    where
      tried : (t : Bool) → (t ≡ true → σ s ≡ τ s) → replaced t (σ s) s ≡ replaced t (τ s) s
      tried true e = ap (λ (im : List ℕ). replaced true im s) (e refl)
      tried false e = refl

  pub statement-same : (s : ℕ) → ((v : ℕ) → v ∈ (statement_of db s).symbols → is_variable db v ≡ true → σ v ≡ τ v)
      → under (is_variable db) σ (expression_of db s) ≡ under (is_variable db) τ (expression_of db s)
  unfolding under expression_of expression
  statement-same s f = same-expression refl (substituted-same (drop 1 (statement_of db s).symbols) (λ v m. f v (member-drop _ m)))

module _ (db : Database) (τ : Substitution) where
  -- each entry is its hypothesis under the substitution
  pub data Matched : List ℕ → List Proved → Type 0 where
    none : Matched [] []
    also : {h : ℕ} {x : Proved} {hs : List ℕ} {xs : List Proved} → x.expression ≡ under (is_variable db) τ (expression_of db h) → Matched hs xs
        → Matched (h ∷ hs) (x ∷ xs)

  pub matched-of : (hs : List ℕ) (xs : List Proved)
      → map (λ (x : Proved). x.expression) xs ≡ map (under (is_variable db) τ) (map (expression_of db) hs) → Matched hs xs
  matched-of [] [] e = none
  matched-of [] (x ∷ xs) e = let z : ◌≡◌ {A = ℕ} 0 1 = cc in absurd (omega arith)
  matched-of (h ∷ hs) [] e = let z : ◌≡◌ {A = ℕ} 0 1 = cc in absurd (omega arith)
  matched-of (h ∷ hs) (x ∷ xs) e =
      let head : x.expression ≡ under (is_variable db) τ (expression_of db h) = cc in
      also head (matched-of hs xs (cc))

  pub matched-length : {hs : List ℕ} {xs : List Proved} → Matched hs xs → length xs ≡ length hs
  matched-length none = refl
  matched-length (also e m) = ap suc (matched-length m)

  -- the entry of a listed hypothesis
  record EntryOf (h : ℕ) (hs : List ℕ) (xs : List Proved) : Type 0 where
    entry : Proved
    paired : Paired h entry hs xs
    is : entry.expression ≡ under (is_variable db) τ (expression_of db h)

  entry_of : {hs : List ℕ} {xs : List Proved} → Matched hs xs → (h : ℕ) → h ∈ hs → EntryOf h hs xs
  entry_of none h m = absurd (Memᴰ.not-nil m)
  entry_of (also {h = g} {x} {hs} {xs} e ms) h m = found (entry_of ms h) (Memᴰ.cases_cons m)
    where
      found : (h ∈ hs → EntryOf h hs xs) → (h ≡ g) ⊎ (h ∈ hs) → EntryOf h (g ∷ hs) (x ∷ xs)
      found later (inl q) = record { entry = x; paired = rw q here; is = rw q e }
      found later (inr n) = let o = later n in record { entry = o.entry; paired = there o.paired; is = o.is }

  module _ (facts : Facts db) (a : ℕ) (before : a < length db.statements) {xs : List Proved} (matched : Matched (statement_of db a).hyps xs) where
    -- the variable of a listed $f stands for the same
    pub float_same : (h : ℕ) → h ∈ (statement_of db a).hyps → is_float (statement_of db h) ≡ true
        → bound db (statement_of db a).hyps xs (floated (statement_of db h)) ≡ τ (floated (statement_of db h))
    float_same h m f =
        let o = entry_of matched h m in
        let l = ((facts.statement a before).hyps_active h m).earlier in
        float-image db a (facts.statement a before) o.paired f
        ∙ (ap (λ (e : Expression). e.symbols) o.is ∙ float-under db τ h (facts.statement h (omega arith)) f)

    pub given-same : {limit v : ℕ} → Given db (statement_of db a).hyps limit v → bound db (statement_of db a).hyps xs v ≡ τ v
    given-same g = rw g.floats.variable at (float_same g.by g.listed (float-yes _ g.floats.kind))

    is-variable : (s v : ℕ) → s < length db.statements → v ∈ (statement_of db s).symbols → is_variable db v ≡ true → Variable db v
    unfolding is_variable
    is-variable s v l m e = record { defined = (facts.statement s l).symbols_defined v m; class = equal-true _ _ e }

    -- so the claim becomes the same, and so does each listed $e
    pub claim-same : 4 ≤ (statement_of db a).kind
        → under (is_variable db) (bound db (statement_of db a).hyps xs) (expression_of db a) ≡ under (is_variable db) τ (expression_of db a)
    claim-same k =
        statement-same db _ τ a (λ v m e. given-same ((facts.statement a before).claim_given k v m (is-variable a v before m e)))

    pub essential-same : (h : ℕ) → h ∈ (statement_of db a).hyps → is_float (statement_of db h) ≡ false
        → under (is_variable db) (bound db (statement_of db a).hyps xs) (expression_of db h) ≡ under (is_variable db) τ (expression_of db h)
    essential-same h m f =
        let act = (facts.statement a before).hyps_active h m in
        let l = act.earlier in
        statement-same db _ τ h (λ v n e. given-same
        ((facts.statement a before).essential_given h m (kind-of act.kind) v n (is-variable h v (omega arith) n e)))
      where
        kind-of : ((statement_of db h).kind ≡ 2) ⊎ ((statement_of db h).kind ≡ 3) → (statement_of db h).kind ≡ 3
        kind-of (inl k) = absurd (true-not-false (float-yes _ k) f)
        kind-of (inr k) = k

  -- the tests on hypotheses pass
  hyp-passes : {A : Type 0} {P : A → Type 0} {rest : Result A} (σ : Substitution) (h : ℕ) (x : Expression)
      → x ≡ under (is_variable db) τ (expression_of db h)
      → (is_float (statement_of db h) ≡ false → under (is_variable db) σ (expression_of db h) ≡ under (is_variable db) τ (expression_of db h))
      → Comes P rest → Comes P (check_hyp db σ (statement_of db h) x rest)
  unfolding check_hyp under expression_of
  hyp-passes σ h x is agree c =
      unless_not _ (no-of-true (equal-yes (ap (λ (e : Expression). e.typecode) is)))
      (unless_not _ (tried (is_float (statement_of db h)) refl) c)
    where
      symbols : is_float (statement_of db h) ≡ false → x.symbols ≡ substituted (is_variable db) σ (expression (statement_of db h)).symbols
      symbols f = ap (λ (e : Expression). e.symbols) (is ∙ sym (agree f))

      tried : (t : Bool) → is_float (statement_of db h) ≡ t
          → both (no (is_float (statement_of db h))) (no (same x.symbols (substituted (is_variable db) σ (expression (statement_of db h)).symbols))) ≡ false
      tried true f = sym (both_first _ (no-of-true f) refl)
      tried false f = sym (both-second (no-of-false f) (sym (no-of-true (rw (symbols f) (same_self _)))))

  pub hyps-pass : {A : Type 0} {P : A → Type 0} {rest : Result A} (σ : Substitution) (hs : List ℕ) (xs : List Proved) → Matched hs xs
      → ((h : ℕ) → h ∈ hs → is_float (statement_of db h) ≡ false
      → under (is_variable db) σ (expression_of db h) ≡ under (is_variable db) τ (expression_of db h))
      → Comes P rest → Comes P (check_hyps db σ hs xs rest)
  unfolding check_hyps
  hyps-pass σ _ _ none agree c = c
  hyps-pass σ _ _ (also {h} {x} {hs} {xs} e ms) agree c =
      hyp-passes σ h x.expression e (agree h (Memᴰ.head refl)) (hyps-pass σ hs xs ms (λ g m. agree g (Memᴰ.tail m)) c)
